-- Texts that stand in a page: a browser shows them as they are, whatever is in them.
use Rattle.std.specs.Prelude.{ℕ, zero, suc, Bool, true, false, ◌==◌, ◌&&◌, if◌then◌else◌, List, [], ◌∷◌, codes, flat_map}

-- a byte as it stands in a page
abbrev pub escaped_byte : ℕ → List ℕ
escaped_byte b =
    if b == 38 then codes "&amp;" else
    if b == 60 then codes "&lt;" else
    if b == 62 then codes "&gt;" else
    b ∷ []

-- bytes as they stand in a page
abbrev pub escaped : List ℕ → List ℕ
escaped bytes = flat_map escaped_byte bytes

-- whether a text begins with these bytes
abbrev pub begins : List ℕ → List ℕ → Bool
begins [] text = true
begins (c ∷ cs) [] = false
begins (c ∷ cs) (b ∷ bs) = b == c && begins cs bs

-- what a text begins with, as a browser shows it, and how many bytes more than one it takes
pub record Shown : Type 0 where
  pub byte : ℕ
  pub more : ℕ

-- one of the three names, or else the first byte, which stands for itself
abbrev pub first_shown : ℕ → List ℕ → Shown
first_shown b bs =
    if begins (codes "&amp;") (b ∷ bs) then record { byte = 38; more = 4 } else
    if begins (codes "&lt;") (b ∷ bs) then record { byte = 60; more = 3 } else
    if begins (codes "&gt;") (b ∷ bs) then record { byte = 62; more = 3 } else
    record { byte = b; more = 0 }

-- what a browser shows of a text behind the given number of its bytes
abbrev pub shown_behind : ℕ → List ℕ → List ℕ
shown_behind skipped [] = []
shown_behind zero (b ∷ bs) = (first_shown b bs).byte ∷ shown_behind (first_shown b bs).more bs
shown_behind (suc skipped) (b ∷ bs) = shown_behind skipped bs

-- what a browser shows of a text
abbrev pub unescaped : List ℕ → List ℕ
unescaped text = shown_behind 0 text
