-- The words of a line that stand before its comment, from the last one on.
use Rattle.std.specs.Prelude.{ℕ, ◌==◌, Bool, List, [], ◌∷◌, drop, if◌then◌else◌, length, not}
use Rattle.std.specs.List.{list_all}
use Rattle.sml_text.specs.Bytes.{is_blank}

-- what stands before the first `!`
abbrev pub body_of : List ℕ → List ℕ
body_of [] = []
body_of (c ∷ cs) = if c == 33 then [] else c ∷ body_of cs

-- the comment: from the first `!` on
abbrev pub comment_of : List ℕ → List ℕ
comment_of [] = []
comment_of (c ∷ cs) = if c == 33 then c ∷ cs else comment_of cs

-- without the bytes at the end that pass
abbrev pub ends_off : (ℕ → Bool) → List ℕ → List ℕ
ends_off p [] = []
ends_off p (c ∷ cs) = if list_all p (c ∷ cs) then [] else c ∷ ends_off p cs

-- a byte of a word
abbrev pub in_word : ℕ → Bool
in_word c = not (is_blank c)

-- what stands before the last word
abbrev pub before_end_word : List ℕ → List ℕ
before_end_word text = ends_off in_word (ends_off is_blank text)

-- the last word
abbrev pub end_word : List ℕ → List ℕ
end_word text = drop (length (before_end_word text)) (ends_off is_blank text)
