-- Where a byte of a text is, as people count it.
use Rattle.std.specs.Prelude.{◌≡◌, ◌==◌, ◌⊎◌, ◌+◌, ◌≤◌, ◌++◌, ℕ, List, length, count_by, slice_get, Some, codes}
use Rattle.sml_text.specs.Decimal.{decimal_text}
use Rattle.explain_places.specs.declared.place.Position.{Position}

-- a line begins here: at the front of the bytes, or behind a line feed
abbrev pub LineBegins : List ℕ → ℕ → Type 0
LineBegins text at = (at ≡ 0) ⊎ ((i : ℕ) × (at ≡ i + 1) × (slice_get text i ≡ Some 10))

-- there is no line feed from here on
abbrev pub NoLineFeedFrom : ℕ → List ℕ → Type 0
NoLineFeedFrom at text = (i : ℕ) → at ≤ i → slice_get text i ≡ Some 10 → ⊥

-- the place of what is behind these bytes: one line more than they have line feeds, and one column more than
-- there are bytes in their last line
abbrev pub IsPlace : List ℕ → Position → Type 0
IsPlace before p = (p.line ≡ count_by (λ b. b == 10) before + 1)
    × ((at : ℕ) × LineBegins before at × NoLineFeedFrom at before × (at + p.column ≡ length before + 1))

-- a place as it is written: its line and its column
abbrev pub spot_text : Position → List ℕ
spot_text p = decimal_text p.line ++ codes ":" ++ decimal_text p.column

-- what an explanation begins with: the file, and the place in it
abbrev pub place_text : List ℕ → Position → List ℕ
place_text file p = file ++ codes ":" ++ spot_text p ++ codes ": "
