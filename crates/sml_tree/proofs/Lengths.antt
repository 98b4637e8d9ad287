-- Rows of other lengths are rows of other words.
use Rattle.std.proofs.Common.{◌≡◌, ℕ, ◌==◌, Bool, true, false, List, [], ◌∷◌, length, nat_eq, refl, ap, sym, ◌∙◌, if◌then◌else◌}
use Rattle.std.specs.Cmp.Lexicographic.{pointwise, same_text}
use Rattle.std.proofs.lemmas.Bool.{eq-eqb}
use Rattle.std.proofs.lemmas.List.{length-map}
use Rattle.std.specs.Char.{to_ascii_uppercase}
use Rattle.sml_tree.specs.Piece.{Reserved, kind_in}
use Rattle.sml_tree.specs.Rows.{of_length}
use Rattle.sml_tree.specs.Word.{upper}

-- a row of a word is as long as it
row_long : (w v : List ℕ) → pointwise nat_eq w v ≡ true → (length v == length w) ≡ true
row_long w v h = eq-eqb (length v) (length w) (ap length (sym (same_text w v (sym h))))

kind_of_length : (rows : List Reserved) (w : List ℕ) → kind_in rows w ≡ kind_in (of_length (length w) rows) w
kind_of_length [] w = refl
kind_of_length (row ∷ rows) w =
    go (pointwise nat_eq w row.word) (length row.word == length w) (row_long w row.word) refl (kind_of_length rows w)
  where
    go : (is as_long : Bool) → (is ≡ true → as_long ≡ true) → pointwise nat_eq w row.word ≡ is → kind_in rows w ≡ kind_in (of_length (length w) rows) w
        → (if is then row.kind else kind_in rows w) ≡ kind_in (if as_long then row ∷ of_length (length w) rows else of_length (length w) rows) w
    go true true h e rest = rw e refl
    go true false h e rest = absurd (cc (h refl))
    go false true h e rest = rw e rest
    go false false h e rest = rest

-- the kind of a word, by the rows that are as long
pub upper_of_length : (rows : List Reserved) (w : List ℕ) → kind_in (of_length (length w) rows) (upper w) ≡ kind_in rows (upper w)
upper_of_length rows w =
    ap (λ n. kind_in (of_length n rows) (upper w)) (sym (length-map w to_ascii_uppercase)) ∙ sym (kind_of_length rows (upper w))
