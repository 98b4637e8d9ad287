-- A name's bytes determine its array.
use Rattle.std.proofs.Common.{◌≡◌, ℕ, ◌-◌, List, ◌++◌, length, take, replicate, arith, ap, ◌∙◌, sym, take-append-drop, length-take-le}
use Rattle.sml_tree.specs.Word.{HasName}
use Rattle.sml_text.specs.declared.limits.TheConstants.{LONGEST_NAME}

pub len_is : (bytes : List ℕ) (len : ℕ) → HasName bytes len → length (take len bytes) ≡ len
len_is bytes len h = length-take-le len bytes (omega (arith, h.fits, h.filled))

pub bytes_are : (bytes : List ℕ) (len : ℕ) → HasName bytes len →
    take len bytes ++ replicate (LONGEST_NAME - length (take len bytes)) 0 ≡ bytes
bytes_are bytes len h =
    ap (λ k. take len bytes ++ replicate (LONGEST_NAME - k) 0) (len_is bytes len h)
    ∙ ap (λ xs. take len bytes ++ xs) (sym h.padded)
    ∙ take-append-drop len bytes
