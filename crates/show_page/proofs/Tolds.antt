-- One byte more of an escaped text.
use Rattle.std.proofs.Common.{◌≡◌, ◌∙◌, sym, ap, ℕ, ◌<◌, ◌+◌, List, [], ◌∷◌, ◌++◌, length, get_or, take, append-nil}
use Rattle.std.proofs.lemmas.List.{take_more}
use Rattle.std.proofs.lemmas.List.Concat.{flat_map-append}
use Rattle.show_page.specs.Escapes.{escaped_byte, escaped}

-- one byte more
pub escaped_more : (bytes : List ℕ) (k : ℕ) → k < length bytes
    → escaped (take k bytes) ++ escaped_byte (get_or bytes k 0) ≡ escaped (take (k + 1) bytes)
escaped_more bytes k within =
    let b : ℕ = get_or bytes k 0 in
    ap (λ l. escaped (take k bytes) ++ l) (sym (append-nil (escaped_byte b)))
    ∙ sym (flat_map-append escaped_byte (take k bytes) (b ∷ []))
    ∙ ap escaped (sym (take_more bytes k 0 within))
