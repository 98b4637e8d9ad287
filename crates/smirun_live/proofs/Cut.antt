-- A line that is cut off is refused.
use Rattle.std.proofs.Common.{◌≡◌, ◌∙◌, ap, refl, ◌++◌, ◌∷◌, [], ◌&&◌, ◌||◌, ℕ, Bool, true, false, not, List, codes}
use Rattle.std.specs.List.{list_all, starts_with}
use Rattle.std.specs.Prelude.{nat_eq}
use Rattle.smi_live_once.specs.Forms.{is_outside_byte, is_barred_line}

and_false : (b : Bool) → b && false ≡ false
and_false true = refl
and_false false = refl

or_true : (b : Bool) → b || true ≡ true
or_true true = refl
or_true false = refl

not_outside : (line : List ℕ) → list_all is_outside_byte (line ++ 4 ∷ []) ≡ false
not_outside [] = refl
not_outside (b ∷ bs) = ap (λ r. is_outside_byte b && r) (not_outside bs) ∙ and_false (is_outside_byte b)

-- a line with such a byte at its end may not come from outside
pub cut_is_reserved : (line cut : List ℕ) → cut ≡ line ++ 4 ∷ [] → is_barred_line cut ≡ true
cut_is_reserved line cut e =
    ap is_barred_line e
    ∙ ap (λ b. starts_with nat_eq (line ++ 4 ∷ []) (codes "! smirun live ") || not b) (not_outside line)
    ∙ or_true (starts_with nat_eq (line ++ 4 ∷ []) (codes "! smirun live "))
