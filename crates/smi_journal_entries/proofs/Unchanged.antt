-- Sets of which none was changed.
use Rattle.std.proofs.Common.{◌≡◌, ◌∙◌, Bool, true, false, List, [], ◌∷◌, length, map, refl, sym, ap, arith}
use Rattle.std.specs.Prelude.{◌↔◌, IsTrue, ◌==◌}
use Rattle.std.proofs.lemmas.Bool.{eqb-true, eq-eqb}
use Rattle.sml_domain.specs.Domain.{Group}
use Rattle.smi_journal_entries.specs.Sets.{Sets, as_declared, NoneChanged, MayBeUnchanged}

-- the declared ones are such
pub none_changed : (groups : List Group) → NoneChanged (map as_declared groups)
none_changed [] = tt
none_changed (g ∷ groups) = (refl, none_changed groups)

same_long : (sets others : Sets) → NoneChanged sets → NoneChanged others → length sets ≡ length others → sets ≡ others
same_long [] [] h g e = refl
same_long [] (o ∷ others) h g e = absurd (omega (arith, e))
same_long (s ∷ sets) [] h g e = absurd (omega (arith, e))
same_long (s ∷ sets) (o ∷ others) h g e =
    ap (λ x. x ∷ sets) (h.0 ∙ sym g.0) ∙ ap (λ xs. o ∷ xs) (same_long sets others h.1 g.1 (omega (arith, e)))

is_noted : (b : Bool) (sets : Sets) → MayBeUnchanged b sets → b ≡ true → NoneChanged sets
is_noted true sets h e = h
is_noted false sets h e = absurd (cc e)

-- two lists of them are the same where they are as long
pub same_where_long : (b c : Bool) (sets others : Sets) → MayBeUnchanged b sets → MayBeUnchanged c others → b ≡ true → c ≡ true → (same : Bool) → same ≡ (length sets == length others) → IsTrue same ↔ (sets ≡ others)
same_where_long b c sets others h g be ce same is = (
  λ e. same_long sets others (is_noted b sets h be) (is_noted c others g ce) (eqb-true (length sets) (length others) (sym is ∙ e)),
  λ e. is ∙ eq-eqb (length sets) (length others) (ap length e),
)
