-- The first is not among the rest, which are there once each.
use Rattle.std.proofs.Common.{◌≡◌, ◌∷◌, Bool, false, List, sym, subst, IsTrue, nat_eq, rules}
use Rattle.std.specs.List.{list_any}
use Rattle.sml_domain.specs.Sound.{EachOnce}
use Rattle.sml_outset.proofs.suiting.+each_once.Goals as goal

pub returns-then-not-contains : goal.returns-then-not-contains
returns-then-not-contains t c =
    let first = c.in-Some.first.now in
    let rest = c.in-Some.rest.now in
    let is : c.args.objects.now ≡ first ∷ rest = search rules in
    let none : list_any (nat_eq first) rest ≡ false = search rules in
    subst (λ xs. (IsTrue c.each_once.result → EachOnce xs) × (EachOnce xs → IsTrue c.each_once.result)) (sym is)
    (λ h. (none, c.each_once.ensures.0 h), λ h. c.each_once.ensures.1 h.1)
