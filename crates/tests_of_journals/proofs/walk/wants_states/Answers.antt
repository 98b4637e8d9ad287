-- There is a state for each object.
use Rattle.std.proofs.Common.{arith, ◌≡◌, ◌∙◌, Some, ap, length, subst, sym}
use Rattle.std.specs.Prelude.{IsSomeAnd}
use Rattle.smi_interp.specs.declared.contact.Contact.TheVariants as named
use Rattle.smi_interp.specs.Expanded.{objects_by_names}
use Rattle.smi_interp.specs.Task.{WantsStates}
use Rattle.std.proofs.lemmas.Bool.{eqb-true}
use Rattle.tests_of_journals.proofs.walk.wants_states.Goals as goal

pub returns-in-Some : goal.returns-in-Some
returns-in-Some c equal =
    let t = c.args.task.now in
    let sets = c.args.members.now in
    let count = c.args.count in
    let names = c.in-Some-Read.names in
    let objects = c.in-Some.objects in
    let pending : t.pending ≡ Some (named.Read names) = sym c.in-Some-Read.ensures.is ∙ ap Some c.in-Some-Read.field-0-is in
    let long : count ≡ length objects.items = omega (arith, c.len.ensures, objects.ok.0, eqb-true c.len.result count equal) in
    let each : count ≡ length (objects_by_names t.domain sets names) = long ∙ ap length (c.in-Some.ensures ∙ ap (λ d. objects_by_names d sets names) c.domain.ensures) in
    subst (λ p. IsSomeAnd p (WantsStates t.domain sets count)) (sym pending) each
