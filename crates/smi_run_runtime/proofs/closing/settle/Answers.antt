-- What sessions were told is what the report has of them.
use Rattle.std.proofs.Common.{◌≡◌, ◌∙◌, ap, sym, subst, ℕ, List, Some}
use Rattle.smi_run_report.specs.declared.told.Accepted.{Accepted}
use Rattle.smi_run_report.specs.Told.{AreTold, accepted_in}
use Rattle.smi_run_runtime.specs.Sessions.{SessionBook, told_at}
use Rattle.smi_run_runtime.proofs.Places.{accepted_is, told_of}
use Rattle.smi_run_runtime.proofs.closing.settle.Goals as goal

some_same : {A : Type 0} (x y : A) → Some x ≡ Some y → x ≡ y
some_same x y e = cc

pub close-requires-clause-told : goal.close-requires-clause-told
close-requires-clause-told g c = λ _ _.
    let ends = c.split_all-ends.result.0.items in
    let accepted = c.split_all-ends.result.1.items in
    subst (λ (n : ℕ). AreTold n ends accepted) c.requires.sessions (told_of c.args.sessions c.args.closed.items ends accepted c.split_all-ends.ensures)

pub returns-clause-accepted : goal.returns-clause-accepted
returns-clause-accepted g c k o one lt is =
    let seats = c.split_all-ends.ensures in
    ap (λ (a : List (List (List Accepted))). accepted_in a k o) c.close.ensures.accepted
    ∙ accepted_is c.args.sessions c.args.closed.items c.split_all-ends.result.0.items c.split_all-ends.result.1.items seats k o lt
    ∙ ap (λ (s : SessionBook). told_at s o) (some_same _ _ (sym (seats.each k lt).closed ∙ is))
