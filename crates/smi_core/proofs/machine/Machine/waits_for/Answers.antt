-- For whom an open action waits is for whom its task waits.
use Rattle.std.proofs.Common.{◌≡◌, ◌<◌, ◌∙◌, Some, None, length, ap, subst, sym}
use Rattle.std.specs.Prelude.{option_map}
use Rattle.std.proofs.lemmas.Result.{IfOk-weaker}
use Rattle.smi_board.specs.Boards.{kept_at, own_at}
use Rattle.smi_board.specs.Turns.{IsOf}
use Rattle.smi_core.specs.Awaiting.{WaitsForAt}
use Rattle.smi_core.specs.Machines.{either_task, setup_of, world_of}
use Rattle.smi_core.proofs.Awaited.{own_task, waits_for_none, waits_for_these}
use Rattle.smi_core.proofs.machine.Machine.waits_for.Goals as goal

pub waits_for-requires-clause-within : goal.waits_for-requires-clause-within
waits_for-requires-clause-within c =
    let m = c.args.self.now in
    let t = c.in-Some.task.now in
    let e : either_task (kept_at m.tasks.items c.args.o) (kept_at m.board.kept c.args.o) ≡ Some t = sym c.task_of.ensures ∙ ap (option_map (λ r. r.now)) c.in-Some.is in
    let is = own_task m.board m.tasks.items c.args.o c.told.ensures c.requires.have c.requires.within t e in
    subst (λ o. o < length m.board.domain.objects) (sym is.object) c.requires.within

pub waits_for-requires-clause-own : goal.waits_for-requires-clause-own
waits_for-requires-clause-own c =
    let m = c.args.self.now in
    let t = c.in-Some.task.now in
    let e : either_task (kept_at m.tasks.items c.args.o) (kept_at m.board.kept c.args.o) ≡ Some t = sym c.task_of.ensures ∙ ap (option_map (λ r. r.now)) c.in-Some.is in
    let is = own_task m.board m.tasks.items c.args.o c.told.ensures c.requires.have c.requires.within t e in
    subst (λ o. IsOf m.board.domain m.board.journal (own_at m.board.params o) o t) (sym is.object) is

pub returns-in-Some : goal.returns-in-Some
returns-in-Some c =
    let m = c.args.self.now in
    let t = c.in-Some.task.now in
    let e : either_task (kept_at m.tasks.items c.args.o) (kept_at m.board.kept c.args.o) ≡ Some t = sym c.task_of.ensures ∙ ap (option_map (λ r. r.now)) c.in-Some.is in
    IfOk-weaker c.waits_for.result _ _ (λ objects h. waits_for_these m.board m.tasks.items c.args.o c.told.ensures c.requires.have c.requires.within t objects.items e h) c.waits_for.ensures

pub returns-in-None : goal.returns-in-None
returns-in-None c =
    let m = c.args.self.now in
    let e : either_task (kept_at m.tasks.items c.args.o) (kept_at m.board.kept c.args.o) ≡ None = sym c.task_of.ensures ∙ ap (option_map (λ r. r.now)) c.in-None.is in
    subst (WaitsForAt (setup_of m.board) (world_of m.board m.tasks.items) c.args.o) (sym c.new.ensures.items) (waits_for_none m.board m.tasks.items c.args.o c.told.ensures c.requires.have c.requires.within e)
