-- Which types may cross threads, each by those that it holds, from below: an instruction holds conditions in
-- conditions, and no lemma is made for it, nor for what holds it.
use denote.Param.Send.{IsSend, IsSync, sendable}
use denote.RattleType.{RattleType}
use Rattle.std.proofs.Crossing.{crosses}
use Rattle.sml_domain.specs.contracts.instr.Cond as Cond
use Rattle.sml_domain.specs.contracts.instr.Instr as Instr
use Rattle.sml_domain.specs.contracts.domain.Domain as Domain
use Rattle.smi_ledger.specs.contracts.ledger.Ledger as Ledger
use Rattle.smi_interp.specs.contracts.run.Run as Run
use Rattle.smi_interp.specs.contracts.task.Task as Task
use Rattle.smi_mail_plain.specs.declared.mail.Mail as Mail
use Rattle.smi_board.specs.contracts.board.Board as Board
use Rattle.smi_run_shared.specs.contracts.shared.Shared as Shared
use Rattle.std.specs.declared.sync.Wait as Wait
use Rattle.std.specs.declared.clone.Clone as Clone
use Rattle.smi_mail.specs.declared.ruled_mail.MailNames as MailNames
use Rattle.sml_domain.proofs.instr.Cond.TheLaws.TheKnot.{send-Cond, sync-Cond, hole_send-Cond, hole_sync-Cond}
use Rattle.sml_domain.proofs.instr.Argument.TheSendSync as argument
use Rattle.sml_domain.proofs.instr.Operand.TheSendSync as operand
use Rattle.sml_domain.proofs.instr.Target.TheSendSync as target
use Rattle.sml_domain.proofs.names.NumberedNames.TheSendSync as names
use Rattle.sml_domain.proofs.rows.Class.TheSendSync as class
use Rattle.sml_domain.proofs.rows.Group.TheSendSync as group
use Rattle.sml_domain.proofs.rows.Object.TheSendSync as object
use Rattle.smi_journal_entries.proofs.journal.Journal.TheSendSync as journal
use Rattle.smi_ledger.proofs.slot.Slot.TheSendSync as slot
use Rattle.smi_interp.proofs.turn.TurnRecord.TheSendSync as turn
use Rattle.smi_interp.proofs.contact.Contact.TheSendSync as contact
use Rattle.smi_interp.proofs.cursor.Place.TheSendSync as place
use Rattle.smi_mail.proofs.ruled_mail.RuledMail.TheSendSync as ruled
use Rattle.smi_board.proofs.params.Params.TheSendSync as params
use Rattle.smi_board.proofs.ring.Ring.TheSendSync as ring
use Rattle.smi_run_shared.proofs.crew.Crew.TheSendSync as crew
use Rattle.smi_run_runtime.specs.contracts.runtime.Runtime as Runtime
use Rattle.smi_run_runtime.proofs.opening.Config.TheSendSync as config

-- a condition, as a part of what holds it
cond_field_send : IsSend Cond.the_field.row
cond_field_send = search (send-Cond, hole_send-Cond, sendable, crosses) depth 40 fits 20000

cond_field_sync : IsSync Cond.the_field.row
cond_field_sync = search (sync-Cond, hole_sync-Cond, sendable, crosses) depth 40 fits 20000

-- an instruction
instr_send : IsSend Instr.the_row
instr_send = search (operand.the_field_send, argument.the_field_send, target.the_field_send, cond_field_send, sendable, crosses) depth 40 fits 20000

instr_sync : IsSync Instr.the_row
instr_sync = search (operand.the_field_sync, argument.the_field_sync, target.the_field_sync, cond_field_sync, sendable, crosses) depth 40 fits 20000

-- a domain, which threads share
domain_send : IsSend Domain.the_row
domain_send = search (object.the_send, class.the_send, group.the_send, names.the_send, instr_send, sendable, crosses) depth 40 fits 20000

domain_sync : IsSync Domain.the_row
domain_sync = search (object.the_sync, class.the_sync, group.the_sync, names.the_sync, instr_sync, sendable, crosses) depth 40 fits 20000

-- what a board keeps: its ledger, and tasks
ledger_send : IsSend Ledger.the_row
ledger_send = search (domain_send, domain_sync, journal.the_send, slot.the_send, sendable, crosses) depth 40 fits 20000

run_field_send : IsSend Run.the_field.row
run_field_send = search (domain_send, domain_sync, turn.the_field_send, contact.the_field_send, place.the_field_send, sendable, crosses) depth 40 fits 20000

task_send : IsSend Task.the_row
task_send = search (run_field_send, sendable, crosses) depth 40 fits 20000

-- a board, as its mail
board_send : (M : RattleType) (g : Mail.Ghosts M.Denot) → IsSend M → IsSend (Board.the_row M g)
board_send M g s = search (task_send, ledger_send, domain_send, domain_sync, params.the_send, ring.the_send, sendable, crosses) depth 40 fits 20000

module _ (R K : RattleType) (w : Wait.Ghosts R.Denot) (c : Clone.Ghosts R.Denot) (n : MailNames.Ghosts K.Denot) (r : IsSend R) where
  -- what the lock holds
  shared_send : IsSend (Shared.the_row R K w c n)
  shared_send = let m = ruled.the_send R K n r in search (board_send, crew.the_send, sendable, crosses) depth 40 fits 20000

  shared_field_send : IsSend (Shared.the_field R K w c n).row
  shared_field_send = let m = ruled.the_send R K n r in search (board_send, crew.the_send, sendable, crosses) depth 40 fits 20000

  -- what workers and sessions share
  pub runtime_sync : (D : RattleType) → IsSend D → IsSync (Runtime.the_row R K D w c n)
  runtime_sync D d =
      let s = shared_send in
      let f = shared_field_send in
      search (domain_send, domain_sync, config.the_field_sync, sendable, crosses) depth 40 fits 20000
