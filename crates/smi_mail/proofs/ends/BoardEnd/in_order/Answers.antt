use Rattle.std.proofs.Common.{subst, ℕ}
use mathlib.Core.List.{IsPrefix}
use Rattle.smi_mail.specs.Letters.{letters_from}
use Rattle.smi_mail.specs.Sides.{BoardSide}
use Rattle.smi_journal_entries.specs.declared.entry.Sender.TheVariants.{Object}
use Rattle.smi_mail.proofs.ends.BoardEnd.in_order.Goals as goal

pub returns : goal.returns
returns c = subst (λ (v : BoardSide). (a : ℕ) → IsPrefix (letters_from (Object a) v.seen.taken) (letters_from (Object a) v.seen.sent)) c.self.view_is c.self.invariant.order
