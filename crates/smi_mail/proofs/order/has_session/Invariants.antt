use Rattle.std.proofs.Common.{◌≡◌, ◌<◌, ℕ, Some}
use Rattle.std.specs.Prelude.{slice_get}
use Rattle.smi_mail.specs.Mails.{OperatorSide}
use Rattle.smi_mail.proofs.order.has_session.Given as goal

abbrev pub invariant-loop-end : goal.invariant-loop-end
invariant-loop-end g l = (k : ℕ) (e : OperatorSide) → k < l.end-index → slice_get l.ends k ≡ Some e → e.session ≡ l.session → ⊥
