use Rattle.std.proofs.Common.{◌≡◌, length, vec_len, vec_capacity}
use Rattle.smi_mail.specs.Mails.{AreFresh}
use Rattle.smi_mail.proofs.ruled_mail.ruled.Given as goal

abbrev pub invariant-loop-row : goal.invariant-loop-row
invariant-loop-row g l = (l.session ≡ length l.yielded) × (vec_len l.ends ≡ l.session) × (vec_capacity l.ends ≡ vec_capacity l.initial.ends) × AreFresh l.ends.items
