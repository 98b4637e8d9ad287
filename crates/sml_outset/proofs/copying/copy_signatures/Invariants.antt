use Rattle.std.proofs.Common.{◌≡◌, take}
use Rattle.sml_outset.proofs.copying.copy_signatures.Given as goal

abbrev pub invariant-loop-signature : goal.invariant-loop-signature
invariant-loop-signature l = l.made.items ≡ take l.signature-index l.signatures
