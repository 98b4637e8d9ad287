use Rattle.std.proofs.Common.{◌≡◌, take}
use Rattle.sml_text.specs.Tokens.{digits_value}
use Rattle.sml_text.proofs.front.number.Given as goal

abbrev pub invariant-loop-c : goal.invariant-loop-c
invariant-loop-c l = l.number ≡ digits_value (take l.c-index l.digits)
