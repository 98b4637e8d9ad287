use Rattle.std.proofs.Common.{◌≡◌, ◌≤◌, ◌+◌, length}
use Rattle.sml_text.specs.Stream.{reading}
use Rattle.sml_text.proofs.tokens.first_bad.Given as goal

abbrev pub invariant-things : goal.invariant-things
invariant-things l =
    ((reading l.fn.source 0 l.fn.text).bad ≡ (reading l.fn.source l.at l.rest).bad) × (l.at + length l.rest ≤ length l.fn.text)

abbrev pub decreases-things : goal.decreases-things
decreases-things l = length l.rest
