use Rattle.std.proofs.Common.{◌≡◌, ◌+◌, length}
use Rattle.sml_text.specs.Stream.{tokens_from, bad_from}
use Rattle.sml_text.specs.declared.source.Source.TheVariants.{Line}
use Rattle.smi_lines.specs.Line.{arguments_in, lexemes}
use Rattle.smi_lines.proofs.Fronts.{in_front}
use Rattle.smi_lines.proofs.arguments.arguments_in.Given as goal

abbrev pub invariant-more : goal.invariant-more
invariant-more l =
    (arguments_in (lexemes (tokens_from Line l.fn.at l.fn.rest))
    ≡ in_front l.list.items (arguments_in (lexemes (tokens_from Line l.at l.rest))))
    × (l.at + length l.rest ≡ l.fn.at + length l.fn.rest)
    × (bad_from Line l.fn.at l.fn.rest ≡ bad_from Line l.at l.rest)

abbrev pub decreases-more : goal.decreases-more
decreases-more l = length l.rest
