use Rattle.std.proofs.Common.{List, ℕ}
use Rattle.sml_writer.specs.Tells.{Tells}
use Rattle.show_states.specs.StandingText.{AreParamLines}
use Rattle.show_states.proofs.lines.tell_params.Given as goal

-- what was written is the lines of the objects before
abbrev pub invariant-loop-o : goal.invariant-loop-o
invariant-loop-o g l =
    (lines : List ℕ) × AreParamLines (g.S.Standing.in_format l.standing) (g.S.Standing.of_domain l.standing)
    (g.S.Standing.behind l.standing) l.o lines
    × Tells g.W.Sink.contents g.W.Sink.has_refused l.fn.out l.out lines
