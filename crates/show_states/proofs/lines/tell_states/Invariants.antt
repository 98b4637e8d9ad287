use Rattle.std.proofs.Common.{flat_map}
use Rattle.std.specs.List.{range_with_len}
use Rattle.sml_writer.specs.Tells.{Tells}
use Rattle.smi_journal_entries.specs.Words.{state_of}
use Rattle.show_states.specs.StandingText.{standing_state_line}
use Rattle.show_states.proofs.lines.tell_states.Given as goal

-- what was written is the lines of the objects before
abbrev pub invariant-loop-o : goal.invariant-loop-o
invariant-loop-o g l =
    let d = g.S.Standing.of_domain l.standing in
    let J = g.S.Standing.behind l.standing in
    Tells g.W.Sink.contents g.W.Sink.has_refused l.fn.out l.out
    (flat_map (λ o. standing_state_line d o (state_of d o J)) (range_with_len 0 l.o))
