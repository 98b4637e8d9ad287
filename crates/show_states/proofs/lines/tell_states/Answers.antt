use Rattle.smi_journal_entries.specs.Words.{state_of}
use Rattle.show_states.specs.StandingText.{standing_state_line}
use Rattle.show_states.proofs.Tolds.{lines_of_one_more, same_state_line}
use Rattle.sml_writer.proofs.Telling.{tells_again, then_tells}
use Rattle.show_states.proofs.lines.tell_states.Goals as goal

-- the line of one object more
pub loop-o-preserved : goal.loop-o-preserved
loop-o-preserved g c =
    let d = g.S.Standing.of_domain c.args.standing.now in
    let J = g.S.Standing.behind c.args.standing.now in
    tells_again (then_tells c.loop-o.invariant
    (tells_again c.tell_state.ensures
    (same_state_line {d = d} {o = c.loop-o.o} J c.domain-in-loop-o.ensures c.new-o.ensures c.state.ensures)))
    (lines_of_one_more (λ o. standing_state_line d o (state_of d o J)) c.loop-o.o)
