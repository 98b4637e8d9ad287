use Rattle.std.proofs.Common.{◌++◌}
use Rattle.smi_journal_entries.specs.Words.{open_at}
use Rattle.show_states.specs.StandingText.{standing_open_line}
use Rattle.show_states.proofs.Tolds.{open_lines_more}
use Rattle.sml_writer.proofs.Telling.{tells_again, then_tells}
use Rattle.show_states.proofs.opens.tell_opens.Goals as goal

-- what is open at one object more
pub loop-o-preserved : goal.loop-o-preserved
loop-o-preserved g c =
    let s = c.args.standing.now in
    let d = g.S.Standing.of_domain s in
    let J = g.S.Standing.behind s in
    let o = c.loop-o.o in
    let waits = c.in_ok-tell_open_at.ensures.0 in
    let lines = c.loop-o.invariant.0 in (
      lines ++ standing_open_line d o (open_at o J) waits,
      open_lines_more d J o lines waits c.loop-o.invariant.1,
      then_tells c.loop-o.invariant.2
          (tells_again c.in_ok-tell_open_at.ensures.1
          (λ i. standing_open_line d (c.new.ensures i) (open_at (c.new.ensures i) J) waits)),
    )
