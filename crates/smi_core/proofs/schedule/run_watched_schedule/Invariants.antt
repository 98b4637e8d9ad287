use Rattle.smi_core.specs.Output.{LineWrites}
use Rattle.std.proofs.Common.{◌≡◌, ◌-◌, ◌≤◌, List, ℕ, [], length}
use Rattle.std.specs.Io.KnownBytes.{Consumes}
use Rattle.smi_core.specs.Feeds.{Went}
use Rattle.smi_core.specs.declared.schedule.TheConstants.{LONGEST_SCHEDULE}
use Rattle.smi_core.proofs.schedule.run_watched_schedule.Given as goal

abbrev pub invariant-reads : goal.invariant-reads
invariant-reads g l = record {
  most : l.total ≤ LONGEST_SCHEDULE;
  room : length l.buf ≡ 4096;
  so_far : (text : List ℕ) × Consumes (g.R.Input.remaining l.fn.reader) (g.R.Input.remaining l.reader) text × (l.total ≡ length text)
      × Went LineWrites l.fn.core [] text (g.W.Sink.contents l.fn.writer) (g.W.Sink.contents l.writer) l.core l.pending.kept.items l.pending.over;
}

abbrev pub decreases-reads : goal.decreases-reads
decreases-reads g l = LONGEST_SCHEDULE - l.total
