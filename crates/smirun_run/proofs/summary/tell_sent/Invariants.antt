use Rattle.std.proofs.Common.{flat_map}
use Rattle.std.specs.List.{range_with_len}
use Rattle.sml_writer.specs.Tells.{Tells}
use Rattle.smirun_run.specs.Summary.{summed_line}
use Rattle.smirun_run.proofs.summary.tell_sent.Given as goal

-- what was written is the lines of the objects before
abbrev pub invariant-loop-o : goal.invariant-loop-o
invariant-loop-o g l =
    Tells g.W.Sink.contents g.W.Sink.has_refused l.fn.out l.out
    (flat_map (summed_line g.K.MailNames.names.domain l.report l.group l.sender) (range_with_len 0 l.o))
