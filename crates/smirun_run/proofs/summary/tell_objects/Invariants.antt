use Rattle.std.proofs.Common.{flat_map}
use Rattle.std.specs.List.{range_with_len}
use Rattle.sml_writer.specs.Tells.{Tells}
use Rattle.smi_journal_entries.specs.declared.entry.Sender.TheVariants.{Object}
use Rattle.smirun_run.specs.Summary.{sender_lines}
use Rattle.smirun_run.proofs.summary.tell_objects.Given as goal

-- what was written is the lines of the objects before
abbrev pub invariant-loop-a : goal.invariant-loop-a
invariant-loop-a g l =
    Tells g.W.Sink.contents g.W.Sink.has_refused l.fn.out l.out
    (flat_map (λ a. sender_lines g.K.MailNames.names.domain l.report l.group (Object a)) (range_with_len 0 l.a))
