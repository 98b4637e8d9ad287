use Rattle.std.proofs.Common.{◌+◌, flat_map}
use Rattle.std.specs.List.{range_with_len}
use Rattle.sml_writer.specs.Tells.{Tells}
use Rattle.smi_journal_entries.specs.declared.entry.Sender.TheVariants.{Operator}
use Rattle.smirun_run.specs.Summary.{sender_lines}
use Rattle.smirun_run.proofs.summary.tell_sessions.Given as goal

-- what was written is the lines of the sessions before
abbrev pub invariant-loop-place : goal.invariant-loop-place
invariant-loop-place g l =
    Tells g.W.Sink.contents g.W.Sink.has_refused l.fn.out l.out
    (flat_map (λ k. sender_lines g.K.MailNames.names.domain l.report l.group (Operator (k + 1)))
    (range_with_len 0 l.place))
