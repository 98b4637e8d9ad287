-- The entries before the turn's are legal, and the judge has them.
use Rattle.std.proofs.Common.{◌≡◌, take}
use Rattle.std.specs.Arc.{arc_value}
use Rattle.smi_meaning.specs.Legal.{IsLegal}
use Rattle.smi_audit.specs.Judges.{JudgeIsKept}
use Rattle.smi_audit.proofs.past.Past.of.Given as goal

abbrev pub invariant-loop-i : goal.invariant-loop-i
invariant-loop-i l = record {
  kept : JudgeIsKept l.judge;
  format_is : l.judge.format ≡ l.fn.format;
  domain : l.judge.books.domain ≡ arc_value l.fn.domain;
  journal : l.judge.books.journal ≡ take l.i l.entries;
  legal : IsLegal l.fn.format (arc_value l.fn.domain) l.judge.books.journal;
}
