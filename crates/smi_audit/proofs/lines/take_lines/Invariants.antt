-- The lines before the rest are those of legal entries, and the judge has them.
use Rattle.std.proofs.Common.{◌≡◌, ◌++◌, All, length}
use Rattle.smi_journal.specs.HasText.{HasTextIn}
use Rattle.smi_journal.specs.JournalText.{lines_text}
use Rattle.smi_meaning.specs.Legal.{IsLegal}
use Rattle.smi_audit.specs.Judges.{JudgeIsKept}
use Rattle.smi_audit.proofs.lines.take_lines.Given as goal

-- the bytes that are left
abbrev pub decreases-loop-rest : goal.decreases-loop-rest
decreases-loop-rest l = length l.rest

abbrev pub invariant-loop-rest : goal.invariant-loop-rest
invariant-loop-rest l = record {
  kept : JudgeIsKept l.judge;
  format_is : l.judge.format ≡ l.format;
  domain : l.judge.books.domain ≡ l.domain;
  texts : All (HasTextIn l.format l.domain) l.judge.books.journal;
  split : l.bytes ≡ lines_text l.domain l.judge.books.journal ++ l.rest;
  legal : IsLegal l.format l.domain l.judge.books.journal;
}
