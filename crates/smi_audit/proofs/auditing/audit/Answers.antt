-- A legal journal has a first line.
use Rattle.std.proofs.Common.{rules}
use Rattle.std.specs.Arc.{arc_value}
use Rattle.smi_journal.specs.JournalText.{lines_text}
use Rattle.smi_audit.specs.Audit.{Judges}
use Rattle.smi_audit.specs.declared.judgement.Judgement.TheVariants.{Legal}
use Rattle.smi_audit.proofs.auditing.audit.Goals as goal

pub returns-then-is_legal-clause-header : goal.returns-then-is_legal-clause-header
returns-then-is_legal-clause-header c none =
    let j : Judges (arc_value c.args.domain) c.args.bytes.now Legal = search rules in
    absurd (none j.format (lines_text (arc_value c.args.domain) j.entries) j.whole)
