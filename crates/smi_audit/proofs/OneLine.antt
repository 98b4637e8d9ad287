-- The lines that were taken, with one more.
use Rattle.std.proofs.Common.{◌≡◌, ◌∙◌, ℕ, List, [], ◌∷◌, ◌++◌, All, sym, ap, subst, append_assoc}
use Rattle.std.proofs.lemmas.List.{flat_map_more}
use Rattle.std.proofs.lemmas.List.Elements.{All-push}
use Rattle.sml_domain.specs.Domain.{Domain}
use Rattle.smi_journal_entries.specs.declared.entry.Entry.{Entry}
use Rattle.smi_journal_entries.specs.declared.journal.Format.{Format}
use Rattle.smi_journal.specs.EntryText.{line_text}
use Rattle.smi_journal.specs.HasText.{HasTextIn}
use Rattle.smi_journal.specs.JournalText.{lines_text}
use Rattle.smi_journal.specs.ReadJournal.{BeginsWith}
use Rattle.smi_meaning.specs.Legal.{IsLegalAt, IsLegal}
use Rattle.smi_meaning.proofs.Journals.{legal_more}
use Rattle.smi_audit.specs.declared.judge.Judge.{Judge}
use Rattle.smi_audit.specs.Judges.{JudgeIsKept}
use Rattle.smi_audit.specs.Lines.{FollowsLine}

-- what is kept from one line to the next
pub record IsBehind (format : Format) (d : Domain) (bytes rest : List ℕ) (k : Judge) : Type 0 where
  pub kept : JudgeIsKept k
  pub format_is : k.format ≡ format
  pub domain : k.books.domain ≡ d
  pub texts : All (HasTextIn format d) k.books.journal
  pub split : bytes ≡ lines_text d k.books.journal ++ rest
  pub legal : IsLegal format d k.books.journal

lines_more : (format : Format) (d : Domain) (es : List Entry) (e : Entry) (bytes rest more : List ℕ)
    → bytes ≡ lines_text d es ++ rest → BeginsWith format d rest e more → bytes ≡ lines_text d (es ++ e ∷ []) ++ more
lines_more format d es e bytes rest more is h =
    is ∙ ap (λ r. lines_text d es ++ r) h.split ∙ sym (append_assoc (lines_text d es) (line_text d e) more)
    ∙ ap (λ l. l ++ more) (flat_map_more (line_text d) [] es e)

pub one_line : (format : Format) (d : Domain) (bytes rest more : List ℕ) (j k : Judge) → j.format ≡ format
    → j.books.domain ≡ d → All (HasTextIn format d) j.books.journal
    → bytes ≡ lines_text d j.books.journal ++ rest → IsLegal format d j.books.journal
    → FollowsLine format d j k rest more → IsBehind format d bytes more k
one_line format d bytes rest more j k same domain texts split legal f =
    let J = j.books.journal in
    let e = f.entry in
    let a = f.adds.added in
    let at : IsLegalAt format d J e =
    subst (λ x. IsLegalAt x d J e) same (subst (λ y. IsLegalAt j.format y J e) domain f.adds.legal) in
    record {
      kept = a.kept;
      format_is = a.format ∙ same;
      domain = a.domain ∙ domain;
      texts = subst (All (HasTextIn format d)) (sym a.journal)
          (All-push (HasTextIn format d) J e texts f.begins.text);
      split = lines_more format d J e bytes rest more split f.begins
          ∙ ap (λ l. lines_text d l ++ more) (sym a.journal);
      legal = subst (IsLegal format d) (sym a.journal) (legal_more format d J e legal at);
    }
