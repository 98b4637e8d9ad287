-- Entries that were replayed.
use Rattle.std.proofs.Common.{◌≡◌, ◌∙◌, ◌<◌, ◌≤◌, ◌+◌, ℕ, List, [], ◌∷◌, ◌++◌, All, length, take, take_all, get_or, sym, ap, subst}
use Rattle.std.proofs.lemmas.List.{flat_map_more, take_more}
use Rattle.std.proofs.lemmas.List.Elements.{All-push}
use Rattle.sml_domain.specs.Domain.{Domain}
use Rattle.smi_journal_entries.specs.declared.entry.Entry.{Entry}
use Rattle.smi_journal_entries.specs.declared.journal.Format.TheVariants.{Two}
use Rattle.smi_journal.specs.EntryText.{line_text}
use Rattle.smi_journal.specs.HasText.{HasTextIn}
use Rattle.smi_journal.specs.JournalText.{header, journal_text, lines_text}
use Rattle.smi_meaning.specs.Legal.{IsLegal}
use Rattle.smi_audit.specs.Audit.{Judges}
use Rattle.smi_audit.specs.Pasts.{IsPastOf}
use Rattle.smi_audit.specs.declared.judgement.Judgement.TheVariants.{Legal}
use Rattle.smi_audit.specs.Views.{PastView}
use Rattle.smirun_logs.specs.Replaying.{EntersLine}

-- a past has legal entries whose lines are those of the given ones
pub record IsReplayed (d : Domain) (entries : List Entry) (p : PastView) : Type 0 where
  pub domain : p.books.domain ≡ d
  pub format : p.format ≡ Two
  pub texts : All (HasTextIn Two d) p.books.journal
  pub lines : lines_text d p.books.journal ≡ lines_text d entries
  pub legal : IsLegal p.format p.books.domain p.books.journal

lines_more : (d : Domain) (xs : List Entry) (i : ℕ) (e : Entry) → i < length xs → e ≡ get_or xs i e
    → lines_text d (take (i + 1) xs) ≡ lines_text d (take i xs) ++ line_text d e
lines_more d xs i e lt is =
    ap (lines_text d) (take_more xs i e lt)
    ∙ sym (flat_map_more (line_text d) [] (take i xs) (get_or xs i e))
    ∙ ap (λ x. lines_text d (take i xs) ++ line_text d x) (sym is)

pub next_replayed : (d : Domain) (xs : List Entry) (i : ℕ) (e : Entry) (p q : PastView) → i < length xs
    → e ≡ get_or xs i e → IsReplayed d (take i xs) p → EntersLine d e p q → IsReplayed d (take (i + 1) xs) q
next_replayed d xs i e p q lt is r h =
    let J = p.books.journal in
    let front = lines_text d (take i xs) in
    record {
      domain = h.domain ∙ r.domain;
      format = h.format ∙ r.format;
      texts = subst (All (HasTextIn Two d)) (sym h.journal) (All-push (HasTextIn Two d) J h.read r.texts h.text);
      lines = ap (lines_text d) h.journal ∙ sym (flat_map_more (line_text d) [] J h.read)
          ∙ ap (λ l. l ++ line_text d h.read) r.lines ∙ ap (λ l. front ++ l) h.line
          ∙ sym (lines_more d xs i e lt is);
      legal = h.legal;
    }

pub all_replayed : (d : Domain) (xs : List Entry) (i : ℕ) (p : PastView) → length xs ≤ i → IsReplayed d (take i xs) p
    → IsReplayed d xs p
all_replayed d xs i p le r = subst (λ l. IsReplayed d l p) (take_all i xs le) r

pub past_of_replayed : (d : Domain) (entries : List Entry) (p : PastView) → IsReplayed d entries p
    → IsPastOf d (journal_text Two d entries) p
past_of_replayed d entries p r = record {
  domain = r.domain;
  texts = subst (λ f. All (HasTextIn f d) p.books.journal) (sym r.format) r.texts;
  whole = sym (ap (λ f. header f ++ lines_text d p.books.journal) r.format ∙ ap (λ l. header Two ++ l) r.lines);
  legal = subst (λ x. IsLegal p.format x p.books.journal) r.domain r.legal;
}

pub judged_legal : (d : Domain) (bytes : List ℕ) (p : PastView) → IsPastOf d bytes p → Judges d bytes Legal
judged_legal d bytes p h = record {
  format = p.format;
  entries = p.books.journal;
  texts = h.texts;
  whole = h.whole;
  judged = h.legal;
}
