-- The entries that were judged, with one more.
use Rattle.std.proofs.Common.{◌≡◌, ◌∙◌, ◌<◌, ◌+◌, ℕ, List, [], ◌∷◌, ◌++◌, length, take, drop, get_or, Some, None, sym, ap, subst, arith, length-take}
use Rattle.std.specs.Prelude.{Option}
use Rattle.std.proofs.lemmas.List.{drop_more, take_more, take-append-drop}
use Rattle.sml_domain.specs.Domain.{Domain}
use Rattle.smi_journal_entries.specs.declared.entry.Entry.{Entry}
use Rattle.smi_journal_entries.specs.declared.journal.Format.{Format}
use Rattle.smi_meaning.specs.Legal.{IsLegalAt, IsLegal}
use Rattle.smi_meaning.proofs.Journals.{legal_more}
use Rattle.smi_audit_rules.specs.declared.rule.Rule.{Rule}
use Rattle.smi_audit_rules.specs.Rules.{Breaks}
use Rattle.smi_audit_rules.specs.Judged.{IsBrokenAt}
use Rattle.smi_audit.specs.declared.judge.Judge.{Judge}
use Rattle.smi_audit.specs.Judges.{AddsLegal, JudgeIsKept, JudgeIsLegal, Judges}
use Rattle.smi_audit.specs.Pasts.{PastGoesOn}
use Rattle.smi_audit.specs.Views.{PastView}

-- the entries before one, the one, and those behind
split_at : (xs : List Entry) (i : ℕ) (e : Entry) → i < length xs → e ≡ get_or xs i e
    → xs ≡ take i xs ++ e ∷ drop (i + 1) xs
split_at xs i e lt is =
    sym (take-append-drop i xs) ∙ ap (λ l. take i xs ++ l)
    (drop_more xs i e lt ∙ ap (λ x. x ∷ drop (i + 1) xs) (sym is))

breaks_as : (j k : Judge) (e : Entry) (x : Option Rule) (r : Rule) → x ≡ Some r → Judges j k e x
    → Breaks j.format j.books.domain j.books.journal e r
breaks_as j k e x r is h = subst (Judges j k e) is h

pub broken_at : (format : Format) (d : Domain) (entries : List Entry) (j k : Judge) (i : ℕ) (e : Entry)
    (x : Option Rule) (r : Rule) → i < length entries → e ≡ get_or entries i e → j.format ≡ format
    → j.books.domain ≡ d → j.books.journal ≡ take i entries
    → IsLegal format d j.books.journal → Judges j k e x → x ≡ Some r → IsBrokenAt format d entries (i + 2) r
broken_at format d entries j k i e x r lt is same domain journal legal h some =
    let long : length (take i entries) ≡ i = omega (arith, length-take i entries) in
    let b : Breaks format d j.books.journal e r =
    subst (λ f. Breaks f d j.books.journal e r) same
    (subst (λ y. Breaks j.format y j.books.journal e r) domain (breaks_as j k e x r some h)) in
    record {
      past = take i entries;
      entry = e;
      rest = drop (i + 1) entries;
      split = split_at entries i e lt is;
      legal = subst (IsLegal format d) journal legal;
      breaks = subst (λ l. Breaks format d l e r) journal b;
      number = ap (λ n. n + 2) (sym long);
    }

-- what is kept from one entry to the next
pub record GoesOn (format : Format) (d : Domain) (entries : List Entry) (k : Judge) (i : ℕ) : Type 0 where
  pub kept : JudgeIsKept k
  pub format_is : k.format ≡ format
  pub domain : k.books.domain ≡ d
  pub journal : k.books.journal ≡ take (i + 1) entries
  pub legal : IsLegal format d k.books.journal

adds_as : (j k : Judge) (e : Entry) (x : Option Rule) → x ≡ None → Judges j k e x → AddsLegal j k e
adds_as j k e x is h = subst (Judges j k e) is h

pub goes_on : (format : Format) (d : Domain) (entries : List Entry) (j k : Judge) (i : ℕ) (e : Entry)
    (x : Option Rule) → i < length entries → e ≡ get_or entries i e → j.format ≡ format → j.books.domain ≡ d
    → j.books.journal ≡ take i entries
    → IsLegal format d j.books.journal → Judges j k e x → x ≡ None → GoesOn format d entries k i
goes_on format d entries j k i e x lt is same domain journal legal h none =
    let a = adds_as j k e x none h in
    let at : IsLegalAt format d j.books.journal e =
    subst (λ f. IsLegalAt f d j.books.journal e) same
    (subst (λ y. IsLegalAt j.format y j.books.journal e) domain a.legal) in
    record {
      kept = a.added.kept;
      format_is = a.added.format ∙ same;
      domain = a.added.domain ∙ domain;
      journal = a.added.journal ∙ ap (λ l. l ++ e ∷ []) journal ∙ ap (λ y. take i entries ++ y ∷ []) is
          ∙ sym (take_more entries i e lt);
      legal = subst (IsLegal format d) (sym a.added.journal) (legal_more format d j.books.journal e legal at);
    }

-- ---- of a past, which is one of a legal journal

legal_behind : (j k : Judge) (e : Entry) → JudgeIsLegal j → AddsLegal j k e
    → IsLegal k.format k.books.domain k.books.journal
legal_behind j k e l a =
    subst (λ f. IsLegal f k.books.domain k.books.journal) (sym a.added.format)
    (subst (λ d. IsLegal j.format d k.books.journal) (sym a.added.domain)
    (subst (IsLegal j.format j.books.domain) (sym a.added.journal)
    (legal_more j.format j.books.domain j.books.journal e l.legal a.legal)))

-- a judge that took an entry is still that of a legal journal
pub entered_legal : (j k : Judge) (e : Entry) (x : Option Rule) → x ≡ None → JudgeIsLegal j → Judges j k e x
    → JudgeIsLegal k
entered_legal j k e x none l h =
    let a = adds_as j k e x none h in
    record { kept = a.added.kept; legal = legal_behind j k e l a }

-- the past of a judge
abbrev pub past_of : Judge → PastView
past_of j = record { format = j.format; books = j.books }

-- its past is that of before with the entry
pub past_entered : (p : PastView) (j k : Judge) (e : Entry) (x : Option Rule) → x ≡ None → past_of j ≡ p
    → JudgeIsLegal j → Judges j k e x → PastGoesOn p (past_of k) e
past_entered p j k e x none is l h =
    let a = adds_as j k e x none h in
    subst (λ q. PastGoesOn q (past_of k) e) is (record {
      legal = a.legal;
      whole = legal_behind j k e l a;
      journal = a.added.journal;
      domain = a.added.domain;
      format = a.added.format;
    })
