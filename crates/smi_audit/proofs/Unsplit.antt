-- Whether an entry splits a send that is begun.
use Rattle.std.proofs.Common.{◌≡◌, ◌∙◌, ◌<◌, ℕ, Bool, true, false, List, [], ◌∷◌, ◌++◌, length, Option, Some, None, refl, sym, subst, inl, inr}
use Rattle.std.specs.Prelude.{◌↔◌, All, IsTrue, MatchBool, not}
use Rattle.std.proofs.lemmas.List.Elements.{All-head, All-tail}
use Rattle.sml_domain.specs.Domain.{Domain}
use Rattle.smi_journal_entries.specs.declared.entry.Entry.{Entry}
use Rattle.smi_journal_entries.specs.declared.journal.Format.{Format}
use Rattle.smi_journal_entries.specs.declared.journal.Format.TheVariants.{One, Two}
use Rattle.smi_meaning.specs.Items.{Post}
use Rattle.smi_meaning.specs.Legal.{IsLegal, IsPostOf, PostIsWithin, KeepsWhole, SplitsNone}
use Rattle.smi_meaning.proofs.Inside.{one_is_within, within_is_last, within_is_one}
use Rattle.smi_meaning.proofs.Journals.{legal_front}
use Rattle.smi_audit_rules.specs.declared.rule.Rule.{Rule}
use Rattle.smi_audit_rules.specs.declared.rule.Rule.TheVariants as rule
use Rattle.smi_audit_rules.specs.Rules.{Breaks}
use Rattle.smi_audit_follower.specs.Following.{FollowerView}
use Rattle.smi_audit.specs.declared.judge.Judge.{Judge}
use Rattle.smi_audit.specs.Judges.{BreaksOwn, IsEntryOf, JudgeIsKept, Judges, JudgesOwn}
use Rattle.smi_ledger.specs.Books.{IsLast}
use Rattle.smi_audit.specs.Splitting.{IsNextPost}
use Rattle.smi_audit.specs.Tracks.{IsFollowing, track_at}

-- ---- whose send may be begun

at_last : (P : Entry → Type 0) (xs : List Entry) (e : Entry) → All P (xs ++ e ∷ []) → P e
at_last P [] e h = All-head P e [] h
at_last P (x ∷ xs) e h = at_last P xs e (All-tail P x (xs ++ e ∷ []) h)

-- the object of the last entry is there
pub last_there : (n : ℕ) (J : List Entry) (o : ℕ) → All (IsEntryOf n) J → IsLast J (Some o) → o < n
last_there n J o there last =
    let all : All (IsEntryOf n) (last.0 ++ last.1 ∷ []) = subst (All (IsEntryOf n)) last.2 there in
    subst (λ x. x < n) (sym last.3) (at_last (IsEntryOf n) last.0 last.1 all)

-- whoever is within a send made the last entry
pub within_last : (d : Domain) (J : List Entry) (o x : ℕ) (p : Post) → IsLegal Two d J → IsLast J (Some o)
    → PostIsWithin d J x p → x ≡ o
within_last d J o x p legal last w =
    let parts = legal_front Two d last.0 (last.1 ∷ []) (subst (IsLegal Two d) last.2 legal) in
    within_is_last d last.0 last.1 x p parts.0 parts.1.0 (subst (λ l. PostIsWithin d l x p) last.2 w) ∙ sym last.3

-- before the first entry nobody is
pub none_within : (d : Domain) (J : List Entry) (x : ℕ) (p : Post) → IsLast J None → PostIsWithin d J x p → ⊥
none_within d J x p last w =
    let v : PostIsWithin d [] x p = subst (λ l. PostIsWithin d l x p) last w in
    let none : None ≡ Some v.run = v.runs in
    absurd (cc none)

-- where the object of the last entry is within none, nobody is
pub last_out : (d : Domain) (J : List Entry) (o : ℕ) (was : Option FollowerView) → IsLegal Two d J
    → IsLast J (Some o) → IsFollowing Two d J o was → IsNextPost was None → (x : ℕ) (p : Post) → PostIsWithin d J x p → ⊥
last_out d J o was legal last follows next x p w =
    next d J o p follows (subst (λ y. PostIsWithin d J y p) (within_last d J o x p legal last w) w)

-- ---- the test

-- where a send is begun, what is not its next post splits it
pub splits : (d : Domain) (J : List Entry) (e : Entry) (o : ℕ) (next : Post) → PostIsWithin d J o next
    → (IsPostOf o next e → ⊥) → SplitsNone d J e → ⊥
splits d J e o next w apart keeps = apart (keeps o next w)

-- and its next post does not
pub goes_on_with : (d : Domain) (J : List Entry) (e : Entry) (o : ℕ) (next : Post) → IsLegal Two d J
    → PostIsWithin d J o next → IsPostOf o next e → SplitsNone d J e
goes_on_with d J e o next legal w is x p v =
    let who : o ≡ x = one_is_within d J o x next p legal w v in
    let what : next ≡ p = within_is_one d J x next p (subst (λ y. PostIsWithin d J y next) who w) v in
    subst (λ y. IsPostOf y p e) who (subst (λ q. IsPostOf o q e) what is)

pub tested : (format : Format) (d : Domain) (J : List Entry) (e : Entry) (o : ℕ) (next : Post) (b : Bool)
    → format ≡ Two → IsLegal format d J → PostIsWithin d J o next → IsTrue b ↔ IsPostOf o next e
    → MatchBool (not b) (KeepsWhole format d J e → ⊥) (KeepsWhole format d J e)
tested One d J e o next b two legal w is = absurd (cc two)
tested Two d J e o next true two legal w is = goes_on_with d J e o next legal w (is.0 refl)
tested Two d J e o next false two legal w is = splits d J e o next w (λ h. let no = is.1 h in absurd (cc no))

pub nobody : (format : Format) (d : Domain) (J : List Entry) (e : Entry) → format ≡ Two
    → ((o : ℕ) (p : Post) → PostIsWithin d J o p → ⊥) → KeepsWhole format d J e
nobody format d J e two none = subst (λ x. KeepsWhole x d J e) (sym two) (λ o p w. absurd (none o p w))

-- what is followed, in the second format
pub followed_in_two : (j : Judge) (o : ℕ) → j.format ≡ Two → o < length j.books.domain.objects → JudgeIsKept j
    → IsFollowing Two j.books.domain j.books.journal o (track_at j.tracks.items o).follower
followed_in_two j o two lt h =
    subst (λ x. IsFollowing x j.books.domain j.books.journal o (track_at j.tracks.items o).follower) two
    (h.tracked.each o lt).follows

-- ---- with the other rules

pub split_breaks : (format : Format) (d : Domain) (J : List Entry) (e : Entry) → (KeepsWhole format d J e → ⊥)
    → Breaks format d J e rule.Split
split_breaks One d J e h = absurd (h tt)
split_breaks Two d J e h = inl (refl, h)

own_breaks : (format : Format) (d : Domain) (J : List Entry) (e : Entry) (r : Rule) → KeepsWhole format d J e
    → BreaksOwn format d J e r → Breaks format d J e r
own_breaks One d J e r whole h = h
own_breaks Two d J e r whole h = inr (whole, h)

pub judges : (old new : Judge) (e : Entry) (r : Option Rule)
    → KeepsWhole old.format old.books.domain old.books.journal e → JudgesOwn old new e r → Judges old new e r
judges old new e None whole h = record { legal = (whole, h.follows); added = h.added }
judges old new e (Some r) whole h = own_breaks old.format old.books.domain old.books.journal e r whole h
