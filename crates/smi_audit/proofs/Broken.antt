-- The first rule that an entry breaks, by the tests that failed and those before them that passed.
use Rattle.std.proofs.Common.{◌≡◌, ◌≢◌, inl, inr, refl, sym, ap, subst, ◌∙◌, ℕ, Bool, true, false, List, Some, None}
use Rattle.std.specs.Prelude.{◌↔◌, Option, All, IsTrue, MatchBool, is_some, length, slice_get}
use Rattle.std.specs.List.{list_all}
use Rattle.sml_domain.specs.declared.value.Value.{Value}
use Rattle.sml_domain.specs.Domain.{Domain}
use Rattle.sml_domain.specs.Lookups.{associated_at, is_state_of}
use Rattle.sml_domain.specs.Truth.{Reading}
use Rattle.smi_journal_entries.specs.declared.entry.Verdict.{Verdict}
use Rattle.smi_journal_entries.specs.declared.entry.Sender.{Sender}
use Rattle.smi_journal_entries.specs.declared.entry.Sender.TheVariants.{Operator, Object}
use Rattle.smi_journal_entries.specs.declared.entry.ActionEnd.{ActionEnd}
use Rattle.smi_journal_entries.specs.declared.entry.ActionEnd.TheVariants.{State}
use Rattle.smi_journal_entries.specs.declared.entry.Cause.{Cause}
use Rattle.smi_journal_entries.specs.declared.entry.Entry.{Entry}
use Rattle.smi_journal_entries.specs.declared.entry.Entry.TheVariants.{Start, Post, Wait, Seen, End, Kill, Insert, Remove, NoMember}
use Rattle.smi_journal_entries.specs.declared.journal.Format.{Format}
use Rattle.smi_journal_entries.specs.declared.journal.Format.TheVariants.{One, Two}
use Rattle.smi_journal_entries.specs.declared.letter.Letter.{Letter}
use Rattle.smi_journal_entries.specs.Fits.{are_arguments}
use Rattle.smi_journal_entries.specs.Requests.{from_sender}
use Rattle.smi_journal_entries.specs.Sets.{sets_after}
use Rattle.smi_journal_entries.specs.Words.{Sent, HadNone, Saw, Turned, starts_at, posts_between, open_at, is_open, is_killed}
use Rattle.smi_meaning.specs.Environment.{ArgumentsAre}
use Rattle.smi_meaning.specs.Legal.{ShowsNext, is_clear_for, WaitsToRead, BlockEnds, InTwo, MayFollow, MayKill}
use Rattle.smi_meaning.specs.Params.{Running, running_at}
use Rattle.smi_audit_rules.specs.declared.rule.Rule.TheVariants as rule
use Rattle.smi_audit_rules.specs.Rules.{TellsTheDead, VerdictHasNumber, ObjectReadsNext, IsStateNow, EndMeans, EndsInState}
use Rattle.smi_meaning.proofs.Tested.{arguments_are_tested}
use Rattle.smi_audit_rules.proofs.Kept.{own_out}
use Rattle.smi_audit.specs.Judges.{BreaksOwn}
use Rattle.smi_audit.specs.Splitting.{is_two}

-- ---- tests

pub differ : (b : Bool) → b ≡ true → b ≡ false → ⊥
differ b h g = absurd (cc)

pub none_open : (l : Option Letter) → is_some l ≡ true → l ≡ None → ⊥
none_open None h g = absurd (cc)
none_open (Some x) h g = absurd (cc)

pub is_none : (l : Option Letter) → is_some l ≡ false → l ≡ None
is_none None h = refl
is_none (Some x) h = absurd (cc)

-- ---- starts

pub start_killed : (format : Format) (d : Domain) (J : List Entry) (o n a : ℕ) (s : Sender) (args : List Value)
    → is_killed o J ≡ true → BreaksOwn format d J (Start o s n a args) rule.Killed
start_killed format d J o n a s args h = inl (refl, differ (is_killed o J) h)

pub start_open : (format : Format) (d : Domain) (J : List Entry) (o n a : ℕ) (s : Sender) (args : List Value)
    → is_killed o J ≡ false → is_open o J ≡ true → BreaksOwn format d J (Start o s n a args) rule.Open
start_open format d J o n a s args k h = inr (k, inl (refl, none_open (open_at o J) h))

pub start_number : (format : Format) (d : Domain) (J : List Entry) (o n a : ℕ) (s : Sender) (args : List Value)
    → is_killed o J ≡ false → is_open o J ≡ false → n ≢ length (from_sender s (starts_at o J))
    → BreaksOwn format d J (Start o s n a args) rule.Number
start_number format d J o n a s args k c h = inr (k, inr (is_none (open_at o J) c, inl (refl, h)))

pub start_not_sent : (format : Format) (d : Domain) (J : List Entry) (o n a b : ℕ) (args : List Value)
    → is_killed o J ≡ false → is_open o J ≡ false → n ≡ length (from_sender (Object b) (starts_at o J))
    → (slice_get (posts_between b o J) n ≡ Some (record { sender = Object b; action = a; args = args }) → ⊥)
    → BreaksOwn format d J (Start o (Object b) n a args) rule.NotSent
start_not_sent format d J o n a b args k c e h = inr (k, inr (is_none (open_at o J) c, inr (e, inl (refl, h))))

pub start_bad : (format : Format) (d : Domain) (J : List Entry) (o n a s : ℕ) (args : List Value)
    → is_killed o J ≡ false → is_open o J ≡ false → n ≡ length (from_sender (Operator s) (starts_at o J))
    → (ArgumentsAre d o a args → ⊥) → BreaksOwn format d J (Start o (Operator s) n a args) rule.BadRequest
start_bad format d J o n a s args k c e h = inr (k, inr (is_none (open_at o J) c, inr (e, inr (tt, inl (refl, h)))))

pub start_sent : (format : Format) (d : Domain) (J : List Entry) (o n a b : ℕ) (args : List Value)
    → is_killed o J ≡ false → is_open o J ≡ false → n ≡ length (from_sender (Object b) (starts_at o J))
    → slice_get (posts_between b o J) n ≡ Some (record { sender = Object b; action = a; args = args })
    → MayFollow format d J (Start o (Object b) n a args)
start_sent format d J o n a b args k c e h =
    record { alive = k; closed = is_none (open_at o J) c; number = e; sent = h }

pub start_good : (format : Format) (d : Domain) (J : List Entry) (o n a s : ℕ) (args : List Value)
    → is_killed o J ≡ false → is_open o J ≡ false → n ≡ length (from_sender (Operator s) (starts_at o J))
    → ArgumentsAre d o a args → MayFollow format d J (Start o (Operator s) n a args)
start_good format d J o n a s args k c e h =
    record { alive = k; closed = is_none (open_at o J) c; number = e; sent = h }

-- ---- posts

pub post_closed : (format : Format) (d : Domain) (J : List Entry) (o t a : ℕ) (v : Verdict) (args : List Value)
    → is_open o J ≡ false → BreaksOwn format d J (Post o t v a args) rule.NotOpen
post_closed format d J o t a v args h = inl (refl, λ k. differ (is_open o J) k h)

pub post_not_meant : (format : Format) (d : Domain) (J : List Entry) (o t a : ℕ) (v : Verdict) (args : List Value)
    → is_open o J ≡ true → (ShowsNext format d J o (Sent (sets_after d J) t v a args) → ⊥)
    → BreaksOwn format d J (Post o t v a args) rule.Meaning
post_not_meant format d J o t a v args k h = inr (k, inl (refl, h))

pub post_not_dead : (format : Format) (d : Domain) (J : List Entry) (o t a : ℕ) (v : Verdict) (args : List Value)
    → is_open o J ≡ true → ShowsNext format d J o (Sent (sets_after d J) t v a args)
    → (TellsTheDead (is_killed t J) v → ⊥) → BreaksOwn format d J (Post o t v a args) rule.Dead
post_not_dead format d J o t a v args k s h = inr (k, inr (s, inl (refl, h)))

pub post_number : (format : Format) (d : Domain) (J : List Entry) (o t a : ℕ) (v : Verdict) (args : List Value)
    → is_open o J ≡ true → ShowsNext format d J o (Sent (sets_after d J) t v a args)
    → TellsTheDead (is_killed t J) v → (VerdictHasNumber (length (posts_between o t J)) v → ⊥)
    → BreaksOwn format d J (Post o t v a args) rule.Number
post_number format d J o t a v args k s e h = inr (k, inr (s, inr (e, inl (refl, h))))

pub post_good : (format : Format) (d : Domain) (J : List Entry) (o t a : ℕ) (v : Verdict) (args : List Value)
    → is_open o J ≡ true → ShowsNext format d J o (Sent (sets_after d J) t v a args)
    → TellsTheDead (is_killed t J) v → VerdictHasNumber (length (posts_between o t J)) v
    → MayFollow format d J (Post o t v a args)
post_good format d J o t a v args k s e h = own_out format d J (Post o t v a args) (k, (s, (e, (h, tt))))

-- ---- reads

pub wait_closed : (format : Format) (d : Domain) (J : List Entry) (o : ℕ) → is_open o J ≡ false
    → BreaksOwn format d J (Wait o) rule.NotOpen
wait_closed format d J o h = inl (refl, λ k. differ (is_open o J) k h)

pub wait_not_meant : (format : Format) (d : Domain) (J : List Entry) (o : ℕ) → is_open o J ≡ true
    → (ObjectReadsNext format d J o → ⊥) → BreaksOwn format d J (Wait o) rule.Meaning
wait_not_meant format d J o k h = inr (k, inl (refl, h))

pub wait_clear : (format : Format) (d : Domain) (J : List Entry) (o : ℕ) → is_open o J ≡ true
    → ObjectReadsNext format d J o → (WaitsToRead format d J o → ⊥) → BreaksOwn format d J (Wait o) rule.Clear
wait_clear format d J o k r h = inr (k, inr (r, inl (refl, h)))

pub seen_closed : (format : Format) (d : Domain) (J : List Entry) (o : ℕ) (rs : List Reading) → is_open o J ≡ false
    → BreaksOwn format d J (Seen o rs) rule.NotOpen
seen_closed format d J o rs h = inl (refl, λ k. differ (is_open o J) k h)

pub seen_not_meant : (format : Format) (d : Domain) (J : List Entry) (o : ℕ) (rs : List Reading)
    → is_open o J ≡ true → (ShowsNext format d J o (Saw (record { sets = sets_after d J; readings = rs })) → ⊥)
    → BreaksOwn format d J (Seen o rs) rule.Meaning
seen_not_meant format d J o rs k h = inr (k, inl (refl, h))

pub seen_busy : (format : Format) (d : Domain) (J : List Entry) (o : ℕ) (rs : List Reading) → is_open o J ≡ true
    → ShowsNext format d J o (Saw (record { sets = sets_after d J; readings = rs }))
    → list_all (is_clear_for J o) rs ≡ false → BreaksOwn format d J (Seen o rs) rule.Busy
seen_busy format d J o rs k s h = inr (k, inr (s, inl (refl, λ e. differ (list_all (is_clear_for J o) rs) e h)))

pub seen_reading : (format : Format) (d : Domain) (J : List Entry) (o : ℕ) (rs : List Reading) → is_open o J ≡ true
    → ShowsNext format d J o (Saw (record { sets = sets_after d J; readings = rs }))
    → list_all (is_clear_for J o) rs ≡ true → (All (IsStateNow d J) rs → ⊥)
    → BreaksOwn format d J (Seen o rs) rule.Reading
seen_reading format d J o rs k s c h = inr (k, inr (s, inr (c, inl (refl, h))))

pub seen_good : (format : Format) (d : Domain) (J : List Entry) (o : ℕ) (rs : List Reading) → is_open o J ≡ true
    → ShowsNext format d J o (Saw (record { sets = sets_after d J; readings = rs }))
    → list_all (is_clear_for J o) rs ≡ true → All (IsStateNow d J) rs → MayFollow format d J (Seen o rs)
seen_good format d J o rs k s c h = own_out format d J (Seen o rs) (k, (s, (c, (h, tt))))

-- ---- ends

pub end_closed : (format : Format) (d : Domain) (J : List Entry) (o : ℕ) (r : ActionEnd) → is_open o J ≡ false
    → BreaksOwn format d J (End o r) rule.NotOpen
end_closed format d J o r h = inl (refl, λ k. differ (is_open o J) k h)

pub end_not_meant : (format : Format) (d : Domain) (J : List Entry) (o : ℕ) (r : ActionEnd) → is_open o J ≡ true
    → (EndMeans format d J o r → ⊥) → BreaksOwn format d J (End o r) rule.Meaning
end_not_meant format d J o r k h = inr (k, inl (refl, h))

pub end_no_state : (format : Format) (d : Domain) (J : List Entry) (o : ℕ) (r : ActionEnd) → is_open o J ≡ true
    → EndMeans format d J o r → (EndsInState d o r → ⊥) → BreaksOwn format d J (End o r) rule.NotAState
end_no_state format d J o r k m h = inr (k, inr (m, inl (refl, h)))

pub end_good : (format : Format) (d : Domain) (J : List Entry) (o : ℕ) (r : ActionEnd) → is_open o J ≡ true
    → EndMeans format d J o r → EndsInState d o r → MayFollow format d J (End o r)
end_good format d J o r k m h = own_out format d J (End o r) (k, (m, (h, tt)))

-- ---- what is meant of ends

pub is_none_run : (r : Option Running) → is_some r ≡ false → r ≡ None
is_none_run None h = refl
is_none_run (Some x) h = absurd (cc)

pub device_means : (format : Format) (d : Domain) (J : List Entry) (o s : ℕ) → associated_at d o ≡ true
    → is_some (running_at format d o J) ≡ true → EndMeans format d J o (State s)
device_means format d J o s is h =
    subst (λ b. MatchBool b (is_some (running_at format d o J) ≡ true) (BlockEnds format d J o s)) (sym is) h

pub device_state : (d : Domain) (o s : ℕ) → associated_at d o ≡ true → is_state_of d o s ≡ true
    → EndsInState d o (State s)
device_state d o s is h = subst (λ b. MatchBool b (is_state_of d o s ≡ true) (Unit {0})) (sym is) h

pub block_state : (d : Domain) (o s : ℕ) → associated_at d o ≡ false → EndsInState d o (State s)
block_state d o s is = subst (λ b. MatchBool b (is_state_of d o s ≡ true) (Unit {0})) (sym is) tt

-- ---- kills

pub kill_killed : (format : Format) (d : Domain) (J : List Entry) (o : ℕ) (c : Cause) → is_killed o J ≡ true
    → BreaksOwn format d J (Kill o c) rule.Killed
kill_killed format d J o c h = inl (refl, differ (is_killed o J) h)

pub kill_closed : (format : Format) (d : Domain) (J : List Entry) (o : ℕ) (c : Cause) → is_killed o J ≡ false
    → (MayKill d J o c → ⊥) → BreaksOwn format d J (Kill o c) rule.NotOpen
kill_closed format d J o c k h = inr (k, inl (refl, h))

pub kill_good : (format : Format) (d : Domain) (J : List Entry) (o : ℕ) (c : Cause) → is_killed o J ≡ false
    → MayKill d J o c → MayFollow format d J (Kill o c)
kill_good format d J o c k h = (k, h)

-- ---- changes of sets, and sets without members

pub not_two : (format : Format) (P : Type 0) → is_two format ≡ false → InTwo format P → ⊥
not_two One P e h = h
not_two Two P e h = absurd (cc)

pub not_in_two : (format : Format) (P : Type 0) → (P → ⊥) → InTwo format P → ⊥
not_in_two One P n h = h
not_in_two Two P n h = n h

pub in_two : (format : Format) (P : Type 0) → is_two format ≡ true → P → InTwo format P
in_two One P e h = absurd (cc)
in_two Two P e h = h

pub insert_not_meant : (format : Format) (d : Domain) (J : List Entry) (o m set : ℕ) → is_open o J ≡ true
    → (InTwo format (ShowsNext format d J o (Turned true m set)) → ⊥)
    → BreaksOwn format d J (Insert o m set) rule.Meaning
insert_not_meant format d J o m set k h = inr (k, inl (refl, h))

pub remove_not_meant : (format : Format) (d : Domain) (J : List Entry) (o m set : ℕ) → is_open o J ≡ true
    → (InTwo format (ShowsNext format d J o (Turned false m set)) → ⊥)
    → BreaksOwn format d J (Remove o m set) rule.Meaning
remove_not_meant format d J o m set k h = inr (k, inl (refl, h))

pub none_not_meant : (format : Format) (d : Domain) (J : List Entry) (o set : ℕ) → is_open o J ≡ true
    → (InTwo format (ShowsNext format d J o (HadNone (sets_after d J) set)) → ⊥)
    → BreaksOwn format d J (NoMember o set) rule.Meaning
none_not_meant format d J o set k h = inr (k, inl (refl, h))

-- ---- what tests say

-- a test of arguments, of what is equal
pub tested : (d d2 : Domain) (o a : ℕ) (args args2 : List Value) (b : Bool) → d2 ≡ d → args2 ≡ args
    → b ≡ are_arguments d2 o a args2 → b ≡ are_arguments d o a args
tested d d2 o a args args2 b p q h = h ∙ ap (λ x. are_arguments x o a args2) p ∙ ap (are_arguments d o a) q

pub passed : (d d2 : Domain) (o a : ℕ) (args args2 : List Value) (b : Bool) → d2 ≡ d → args2 ≡ args
    → b ≡ are_arguments d2 o a args2 → b ≡ true → ArgumentsAre d o a args
passed d d2 o a args args2 b p q h e =
    (arguments_are_tested d o a args).1 (sym (tested d d2 o a args args2 b p q h) ∙ e)

pub failed : (d d2 : Domain) (o a : ℕ) (args args2 : List Value) (b : Bool) → d2 ≡ d → args2 ≡ args
    → b ≡ are_arguments d2 o a args2 → b ≡ false → ArgumentsAre d o a args → ⊥
failed d d2 o a args args2 b p q h e k =
    differ b (tested d d2 o a args args2 b p q h ∙ (arguments_are_tested d o a args).0 k) e

pub holds : (b : Bool) (P : Type 0) → IsTrue b ↔ P → b ≡ true → P
holds b P h e = h.0 e

pub fails : (b : Bool) (P : Type 0) → IsTrue b ↔ P → b ≡ false → P → ⊥
fails b P h e p = differ b (h.1 p) e
