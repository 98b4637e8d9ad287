-- An entry may follow a journal exactly if it keeps its rules.
use Rattle.std.proofs.Common.{◌≡◌, ◌∙◌, ap, refl, ℕ, Bool, true, false, List, [], ◌∷◌, Some}
use Rattle.std.specs.Prelude.{Option, None, is_some, All, MatchBool, ◌&&◌}
use Rattle.std.specs.List.{list_all}
use Rattle.std.proofs.lemmas.List.Elements.{All-nil, All-cons, All-head, All-tail}
use Rattle.std.specs.Option.{option_and_then, option_map}
use Rattle.sml_domain.specs.Domain.{Domain}
use Rattle.sml_domain.specs.Program.{Program}
use Rattle.sml_domain.specs.Truth.{Reading}
use Rattle.sml_domain.specs.Lookups.{associated_at, is_state_of, program_at}
use Rattle.smi_journal_entries.specs.declared.entry.Verdict.TheVariants.{Accepted, Full, Dead}
use Rattle.smi_journal_entries.specs.declared.entry.Sender.{Sender}
use Rattle.smi_journal_entries.specs.declared.entry.Sender.TheVariants.{Operator, Object}
use Rattle.smi_journal_entries.specs.declared.entry.ActionEnd.{ActionEnd}
use Rattle.smi_journal_entries.specs.declared.entry.ActionEnd.TheVariants.{State, Skipped}
use Rattle.smi_journal_entries.specs.declared.entry.Entry.{Entry}
use Rattle.smi_journal_entries.specs.declared.entry.Entry.TheVariants.{Start, Post, Wait, Seen, End, Kill, Insert, Remove, NoMember}
use Rattle.smi_journal_entries.specs.declared.letter.Letter.{Letter}
use Rattle.smi_journal_entries.specs.declared.journal.Format.{Format}
use Rattle.smi_journal_entries.specs.declared.journal.Format.TheVariants.{One, Two}
use Rattle.smi_journal_entries.specs.Requests.{Request}
use Rattle.smi_journal_entries.specs.Words.{Item, open_at, is_open, state_of}
use Rattle.smi_meaning.specs.Params.{Running, running_in, running_at, run_with}
use Rattle.smi_meaning.specs.Quiet.{said_of_block}
use Rattle.smi_meaning.proofs.Picked.{in_two}
use Rattle.smi_meaning.specs.Legal.{WasSent, ShowsNext, is_clear_for, IsRead, SkippedAt, DeviceEnds, BlockEnds, MayEnd, MayFollow, IsLegalAt}
use Rattle.smi_audit_rules.specs.Rules.{own_rules, rules_of, IsPosted, IsRequest, IsStateNow, EndMeans, EndsInState, KeepsAll}

-- ---- what runs is open

some_of : (letter : Option Letter) (f : Letter → Option Running) (run : Running) → option_and_then f letter ≡ Some run → is_some letter ≡ true
some_of None f run h = absurd (cc)
some_of (Some l) f run h = refl

-- where something runs at an object an action is open
pub runs_open : (format : Format) (d : Domain) (J : List Entry) (o : ℕ) (run : Running) → running_at format d o J ≡ Some run → is_open o J ≡ true
runs_open format d J o run h = some_of (open_at o J) _ run h

-- where something may be shown next an action is open
pub shows_open : (format : Format) (d : Domain) (J : List Entry) (o : ℕ) (item : Item) → ShowsNext format d J o item → is_open o J ≡ true
shows_open format d J o item h = runs_open format d J o h.run h.runs

-- ---- starts

sent_in : (d : Domain) (J : List Entry) (o n : ℕ) (r : Request) (s : Sender) → WasSent d J o n r s → IsPosted J o n r s × IsRequest d o r s
sent_in d J o n r (Operator k) h = (tt, h)
sent_in d J o n r (Object a) h = (h, tt)

sent_out : (d : Domain) (J : List Entry) (o n : ℕ) (r : Request) (s : Sender) → IsPosted J o n r s → IsRequest d o r s → WasSent d J o n r s
sent_out d J o n r (Operator k) p q = q
sent_out d J o n r (Object a) p q = p

-- ---- reads

clear_in : (d : Domain) (J : List Entry) (o : ℕ) (rs : List Reading) → All (IsRead d J o) rs → (list_all (is_clear_for J o) rs ≡ true) × All (IsStateNow d J) rs
clear_in d J o [] h = (refl, All-nil (IsStateNow d J))
clear_in d J o (r ∷ rs) h =
    let first = All-head (IsRead d J o) r rs h in
    let q = clear_in d J o rs (All-tail (IsRead d J o) r rs h) in
    (ap (λ b. b && list_all (is_clear_for J o) rs) first.0 ∙ q.0, All-cons (IsStateNow d J) r rs first.1 q.1)

both : (a b : Bool) → (a && b) ≡ true → (a ≡ true) × (b ≡ true)
both true b h = (refl, h)
both false b h = absurd (cc)

clear_out : (d : Domain) (J : List Entry) (o : ℕ) (rs : List Reading) → list_all (is_clear_for J o) rs ≡ true → All (IsStateNow d J) rs → All (IsRead d J o) rs
clear_out d J o [] h g = All-nil (IsRead d J o)
clear_out d J o (r ∷ rs) h g =
    let q = both (is_clear_for J o r) (list_all (is_clear_for J o) rs) h in
    All-cons (IsRead d J o) r rs (q.0, All-head (IsStateNow d J) r rs g) (clear_out d J o rs q.1 (All-tail (IsStateNow d J) r rs g))

-- ---- ends

none_runs : (format : Format) (d : Domain) (J : List Entry) (o : ℕ) → SkippedAt d J o → running_at format d o J ≡ None
none_runs format d J o h =
    ap (option_and_then (running_in format d o J)) h.is_open
    ∙ ap (λ p. option_map (run_with h.letter.args) (option_map (said_of_block format d) p)) h.undeclared

no_program : (said : Program → Program) (p : Option Program) (args : _) → option_map (run_with args) (option_map said p) ≡ None → p ≡ None
no_program said None args h = refl
no_program said (Some p) args h = absurd (cc)

skipped_of : (format : Format) (d : Domain) (J : List Entry) (o : ℕ) (opened : Option Letter) → open_at o J ≡ opened → is_some opened ≡ true
    → option_and_then (running_in format d o J) opened ≡ None → SkippedAt d J o
skipped_of format d J o None e h g = absurd (cc)
skipped_of format d J o (Some l) e h g = record { letter = l; is_open = e; undeclared = no_program (said_of_block format d) (program_at d o (state_of d o J) l.action) l.args g }

is_there : (r : Option Running) → is_some r ≡ true → (run : Running) × (r ≡ Some run)
is_there None h = absurd (cc)
is_there (Some run) h = (run, refl)

ends_in : (format : Format) (d : Domain) (J : List Entry) (o s : ℕ) (t : Bool) → MatchBool t (DeviceEnds format d J o s) (BlockEnds format d J o s)
    → (is_open o J ≡ true) × MatchBool t (is_some (running_at format d o J) ≡ true) (BlockEnds format d J o s) × MatchBool t (is_state_of d o s ≡ true) (Unit {0})
ends_in format d J o s true h =
    let q = is_there (running_at format d o J) h.runs in
    (runs_open format d J o q.0 q.1, h.runs, h.state)
ends_in format d J o s false h = (runs_open format d J o h.done.run h.done.runs, h, tt)

ends_out : (format : Format) (d : Domain) (J : List Entry) (o s : ℕ) (t : Bool) → MatchBool t (is_some (running_at format d o J) ≡ true) (BlockEnds format d J o s)
    → MatchBool t (is_state_of d o s ≡ true) (Unit {0}) → MatchBool t (DeviceEnds format d J o s) (BlockEnds format d J o s)
ends_out format d J o s true h g = record { runs = h; state = g }
ends_out format d J o s false h g = h

end_in : (format : Format) (d : Domain) (J : List Entry) (o : ℕ) (r : ActionEnd) → MayEnd format d J o r → (is_open o J ≡ true) × EndMeans format d J o r × EndsInState d o r
end_in format d J o Skipped h = (ap is_some h.is_open, none_runs format d J o h, tt)
end_in format d J o (State s) h = ends_in format d J o s (associated_at d o) h

end_out : (format : Format) (d : Domain) (J : List Entry) (o : ℕ) (r : ActionEnd) → is_open o J ≡ true → EndMeans format d J o r → EndsInState d o r → MayEnd format d J o r
end_out format d J o Skipped h g k = skipped_of format d J o (open_at o J) refl h g
end_out format d J o (State s) h g k = ends_out format d J o s (associated_at d o) g k

-- ---- entries

-- an entry that may follow keeps the rules of its kind
own_in : (format : Format) (d : Domain) (J : List Entry) (e : Entry) → MayFollow format d J e → KeepsAll format d J e (own_rules e)
own_in format d J (Start o s n a args) h =
    let q = sent_in d J o n (record { sender = s; action = a; args = args }) s h.sent in
    (h.alive, (h.closed, (h.number, (q.0, (q.1, tt)))))
own_in format d J (Post o t (Accepted n) a args) h = (shows_open format d J o _ h.0, (h.0, (h.1.0, (h.1.1, tt))))
own_in format d J (Post o t Full a args) h = (shows_open format d J o _ h.0, (h.0, (h.1, (tt, tt))))
own_in format d J (Post o t Dead a args) h = (shows_open format d J o _ h.0, (h.0, (h.1, (tt, tt))))
own_in format d J (Wait o) h = (shows_open format d J o _ h.1, ((h.0, h.1), (h, tt)))
own_in format d J (Seen o rs) h =
    let q = clear_in d J o rs h.1 in
    (shows_open format d J o _ h.0, (h.0, (q.0, (q.1, tt))))
own_in format d J (End o r) h =
    let q = end_in format d J o r h in
    (q.0, (q.1, (q.2, tt)))
own_in format d J (Kill o c) h = (h.0, (h.1, tt))
own_in format d J (Insert o m set) h = (shows_open format d J o _ (in_two format _ h), (h, tt))
own_in format d J (Remove o m set) h = (shows_open format d J o _ (in_two format _ h), (h, tt))
own_in format d J (NoMember o set) h = (shows_open format d J o _ (in_two format _ h), (h, tt))

-- and one that keeps them may follow
pub own_out : (format : Format) (d : Domain) (J : List Entry) (e : Entry) → KeepsAll format d J e (own_rules e) → MayFollow format d J e
own_out format d J (Start o s n a args) h =
    record {
      alive = h.0;
      closed = h.1.0;
      number = h.1.1.0;
      sent = sent_out d J o n (record { sender = s; action = a; args = args }) s h.1.1.1.0 h.1.1.1.1.0;
    }
own_out format d J (Post o t (Accepted n) a args) h = (h.1.0, (h.1.1.0, h.1.1.1.0))
own_out format d J (Post o t Full a args) h = (h.1.0, h.1.1.0)
own_out format d J (Post o t Dead a args) h = (h.1.0, h.1.1.0)
own_out format d J (Wait o) h = h.1.1.0
own_out format d J (Seen o rs) h = (h.1.0, clear_out d J o rs h.1.1.0 h.1.1.1.0)
own_out format d J (End o r) h = end_out format d J o r h.0 h.1.0 h.1.1.0
own_out format d J (Kill o c) h = (h.0, h.1.0)
own_out format d J (Insert o m set) h = h.1.0
own_out format d J (Remove o m set) h = h.1.0
own_out format d J (NoMember o set) h = h.1.0

-- an entry that may follow keeps its rules
pub keeps_in : (format : Format) (d : Domain) (J : List Entry) (e : Entry) → IsLegalAt format d J e → KeepsAll format d J e (rules_of format e)
keeps_in One d J e h = own_in One d J e h.1
keeps_in Two d J e h = (h.0, own_in Two d J e h.1)

-- and one that keeps its rules may follow
pub keeps_out : (format : Format) (d : Domain) (J : List Entry) (e : Entry) → KeepsAll format d J e (rules_of format e) → IsLegalAt format d J e
keeps_out One d J e h = (tt, own_out One d J e h)
keeps_out Two d J e h = (h.0, own_out Two d J e h.1)
