-- A journal with a change of a set, or with a send to nobody.
use Rattle.std.proofs.Common.{◌≡◌, ◌<◌, ◌==◌, ℕ, Bool, true, false, cond, List, [], ◌∷◌, ◌++◌, length, Option, refl, sym, ap, ◌∙◌, subst, append-nil}
use Rattle.std.specs.Prelude.{is_some}
use Rattle.std.proofs.lemmas.Bool.{eq-eqb}
use Rattle.sml_domain.specs.declared.value.Value.{Value}
use Rattle.sml_domain.specs.Program.{Program, Nothing, SetThen, SendThen, SendNoneThen, IfThen, EndIn, TerminateIn, WaitThen, ChangeThen, ToMembers}
use Rattle.sml_domain.specs.Domain.{Class, Domain, Param}
use Rattle.sml_domain.specs.Fits.{ProgramFits}
use Rattle.sml_domain.specs.Sound.{IsSound}
use Rattle.smi_journal_entries.specs.declared.entry.Sender.{Sender}
use Rattle.smi_journal_entries.specs.declared.entry.Entry.{Entry}
use Rattle.smi_journal_entries.specs.declared.entry.Entry.TheVariants.{Insert, Remove, NoMember}
use Rattle.smi_journal_entries.specs.declared.journal.Format.TheVariants.{Two}
use Rattle.smi_journal_entries.specs.Requests.{Request}
use Rattle.smi_journal_entries.specs.Sets.{sets_after}
use Rattle.smi_journal_entries.specs.Words.{HadNone, Item, Turned, dead_of, initial_of, object_of, open_at, post_in, shown_of, start_in, state_of, change_entry}
use Rattle.smi_journal_entries.proofs.OneMore.{open_more, shown_more, state_more}
use Rattle.smi_meaning.specs.Environment.{Env}
use Rattle.smi_meaning.specs.Legal.{IsLegalAt, MayFollow, ShowsNext}
use Rattle.smi_meaning.specs.Meaning.{DidChange, DidSend, Move}
use Rattle.smi_meaning.specs.Params.{ParamsAfter, running_at}
use Rattle.smi_meaning.specs.Shown.{items_of, shown_moves}
use Rattle.smi_meaning.specs.Steps.{After}
use Rattle.smi_meaning.proofs.Blocks.{leads_more}
use Rattle.smi_meaning.proofs.Journals.{next_is_legal}
use Rattle.smi_meaning.proofs.LeftKept.{left_fits}
use Rattle.smi_meaning.proofs.Parameters.{params_more}
use Rattle.smi_meaning.proofs.Showing.{shown-append}
use Rattle.smi_meaning.proofs.ValuesKept.{legal_fits, run_fits}
use Rattle.smi_interp.specs.declared.contact.Contact.TheVariants as named
use Rattle.smi_interp.specs.Expanded.{Send}
use Rattle.smi_interp.specs.Cursor.{first_contact}
use Rattle.smi_interp.specs.Task.{HasLeft, LeftAsks, LeftNames, TaskView, body, env_before, env_now}
use Rattle.smi_board.specs.Boards.{EachRuns, IsLed, IsTied, own_at}
use Rattle.smi_board.specs.Turns.{EachKept, IsOut}
use Rattle.smi_board.proofs.Others.{and_one, but_more, but_one, runs_in}
use Rattle.smi_board.proofs.Out.{is_shown, run_of}
use Rattle.smi_board.proofs.Seen.{Has, has_here}
use Rattle.smi_board.proofs.Sent.{either_way, is_sent, sending_now}
use Rattle.smi_board.proofs.Ties.{Keeps, none_of, splits_none, tied_quiet}

-- ---- an entry that shows one thing more of its object, and does nothing else there

record IsNote (d : Domain) (J : List Entry) (o : ℕ) (e : Entry) (item : Item) : Type 0 where
  of : object_of e ≡ o
  runs : running_at Two d o (J ++ e ∷ []) ≡ running_at Two d o J
  shown : shown_of d o (J ++ e ∷ []) ≡ shown_of d o J ++ item ∷ []
  starts : (x : ℕ) → start_in x e ≡ []
  posts : (a x : ℕ) → post_in a x e ≡ []
  params : (x : ℕ) (own : List Value) → ParamsAfter Two d x J own → ParamsAfter Two d x (J ++ e ∷ []) own
  may : ShowsNext Two d J o item → MayFollow Two d J e

-- what is open stays so, in the state that was
runs_on : (d : Domain) (J : List Entry) (o : ℕ) (e : Entry) → open_at o (J ++ e ∷ []) ≡ open_at o J → state_of d o (J ++ e ∷ []) ≡ state_of d o J → running_at Two d o (J ++ e ∷ []) ≡ running_at Two d o J
runs_on d J o e opened state = ap (λ s. runs_in d o s (open_at o (J ++ e ∷ []))) state ∙ ap (runs_in d o (state_of d o J)) opened

is_insert : (d : Domain) (J : List Entry) (o member set : ℕ) → IsNote d J o (Insert o member set) (Turned true member set)
is_insert d J o member set =
    let e = Insert o member set in
    record {
      of = refl;
      runs = runs_on d J o e (open_more o J e ∙ either_way (o == o) (open_at o J)) (state_more o (initial_of d o) (dead_of d o) J e ∙ either_way (o == o) (state_of d o J));
      shown = shown_more d o J e ∙ ap (λ b. cond b (shown_of d o J ++ Turned true member set ∷ []) (shown_of d o J)) (eq-eqb o o refl);
      starts = λ x. none_of (x == o);
      posts = λ a x. none_of (a == o);
      params = λ x own h. params_more Two d x J e own own h refl;
      may = λ h. h;
    }

is_remove : (d : Domain) (J : List Entry) (o member set : ℕ) → IsNote d J o (Remove o member set) (Turned false member set)
is_remove d J o member set =
    let e = Remove o member set in
    record {
      of = refl;
      runs = runs_on d J o e (open_more o J e ∙ either_way (o == o) (open_at o J)) (state_more o (initial_of d o) (dead_of d o) J e ∙ either_way (o == o) (state_of d o J));
      shown = shown_more d o J e ∙ ap (λ b. cond b (shown_of d o J ++ Turned false member set ∷ []) (shown_of d o J)) (eq-eqb o o refl);
      starts = λ x. none_of (x == o);
      posts = λ a x. none_of (a == o);
      params = λ x own h. params_more Two d x J e own own h refl;
      may = λ h. h;
    }

is_change : (d : Domain) (J : List Entry) (o : ℕ) (add : Bool) (member set : ℕ) → IsNote d J o (change_entry o add member set) (Turned add member set)
is_change d J o true member set = is_insert d J o member set
is_change d J o false member set = is_remove d J o member set

is_nobody : (d : Domain) (J : List Entry) (o set : ℕ) → IsNote d J o (NoMember o set) (HadNone (sets_after d J) set)
is_nobody d J o set =
    let e = NoMember o set in
    record {
      of = refl;
      runs = runs_on d J o e (open_more o J e ∙ either_way (o == o) (open_at o J)) (state_more o (initial_of d o) (dead_of d o) J e ∙ either_way (o == o) (state_of d o J));
      shown = shown_more d o J e ∙ ap (λ b. cond b (shown_of d o J ++ HadNone (sets_after d J) set ∷ []) (shown_of d o J)) (eq-eqb o o refl);
      starts = λ x. none_of (x == o);
      posts = λ a x. none_of (a == o);
      params = λ x own h. params_more Two d x J e own own h refl;
      may = λ h. h;
    }

-- a move that such an entry shows leaves journal and mail tied
noted_here : (t : TaskView) (J : List Entry) (params : List (List Value)) (kept : List (Option TaskView)) (serves : Sender → Bool) (taken : ℕ → List Request) (sent : Sender → ℕ → List Request) (e : Entry) (item : Item) (mv : Move) (left left2 : Program)
    → Has t J params kept serves taken sent → HasLeft t left → After t.domain left (env_now t) mv left2 (env_now t) → items_of mv ≡ item ∷ [] → IsNote t.domain J t.turn.object e item
    → Keeps t.domain (J ++ e ∷ []) params kept serves taken sent
noted_here t J params kept serves taken sent e item mv left left2 h leads after items note =
    let d = t.domain in
    let o = t.turn.object in
    let moves = t.turn.moves in
    let shown = is_shown J (own_at params o) t left (h.tied.own o h.within) (h.runs o (ap is_some h.out.turn.opened)) h.out.turn leads in
    let next = next_is_legal Two d J o t.turn.start (run_of t) moves left (env_now t) mv left2 (env_now t) [] item [] shown.params shown.runs leads after items (shown.shown ∙ sym (append-nil (shown_moves moves))) in
    let legal : IsLegalAt Two d J e = (splits_none d J params e h.tied.own h.runs, note.may next) in
    record {
      tied = tied_quiet d J params serves taken sent e h.tied legal note.starts note.posts note.params;
      all = and_one o d (J ++ e ∷ []) params kept (but_more o d J e params kept note.of (but_one o d J params kept h.runs h.tasks h.out.none)) (λ is. subst (λ p. IsLed d (J ++ e ∷ []) p o) h.out.turn.params (record {
        run = run_of t;
        runs = note.runs ∙ shown.runs;
        made = moves ++ mv ∷ [];
        left = left2;
        env = env_now t;
        leads = leads_more d (body t) (env_before t) moves left (env_now t) mv left2 (env_now t) leads after;
        shown = note.shown ∙ ap (λ xs. xs ++ item ∷ []) shown.shown ∙ sym (shown-append moves (mv ∷ []) ∙ ap (λ xs. shown_moves moves ++ xs) (append-nil (items_of mv) ∙ items));
      }));
    }

-- ---- changes of sets

-- what is left behind a change
changes_on : (d : Domain) (left : Program) (env : Env) (add : Bool) (member set : ℕ) → named.Change add member set ≡ first_contact left env → (left2 : Program) × After d left env (DidChange add member set) left2 env
changes_on d (ChangeThen a m s rest) env add member set e = let is : DidChange add member set ≡ DidChange a m s = cc e in (rest, (is, refl, refl))
changes_on d Nothing env add member set e = absurd (cc e)
changes_on d (EndIn s) env add member set e = absurd (cc e)
changes_on d (TerminateIn s) env add member set e = absurd (cc e)
changes_on d (SetThen p x rest) env add member set e = absurd (cc e)
changes_on d (SendThen target a args rest) env add member set e = absurd (cc e)
changes_on d (SendNoneThen s rest) env add member set e = absurd (cc e)
changes_on d (IfThen f p q rest) env add member set e = absurd (cc e)
changes_on d (WaitThen names rest) env add member set e = absurd (cc e)

changed_here : (t : TaskView) (J : List Entry) (params : List (List Value)) (kept : List (Option TaskView)) (serves : Sender → Bool) (taken : ℕ → List Request) (sent : Sender → ℕ → List Request) (add : Bool) (member set : ℕ)
    → Has t J params kept serves taken sent → LeftNames t (named.Change add member set) → Keeps t.domain (J ++ change_entry t.turn.object add member set ∷ []) params kept serves taken sent
changed_here t J params kept serves taken sent add member set h l =
    let next = changes_on t.domain l.left (env_now t) add member set l.asks in
    noted_here t J params kept serves taken sent (change_entry t.turn.object add member set) (Turned add member set) (DidChange add member set) l.left next.0 h l.leads next.1 refl (is_change t.domain J t.turn.object add member set)

pub keeps_changed : (d : Domain) (t : TaskView) (J J2 : List Entry) (params : List (List Value)) (kept : List (Option TaskView)) (serves : Sender → Bool) (taken : ℕ → List Request) (sent : Sender → ℕ → List Request) (add : Bool) (member set : ℕ)
    → t.domain ≡ d → IsTied d J params serves taken sent → EachRuns d J params → EachKept d J params kept → t.turn.object < length d.objects → IsOut d J params kept t.turn → LeftNames t (named.Change add member set)
    → J2 ≡ J ++ change_entry t.turn.object add member set ∷ [] → Keeps d J2 params kept serves taken sent
keeps_changed d t J J2 params kept serves taken sent add member set same tied runs tasks within out l longer =
    subst (λ K. Keeps d K params kept serves taken sent) (sym longer) (subst (λ x. Keeps x (J ++ change_entry t.turn.object add member set ∷ []) params kept serves taken sent) same
    (changed_here t J params kept serves taken sent add member set (has_here d t J params kept serves taken sent same tied runs tasks within out) l))

-- whom a task that is out puts into a set, or takes out, is there
member_in : (d : Domain) (c : Class) (given : List Param) (left : Program) (env : Env) (add : Bool) (member set : ℕ) → ProgramFits d c given left → named.Change add member set ≡ first_contact left env → member < length d.objects
member_in d c given (ChangeThen a m s rest) env add member set fits e = let is : member ≡ m = cc e in subst (λ x. x < length d.objects) (sym is) fits.0.member_is
member_in d c given Nothing env add member set fits e = absurd (cc e)
member_in d c given (EndIn s) env add member set fits e = absurd (cc e)
member_in d c given (TerminateIn s) env add member set fits e = absurd (cc e)
member_in d c given (SetThen p x rest) env add member set fits e = absurd (cc e)
member_in d c given (SendThen target a args rest) env add member set fits e = absurd (cc e)
member_in d c given (SendNoneThen s rest) env add member set fits e = absurd (cc e)
member_in d c given (IfThen f p q rest) env add member set fits e = absurd (cc e)
member_in d c given (WaitThen names rest) env add member set fits e = absurd (cc e)

pub member_there : (d : Domain) (t : TaskView) (J : List Entry) (params : List (List Value)) (kept : List (Option TaskView)) (serves : Sender → Bool) (taken : ℕ → List Request) (sent : Sender → ℕ → List Request) (add : Bool) (member set : ℕ)
    → t.domain ≡ d → IsSound d → IsTied d J params serves taken sent → EachRuns d J params → EachKept d J params kept → t.turn.object < length d.objects → IsOut d J params kept t.turn → LeftNames t (named.Change add member set) → member < length d.objects
member_there d t J params kept serves taken sent add member set same sound tied runs tasks within out l =
    subst (λ x. member < length x.objects) same (here (subst (λ x. IsSound x) (sym same) sound))
  where
    here : IsSound t.domain → member < length t.domain.objects
    here sound =
        let h = has_here d t J params kept serves taken sent same tied runs tasks within out in
        let o = t.turn.object in
        let shown = is_shown J (own_at params o) t l.left (h.tied.own o h.within) (h.runs o (ap is_some h.out.turn.opened)) h.out.turn l.leads in
        let values = legal_fits Two t.domain J sound h.tied.legal in
        let run = run_fits Two t.domain J o t.turn.start (run_of t) sound values (values.params o t.turn.start shown.params) shown.runs in
        let left = left_fits t.domain run.c run.given (body t) (env_before t) t.turn.moves l.left (env_now t) run.program run.env l.leads in
        member_in t.domain run.c run.given l.left (env_now t) add member set left.0 l.asks

-- ---- sends to nobody

nobody_here : (t : TaskView) (J : List Entry) (params : List (List Value)) (kept : List (Option TaskView)) (serves : Sender → Bool) (taken : ℕ → List Request) (sent : Sender → ℕ → List Request) (set : ℕ)
    → Has t J params kept serves taken sent → LeftAsks t (sets_after t.domain J) (Send (ToMembers set) []) → Keeps t.domain (J ++ NoMember t.turn.object set ∷ []) params kept serves taken sent
nobody_here t J params kept serves taken sent set h l =
    let sets = sets_after t.domain J in
    let next = is_sent t.domain sets l.left (env_now t) (ToMembers set) [] [] l.asks refl in
    noted_here t J params kept serves taken sent (NoMember t.turn.object set) (HadNone sets set) (DidSend (sending_now sets (ToMembers set) [] [])) l.left next.0 h l.leads next.1 refl (is_nobody t.domain J t.turn.object set)

pub keeps_nobody : (d : Domain) (t : TaskView) (J J2 : List Entry) (params : List (List Value)) (kept : List (Option TaskView)) (serves : Sender → Bool) (taken : ℕ → List Request) (sent : Sender → ℕ → List Request) (set : ℕ)
    → t.domain ≡ d → IsTied d J params serves taken sent → EachRuns d J params → EachKept d J params kept → t.turn.object < length d.objects → IsOut d J params kept t.turn → LeftAsks t (sets_after t.domain J) (Send (ToMembers set) [])
    → J2 ≡ J ++ NoMember t.turn.object set ∷ [] → Keeps d J2 params kept serves taken sent
keeps_nobody d t J J2 params kept serves taken sent set same tied runs tasks within out l longer =
    subst (λ K. Keeps d K params kept serves taken sent) (sym longer) (subst (λ x. Keeps x (J ++ NoMember t.turn.object set ∷ []) params kept serves taken sent) same
    (nobody_here t J params kept serves taken sent set (has_here d t J params kept serves taken sent same tied runs tasks within out) l))
