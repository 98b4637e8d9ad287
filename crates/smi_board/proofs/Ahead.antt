-- Those whom the next `if` or `wait` of a task names are there.
use Rattle.std.proofs.Common.{◌<◌, ℕ, Bool, List, length, All, ap, subst, sym}
use Rattle.std.specs.Prelude.{is_some}
use Rattle.std.proofs.lemmas.List.Elements.{All-nil}
use Rattle.sml_domain.specs.declared.value.Value.{Value}
use Rattle.sml_domain.specs.Program.{Subject, Program, Nothing, SetThen, SendThen, SendNoneThen, IfThen, EndIn, TerminateIn, WaitThen, ChangeThen}
use Rattle.sml_domain.specs.Domain.{Class, Domain, Param}
use Rattle.sml_domain.specs.Fits.{ProgramFits}
use Rattle.sml_domain.specs.Sound.{IsObject, IsSound}
use Rattle.smi_journal_entries.specs.Sets.{AreOf, Sets, members_in, sets_after}
use Rattle.smi_journal_entries.specs.declared.entry.Sender.{Sender}
use Rattle.smi_journal_entries.specs.declared.entry.Entry.{Entry}
use Rattle.smi_journal_entries.specs.declared.journal.Format.TheVariants.{Two}
use Rattle.smi_journal_entries.specs.Requests.{Request}
use Rattle.smi_meaning.specs.Conditions.{firsts}
use Rattle.smi_meaning.specs.Legal.{IsLegal}
use Rattle.smi_meaning.proofs.LeftKept.{left_fits}
use Rattle.smi_meaning.proofs.Naming.{named_of}
use Rattle.smi_meaning.proofs.There.{AreThere, objects_named_there, objects_there}
use Rattle.smi_meaning.proofs.ValuesKept.{legal_fits, run_fits}
use Rattle.smi_interp.specs.Ahead.{AreReadNext, names_ahead}
use Rattle.smi_interp.specs.Expanded.{objects_by_names}
use Rattle.smi_interp.specs.Task.{TaskView, body, env_before, env_now}
use Rattle.smi_board.specs.Boards.{IsTied, EachRuns, own_at}
use Rattle.smi_board.specs.Turns.{IsItsTurn, IsOf}
use Rattle.smi_board.proofs.Out.{IsShown, is_shown, run_of}

-- those whom a block that fits names ahead
ahead_there : (d : Domain) (c : Class) (given : List Param) (left : Program) (sets : Sets) → AreThere d (members_in d sets) → ProgramFits d c given left → All (IsObject d) (objects_by_names d sets (names_ahead left))
ahead_there d c given (SetThen p x rest) sets there fits = ahead_there d c given rest sets there fits.1
ahead_there d c given (IfThen f p q rest) sets there fits =
    subst (All (IsObject d)) (ap firsts (sym (named_of (members_in d sets) f))) (objects_there d (members_in d sets) f there fits.0)
ahead_there d c given (WaitThen names rest) sets there fits = objects_named_there d (members_in d sets) names there fits.0
ahead_there d c given (SendThen target a args rest) sets there fits = All-nil (IsObject d)
ahead_there d c given (SendNoneThen set rest) sets there fits = All-nil (IsObject d)
ahead_there d c given (EndIn s) sets there fits = All-nil (IsObject d)
ahead_there d c given (TerminateIn s) sets there fits = All-nil (IsObject d)
ahead_there d c given (ChangeThen add member set rest) sets there fits = All-nil (IsObject d)
ahead_there d c given Nothing sets there fits = All-nil (IsObject d)

-- those whom a task that is shown names ahead
named_ahead : (J : List Entry) (t : TaskView) (names : List Subject) → AreOf t.domain (sets_after t.domain J) → IsSound t.domain → IsLegal Two t.domain J → IsShown J t → AreReadNext t names → All (IsObject t.domain) (objects_by_names t.domain (sets_after t.domain J) names)
named_ahead J t names are sound legal h l =
    let d = t.domain in
    let values = legal_fits Two d J sound legal in
    let run = run_fits Two d J t.turn.object t.turn.start (run_of t) sound values (values.params t.turn.object t.turn.start h.params) h.runs in
    let left = left_fits d run.c run.given (body t) (env_before t) t.turn.moves l.left (env_now t) run.program run.env l.leads in
    subst (λ xs. All (IsObject d) (objects_by_names d (sets_after d J) xs)) (sym l.are) (ahead_there d run.c run.given l.left (sets_after d J) (λ set. (are set).1) left.0)

-- and those of a task that is out, or is kept
pub ahead_at : (d : Domain) (o : ℕ) (t : TaskView) (J : List Entry) (params : List (List Value)) (serves : Sender → Bool) (taken : ℕ → List Request) (sent : Sender → ℕ → List Request) (names : List Subject)
    → AreOf d (sets_after d J) → IsSound d → IsTied d J params serves taken sent → EachRuns d J params → o < length d.objects → IsOf d J (own_at params o) o t → AreReadNext t names → All (IsObject d) (objects_by_names d (sets_after d J) names)
ahead_at d o t J params serves taken sent names are sound tied runs within is l =
    subst (λ x. All (IsObject x) (objects_by_names x (sets_after x J) names)) is.domain (here (subst (λ x. AreOf x (sets_after x J)) (sym is.domain) are) (subst (λ x. IsSound x) (sym is.domain) sound) (subst (λ x. IsTied x J params serves taken sent) (sym is.domain) tied)
    (subst (λ x. EachRuns x J params) (sym is.domain) runs) (subst (λ y. y < length t.domain.objects) (sym is.object) (subst (λ x. o < length x.objects) (sym is.domain) within))
    (subst (λ x. IsItsTurn x J (own_at params t.turn.object) t.turn) (sym is.domain) (subst (λ y. IsItsTurn d J (own_at params y) t.turn) (sym is.object) is.turn)))
  where
    here : AreOf t.domain (sets_after t.domain J) → IsSound t.domain → IsTied t.domain J params serves taken sent → EachRuns t.domain J params → t.turn.object < length t.domain.objects → IsItsTurn t.domain J (own_at params t.turn.object) t.turn → All (IsObject t.domain) (objects_by_names t.domain (sets_after t.domain J) names)
    here are sound tied runs lt turn =
        let o = t.turn.object in
        named_ahead J t names are sound tied.legal (is_shown J (own_at params o) t l.left (tied.own o lt) (runs o (ap is_some turn.opened)) turn l.leads) l
