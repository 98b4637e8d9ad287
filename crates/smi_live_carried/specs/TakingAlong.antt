-- What goes along into the next log.
use Rattle.std.specs.Prelude.{◌≡◌, ◌-◌, ◌++◌, ◌∷◌, [], ℕ, Bool, true, false, List, Option, None, Some, codes, get_or, length, map, slice_get}
use Rattle.std.specs.List.{range_with_len}
use Rattle.sml_domain.specs.Domain.{Domain}
use Rattle.smi_carried.specs.declared.carried.CarriedCounts.{CarriedCounts}
use Rattle.smi_carried.specs.declared.carried.CarriedPlace.{CarriedPlace}
use Rattle.smi_carried.specs.Carried.{CarriedView, OnceView}
use Rattle.smi_carried.specs.Suits.{CarriedSuits}
use Rattle.smi_request_fates.specs.declared.counts.Counts.{Counts}
use Rattle.smi_request_fates.specs.declared.fate.Came.{Came}
use Rattle.smi_request_fates.specs.declared.fate.Came.TheVariants.{Accepted, Past, Refused}
use Rattle.smi_request_fates.specs.declared.fate.Fate.TheVariants.{Ended, Killed, Open, Skipped, Waits}
use Rattle.smi_request_fates.specs.declared.fate.Stands.{Stands}
use Rattle.smi_request_fates.specs.Fates.{stood}
use Rattle.smi_request_fates.specs.Kept.{WatchedView}
use Rattle.smi_live_accounts.specs.Accounts.{AccountsView}
use Rattle.smi_live_once.specs.Carrying.{LastNumber, last_number, past_text}
use Rattle.smi_live_once.specs.Tables.{OnceTold}

-- a name, and its last number
abbrev pub last_number_taken : OnceView → LastNumber
last_number_taken x = record { name = x.name; number = x.number }

-- the same names go along, with the same last numbers
abbrev pub TakesNumbers : AccountsView → CarriedView → Type 0
TakesNumbers a c = map last_number_taken c.names ≡ map last_number a.told

-- the kill of an object, which a line of the next log makes again
abbrev pub kill_of : Bool → ℕ
kill_of true = 1
kill_of false = 0

-- what goes along of the counts of an object, which is killed or not: all but its kill
abbrev pub counts_taken : Bool → Option Counts → CarriedCounts
counts_taken killed None = record { started = 0; ended = 0 }
counts_taken killed (Some c) = record { started = c.started; ended = c.ended - kill_of killed }

-- so of an object by its number
abbrev pub counts_taken_at : List Bool → List Counts → ℕ → CarriedCounts
counts_taken_at killed counts o = counts_taken (get_or killed o false) (slice_get counts o)

-- and of this many objects
abbrev pub all_counts_taken : List Bool → List Counts → ℕ → List CarriedCounts
all_counts_taken killed counts n = map (counts_taken_at killed counts) (range_with_len 0 n)

-- what became of a request that is over, in a word: of a refused one what was told of it, and of one that a log before
-- had what stands after `past`
abbrev pub IsWhat : Came → List ℕ → List ℕ → Type 0
IsWhat (Accepted Waits) answer what = ⊥
IsWhat (Accepted Open) answer what = ⊥
IsWhat (Accepted (Ended at)) answer what = what ≡ codes "ended"
IsWhat (Accepted (Skipped at)) answer what = what ≡ codes "skipped"
IsWhat (Accepted (Killed at)) answer what = what ≡ codes "killed"
IsWhat (Refused at) answer what = answer ≡ what ++ 10 ∷ []
IsWhat (Past at) answer what = answer ≡ past_text what

-- how the object of a request stood right after it
abbrev pub stood_after : Came → Option Stands
stood_after (Accepted fate) = stood fate
stood_after (Refused at) = at
stood_after (Past at) = at

-- an object that stood so
abbrev pub place_taken : ℕ → Option Stands → Option CarriedPlace
place_taken o None = None
place_taken o (Some at) = Some (record { object = o; state = at.state; version = at.ended })

-- what goes along of a name: its last number, and what became of that request
pub record IsTaken (t : OnceTold) (w : WatchedView) (x : OnceView) : Type 0 where
  pub name : x.name ≡ t.name
  pub number : x.number ≡ t.number
  pub place : x.place ≡ place_taken w.object (stood_after w.came)
  pub what : IsWhat w.came t.answer x.what

-- so of each name, in their order
abbrev pub AreTaken : List OnceTold → List WatchedView → List OnceView → Type 0
AreTaken [] ws [] = Unit {0}
AreTaken [] ws (x ∷ xs) = ⊥
AreTaken (t ∷ ts) ws [] = ⊥
AreTaken (t ∷ ts) [] (x ∷ xs) = ⊥
AreTaken (t ∷ ts) (w ∷ ws) (x ∷ xs) = IsTaken t w x × AreTaken ts ws xs

-- nothing goes along of the name at a place
abbrev pub IsNotTaken : List OnceTold → List WatchedView → ℕ → Type 0
IsNotTaken ts ws p =
    (t : OnceTold) (w : WatchedView) (x : OnceView) → slice_get ts p ≡ Some t → slice_get ws p ≡ Some w →
    IsTaken t w x → ⊥

-- nothing goes along into a log of the domain, whose objects are killed or not: what would, does not suit it
abbrev pub NothingGoesAlong : Domain → List Bool → AccountsView → Type 0
NothingGoesAlong d killed a =
    (c : CarriedView) → c.counts ≡ all_counts_taken killed a.fates.counts (length d.objects) →
    AreTaken a.told a.fates.watched c.names → CarriedSuits d c → ⊥
