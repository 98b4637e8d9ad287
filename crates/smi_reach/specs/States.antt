-- The states in which objects may be.
use Rattle.std.specs.Prelude.{◌≡◌, ◌⊎◌, ℕ, false, List, ◌∷◌, ◌++◌, Some}
use Rattle.std.specs.List.{Contains}
use Rattle.sml_domain.specs.Domain.{Domain, Class, Action, State as Stated}
use Rattle.sml_domain.specs.Lookups.{class_at, tree_of_block}
use Rattle.sml_domain.specs.Truth.{Reading}
use Rattle.smi_journal_entries.specs.declared.entry.ActionEnd.TheVariants.{State}
use Rattle.smi_journal_entries.specs.declared.entry.Entry.{Entry}
use Rattle.smi_journal_entries.specs.declared.entry.Entry.TheVariants.{Seen, End}
use Rattle.smi_journal_entries.specs.declared.journal.Format.{Format}
use Rattle.smi_journal_entries.specs.Words.{is_killed, state_of}
use Rattle.smi_meaning.specs.Legal.{IsLegal}
use Rattle.smi_reach.specs.Falling.{ends_of}

-- the states in which an object of a class may be that is not killed: the initial one, and those in which an action
-- ends that is declared in such a state
pub data MayBeIn : Domain → Class → ℕ → Type 0 where
  begins : (d : Domain) (c : Class) → MayBeIn d c c.initial
  ends : (d : Domain) (c : Class) (x : Stated) (a : Action) (t : ℕ) → Contains c.states x → Contains x.actions a →
      MayBeIn d c x.number → Contains (ends_of (tree_of_block d a.block)) t → MayBeIn d c t

-- after a legal journal an object is in such a state, unless a device does its actions or it is killed
abbrev pub ObjectsAreInThem : Type 0
ObjectsAreInThem = (format : Format) (d : Domain) (J : List Entry) (o : ℕ) (c : Class) → class_at d o ≡ Some c →
    c.associated ≡ false → IsLegal format d J → is_killed o J ≡ false → MayBeIn d c (state_of d o J)

-- each end of an action in a legal journal names such a state
abbrev pub EndsNameThem : Type 0
EndsNameThem = (format : Format) (d : Domain) (front back : List Entry) (o s : ℕ) (c : Class) → class_at d o ≡ Some c →
    c.associated ≡ false → IsLegal format d (front ++ End o (State s) ∷ back) → MayBeIn d c s

-- and each reading of a legal journal names such a state of its object, or the dead one
abbrev pub ReadingsNameThem : Type 0
ReadingsNameThem = (format : Format) (d : Domain) (front back : List Entry) (x : ℕ) (readings : List Reading)
    (r : Reading) (c : Class) → class_at d r.object ≡ Some c → c.associated ≡ false →
    IsLegal format d (front ++ Seen x readings ∷ back) → Contains readings r → MayBeIn d c r.state ⊎ (r.state ≡ c.dead)
