-- The outset of a journal, object by object and set by set.
use Rattle.std.specs.Prelude.{◌≡◌, ◌<◌, ℕ, List, None, Option, Some, length}
use Rattle.sml_domain.specs.declared.value.Value.{Value}
use Rattle.sml_domain.specs.Domain.{Domain, Param}
use Rattle.sml_domain.specs.Lookups.{class_params_at}
use Rattle.smi_journal_entries.specs.declared.entry.Entry.{Entry}
use Rattle.smi_journal_entries.specs.declared.journal.Format.TheVariants.{Two}
use Rattle.smi_journal_entries.specs.Sets.{members_after}
use Rattle.smi_journal_entries.specs.Words.{state_of}
use Rattle.smi_meaning.specs.Params.{ParamsAfter, initial_params}
use Rattle.smi_meaning.specs.Legal.{IsLegal}
use Rattle.smi_journal_joined.specs.Joined.{GoesOn}
use Rattle.smi_outset.specs.After.{with_values}
use Rattle.sml_domain.specs.Sound.{IsSound}
use Rattle.smi_journal_entries.specs.Sets.{AreOf, sets_after}
use Rattle.sml_outset.specs.Outset.{Outset, Stand}
use Rattle.sml_outset.specs.Rows.{RowsAre}
use Rattle.sml_outset.specs.Standing.{StandsAs}
use Rattle.sml_outset.specs.Suits.{Suits}

-- a parameter with a value, if there is one
abbrev pub with_value : Param → Option Value → Param
with_value p None = p
with_value p (Some v) = record { name = p.name; kind = p.kind; value = Some v }

-- an object stands so after a journal
pub record StandsNow (d : Domain) (J : List Entry) (o : ℕ) (s : Stand) : Type 0 where
  pub state : s.state ≡ state_of d o J
  pub own : List Value
  pub after : ParamsAfter Two d o J own
  pub params : s.params ≡ with_values (class_params_at d o) own

-- a set has these members after a journal
abbrev pub HasNow : Domain → List Entry → ℕ → List ℕ → Type 0
HasNow d J set members = members ≡ members_after d set J

-- so do all objects and sets
pub record IsOutsetOf (d : Domain) (J : List Entry) (x : Outset) : Type 0 where
  pub stands : RowsAre (StandsNow d J) (length d.objects) x.stands
  pub members : RowsAre (HasNow d J) (length d.groups) x.members

-- it suits the domain
abbrev pub StandingSuits : Type 0
StandingSuits =
    (d : Domain) (J : List Entry) (x : Outset) → IsSound d → IsLegal Two d J → AreOf d (sets_after d J)
    → IsOutsetOf d J x → Suits d x

-- and a domain that stands so begins where the journal has led, its parameters among it
pub record BeginsThere (d e : Domain) (J : List Entry) : Type 0 where
  pub goes_on : GoesOn d e J
  pub params : (o : ℕ) → o < length d.objects → ParamsAfter Two d o J (initial_params e o)

abbrev pub StandingBeginsThere : Type 0
StandingBeginsThere = (d e : Domain) (J : List Entry) (x : Outset) → IsSound d → IsLegal Two d J
    → IsOutsetOf d J x → StandsAs d x e → BeginsThere d e J
