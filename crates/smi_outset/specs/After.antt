-- The outset of a journal: how all stands after it, and a domain that begins there.
use Rattle.std.specs.Prelude.{◌≡◌, ◌<◌, ℕ, List, [], ◌∷◌, Some, length, map}
use Rattle.std.specs.List.{range_with_len}
use Rattle.sml_domain.specs.declared.value.Value.{Value}
use Rattle.sml_domain.specs.Domain.{Domain, Param}
use Rattle.sml_domain.specs.Lookups.{class_params_at}
use Rattle.sml_domain.specs.Sound.{IsSound}
use Rattle.smi_journal_entries.specs.declared.entry.Entry.{Entry}
use Rattle.smi_journal_entries.specs.declared.journal.Format.TheVariants.{Two}
use Rattle.smi_journal_entries.specs.Words.{state_of}
use Rattle.smi_journal_entries.specs.Sets.{sets_after, members_after, AreOf}
use Rattle.smi_meaning.specs.Params.{ParamsAfter, initial_params}
use Rattle.smi_meaning.specs.Legal.{IsLegal}
use Rattle.smi_journal_joined.specs.Joined.{GoesOn}
use Rattle.sml_outset.specs.Outset.{Stand, Outset}
use Rattle.sml_outset.specs.Suits.{Suits}
use Rattle.sml_outset.specs.Standing.{StandsAs}

-- parameters with these values
abbrev pub with_values : List Param → List Value → List Param
with_values [] values = []
with_values (p ∷ params) [] = p ∷ params
with_values (p ∷ params) (v ∷ values) =
    record { name = p.name; kind = p.kind; value = Some v } ∷ with_values params values

-- how an object stands after a journal, with these values of the parameters of each object
abbrev pub stand_after : Domain → List Entry → (ℕ → List Value) → ℕ → Stand
stand_after d J own o = record { state = state_of d o J; params = with_values (class_params_at d o) (own o) }

-- the members of a set after a journal
abbrev pub set_after : Domain → List Entry → ℕ → List ℕ
set_after d J set = members_after d set J

-- how all stands after a journal
abbrev pub outset_after : Domain → List Entry → (ℕ → List Value) → Outset
outset_after d J own = record {
  stands = map (stand_after d J own) (range_with_len 0 (length d.objects));
  members = map (set_after d J) (range_with_len 0 (length d.groups));
}

-- these are the values of the parameters of all objects after a journal
abbrev pub AreValuesAfter : Domain → List Entry → (ℕ → List Value) → Type 0
AreValuesAfter d J own = (o : ℕ) → ParamsAfter Two d o J (own o)

-- a domain begins where a journal of another one has led, also with its parameters, which have these values
pub record BeginsAfter (d e : Domain) (J : List Entry) (own : ℕ → List Value) : Type 0 where
  pub goes_on : GoesOn d e J
  pub params : (o : ℕ) → o < length d.objects → initial_params e o ≡ own o

-- the outset of a legal journal of a sound domain suits the domain
abbrev pub OutsetSuits : Type 0
OutsetSuits = (d : Domain) (J : List Entry) (own : ℕ → List Value) → IsSound d → IsLegal Two d J →
    AreOf d (sets_after d J) → AreValuesAfter d J own → Suits d (outset_after d J own)

-- and a domain that stands as it says begins where the journal has led
abbrev pub StandingBegins : Type 0
StandingBegins = (d e : Domain) (J : List Entry) (own : ℕ → List Value) → IsSound d → IsLegal Two d J →
    AreValuesAfter d J own → StandsAs d (outset_after d J own) e → BeginsAfter d e J own
