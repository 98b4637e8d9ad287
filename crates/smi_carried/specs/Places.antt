-- How places are read.
use Rattle.std.specs.Prelude.{◌≡◌, ◌<◌, ◌^◌, ℕ, true, List, ◌∷◌, ◌++◌, IfSome, Option, Some, None, codes}
use Rattle.sml_text.specs.Decimal.{decimal_text}
use Rattle.sml_domain.specs.Domain.{Domain}
use Rattle.smi_journal.specs.CallText.{object_name_text, state_name_text}
use Rattle.smi_carried.specs.declared.carried.CarriedPlace.{CarriedPlace}
use Rattle.smi_carried.specs.Suits.{place_suits}

-- the numbers of a place have 64 bits
pub record PlaceIsHeld (p : CarriedPlace) : Type 0 where
  pub state : p.state < 2 ^ 64
  pub version : p.version < 2 ^ 64

-- the name of the object of a place, or `-`
abbrev pub place_object_word : Domain → Option CarriedPlace → List ℕ
place_object_word d None = codes "-"
place_object_word d (Some p) = object_name_text d p.object

-- the name of its state, or `-`
abbrev pub place_state_word : Domain → Option CarriedPlace → List ℕ
place_state_word d None = codes "-"
place_state_word d (Some p) = state_name_text d p.state

-- its version, or 0
abbrev pub place_version : Option CarriedPlace → ℕ
place_version None = 0
place_version (Some p) = p.version

-- these are the words of a place that suits the domain
pub record IsPlaceOf (d : Domain) (one two : List ℕ) (number : ℕ) (place : Option CarriedPlace) : Type 0 where
  pub suits : place_suits d place ≡ true
  pub held : IfSome place PlaceIsHeld
  pub object : one ≡ place_object_word d place
  pub state : two ≡ place_state_word d place
  pub version : number ≡ place_version place

-- the words of a place that suits the domain are in front, a blank after each, and then this comes
pub record PlaceIsRead (d : Domain) (text : List ℕ) (place : Option CarriedPlace) (more : List ℕ) : Type 0 where
  pub suits : place_suits d place ≡ true
  pub held : IfSome place PlaceIsHeld
  pub says : text ≡ place_object_word d place
      ++ 32 ∷ (place_state_word d place ++ 32 ∷ (decimal_text (place_version place) ++ 32 ∷ more))
