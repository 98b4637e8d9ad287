-- How the lines of the last requests of names are read.
use Rattle.std.specs.Prelude.{◌≡◌, ◌<◌, ◌≤◌, ◌^◌, ℕ, true, List, ◌++◌, All, IfSome, Option, length}
use Rattle.std.specs.List.{list_all}
use Rattle.sml_domain.specs.Domain.{Domain}
use Rattle.smi_live_once.specs.declared.table.TheConstants.{MOST_NAMES}
use Rattle.smi_carried.specs.declared.carried.CarriedPlace.{CarriedPlace}
use Rattle.smi_carried.specs.Carried.{OnceView}
use Rattle.smi_carried.specs.CarriedText.{carried_names_text, carried_once_line}
use Rattle.smi_carried.specs.Places.{PlaceIsHeld}
use Rattle.smi_carried.specs.Suits.{are_named_once, has_none, once_suits}

-- the numbers of a last request have 64 bits
pub record OnceIsHeld (x : OnceView) : Type 0 where
  pub number : x.number < 2 ^ 64
  pub place : IfSome x.place PlaceIsHeld

-- a last request of these parts
abbrev pub once_of_parts : List ℕ → ℕ → Option CarriedPlace → List ℕ → OnceView
once_of_parts name number place what = record { name = name; number = number; place = place; what = what }

-- the line of a last request that suits the domain is in front, and this comes after it
pub record OnceIsRead (d : Domain) (text : List ℕ) (x : OnceView) (more : List ℕ) : Type 0 where
  pub suits : once_suits d x ≡ true
  pub held : OnceIsHeld x
  pub says : text ≡ carried_once_line d x ++ more

-- no such line is in front
abbrev pub NoOnceIsRead : Domain → List ℕ → Type 0
NoOnceIsRead d text = (x : OnceView) (more : List ℕ) → OnceIsRead d text x more → ⊥

-- the last requests may go along, and their numbers have 64 bits
pub record OncesMayGo (d : Domain) (xs : List OnceView) : Type 0 where
  pub few : length xs ≤ MOST_NAMES
  pub each : list_all (once_suits d) xs ≡ true
  pub once : are_named_once xs ≡ true
  pub held : All OnceIsHeld xs

-- the line of a last request is in front that may go along after others
pub record NextOnceIsRead (d : Domain) (before : List OnceView) (text : List ℕ) (x : OnceView) (more : List ℕ)
    : Type 0 where
  pub few : length before < MOST_NAMES
  pub new : has_none x.name before ≡ true
  pub read : OnceIsRead d text x more

-- no such line is in front
abbrev pub NoNextOnce : Domain → List OnceView → List ℕ → Type 0
NoNextOnce d before text = (x : OnceView) (more : List ℕ) → NextOnceIsRead d before text x more → ⊥

-- after no last requests that may go along and are in front of a text comes less than this
abbrev pub OncesAreMost : Domain → List ℕ → List ℕ → Type 0
OncesAreMost d text rest = (others : List OnceView) (more : List ℕ) → OncesMayGo d others →
    text ≡ carried_names_text d others ++ more → length rest ≤ length more
