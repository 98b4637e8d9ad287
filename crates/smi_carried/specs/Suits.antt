-- What may go along into a log of a domain: counts of all its objects, and the last requests of at most as many names
-- as a manager knows, none of them twice.
use Rattle.std.specs.Prelude.{◌≡◌, ◌≤◌, ◌&&◌, ◌||◌, ℕ, Bool, true, List, [], ◌∷◌, None, Option, Some, codes, drop, length, nat_eq, nat_le, not}
use Rattle.std.specs.Char.{is_ascii_lowercase, is_ascii_uppercase}
use Rattle.std.specs.List.{list_all, list_any, starts_with}
use Rattle.sml_domain.specs.Domain.{Domain}
use Rattle.sml_domain.specs.Lookups.{is_state_of}
use Rattle.smi_live_once.specs.declared.table.TheConstants.{MOST_NAMES}
use Rattle.smi_live_once.specs.Forms.{is_once_name}
use Rattle.smi_live_once.specs.Tables.{same_bytes}
use Rattle.smi_carried.specs.declared.carried.CarriedPlace.{CarriedPlace}
use Rattle.smi_carried.specs.Carried.{CarriedView, OnceView}

-- a letter
abbrev pub is_what_letter : ℕ → Bool
is_what_letter c = is_ascii_uppercase c || is_ascii_lowercase c

-- `refused`, a blank, and a word of letters
abbrev pub is_refusal : List ℕ → Bool
is_refusal what =
    starts_with nat_eq what (codes "refused ") && (nat_le 9 (length what) && list_all is_what_letter (drop 8 what))

-- what may have become of a request that is no more under way
abbrev pub is_what : List ℕ → Bool
is_what what =
    same_bytes what (codes "ended")
    || (same_bytes what (codes "skipped") || (same_bytes what (codes "killed") || is_refusal what))

-- the state is one of the object's, so that the domain has the object
abbrev pub place_suits : Domain → Option CarriedPlace → Bool
place_suits d None = true
place_suits d (Some p) = is_state_of d p.object p.state

-- whether the last request of a name may go along
abbrev pub once_suits : Domain → OnceView → Bool
once_suits d x = is_once_name x.name && (place_suits d x.place && is_what x.what)

-- whether it is that of a name
abbrev pub is_once_of : List ℕ → OnceView → Bool
is_once_of name x = same_bytes x.name name

-- whether none of these is that of a name
abbrev pub has_none : List ℕ → List OnceView → Bool
has_none name xs = not (list_any (is_once_of name) xs)

-- whether no name is there twice
abbrev pub are_named_once : List OnceView → Bool
are_named_once [] = true
are_named_once (x ∷ xs) = has_none x.name xs && are_named_once xs

-- all may go along
pub record CarriedSuits (d : Domain) (c : CarriedView) : Type 0 where
  pub objects : length c.counts ≡ length d.objects
  pub few : length c.names ≤ MOST_NAMES
  pub each : list_all (once_suits d) c.names ≡ true
  pub once : are_named_once c.names ≡ true
