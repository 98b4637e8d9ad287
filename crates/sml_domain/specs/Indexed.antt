-- A domain with the names of its objects, by which they are found.
use Rattle.std.specs.Prelude.{◌≡◌, ℕ, List, map}
use Rattle.sml_domain.specs.Domain.{Domain}
use Rattle.sml_domain.specs.Lookups.{name_of_object}
use Rattle.sml_domain.specs.Sound.{IsSound}

-- a domain is as it should be, and these are the names of its objects in their order
pub record IsIndexed (d : Domain) (listed : List (List ℕ)) : Type 0 where
  pub sound : IsSound d
  pub names : listed ≡ map name_of_object d.objects
