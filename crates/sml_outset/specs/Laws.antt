-- The laws of rows that stand as an outset says.
use Rattle.std.specs.Prelude.{◌≡◌, List, map}
use Rattle.sml_domain.specs.Domain.{Domain, Object, Class, Group}
use Rattle.sml_domain.specs.Lookups.{name_of_object}
use Rattle.sml_domain.specs.Sound.{IsSound}
use Rattle.sml_domain.specs.OtherRows.{with_rows}
use Rattle.sml_outset.specs.Outset.{Outset}
use Rattle.sml_outset.specs.Suits.{Suits}
use Rattle.sml_outset.specs.Standing.{StandsAs}
use Rattle.sml_outset.specs.Rows.{RowsStand}

-- a sound domain with such rows is sound
abbrev pub StandingIsSound : Type 0
StandingIsSound = (d : Domain) (x : Outset) (objects : List Object) (classes : List Class) (groups : List Group) →
    IsSound d → Suits d x → RowsStand d x objects classes groups → IsSound (with_rows d objects classes groups)

-- it begins as the outset says, and is otherwise as before
abbrev pub StandingStands : Type 0
StandingStands = (d : Domain) (x : Outset) (objects : List Object) (classes : List Class) (groups : List Group) →
    IsSound d → Suits d x → RowsStand d x objects classes groups → StandsAs d x (with_rows d objects classes groups)

-- its objects have the same names
abbrev pub SameObjectNames : Type 0
SameObjectNames = (d : Domain) (x : Outset) (objects : List Object) (classes : List Class) (groups : List Group) →
    RowsStand d x objects classes groups → map name_of_object objects ≡ map name_of_object d.objects
