-- The rows of a domain that begins as an outset says: each object is in a class of its own, which has its name.
use Rattle.std.specs.Prelude.{◌≡◌, ◌<◌, ℕ, List, [], Some, length, slice_get, get_or}
use Rattle.std.specs.Option.{option_map_or}
use Rattle.sml_domain.specs.Domain.{Domain, Object, Class, Group}
use Rattle.sml_domain.specs.Lookups.{name_of_object, class_at}
use Rattle.sml_outset.specs.Outset.{Stand, Outset}
use Rattle.sml_outset.specs.Standing.{class_standing}

-- there is a row for each number below, of which this is so
pub record RowsAre {X : Type 0} (P : ℕ → X → Type 0) (n : ℕ) (rows : List X) : Type 0 where
  pub count : length rows ≡ n
  pub each : (k : ℕ) (r : X) → k < n → P k (get_or rows k r)

-- the name of an object
abbrev pub object_name_at : Domain → ℕ → List ℕ
object_name_at d o = option_map_or name_of_object (slice_get d.objects o) []

-- the object is in the class of its number
abbrev pub IsOwnObject : Domain → ℕ → Object → Type 0
IsOwnObject d o r = r ≡ record { name = object_name_at d o; class = o }

-- a class is that of the object, and begins as the outset says
abbrev pub IsOwnClass : Domain → Outset → ℕ → Class → Type 0
IsOwnClass d x o r = (c : Class) (s : Stand) → class_at d o ≡ Some c →
    r ≡ class_standing (object_name_at d o) c (get_or x.stands o s)

-- a set has the members of the outset
abbrev pub IsPutGroup : Domain → Outset → ℕ → Group → Type 0
IsPutGroup d x set r = (g : Group) → slice_get d.groups set ≡ Some g →
    r ≡ record { name = g.name; members = get_or x.members set []; may = g.may }

-- rows that stand as an outset says
pub record RowsStand (d : Domain) (x : Outset) (objects : List Object) (classes : List Class) (groups : List Group) : Type 0 where
  pub objects_are : RowsAre (IsOwnObject d) (length d.objects) objects
  pub classes_are : RowsAre (IsOwnClass d x) (length d.objects) classes
  pub groups_are : RowsAre (IsPutGroup d x) (length d.groups) groups
