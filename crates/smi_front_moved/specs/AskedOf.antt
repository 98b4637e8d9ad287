-- Which objects and names are asked for.
use Rattle.std.specs.Prelude.{ℕ, List, Option, None, Some, is_some, if◌then◌else◌}
use Rattle.std.specs.List.{position}
use Rattle.std.specs.Option.{option_and_then}
use Rattle.sml_tree.specs.Word.{is_name_word, upper}
use Rattle.sml_domain.specs.Domain.{Domain}
use Rattle.sml_domain.specs.Lookups.{object_named}
use Rattle.smi_carried.specs.Carried.{OnceView}
use Rattle.smi_carried.specs.Suits.{is_once_of}
use Rattle.smi_log_front.specs.declared.front.FrontKill.{FrontKill}
use Rattle.smi_front_moved.specs.Moving.{front_killer}

-- the object with the name that a word is, in any case of letters
abbrev pub object_called : Domain → List ℕ → Option ℕ
object_called d word = if is_name_word word then object_named d (upper word) else None

-- an object, if it is killed
abbrev pub if_killed : List FrontKill → ℕ → Option ℕ
if_killed kills o = if is_some (front_killer kills o) then Some o else None

-- the dead object with such a name
abbrev pub dead_called : Domain → List FrontKill → List ℕ → Option ℕ
dead_called d kills word = option_and_then (if_killed kills) (object_called d word)

-- the place of a name
abbrev pub place_of_name : List OnceView → List ℕ → Option ℕ
place_of_name names word = position (is_once_of word) names
