-- The text of what is told where a log goes on in another domain.
use Rattle.std.specs.Prelude.{ℕ, List, [], ◌++◌, codes, flat_map, option_map, slice_get, unwrap_or}
use Rattle.std.specs.Option.{option_map_or}
use Rattle.sml_domain.specs.Domain.{Domain, Param}
use Rattle.smi_journal.specs.CallText.{object_name_text, set_name_text, spaced, state_name_text, value_text}
use Rattle.smi_carried.specs.Carried.{OnceView}
use Rattle.smi_front_moved.specs.declared.lines.MovedLine.{MovedLine}
use Rattle.smi_front_moved.specs.declared.lines.MovedLine.TheVariants.{GoneState, GoneParam, GoneMember, GoneKill, NewObject, NewSet, NotMember, Forgot}
use Rattle.smi_front_moved.specs.Moving.{MovingView}
use Rattle.smi_front_moved.specs.MovedLines.{params_in_front}

-- a keyword, and the name of an object
abbrev pub object_told : List ℕ → Domain → ℕ → List ℕ
object_told keyword d o = keyword ++ spaced (object_name_text d o)

-- a keyword, and the name of a set
abbrev pub set_told : List ℕ → Domain → ℕ → List ℕ
set_told keyword d set = keyword ++ spaced (set_name_text d set)

-- a keyword, the name of a set, and that of an object
abbrev pub member_told : List ℕ → Domain → ℕ → ℕ → List ℕ
member_told keyword d set o = set_told keyword d set ++ spaced (object_name_text d o)

-- a parameter with its value
abbrev pub param_words : Param → List ℕ
param_words p = spaced p.name ++ (codes "=" ++ option_map_or value_text p.value [])

-- the parameter at a place of an object of the old domain
abbrev pub param_told : MovingView → ℕ → ℕ → List ℕ
param_told m p i = option_map_or param_words (slice_get (params_in_front m p) i) []

-- the name of a last request
abbrev pub name_of_once : OnceView → List ℕ
name_of_once x = x.name

-- the name at a place, with a blank before it
abbrev pub name_told : MovingView → ℕ → List ℕ
name_told m k = spaced (unwrap_or (option_map name_of_once (slice_get m.front.carried.names k)) [])

-- the words of a line
abbrev pub moved_words : MovingView → MovedLine → List ℕ
moved_words m (GoneState p s) = object_told (codes "gone state") m.old p ++ spaced (state_name_text m.old s)
moved_words m (GoneParam p i) = object_told (codes "gone param") m.old p ++ param_told m p i
moved_words m (GoneMember q p) = member_told (codes "gone member") m.old q p
moved_words m (GoneKill p) = object_told (codes "gone kill") m.old p
moved_words m (NewObject o) = object_told (codes "new") m.new o
moved_words m (NewSet set) = set_told (codes "new") m.new set
moved_words m (NotMember set o) = member_told (codes "not member") m.new set o
moved_words m (Forgot k) = codes "forgot" ++ name_told m k

-- a line
abbrev pub moved_line_text : MovingView → MovedLine → List ℕ
moved_line_text m line = moved_words m line ++ codes "\n"

-- lines
abbrev pub moved_text : MovingView → List MovedLine → List ℕ
moved_text m lines = flat_map (moved_line_text m) lines
