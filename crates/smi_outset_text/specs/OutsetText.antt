-- The text of an outset.
use Rattle.std.specs.Prelude.{ℕ, suc, List, [], ◌∷◌, ◌++◌, codes, flat_map}
use Rattle.std.specs.Option.{option_map_or}
use Rattle.sml_domain.specs.Domain.{Domain, Param}
use Rattle.smi_journal.specs.CallText.{object_name_text, set_name_text, spaced, state_name_text, value_text}
use Rattle.sml_outset.specs.Outset.{Outset, Stand}

-- a keyword, and then the name of an object
abbrev pub keyed_object : List ℕ → Domain → ℕ → List ℕ
keyed_object keyword d o = keyword ++ spaced (object_name_text d o)

-- the line of the state that an object is in
abbrev pub outset_state_line : Domain → ℕ → ℕ → List ℕ
outset_state_line d o s = keyed_object (codes "! state") d o ++ (spaced (state_name_text d s) ++ codes "\n")

-- the line of a parameter of an object up to its value
abbrev pub outset_param_front : Domain → ℕ → Param → List ℕ
outset_param_front d o p = keyed_object (codes "! param") d o ++ (spaced p.name ++ codes "=")

-- the line of a parameter of an object
abbrev pub outset_param_line : Domain → ℕ → Param → List ℕ
outset_param_line d o p = outset_param_front d o p ++ (option_map_or value_text p.value [] ++ codes "\n")

-- the lines of the parameters of an object
abbrev pub outset_param_lines : Domain → ℕ → List Param → List ℕ
outset_param_lines d o params = flat_map (outset_param_line d o) params

-- the name of a member, with a blank before it
abbrev pub member_word : Domain → ℕ → List ℕ
member_word d o = spaced (object_name_text d o)

-- the line of the members of a set up to the first
abbrev pub outset_members_front : Domain → ℕ → List ℕ
outset_members_front d set = codes "! member" ++ spaced (set_name_text d set)

-- the line of the members of a set
abbrev pub outset_members_line : Domain → ℕ → List ℕ → List ℕ
outset_members_line d set members = outset_members_front d set ++ (flat_map (member_word d) members ++ codes "\n")

-- what a function writes of each of these, and of its number from one on
abbrev pub numbered : {X : Type 0} → (ℕ → X → List ℕ) → ℕ → List X → List ℕ
numbered write n [] = []
numbered write n (x ∷ xs) = write n x ++ numbered write (suc n) xs

-- the line of the state in which an object stands
abbrev pub stand_state_line : Domain → ℕ → Stand → List ℕ
stand_state_line d o x = outset_state_line d o x.state

-- the lines of the parameters with which an object stands
abbrev pub stand_param_lines : Domain → ℕ → Stand → List ℕ
stand_param_lines d o x = outset_param_lines d o x.params

-- the lines of all objects: the state of each, and then their parameters
abbrev pub objects_text : Domain → List Stand → List ℕ
objects_text d stands = numbered (stand_state_line d) 0 stands ++ numbered (stand_param_lines d) 0 stands

-- all lines: those of all objects, and then the members of each set
abbrev pub outset_text : Domain → Outset → List ℕ
outset_text d x = objects_text d x.stands ++ numbered (outset_members_line d) 0 x.members
