-- The canonical text of files.
use Rattle.std.specs.Prelude.{ℕ, Bool, true, false, List, [], ◌∷◌, ◌++◌, codes, flat_map}
use Rattle.sml_tree.specs.Syntax.{ClassParamData, ActionData, StateData, ClassData, ObjectData, GroupData, ItemData, class, object, group}
use Rattle.sml_print.specs.Words.{comma_list, bracket_list, class_param_text, action_param_text, members_text}
use Rattle.sml_print.specs.Blocks.{block_text}

-- a mark, if it is there
abbrev pub mark_text : Bool → List ℕ → List ℕ
mark_text false mark = []
mark_text true mark = mark

-- an action
abbrev pub action_text : ActionData → List ℕ
action_text a = codes "    action: " ++ (a.name ++ (bracket_list action_param_text a.params
    ++ (codes "\n" ++ block_text 3 a.body)))

-- a state
abbrev pub state_text : StateData → List ℕ
state_text s =
    codes "  state: " ++ (s.name ++ (mark_text s.initial (codes " /initial_state")
    ++ (mark_text s.dead (codes " /dead_state") ++ (codes "\n" ++ flat_map action_text s.actions))))

-- the parameters of a class, if it has some
abbrev pub params_text : List ClassParamData → List ℕ
params_text [] = []
params_text (p ∷ ps) = codes "  parameters: " ++ (comma_list class_param_text (p ∷ ps) ++ codes "\n")

-- a class
abbrev pub class_text : ClassData → List ℕ
class_text c = codes "class: " ++ (c.name ++ (mark_text c.associated (codes " /associated")
    ++ (codes "\n" ++ (params_text c.params ++ flat_map state_text c.states))))

-- an object
abbrev pub object_text : ObjectData → List ℕ
object_text o = codes "object: " ++ (o.name ++ (codes " is_of_class " ++ (o.class ++ codes "\n")))

-- a set
abbrev pub group_text : GroupData → List ℕ
group_text g = codes "objectset: " ++ (g.name ++ (codes " " ++ (members_text g.members ++ codes "\n")))

-- an item
abbrev pub item_text : ItemData → List ℕ
item_text (class c) = class_text c
item_text (object o) = object_text o
item_text (group g) = group_text g

-- a file
abbrev pub file_text : List ItemData → List ℕ
file_text items = flat_map item_text items
