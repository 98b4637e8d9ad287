-- What a tree in memory says.
use Rattle.std.specs.Prelude.{List, [], ◌∷◌, map, option_map}
use Rattle.sml_tree.specs.Syntax.{LiteralData, int, str, ArgData, lit, param, PassedData, WaitedData, CondData, both, either, neither, test, InstrData, BlockData, send, choose, assign, move_to, terminate, wait_for, insert_in, remove_from, done, step, ClassParamData, ActionParamData, ActionData, StateData, ClassData, ObjectData, GroupData, ItemData, class, object, group}
use Rattle.sml_tree.specs.declared.literal.Literal.{Literal}
use Rattle.sml_tree.specs.declared.literal.Literal.TheVariants.{Int, Str}
use Rattle.sml_tree.specs.declared.literal.Arg.{Arg}
use Rattle.sml_tree.specs.declared.literal.Arg.TheVariants.{Lit, Param}
use Rattle.sml_tree.specs.declared.literal.Passed.{Passed}
use Rattle.sml_tree.specs.declared.cond.Cond.{Cond, And', Or', Not', Test}
use Rattle.sml_tree.specs.declared.block.Waited.{Waited}
use Rattle.sml_tree.specs.declared.block.Instr.{Instr, fold-Instr}
use Rattle.sml_tree.specs.declared.block.Block.{Block, Block-F}
use Rattle.sml_tree.specs.declared.block.Instr.TheOpen.{Instr-F}
use Rattle.sml_tree.specs.declared.file.ClassParam.{ClassParam}
use Rattle.sml_tree.specs.declared.file.ActionParam.{ActionParam}
use Rattle.sml_tree.specs.declared.file.Action.{Action}
use Rattle.sml_tree.specs.declared.file.State.{State}
use Rattle.sml_tree.specs.declared.file.Class.{Class}
use Rattle.sml_tree.specs.declared.file.Object.{Object}
use Rattle.sml_tree.specs.declared.file.Group.{Group}
use Rattle.sml_tree.specs.declared.file.Item.{Item}
use Rattle.sml_tree.specs.declared.file.SmlFile.{SmlFile}

abbrev pub literal_content : {A : Type 0} → Literal A → LiteralData
literal_content (Int n) = int n
literal_content (Str s) = str s.items

abbrev pub arg_content : {A : Type 0} → Arg A → ArgData
arg_content (Lit l) = lit (literal_content l)
arg_content (Param name) = param name

abbrev pub passed_content : {A : Type 0} → Passed A → PassedData
passed_content p = record { name = p.name; value = arg_content p.value }

abbrev pub waited_content : Waited → WaitedData
waited_content w = record { all = w.all; name = w.name }

abbrev pub cond_content : {A : Type 0} → Cond A → CondData
cond_content (And' p l q r) = both (cond_content l) (cond_content r)
cond_content (Or' p l q r) = either (cond_content l) (cond_content r)
cond_content (Not' p l) = neither (cond_content l)
cond_content (Test scope name negated states) =
    test (record { scope = scope; name = name; negated = negated; states = states.items })

-- the instructions of a block, one after another
abbrev pub block_of : List InstrData → BlockData
block_of [] = done
block_of (i ∷ is) = step i (block_of is)

abbrev pub instr_step : {A : Type 0} → Instr-F A InstrData BlockData → InstrData
instr_step (Instr-F.Do action args all target) =
    send (record { action = action; args = map passed_content args.items; all = all; target = target })
instr_step (Instr-F.If c first second) = choose (cond_content c) first second
instr_step (Instr-F.Set name value) = assign name (arg_content value)
instr_step (Instr-F.MoveTo state) = move_to state
instr_step (Instr-F.Terminate state) = terminate state
instr_step (Instr-F.Wait waited) = wait_for (map waited_content waited.items)
instr_step (Instr-F.Insert member set) = insert_in member set
instr_step (Instr-F.Remove member set) = remove_from member set

abbrev pub block_step : {A : Type 0} → Block-F A InstrData BlockData → BlockData
block_step b = block_of b.instrs.items

abbrev pub instr_content : {A : Type 0} → Instr A → InstrData
instr_content {A} = fold-Instr A InstrData BlockData instr_step block_step

abbrev pub block_content : {A : Type 0} → Block A → BlockData
block_content b = block_of (map instr_content b.instrs.items)

abbrev pub class_param_content : {A : Type 0} → ClassParam A → ClassParamData
class_param_content p = record { kind = p.kind; name = p.name; value = literal_content p.value }

abbrev pub action_param_content : {A : Type 0} → ActionParam A → ActionParamData
action_param_content p = record { kind = p.kind; name = p.name; default = option_map literal_content p.default }

abbrev pub action_content : {A : Type 0} → Action A → ActionData
action_content a =
    record { name = a.name; params = map action_param_content a.params.items; body = block_content a.body }

abbrev pub state_content : {A : Type 0} → State A → StateData
state_content s =
    record { name = s.name; initial = s.initial; dead = s.dead; actions = map action_content s.actions.items }

abbrev pub class_content : {A : Type 0} → Class A → ClassData
class_content c = record {
  name = c.name;
  associated = c.associated;
  params = map class_param_content c.params.items;
  states = map state_content c.states.items;
}

abbrev pub object_content : Object → ObjectData
object_content o = record { name = o.name; class = o.class }

abbrev pub group_content : {A : Type 0} → Group A → GroupData
group_content g = record { name = g.name; members = g.members.items }

abbrev pub item_content : {A : Type 0} → Item A → ItemData
item_content (Item.Class c) = class (class_content c)
item_content (Item.Object o) = object (object_content o)
item_content (Item.Group g) = group (group_content g)

abbrev pub file_content : {A : Type 0} → SmlFile A → List ItemData
file_content f = map item_content f.items.items
