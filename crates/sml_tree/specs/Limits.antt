-- The limits of a file, as limits of its tree.
use Rattle.std.specs.Prelude.{◌≤◌, Bool, true, false, List, length}
use Rattle.std.specs.List.{AllByRecursion, filter}
use Rattle.sml_tree.specs.Syntax.{TestData, CondData, SendData, WaitedData, BlockData, block_depth, ActionData, StateData, ClassData, ItemData, class, object, group}
use Rattle.sml_tree.specs.Inside.{tests, block_conditions, block_sends, block_waits}
use Rattle.sml_tree.specs.declared.limits.TheConstants.{MAX_CLASSES, MAX_OBJECTS, MAX_SETS, MAX_STATES, MAX_ACTIONS, MAX_PARAMETERS, MAX_ARGUMENTS, MAX_MEMBERS, MAX_NAMES, MAX_WAITED, MAX_TESTS, MAX_IFS}

-- names of a list of states
abbrev pub TestFits : TestData → Type 0
TestFits x = length x.states ≤ MAX_NAMES

-- tests of a condition
abbrev pub CondFits : CondData → Type 0
CondFits c = (length (tests c) ≤ MAX_TESTS) × AllByRecursion TestFits (tests c)

-- arguments of a `do`
abbrev pub SendIsInLimits : SendData → Type 0
SendIsInLimits s = length s.args ≤ MAX_ARGUMENTS

-- names of a `wait`
abbrev pub WaitFits : List WaitedData → Type 0
WaitFits waited = length waited ≤ MAX_WAITED

-- nesting of `if`
abbrev pub BlockIsInLimits : BlockData → Type 0
BlockIsInLimits b = (block_depth b ≤ MAX_IFS) × AllByRecursion SendIsInLimits (block_sends b)
    × AllByRecursion CondFits (block_conditions b) × AllByRecursion WaitFits (block_waits b)

-- parameters of an action
abbrev pub ActionIsInLimits : ActionData → Type 0
ActionIsInLimits a = (length a.params ≤ MAX_PARAMETERS) × BlockIsInLimits a.body

-- actions of a state
abbrev pub StateIsInLimits : StateData → Type 0
StateIsInLimits s = (length s.actions ≤ MAX_ACTIONS) × AllByRecursion ActionIsInLimits s.actions

-- parameters and states of a class
abbrev pub ClassIsInLimits : ClassData → Type 0
ClassIsInLimits c =
    (length c.params ≤ MAX_PARAMETERS) × (length c.states ≤ MAX_STATES) × AllByRecursion StateIsInLimits c.states

-- members of a set
abbrev pub ItemFits : ItemData → Type 0
ItemFits (class c) = ClassIsInLimits c
ItemFits (object o) = Unit {0}
ItemFits (group g) = length g.members ≤ MAX_MEMBERS

-- whether an item is a class, an object, a set
abbrev pub is_class : ItemData → Bool
is_class (class c) = true
is_class (object o) = false
is_class (group g) = false

abbrev pub is_object : ItemData → Bool
is_object (class c) = false
is_object (object o) = true
is_object (group g) = false

abbrev pub is_set : ItemData → Bool
is_set (class c) = false
is_set (object o) = false
is_set (group g) = true

-- classes, objects and sets of a file
abbrev pub IsWithinLimits : List ItemData → Type 0
IsWithinLimits file =
    (length (filter is_class file) ≤ MAX_CLASSES) × (length (filter is_object file) ≤ MAX_OBJECTS)
    × (length (filter is_set file) ≤ MAX_SETS)
    × AllByRecursion ItemFits file
