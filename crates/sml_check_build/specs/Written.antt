-- Files whose strings have the bytes of one, item by item.
use Rattle.std.specs.List.{AllByRecursion}
use Rattle.sml_tree.specs.Syntax.{PassedData, ItemData, class, object, group, ClassData, ActionData}
use Rattle.sml_check_faults.specs.Lookup.{actions}
use Rattle.sml_check_faults.specs.Sites.{Site, asks, tests, sets, ends, changes, block_sites}
use Rattle.sml_check_build.specs.Placed.{ParamWritten, DefaultWritten}
use Rattle.sml_check_build.specs.Texts.{ArgWritten}

-- the value of an argument, if it is written out
abbrev pub PassedWritten : PassedData → Type 0
PassedWritten q = ArgWritten q.value

-- the values of a place in a block
abbrev pub SiteWritten : Site → Type 0
SiteWritten (asks s) = AllByRecursion PassedWritten s.args
SiteWritten (tests t) = Unit {0}
SiteWritten (sets n v) = ArgWritten v
SiteWritten (ends n) = Unit {0}
SiteWritten (changes add m s) = Unit {0}

-- the defaults of an action, and the values of its block
abbrev pub ActionWritten : ActionData → Type 0
ActionWritten a = AllByRecursion DefaultWritten a.params × AllByRecursion SiteWritten (block_sites a.body)

-- the values of a class, and those of its actions
abbrev pub ClassWritten : ClassData → Type 0
ClassWritten c = AllByRecursion ParamWritten c.params × AllByRecursion ActionWritten (actions c)

-- those of a class; other items write out no values
abbrev pub ItemWritten : ItemData → Type 0
ItemWritten (class c) = ClassWritten c
ItemWritten (object o) = Unit {0}
ItemWritten (group g) = Unit {0}
