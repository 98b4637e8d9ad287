-- The numbers and names of the kinds of faults.
use Rattle.std.specs.Prelude.{ℕ, List, ◌++◌, codes}
use Rattle.std.specs.Fmt.{decimal}
use Rattle.sml_check_faults.specs.declared.kind.CheckError.{CheckError}
use Rattle.sml_check_faults.specs.declared.kind.CheckKind.{CheckKind}
use Rattle.sml_check_faults.specs.declared.kind.CheckKind.TheVariants.{Duplicate, NoState, TwoInitial, TwoDead, UnknownClass, UnknownObject, UnknownSet, UnknownState, UnknownAction, UnknownParam, KindMismatch, MissingArg, ParamsDiffer, SelfInCondition, AssociatedBody, Memory}

-- the number of a kind
abbrev pub check_kind_number : CheckKind → ℕ
check_kind_number Duplicate = 1
check_kind_number NoState = 2
check_kind_number TwoInitial = 3
check_kind_number TwoDead = 4
check_kind_number UnknownClass = 5
check_kind_number UnknownObject = 6
check_kind_number UnknownSet = 7
check_kind_number UnknownState = 8
check_kind_number UnknownAction = 9
check_kind_number UnknownParam = 10
check_kind_number KindMismatch = 11
check_kind_number MissingArg = 12
check_kind_number ParamsDiffer = 13
check_kind_number SelfInCondition = 14
check_kind_number AssociatedBody = 15
check_kind_number Memory = 16

-- the name of a kind
abbrev pub check_kind_name : CheckKind → List ℕ
check_kind_name Duplicate = codes "Duplicate"
check_kind_name NoState = codes "NoState"
check_kind_name TwoInitial = codes "TwoInitial"
check_kind_name TwoDead = codes "TwoDead"
check_kind_name UnknownClass = codes "UnknownClass"
check_kind_name UnknownObject = codes "UnknownObject"
check_kind_name UnknownSet = codes "UnknownSet"
check_kind_name UnknownState = codes "UnknownState"
check_kind_name UnknownAction = codes "UnknownAction"
check_kind_name UnknownParam = codes "UnknownParam"
check_kind_name KindMismatch = codes "KindMismatch"
check_kind_name MissingArg = codes "MissingArg"
check_kind_name ParamsDiffer = codes "ParamsDiffer"
check_kind_name SelfInCondition = codes "SelfInCondition"
check_kind_name AssociatedBody = codes "AssociatedBody"
check_kind_name Memory = codes "Memory"

-- the answer if memory runs out
abbrev pub memory_error : CheckError
memory_error = record { kind = Memory; name = codes "NONE" }

-- a fault in words
abbrev pub check_error_text : CheckError → List ℕ
check_error_text e = decimal (check_kind_number e.kind) ++ codes " " ++ check_kind_name e.kind ++ codes " " ++ e.name
