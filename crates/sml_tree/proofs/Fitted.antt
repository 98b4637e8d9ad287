-- What is derived without any mark is within the limits.
use Rattle.std.proofs.Common.{ℕ, ◌+◌, ◌-◌, ◌≤◌, List, [], ◌∷◌, length, filter, arith}
use Rattle.std.specs.List.{AllByRecursion}
use Rattle.sml_tree.specs.Syntax.{BlockData, block_depth, instr_depth, ItemData}
use Rattle.sml_tree.specs.Content.{block_of}
use Rattle.sml_tree.specs.Piece.{Piece}
use Rattle.sml_tree.specs.Form as of
use Rattle.sml_tree.specs.Form.{B, P, part, Part, family, Value, Mark, Fine, Deep, Many, Counted}
use Rattle.sml_tree.specs.Grammar.{unit_rules, conj_rules, kind_rules, class_param, action_param}
use Rattle.sml_tree.specs.Derive.{IsFile, fine}
use Rattle.sml_tree.specs.declared.token_kind.TokenKind.TheVariants.{Name, Equals}
use Rattle.sml_tree.specs.Inside.{tests, instr_conditions, block_conditions, instr_sends, block_sends, instr_waits, block_waits}
use Rattle.sml_tree.specs.Limits.{TestFits, CondFits, SendIsInLimits, WaitFits, ActionIsInLimits, StateIsInLimits, ItemFits, is_class, is_object, is_set, IsWithinLimits}
use Rattle.sml_tree.proofs.Kept.{Keeping, EachKeeps, free_keeping, begun_keeping, part_kept}
use Rattle.sml_tree.proofs.Marks.{◌⨾◌, IsFine, all_append, fine_marks, below_deep, below_many}
use Rattle.sml_tree.proofs.Tallied.{Tallied, part_tallied}
use Rattle.sml_tree.specs.declared.limits.TheConstants.{MAX_ACTIONS, MAX_ARGUMENTS, MAX_CLASSES, MAX_IFS, MAX_MEMBERS, MAX_NAMES, MAX_OBJECTS, MAX_PARAMETERS, MAX_SETS, MAX_STATES, MAX_TESTS, MAX_WAITED}

-- a block in which `if`s may nest so deep
abbrev pub Nests : ℕ → BlockData → Type 0
Nests k b = (block_depth b ≤ k) × AllByRecursion SendIsInLimits (block_sends b) × AllByRecursion CondFits (block_conditions b) × AllByRecursion WaitFits (block_waits b)

-- a condition with what was counted before it
abbrev pub CountFits : Counted → Type 0
CountFits v = (v.count ≤ MAX_TESTS) × AllByRecursion TestFits (tests v.formula)

-- what a part is worth is within what the limits leave behind what is before it
abbrev pub Fits : (n : Part) → Value n → Type 0
Fits (of.File classes objects sets) v =
    (length (filter is_class v) ≤ MAX_CLASSES - classes) × (length (filter is_object v) ≤ MAX_OBJECTS - objects) × (length (filter is_set v) ≤ MAX_SETS - sets) × AllByRecursion ItemFits v
Fits of.ClassParamList v = length v ≤ MAX_PARAMETERS
Fits (of.Sort n) v = n + 1 ≤ MAX_PARAMETERS
Fits (of.ClassParam n) v = n + 1 ≤ MAX_PARAMETERS
Fits (of.MoreClassParam n) v = length v ≤ MAX_PARAMETERS - n
Fits (of.State n) v = (length v ≤ MAX_STATES - n) × AllByRecursion StateIsInLimits v
Fits (of.Action n) v = (length v ≤ MAX_ACTIONS - n) × AllByRecursion ActionIsInLimits v
Fits of.ActionParamList v = length v ≤ MAX_PARAMETERS
Fits (of.ActionParam n) v = n + 1 ≤ MAX_PARAMETERS
Fits (of.MoreActionParam n) v = length v ≤ MAX_PARAMETERS - n
Fits (of.Block depth) v = Nests (MAX_IFS - depth) (block_of v)
Fits of.ArgList v = length v ≤ MAX_ARGUMENTS
Fits (of.Passed n) v = n + 1 ≤ MAX_ARGUMENTS
Fits (of.MorePassedArg n) v = length v ≤ MAX_ARGUMENTS - n
Fits (of.Waited n) v = n + 1 ≤ MAX_WAITED
Fits (of.MoreWaited n) v = length v ≤ MAX_WAITED - n
Fits (of.Branch depth) v = (instr_depth v ≤ (MAX_IFS - (depth + 1)) + 1) × AllByRecursion SendIsInLimits (instr_sends v) × AllByRecursion CondFits (instr_conditions v) × AllByRecursion WaitFits (instr_waits v)
Fits (of.Arm depth) v = Nests (MAX_IFS - (depth + 1)) (block_of v.yes_part) × Nests (MAX_IFS - (depth + 1)) (block_of v.no_part)
Fits (of.Else depth) v = Nests (MAX_IFS - depth) (block_of v)
Fits (of.Cond depth n) v = CountFits v
Fits (of.Conj depth n) v = CountFits v
Fits (of.Unit' depth n) v = CountFits v
Fits (of.MoreAnd depth n left) v = CountFits v
Fits (of.MoreOr depth n left) v = CountFits v
Fits of.StateList v = length v ≤ MAX_NAMES
Fits of.Names v = length v ≤ MAX_NAMES
Fits (of.MoreName n) v = length v ≤ MAX_NAMES - n
Fits of.Members v = length v ≤ MAX_MEMBERS
Fits (of.MoreMember n) v = length v ≤ MAX_MEMBERS - n
Fits _ v = Unit {0}

-- the same, but of a chain only where its left operand is
abbrev pub Fitted : (n : Part) → Value n → Type 0
Fitted (of.MoreAnd depth n left) v = CountFits (record { formula = left; count = n }) → CountFits v
Fitted (of.MoreOr depth n left) v = CountFits (record { formula = left; count = n }) → CountFits v
Fitted n v = Fits n v

fitted_sort : (n : ℕ) → EachKeeps Tallied IsFine Fitted (of.Sort n) (kind_rules n)
fitted_sort n = (λ _ _ m. below_many MAX_PARAMETERS n m, (λ _ _ m. below_many MAX_PARAMETERS n m, tt))

fitted_unit : (d n : ℕ) → EachKeeps Tallied IsFine Fitted (of.Unit' d n) (unit_rules d n)
fitted_unit d n =
    (λ _ _ m w k x. x)
    ⨾ (λ _ _ m w k x _ _ _. x)
    ⨾ (λ _ _ m s _ _ l _ y. (below_many MAX_TESTS n m, (y, tt)))
    ⨾ (λ _ _ m _ _ _ s _ _ l _ y. (below_many MAX_TESTS n m, (y, tt)))
    ⨾ (λ _ _ m _ _ _ s _ _ l _ y. (below_many MAX_TESTS n m, (y, tt)))
    ⨾ tt

fitted_conj : (d n : ℕ) → EachKeeps Tallied IsFine Fitted (of.Conj d n) (conj_rules d n)
fitted_conj d n =
    begun_keeping Tallied IsFine Fitted (of.Unit' d n) (of.Conj d n) (P of.MoreAnds ∷ []) (λ u. part (of.MoreAnd d u.count u.formula)) (unit_rules d n) (fitted_unit d n)
    (λ w x v k y. y x)

fitted : (n : Part) → Keeping Tallied IsFine Fitted n
fitted (of.File classes objects sets) = (
  (omega arith, omega arith, omega arith, tt),
  (λ _ _ m _ _ _ _ _ _ a _ _ ps _ p ss _ x file _ y. let few = below_many MAX_CLASSES classes m in let f = y.0 in (omega (arith, few, f), y.1, y.2, ((p, x.0, x.1), y.3)))
      ⨾ (λ _ _ m _ _ _ _ _ _ _ _ _ _ _ _ file _ y. let few = below_many MAX_OBJECTS objects m in let f = y.1 in (y.0, omega (arith, few, f), y.2, (tt, y.3)))
      ⨾ (λ _ _ m _ _ _ _ _ _ _ _ _ ms _ x _ _ _ file _ y. let few = below_many MAX_SETS sets m in let f = y.2 in (y.0, y.1, omega (arith, few, f), (x, y.3)))
      ⨾ tt,
)
fitted of.ClassParamList = (omega arith, (λ _ _ _ _ _ _ first _ x others _ y. omega (arith, x, y), tt))
fitted (of.Sort n) = (tt, fitted_sort n)
fitted (of.ClassParam n) = (tt, begun_keeping Tallied IsFine Fitted (of.Sort n) (of.ClassParam n) (B Name ∷ B Equals ∷ P of.Literals ∷ []) class_param (kind_rules n) (fitted_sort n) (λ w x _ _ _ _ _ _ l _ _. x))
fitted (of.MoreClassParam n) = (omega arith, (λ _ _ _ first _ x others _ y. omega (arith, x, y), tt))
fitted (of.State n) = (
  (omega arith, tt),
  (λ _ _ m _ _ _ _ _ _ marks _ _ actions _ x others _ y. let few = below_many MAX_STATES n m in let f = y.0 in (omega (arith, few, f), (x, y.1)), tt),
)
fitted (of.Action n) = (
  (omega arith, tt),
  (λ _ _ m _ _ _ _ _ _ params _ p body _ x others _ y. let few = below_many MAX_ACTIONS n m in let f = y.0 in (omega (arith, few, f), ((p, x), y.1)), tt),
)
fitted of.ActionParamList = (omega arith, (λ _ _ _ first _ x others _ y _ _ _. omega (arith, x, y), tt))
fitted (of.ActionParam n) = (tt, begun_keeping Tallied IsFine Fitted (of.Sort n) (of.ActionParam n) (B Name ∷ P of.Defaults ∷ []) action_param (kind_rules n) (fitted_sort n) (λ w x _ _ _ l _ _. x))
fitted (of.MoreActionParam n) = (omega arith, (λ _ _ _ first _ x others _ y. omega (arith, x, y), tt))
fitted (of.Block d) = (
  (omega arith, tt, tt, tt),
  (λ _ _ _ _ _ _ args _ x every _ _ _ _ _ block _ y. let f = y.0 in (omega (arith, f), (x, y.1), y.2, y.3))
      ⨾ (λ _ _ m branch _ x block _ y. let few = below_deep MAX_IFS d m in let f = x.0 in let g = y.0 in (omega (arith, few, f, g), all_append SendIsInLimits (instr_sends branch) (block_sends (block_of block)) x.1 y.1, all_append CondFits (instr_conditions branch) (block_conditions (block_of block)) x.2 y.2, all_append WaitFits (instr_waits branch) (block_waits (block_of block)) x.3 y.3))
      ⨾ (λ _ _ _ _ _ _ _ _ _ value _ _ block _ y. let f = y.0 in (omega (arith, f), y.1, y.2, y.3))
      ⨾ (λ _ _ _ _ _ _ block _ y. let f = y.0 in (omega (arith, f), y.1, y.2, y.3))
      ⨾ (λ _ _ _ _ _ _ _ _ _ _ _ _ _ _ _ block _ y. let f = y.0 in (omega (arith, f), y.1, y.2, y.3))
      ⨾ (λ _ _ _ _ _ _ first _ p others _ q _ _ _ block _ y. let f = y.0 in (omega (arith, f), y.1, y.2, (omega (arith, q), y.3)))
      ⨾ (λ _ _ _ _ _ _ _ _ _ _ _ _ block _ y. let f = y.0 in (omega (arith, f), y.1, y.2, y.3))
      ⨾ (λ _ _ _ _ _ _ _ _ _ _ _ _ block _ y. let f = y.0 in (omega (arith, f), y.1, y.2, y.3))
      ⨾ tt,
)
fitted of.ArgList = (omega arith, (λ _ _ _ first _ x others _ y _ _ _. omega (arith, x, y), tt))
fitted (of.Passed n) = (tt, (λ _ _ m _ _ _ value _ _. below_many MAX_ARGUMENTS n m, tt))
fitted (of.MorePassedArg n) = (omega arith, (λ _ _ _ first _ x others _ y. omega (arith, x, y), tt))
fitted (of.Waited n) = (tt, (λ _ _ m. below_many MAX_WAITED n m, (λ _ _ m _ _ _. below_many MAX_WAITED n m, tt)))
fitted (of.MoreWaited n) = (omega arith, (λ _ _ _ first _ x others _ y. omega (arith, x, y), tt))
fitted (of.Branch d) = (
  tt,
  (
    λ _ _ _ c k x _ _ _ arms _ y. let f = x.0 in let first = (y.0).0 in let second = (y.1).0 in (
      omega (arith, first, second),
      all_append SendIsInLimits (block_sends (block_of arms.yes_part)) (block_sends (block_of arms.no_part)) (y.0).1 (y.1).1,
      ((omega (arith, k, f), x.1), all_append CondFits (block_conditions (block_of arms.yes_part)) (block_conditions (block_of arms.no_part)) (y.0).2 (y.1).2),
      all_append WaitFits (block_waits (block_of arms.yes_part)) (block_waits (block_of arms.no_part)) (y.0).3 (y.1).3,
    ),
    tt,
  ),
)
fitted (of.Arm d) = (tt, (λ _ _ _ first _ x second _ y _ _ _. (x, y), tt))
fitted (of.Else d) = ((omega arith, tt, tt, tt), (λ _ _ _ block _ x. x, tt))
fitted (of.Cond d n) = (
  tt,
  begun_keeping Tallied IsFine Fitted (of.Conj d n) (of.Cond d n) (P of.MoreOrs ∷ []) (λ u. part (of.MoreOr d u.count u.formula)) (conj_rules d n) (fitted_conj d n)
      (λ w x v k y. y x),
)
fitted (of.Conj d n) = (tt, fitted_conj d n)
fitted (of.Unit' d n) = (tt, fitted_unit d n)
fitted (of.MoreAnd d n left) = (λ h. h, (λ _ _ _ w k x v l y h. y (x.0, all_append TestFits (tests left) (tests w.formula) h.1 x.1), tt))
fitted (of.MoreOr d n left) = (λ h. h, (λ _ _ _ w k x v l y h. y (x.0, all_append TestFits (tests left) (tests w.formula) h.1 x.1), tt))
fitted of.StateList = (tt, (λ _ _ _. omega arith, (λ _ _ _ list _ x _ _ _. x, tt)))
fitted of.Names = (tt, (λ _ _ _ others _ x. omega (arith, x), tt))
fitted (of.MoreName n) = (omega arith, (λ _ _ _ _ _ m others _ x. let few = below_many MAX_NAMES n m in omega (arith, few, x), tt))
fitted of.Members = (omega arith, (λ _ _ _ others _ x. omega (arith, x), tt))
fitted (of.MoreMember n) = (omega arith, (λ _ _ _ _ _ m others _ x. let few = below_many MAX_MEMBERS n m in omega (arith, few, x), tt))
fitted n = free_keeping Tallied IsFine Fitted n (λ v. tt)

pub file_fits : (ts : List Piece) (file : List ItemData) → IsFile ts file → IsWithinLimits file
file_fits ts file d = part_kept Tallied IsFine Fitted part_tallied fitted (of.File 0 0 0) (fine ts) file d (fine_marks ts)
