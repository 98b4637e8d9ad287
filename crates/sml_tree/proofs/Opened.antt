-- The brackets and `not`s of what is derived.
use Rattle.std.proofs.Common.{ℕ, ◌+◌, ◌≤◌, Bool, true, false, [], ◌∷◌, ◌++◌, arith}
use Rattle.std.specs.List.{AllByRecursion, flat_map}
use Rattle.sml_tree.specs.Syntax.{CondData, both, either, neither, test}
use Rattle.sml_tree.specs.Content.{block_of}
use Rattle.sml_tree.specs.Form as of
use Rattle.sml_tree.specs.Form.{P, part, Part, family, Value, Mark, Fine, Deep, Counted}
use Rattle.sml_tree.specs.Grammar.{unit_rules, conj_rules}
use Rattle.sml_tree.specs.Derive.{fine}
use Rattle.sml_tree.specs.Inside.{instr_conditions, block_conditions, action_conditions, state_conditions, conditions}
use Rattle.sml_tree.specs.Laws.{FewBrackets}
use Rattle.sml_tree.specs.Brackets.{is_or, is_chain, in_brackets, open_depth}
use Rattle.sml_tree.proofs.Kept.{Anything, Keeping, EachKeeps, free_keeping, begun_keeping, part_kept}
use Rattle.sml_tree.proofs.Marks.{◌⨾◌, IsFine, all_append, fine_marks, below_deep}
use Rattle.sml_tree.specs.declared.limits.TheConstants.{MAX_OPEN}

-- ---- brackets of one condition
less_bracketed : (b : Bool) (n : ℕ) → n ≤ in_brackets b n
less_bracketed true n = omega arith
less_bracketed false n = omega arith

bracketed_less : (b : Bool) (n : ℕ) → in_brackets b n ≤ n + 1
bracketed_less true n = omega arith
bracketed_less false n = omega arith

or_less : (c : CondData) (n : ℕ) → in_brackets (is_or c) n ≤ in_brackets (is_chain c) n
or_less (both l r) n = omega arith
or_less (either l r) n = omega arith
or_less (neither c) n = omega arith
or_less (test x) n = omega arith

-- ---- what is open in what a part is worth, by what is open around it
abbrev pub Opened : (n : Part) → Value n → Type 0
Opened (of.File classes objects sets) v = AllByRecursion (λ c. open_depth c ≤ MAX_OPEN) (conditions v)
Opened (of.State n) v = AllByRecursion (λ c. open_depth c ≤ MAX_OPEN) (flat_map state_conditions v)
Opened (of.Action n) v = AllByRecursion (λ c. open_depth c ≤ MAX_OPEN) (flat_map action_conditions v)
Opened (of.Block depth) v = AllByRecursion (λ c. open_depth c ≤ MAX_OPEN) (block_conditions (block_of v))
Opened (of.Branch depth) v = AllByRecursion (λ c. open_depth c ≤ MAX_OPEN) (instr_conditions v)
Opened (of.Arm depth) v = AllByRecursion (λ c. open_depth c ≤ MAX_OPEN) (block_conditions (block_of v.yes_part) ++ block_conditions (block_of v.no_part))
Opened (of.Else depth) v = AllByRecursion (λ c. open_depth c ≤ MAX_OPEN) (block_conditions (block_of v))
Opened (of.Cond depth tests) v = depth ≤ MAX_OPEN → depth + open_depth v.formula ≤ MAX_OPEN
Opened (of.Conj depth tests) v = depth ≤ MAX_OPEN → depth + in_brackets (is_or v.formula) (open_depth v.formula) ≤ MAX_OPEN
Opened (of.Unit' depth tests) v = depth ≤ MAX_OPEN → depth + in_brackets (is_chain v.formula) (open_depth v.formula) ≤ MAX_OPEN
Opened (of.MoreAnd depth tests left) v = depth + in_brackets (is_or left) (open_depth left) ≤ MAX_OPEN → depth + in_brackets (is_or v.formula) (open_depth v.formula) ≤ MAX_OPEN
Opened (of.MoreOr depth tests left) v = depth + open_depth left ≤ MAX_OPEN → depth + open_depth v.formula ≤ MAX_OPEN
Opened _ v = Unit {0}

opened_unit : (d n : ℕ) → EachKeeps Anything IsFine Opened (of.Unit' d n) (unit_rules d n)
opened_unit d n =
    (λ t e m w k x h. let y = x (below_deep MAX_OPEN d m) in omega (arith, y))
    ⨾ (λ t e m w k x t' e' m' h. let y = x (below_deep MAX_OPEN d m) in let z = bracketed_less (is_chain w.formula) (open_depth w.formula) in omega (arith, y, z))
    ⨾ (λ t e m s k x ns l y h. omega (arith, h))
    ⨾ (λ a i j t e m s k x ns l y h. omega (arith, h))
    ⨾ (λ a i j t e m s k x ns l y h. omega (arith, h))
    ⨾ tt

opened_conj : (d n : ℕ) → EachKeeps Anything IsFine Opened (of.Conj d n) (conj_rules d n)
opened_conj d n =
    begun_keeping Anything IsFine Opened (of.Unit' d n) (of.Conj d n) (P of.MoreAnds ∷ []) (λ u. part (of.MoreAnd d u.count u.formula)) (unit_rules d n) (opened_unit d n)
    (λ w x v k y h. let z = x h in let o = or_less w.formula (open_depth w.formula) in y (omega (arith, z, o)))

opened : (n : Part) → Keeping Anything IsFine Opened n
opened (of.File classes objects sets) = (
  tt,
  (λ _ _ _ _ _ _ _ _ _ a _ _ ps _ _ ss _ x file _ y. all_append (λ c. open_depth c ≤ MAX_OPEN) (flat_map state_conditions ss) (conditions file) x y)
      ⨾ (λ _ _ _ _ _ _ _ _ _ _ _ _ _ _ _ file _ y. y)
      ⨾ (λ _ _ _ _ _ _ _ _ _ _ _ _ _ _ _ _ _ _ file _ y. y)
      ⨾ tt,
)
opened (of.State n) = (
  tt,
  (λ _ _ _ _ _ _ _ _ _ marks _ _ actions _ x others _ y. all_append (λ c. open_depth c ≤ MAX_OPEN) (flat_map action_conditions actions) (flat_map state_conditions others) x y, tt),
)
opened (of.Action n) = (
  tt,
  (λ _ _ _ _ _ _ _ _ _ params _ _ body _ x others _ y. all_append (λ c. open_depth c ≤ MAX_OPEN) (block_conditions (block_of body)) (flat_map action_conditions others) x y, tt),
)
opened (of.Block d) = (
  tt,
  (λ _ _ _ _ _ _ args _ _ every _ _ _ _ _ block _ y. y)
      ⨾ (λ _ _ _ branch _ x block _ y. all_append (λ c. open_depth c ≤ MAX_OPEN) (instr_conditions branch) (block_conditions (block_of block)) x y)
      ⨾ (λ _ _ _ _ _ _ _ _ _ value _ _ block _ y. y)
      ⨾ (λ _ _ _ _ _ _ block _ y. y)
      ⨾ (λ _ _ _ _ _ _ _ _ _ _ _ _ _ _ _ block _ y. y)
      ⨾ (λ _ _ _ _ _ _ first _ _ others _ _ _ _ _ block _ y. y)
      ⨾ (λ _ _ _ _ _ _ _ _ _ _ _ _ block _ y. y)
      ⨾ (λ _ _ _ _ _ _ _ _ _ _ _ _ block _ y. y)
      ⨾ tt,
)
opened (of.Branch d) = (tt, (λ _ _ _ c _ x _ _ _ arms _ y. (let z = x (omega arith) in omega (arith, z), y), tt))
opened (of.Arm d) = (tt, (λ _ _ _ first _ x second _ y _ _ _. all_append (λ c. open_depth c ≤ MAX_OPEN) (block_conditions (block_of first)) (block_conditions (block_of second)) x y, tt))
opened (of.Else d) = (tt, (λ _ _ _ block _ x. x, tt))
opened (of.Cond d n) = (
  tt,
  begun_keeping Anything IsFine Opened (of.Conj d n) (of.Cond d n) (P of.MoreOrs ∷ []) (λ u. part (of.MoreOr d u.count u.formula)) (conj_rules d n) (opened_conj d n)
      (λ w x v k y h. let z = x h in let o = less_bracketed (is_or w.formula) (open_depth w.formula) in y (omega (arith, z, o))),
)
opened (of.Conj d n) = (tt, opened_conj d n)
opened (of.Unit' d n) = (tt, opened_unit d n)
opened (of.MoreAnd d n left) = (
  λ h. h,
  (λ t e m w k x v l y h. let z = x (omega (arith, h)) in y (omega (arith, h, z)), tt),
)
opened (of.MoreOr d n left) = (
  λ h. h,
  (λ t e m w k x v l y h. let z = x (omega (arith, h)) in y (omega (arith, h, z)), tt),
)
opened n = free_keeping Anything IsFine Opened n (λ v. tt)

pub few_brackets : FewBrackets
few_brackets ts file d = part_kept Anything IsFine Opened (λ n ms v d'. tt) opened (of.File 0 0 0) (fine ts) file d (fine_marks ts)
