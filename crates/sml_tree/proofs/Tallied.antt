-- What is known of a part with any marks: the tests of a condition are counted, and an `if` nests.
use Rattle.std.proofs.Common.{◌≡◌, ℕ, ◌+◌, ◌≤◌, List, [], ◌∷◌, ◌++◌, refl, ap, sym, ◌∙◌, length, append_assoc, append-nil, arith}
use Rattle.std.proofs.lemmas.List.{length-append}
use Rattle.sml_tree.specs.Syntax.{TestData, instr_depth}
use Rattle.sml_tree.specs.Form as of
use Rattle.sml_tree.specs.Form.{P, part, Part, family, Value, Mark}
use Rattle.sml_tree.specs.Grammar.{unit_rules, conj_rules}
use Rattle.sml_tree.specs.Derive.{Marked, Derives}
use Rattle.sml_tree.specs.Inside.{tests}
use Rattle.sml_tree.proofs.Kept.{Anything, Keeping, EachKeeps, free_keeping, begun_keeping, part_kept}
use Rattle.sml_tree.proofs.Marks.{◌⨾◌, AnyMark, any_marks}

-- the tests behind those of the left operand, and their count
abbrev pub Added : ℕ → List TestData → of.Counted → Type 0
Added n before v = (added : List TestData) × (tests v.formula ≡ before ++ added) × (v.count ≡ n + length added)

-- how many tests a condition has, and that an `if` is one
abbrev pub Tallied : (n : Part) → Value n → Type 0
Tallied (of.Cond depth n) v = v.count ≡ n + length (tests v.formula)
Tallied (of.Conj depth n) v = v.count ≡ n + length (tests v.formula)
Tallied (of.Unit' depth n) v = v.count ≡ n + length (tests v.formula)
Tallied (of.MoreAnd depth n left) v = Added n (tests left) v
Tallied (of.MoreOr depth n left) v = Added n (tests left) v
Tallied (of.Branch depth) v = 1 ≤ instr_depth v
Tallied _ v = Unit {0}

-- what goes on behind a counted condition
more_counted : (n : ℕ) (w v : of.Counted) → w.count ≡ n + length (tests w.formula) → Added w.count (tests w.formula) v → v.count ≡ n + length (tests v.formula)
more_counted n w v e a = let l = ap length a.1 ∙ length-append (tests w.formula) a.0 in let c = a.2 in omega (arith, e, l, c)

more_added : (n : ℕ) (before : List TestData) (w v : of.Counted) → w.count ≡ n + length (tests w.formula) → Added w.count (before ++ tests w.formula) v → Added n before v
more_added n before w v e a =
    let l = length-append (tests w.formula) a.0 in let c = a.2 in
    (tests w.formula ++ a.0, a.1 ∙ append_assoc before (tests w.formula) a.0, omega (arith, e, l, c))

none_added : (n : ℕ) (left : of.Counted) → left.count ≡ n → Added n (tests left.formula) left
none_added n left e = ([], sym (append-nil (tests left.formula)), omega (arith, e))

tallied_unit : (d n : ℕ) → EachKeeps Anything AnyMark Tallied (of.Unit' d n) (unit_rules d n)
tallied_unit d n =
    (λ t e m w k x. x)
    ⨾ (λ t e m w k x t' e' m'. x)
    ⨾ (λ t e m s k x ns l y. omega arith)
    ⨾ (λ a i j t e m s k x ns l y. omega arith)
    ⨾ (λ a i j t e m s k x ns l y. omega arith)
    ⨾ tt

tallied_conj : (d n : ℕ) → EachKeeps Anything AnyMark Tallied (of.Conj d n) (conj_rules d n)
tallied_conj d n =
    begun_keeping Anything AnyMark Tallied (of.Unit' d n) (of.Conj d n) (P of.MoreAnds ∷ []) (λ u. part (of.MoreAnd d u.count u.formula)) (unit_rules d n) (tallied_unit d n)
    (λ w x v k y. more_counted n w v x y)

tallied : (n : Part) → Keeping Anything AnyMark Tallied n
tallied (of.Cond d n) = (
  tt,
  begun_keeping Anything AnyMark Tallied (of.Conj d n) (of.Cond d n) (P of.MoreOrs ∷ []) (λ u. part (of.MoreOr d u.count u.formula)) (conj_rules d n) (tallied_conj d n)
      (λ w x v k y. more_counted n w v x y),
)
tallied (of.Conj d n) = (tt, tallied_conj d n)
tallied (of.Unit' d n) = (tt, tallied_unit d n)
tallied (of.MoreAnd d n left) = (none_added n (record { formula = left; count = n }) refl, (λ t e m w k x v l y. more_added n (tests left) w v x y, tt))
tallied (of.MoreOr d n left) = (none_added n (record { formula = left; count = n }) refl, (λ t e m w k x v l y. more_added n (tests left) w v x y, tt))
tallied (of.Branch d) = (tt, (λ t e m c k x t' e' m' arms l y. omega arith, tt))
tallied n = free_keeping Anything AnyMark Tallied n (λ v. tt)

pub part_tallied : (n : Part) (ms : List Marked) (v : Value n) → Derives n (P (family n) ∷ []) (part n) ms v → Tallied n v
part_tallied n ms v d = part_kept Anything AnyMark Tallied (λ n' ms' v' d'. tt) tallied n ms v d (any_marks ms)
