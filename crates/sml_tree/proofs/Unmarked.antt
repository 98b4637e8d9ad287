-- What is within the limits is derived without any mark.
use Rattle.std.proofs.Common.{◌≡◌, ℕ, ◌+◌, ◌≤◌, List, [], ◌∷◌, ◌++◌, refl, ap, ◌∙◌, subst, length, inl, inr, arith}
use Rattle.std.specs.List.{AllByRecursion}
use Rattle.sml_tree.specs.declared.token_kind.TokenKind.TheVariants.{Name, Equals}
use Rattle.sml_tree.specs.Syntax.{CondData, SendData, WaitedData}
use Rattle.sml_tree.specs.Content.{block_of}
use Rattle.sml_tree.specs.Form as of
use Rattle.sml_tree.specs.Form.{B, P, part, Part, family, Value, Mark, Fine, Deep, Many, Counted}
use Rattle.sml_tree.specs.Grammar.{rules, unit_rules, conj_rules, kind_rules, class_param, action_param}
use Rattle.sml_tree.specs.Derive.{fine, Derives}
use Rattle.sml_tree.specs.Inside.{tests, instr_conditions, block_conditions, instr_sends, block_sends, instr_waits, block_waits}
use Rattle.sml_tree.specs.Limits.{TestFits, CondFits, SendIsInLimits, WaitFits}
use Rattle.sml_tree.specs.Laws.{WithinLimits}
use Rattle.sml_tree.proofs.Marks.{◌⨾◌, all_front, all_back, not_reached, not_deep, unmarked, plain_fine, fine_not_deep}
use Rattle.sml_tree.proofs.Tallied.{Tallied, part_tallied}
use Rattle.sml_tree.proofs.Fitted.{Fits, CountFits, file_fits}
use Rattle.sml_tree.proofs.Owed.{EachOwes, begun_owes, part_paid}
use Rattle.sml_tree.specs.declared.limits.TheConstants.{MAX_ACTIONS, MAX_ARGUMENTS, MAX_CLASSES, MAX_IFS, MAX_MEMBERS, MAX_NAMES, MAX_OBJECTS, MAX_OPEN, MAX_PARAMETERS, MAX_SETS, MAX_STATES, MAX_TESTS, MAX_WAITED}

owing_sort : (n : ℕ) → EachOwes Tallied Fits (of.Sort n) (kind_rules n)
owing_sort n = (λ _ _ _ x. (tt, not_reached MAX_PARAMETERS n Many x), (λ _ _ _ x. (tt, not_reached MAX_PARAMETERS n Many x), tt))

owing_unit : (d n : ℕ) → EachOwes Tallied Fits (of.Unit' d n) (unit_rules d n)
owing_unit d n =
    (λ t e s w _ x. ((tt, not_deep MAX_OPEN d (λ m. s m (inl e))), x))
    ⨾ (λ t e s w _ _ _ _ x. (((tt, not_deep MAX_OPEN d (λ m. s m (inr e))), x), refl))
    ⨾ (λ _ _ _ sense _ states _ x. (((tt, not_reached MAX_TESTS n Many x.0), tt), (x.1).0))
    ⨾ (λ _ _ _ _ _ _ sense _ states _ x. ((((tt, not_reached MAX_TESTS n Many x.0), refl), tt), (x.1).0))
    ⨾ (λ _ _ _ _ _ _ sense _ states _ x. ((((tt, not_reached MAX_TESTS n Many x.0), refl), tt), (x.1).0))
    ⨾ tt

-- a prefix of a chain fits if the whole does
front_fits : (w v : Counted) → (a : List _) × (tests v.formula ≡ tests w.formula ++ a) × (v.count ≡ w.count + length a) → CountFits v → CountFits w
front_fits w v a x =
    let c = a.2 in let few = x.0 in
    (omega (arith, c, few), all_front TestFits (tests w.formula) a.0 (subst (λ l. AllByRecursion TestFits l) a.1 x.1))

-- and so does the operand that stands next
next_fits : (before : CondData) (w v : Counted) → (a : List _) × (tests v.formula ≡ (tests before ++ tests w.formula) ++ a) × (v.count ≡ w.count + length a) → CountFits v → CountFits w
next_fits before w v a x =
    let c = a.2 in let few = x.0 in
    (omega (arith, c, few), all_back TestFits (tests before) (tests w.formula) (all_front TestFits (tests before ++ tests w.formula) a.0 (subst (λ l. AllByRecursion TestFits l) a.1 x.1)))

owing_conj : (d n : ℕ) → EachOwes Tallied Fits (of.Conj d n) (conj_rules d n)
owing_conj d n =
    begun_owes Tallied Fits (of.Unit' d n) (of.Conj d n) (P of.MoreAnds ∷ []) (λ u. part (of.MoreAnd d u.count u.formula)) (unit_rules d n) (owing_unit d n)
    (λ w before h v a x. (h (front_fits w v a x), x))

-- what is in the first of two blocks fits where what is in both does, and what is in the second
first_of_two : {k l : ℕ} (ss us : List SendData) (cs ds : List CondData) (vs ws : List (List WaitedData)) → k ≤ l
    → AllByRecursion SendIsInLimits (ss ++ us) → AllByRecursion CondFits (cs ++ ds) → AllByRecursion WaitFits (vs ++ ws)
    → (k ≤ l) × AllByRecursion SendIsInLimits ss × AllByRecursion CondFits cs × AllByRecursion WaitFits vs
first_of_two ss us cs ds vs ws nests x y z = (nests, all_front SendIsInLimits ss us x, all_front CondFits cs ds y, all_front WaitFits vs ws z)

second_of_two : {k l : ℕ} (ss us : List SendData) (cs ds : List CondData) (vs ws : List (List WaitedData)) → k ≤ l
    → AllByRecursion SendIsInLimits (ss ++ us) → AllByRecursion CondFits (cs ++ ds) → AllByRecursion WaitFits (vs ++ ws)
    → (k ≤ l) × AllByRecursion SendIsInLimits us × AllByRecursion CondFits ds × AllByRecursion WaitFits ws
second_of_two ss us cs ds vs ws nests x y z = (nests, all_back SendIsInLimits ss us x, all_back CondFits cs ds y, all_back WaitFits vs ws z)

owing : (n : Part) → EachOwes Tallied Fits n (rules n)
owing (of.File classes objects sets) =
    (λ _ _ _ _ _ _ _ _ _ a _ ps _ ss _ file _ x. let f = x.0 in (((((((tt, not_reached MAX_CLASSES classes Many (omega (arith, f))), refl), refl), tt), ((x.3).0).0), (((x.3).0).1, ((x.3).0).2)), (omega (arith, f), x.1, x.2, (x.3).1)))
    ⨾ (λ _ _ _ _ _ _ _ _ _ _ _ _ _ _ _ file _ x. let f = x.1 in ((((((tt, not_reached MAX_OBJECTS objects Many (omega (arith, f))), refl), refl), refl), refl), (x.0, omega (arith, f), x.2, (x.3).1)))
    ⨾ (λ _ _ _ _ _ _ _ _ _ _ _ _ ms _ _ _ _ file _ x. let f = x.2 in (((((((tt, not_reached MAX_SETS sets Many (omega (arith, f))), refl), refl), refl), (x.3).0), refl), (x.0, x.1, omega (arith, f), (x.3).1)))
    ⨾ tt
owing of.ClassMark = (λ _ _ _ _ _ _ x. ((tt, refl), refl), tt)
owing of.ClassParamList = (λ _ _ _ _ _ _ first _ others _ x. ((((tt, refl), refl), omega arith), omega (arith, x)), tt)
owing (of.Sort n) = owing_sort n
owing (of.ClassParam n) = begun_owes Tallied Fits (of.Sort n) (of.ClassParam n) (B Name ∷ B Equals ∷ P of.Literals ∷ []) class_param (kind_rules n) (owing_sort n) (λ w before h _ _ _ _ _ _ l _ x. (((h x, refl), refl), tt))
owing (of.MoreClassParam n) = (λ _ _ _ first _ others _ x. (((tt, refl), omega (arith, x)), omega (arith, x)), tt)
owing of.Literal = (λ _ _ _ x. (tt, refl), (λ _ _ _ x. (tt, refl), tt))
owing (of.State n) = (
  λ _ _ _ _ _ _ _ _ _ marks _ actions _ others _ x. let f = x.0 in ((((((tt, not_reached MAX_STATES n Many (omega (arith, f))), refl), refl), tt), (x.1).0), (omega (arith, f), (x.1).1)),
  tt,
)
owing of.StateMark = (λ _ _ _ m _ x. ((tt, refl), tt), tt)
owing of.FirstMark = (λ _ _ _ m _ x. ((tt, refl), tt), (λ _ _ _ m _ x. ((tt, refl), tt), tt))
owing of.InitialMark = (λ _ _ _ _ _ _ x. ((tt, refl), refl), tt)
owing of.DeadMark = (λ _ _ _ _ _ _ x. ((tt, refl), refl), tt)
owing (of.Action n) = (
  λ _ _ _ _ _ _ _ _ _ params _ body _ others _ x. let f = x.0 in ((((((tt, not_reached MAX_ACTIONS n Many (omega (arith, f))), refl), refl), ((x.1).0).0), ((x.1).0).1), (omega (arith, f), (x.1).1)),
  tt,
)
owing of.ActionParamList = (λ _ _ _ first _ others _ _ _ _ x. ((((tt, refl), omega arith), omega (arith, x)), refl), tt)
owing (of.ActionParam n) = begun_owes Tallied Fits (of.Sort n) (of.ActionParam n) (B Name ∷ P of.Defaults ∷ []) action_param (kind_rules n) (owing_sort n) (λ w before h _ _ _ l _ x. ((h x, refl), tt))
owing (of.MoreActionParam n) = (λ _ _ _ first _ others _ x. (((tt, refl), omega (arith, x)), omega (arith, x)), tt)
owing of.Default = (λ _ _ _ l _ x. ((tt, refl), tt), tt)
owing (of.Block d) =
    (λ _ _ _ _ _ _ args _ every _ _ _ _ block _ x. let f = x.0 in ((((((tt, refl), refl), (x.1).0), tt), refl), (omega (arith, f), (x.1).1, x.2, x.3)))
    ⨾ (λ _ _ _ branch k block _ x. let f = x.0 in (
      ((tt, not_reached MAX_IFS d Deep (omega (arith, f, k))), first_of_two (instr_sends branch) (block_sends (block_of block)) (instr_conditions branch) (block_conditions (block_of block)) (instr_waits branch) (block_waits (block_of block)) (omega (arith, f)) x.1 x.2 x.3),
      second_of_two (instr_sends branch) (block_sends (block_of block)) (instr_conditions branch) (block_conditions (block_of block)) (instr_waits branch) (block_waits (block_of block)) (omega (arith, f)) x.1 x.2 x.3,
    ))
    ⨾ (λ _ _ _ _ _ _ _ _ _ value _ block _ x. let f = x.0 in (((((tt, refl), refl), refl), tt), (omega (arith, f), x.1, x.2, x.3)))
    ⨾ (λ _ _ _ _ _ _ block _ x. let f = x.0 in (((tt, refl), refl), (omega (arith, f), x.1, x.2, x.3)))
    ⨾ (λ _ _ _ _ _ _ _ _ _ _ _ _ _ _ _ block _ x. let f = x.0 in ((((((tt, refl), refl), refl), refl), refl), (omega (arith, f), x.1, x.2, x.3)))
    ⨾ (λ _ _ _ _ _ _ first _ others _ _ _ _ block _ x. let f = x.0 in let few = (x.3).0 in
    ((((((tt, refl), refl), omega arith), omega (arith, few)), refl), (omega (arith, f), x.1, x.2, (x.3).1)))
    ⨾ (λ _ _ _ _ _ _ _ _ _ _ _ _ block _ x. let f =
    x.0 in (((((tt, refl), refl), refl), refl), (omega (arith, f), x.1, x.2, x.3)))
    ⨾ (λ _ _ _ _ _ _ _ _ _ _ _ _ block _ x. let f =
    x.0 in (((((tt, refl), refl), refl), refl), (omega (arith, f), x.1, x.2, x.3)))
    ⨾ tt
owing of.ArgList = (λ _ _ _ first _ others _ _ _ _ x. ((((tt, refl), omega arith), omega (arith, x)), refl), tt)
owing (of.Passed n) = (λ _ _ _ _ _ _ value _ x. (((tt, not_reached MAX_ARGUMENTS n Many x), refl), tt), tt)
owing (of.MorePassedArg n) = (λ _ _ _ first _ others _ x. (((tt, refl), omega (arith, x)), omega (arith, x)), tt)
owing (of.Waited n) = (λ _ _ _ x. (tt, not_reached MAX_WAITED n Many x), (λ _ _ _ _ _ _ x. ((tt, not_reached MAX_WAITED n Many x), refl), tt))
owing (of.MoreWaited n) = (λ _ _ _ first _ others _ x. (((tt, refl), omega (arith, x)), omega (arith, x)), tt)
owing of.Every = (λ _ _ _ x. (tt, refl), tt)
owing of.Arg = (λ _ _ _ x. (tt, refl), (λ _ _ _ x. (tt, refl), (λ _ _ _ x. (tt, refl), tt)))
owing (of.Branch d) = (
  λ _ _ _ c k _ _ _ arms _ x. let f = x.0 in let g = ((x.2).0).0 in (
    (((tt, refl), (omega (arith, k, g), ((x.2).0).1)), refl),
    (
      first_of_two (block_sends (block_of arms.yes_part)) (block_sends (block_of arms.no_part)) (block_conditions (block_of arms.yes_part)) (block_conditions (block_of arms.no_part)) (block_waits (block_of arms.yes_part)) (block_waits (block_of arms.no_part)) (omega (arith, f)) x.1 (x.2).1 x.3,
      second_of_two (block_sends (block_of arms.yes_part)) (block_sends (block_of arms.no_part)) (block_conditions (block_of arms.yes_part)) (block_conditions (block_of arms.no_part)) (block_waits (block_of arms.yes_part)) (block_waits (block_of arms.no_part)) (omega (arith, f)) x.1 (x.2).1 x.3,
    ),
  ),
  tt,
)
owing (of.Arm d) = (λ _ _ _ first _ second _ _ _ _ x. ((((tt, refl), x.0), x.1), refl), tt)
owing (of.Else d) = (λ _ _ _ block _ x. ((tt, refl), x), tt)
owing (of.Cond d n) =
    begun_owes Tallied Fits (of.Conj d n) (of.Cond d n) (P of.MoreOrs ∷ []) (λ u. part (of.MoreOr d u.count u.formula)) (conj_rules d n) (owing_conj d n)
    (λ w before h v a x. (h (front_fits w v a x), x))
owing (of.Conj d n) = owing_conj d n
owing (of.Unit' d n) = owing_unit d n
owing (of.MoreAnd d n left) = (λ _ _ _ w _ v a x. (((tt, refl), next_fits left w v a x), x), tt)
owing (of.MoreOr d n left) = (λ _ _ _ w _ v a x. (((tt, refl), next_fits left w v a x), x), tt)
owing of.Sense = (λ _ _ _ x. (tt, refl), (λ _ _ _ x. (tt, refl), tt))
owing of.StateList = (λ _ _ _ x. (tt, refl), (λ _ _ _ list _ _ _ _ x. (((tt, refl), x), refl), tt))
owing of.Names = (λ _ _ _ others _ x. ((tt, refl), omega (arith, x)), tt)
owing (of.MoreName n) = (λ _ _ _ _ _ _ others _ x. (((tt, refl), not_reached MAX_NAMES n Many (omega (arith, x))), omega (arith, x)), tt)
owing of.Members = (λ _ _ _ others _ x. ((tt, refl), omega (arith, x)), tt)
owing (of.MoreMember n) = (λ _ _ _ _ _ _ others _ x. (((tt, refl), not_reached MAX_MEMBERS n Many (omega (arith, x))), omega (arith, x)), tt)

pub within_limits : WithinLimits
within_limits ts file = (
  λ d. (fine ts, plain_fine ts, d, fine_not_deep ts, file_fits ts file d),
  λ h.
      let e = unmarked h.0 (part_paid Tallied Fits part_tallied owing (of.File 0 0 0) h.0 file h.2 h.3 h.4) in
      let all = e ∙ ap fine h.1 in
      subst (λ ms. Derives (of.File 0 0 0) (P of.Files ∷ []) (part (of.File 0 0 0)) ms file) all h.2,
)
