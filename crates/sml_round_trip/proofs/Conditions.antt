-- Conditions are written as the table reads them, with no `not` and no bracket too deep.
use Rattle.std.proofs.Common.{◌≤◌, ℕ, ◌+◌, Bool, true, false, List, [], ◌∷◌, ◌++◌, refl, sym, subst, append-nil, append_assoc, codes, inl, inr, arith}
use Rattle.sml_text.specs.declared.source.Sign.TheVariants as sign
use Rattle.sml_tree.specs.declared.token_kind.TokenKind.TheVariants as kind
use Rattle.sml_tree.specs.declared.cond.Scope.{Scope}
use Rattle.sml_tree.specs.declared.cond.Scope.TheVariants as scope
use Rattle.sml_tree.specs.Syntax.{TestData, CondData, both, either, neither, test}
use Rattle.sml_tree.specs.Form as of
use Rattle.sml_tree.specs.Form.{Part, Value, P, part, Mark, Deep, Counted}
use Rattle.sml_tree.specs.Brackets.{is_or, is_chain, in_brackets, open_depth}
use Rattle.sml_tree.proofs.Marks.{not_reached}
use Rattle.sml_print.specs.Conditions.{states_text, sense_text, test_text, bracketed, cond_text}
use Rattle.sml_round_trip.specs.Writable.{IsWritableTest, IsWritableCond}
use Rattle.sml_round_trip.proofs.Says.{Edge, Anywhere, Wrote, Chosen, say_end, say_blank, say_part, say_last, wrote_by, wrote_none, chosen, chosen_wrote, begin}
use Rattle.sml_round_trip.proofs.Words.{say_word, say_name, say_sign}
use Rattle.sml_round_trip.proofs.Values.{states_wrote}
use Rattle.sml_tree.specs.declared.limits.TheConstants.{MAX_OPEN}

abbrev pub counted : CondData → ℕ → Counted
counted c count = record { formula = c; count = count }

-- ---- tests
sense_wrote : (negated : Bool) → Wrote false Anywhere of.Sense (sense_text negated) negated
sense_wrote false = wrote_by _ (inl refl) (say_blank refl refl (say_word (codes "in_state") kind.InState refl refl tt (λ rest e. refl) (λ at. refl) (say_blank refl refl say_end)))
sense_wrote true = wrote_by _ (inr (inl refl)) (say_blank refl refl (say_word (codes "not_in_state") kind.NotInState refl refl tt (λ rest e. refl) (λ at. refl) (say_blank refl refl say_end)))

sense_edge : (negated : Bool) (text more : List ℕ) → Edge ((sense_text negated ++ text) ++ more)
sense_edge false text more = refl
sense_edge true text more = refl

test_wrote : (d n : ℕ) (t : TestData) → IsWritableTest t → Chosen false Edge (of.Unit' d n) (test_text t) (counted (test t) (n + 1))
test_wrote d n t h = go t.scope
  where
    go : (s : Scope) → Chosen false Edge (of.Unit' d n) (test_text (record t { scope = s })) (counted (test (record t { scope = s })) (n + 1))
    go scope.One =
        chosen _ (inr (inr (inl refl)))
        (say_name t.name h.0 (λ more e. sense_edge t.negated (states_text t.states) more) (λ at. refl)
        (say_part (sense_wrote t.negated) (λ more e. tt) (say_last (states_wrote t.states h.1) refl)))
    go scope.All =
        chosen _ (inr (inr (inr (inl refl))))
        (say_word (codes "all_in") kind.AllIn refl refl tt (λ rest e. refl) (λ at. refl)
        (say_blank refl refl
        (say_name t.name h.0 (λ more e. sense_edge t.negated (states_text t.states) more) (λ at. refl)
        (say_part (sense_wrote t.negated) (λ more e. tt) (say_last (states_wrote t.states h.1) refl)))))
    go scope.Any =
        chosen _ (inr (inr (inr (inr (inl refl)))))
        (say_word (codes "any_in") kind.AnyIn refl refl tt (λ rest e. refl) (λ at. refl)
        (say_blank refl refl
        (say_name t.name h.0 (λ more e. sense_edge t.negated (states_text t.states) more) (λ at. refl)
        (say_part (sense_wrote t.negated) (λ more e. tt) (say_last (states_wrote t.states h.1) refl)))))

-- ---- chains
-- a unit
abbrev UnitMade : ℕ → ℕ → List ℕ → CondData → Type 0
UnitMade d n text c = (count : ℕ) × Chosen false Edge (of.Unit' d n) text (counted c count)

-- The front of a chain, from the left: what goes on behind it goes on from its formula and its count.
abbrev ConjMade : ℕ → ℕ → List ℕ → CondData → Type 0
ConjMade d n text c = (count : ℕ)
    × ((s : List ℕ) (v : Counted) → ((more : List ℕ) → Edge more → Edge (s ++ more)) → Wrote false Edge (of.MoreAnd d count c) s v → Chosen false Edge (of.Conj d n) (text ++ s) v)

abbrev CondMade : ℕ → ℕ → List ℕ → CondData → Type 0
CondMade d n text c = (count : ℕ)
    × ((s : List ℕ) (v : Counted) → ((more : List ℕ) → Edge more → Edge (s ++ more)) → Wrote false Edge (of.MoreOr d count c) s v → Chosen false Edge (of.Cond d n) (text ++ s) v)

conj_whole : (d n : ℕ) (text : List ℕ) (c : CondData) (x : ConjMade d n text c) → Chosen false Edge (of.Conj d n) text (counted c x.0)
conj_whole d n text c x = subst (λ t. Chosen false Edge (of.Conj d n) t (counted c x.0)) (append-nil text) (x.1 [] (counted c x.0) (λ more e. e) (wrote_none refl))

cond_whole : (d n : ℕ) (text : List ℕ) (c : CondData) (x : CondMade d n text c) → Chosen false Edge (of.Cond d n) text (counted c x.0)
cond_whole d n text c x = subst (λ t. Chosen false Edge (of.Cond d n) t (counted c x.0)) (append-nil text) (x.1 [] (counted c x.0) (λ more e. e) (wrote_none refl))

conj_of_unit : (d n : ℕ) (text : List ℕ) (c : CondData) → UnitMade d n text c → ConjMade d n text c
conj_of_unit d n text c x = (
  x.0,
  λ s v clear w. begin (of.Unit' d n) (of.Conj d n) (P of.MoreAnds ∷ []) (λ u. part (of.MoreAnd d u.count u.formula)) (counted c x.0) v (λ r one. one) x.1 clear (say_last w refl),
)

cond_of_conj : (d n : ℕ) (text : List ℕ) (c : CondData) → ConjMade d n text c → CondMade d n text c
cond_of_conj d n text c x = (
  x.0,
  λ s v clear w. begin (of.Conj d n) (of.Cond d n) (P of.MoreOrs ∷ []) (λ u. part (of.MoreOr d u.count u.formula)) (counted c x.0) v (λ r one. one) (conj_whole d n text c x) clear (say_last w refl),
)

-- in brackets
unit_of_cond : (d n : ℕ) (text : List ℕ) (c : CondData) → d + 1 ≤ MAX_OPEN → CondMade (d + 1) n text c → UnitMade d n (bracketed true text) c
unit_of_cond d n text c few x = (
  x.0,
  chosen _ (inr (inl refl))
      (say_sign sign.OpenBracket (not_reached MAX_OPEN d Deep few) (λ at. refl)
      (say_blank refl refl
      (say_part (chosen_wrote (cond_whole (d + 1) n text c x)) (λ more e. refl) (say_blank refl refl (say_sign sign.CloseBracket tt (λ at. refl) say_end))))),
)

-- behind `not`
unit_of_unit : (d n : ℕ) (text : List ℕ) (c : CondData) → d + 1 ≤ MAX_OPEN → UnitMade (d + 1) n text c → UnitMade d n (codes "not " ++ text) (neither c)
unit_of_unit d n text c few x = (
  x.0,
  chosen _ (inl refl) (say_word (codes "not") kind.Not refl refl (not_reached MAX_OPEN d Deep few) (λ rest e. refl) (λ at. refl) (say_blank refl refl (say_last (chosen_wrote x.1) refl))),
)

-- an operand of `and` more
one_and : (d n : ℕ) (s t : List ℕ) (a b : CondData) (x : ConjMade d n s a) → UnitMade d x.0 t b → ConjMade d n (s ++ (codes " and " ++ t)) (both a b)
one_and d n s t a b x y = (
  y.0,
  λ u v clear w. subst (λ l. Chosen false Edge (of.Conj d n) l v) (sym (append_assoc s (codes " and " ++ t) u))
      (x.1 (codes " and " ++ (t ++ u)) v (λ more e. refl)
      (wrote_by _ (inl refl)
      (say_blank refl refl (say_word (codes "and") kind.And refl refl tt (λ rest e. refl) (λ at. refl) (say_blank refl refl (say_part (chosen_wrote y.1) clear (say_last w refl))))))),
)

-- an operand of `or` more
one_or : (d n : ℕ) (s t : List ℕ) (a b : CondData) (x : CondMade d n s a) → ConjMade d x.0 t b → CondMade d n (s ++ (codes " or " ++ t)) (either a b)
one_or d n s t a b x y = (
  y.0,
  λ u v clear w. subst (λ l. Chosen false Edge (of.Cond d n) l v) (sym (append_assoc s (codes " or " ++ t) u))
      (x.1 (codes " or " ++ (t ++ u)) v (λ more e. refl)
      (wrote_by _ (inl refl)
      (say_blank refl refl (say_word (codes "or") kind.Or refl refl tt (λ rest e. refl) (λ at. refl) (say_blank refl refl (say_part (chosen_wrote (conj_whole d x.0 t b y)) clear (say_last w refl))))))),
)

-- ---- conditions
-- a condition as each of the three, where no more than sixteen are open
pub record Made (c : CondData) : Type 0 where
  pub as_cond : (d n : ℕ) → d + open_depth c ≤ MAX_OPEN → CondMade d n (cond_text c) c
  pub as_conj : (d n : ℕ) → d + in_brackets (is_or c) (open_depth c) ≤ MAX_OPEN → ConjMade d n (bracketed (is_or c) (cond_text c)) c
  pub as_unit : (d n : ℕ) → d + in_brackets (is_chain c) (open_depth c) ≤ MAX_OPEN → UnitMade d n (bracketed (is_chain c) (cond_text c)) c

pub made : (c : CondData) → IsWritableCond c → Made c
made (both a b) h =
    let x = made a h.0 in
    let y = made b h.1 in
    let conj : (d n : ℕ) → d + open_depth (both a b) ≤ MAX_OPEN → ConjMade d n (cond_text (both a b)) (both a b) =
    λ d n l. let front = x.as_conj d n (omega (arith, l)) in one_and d n _ _ a b front (y.as_unit d front.0 (omega (arith, l))) in
    record {
      as_cond = λ d n l. cond_of_conj d n _ (both a b) (conj d n l);
      as_conj = conj;
      as_unit = λ d n l. unit_of_cond d n _ (both a b) (omega (arith, l)) (cond_of_conj (d + 1) n _ (both a b) (conj (d + 1) n (omega (arith, l))));
    }
made (either a b) h =
    let x = made a h.0 in
    let y = made b h.1 in
    let cond : (d n : ℕ) → d + open_depth (either a b) ≤ MAX_OPEN → CondMade d n (cond_text (either a b)) (either a b) =
    λ d n l. let front = x.as_cond d n (omega (arith, l)) in one_or d n _ _ a b front (y.as_conj d front.0 (omega (arith, l))) in
    let unit : (d n : ℕ) → d + (open_depth (either a b) + 1) ≤ MAX_OPEN → UnitMade d n (bracketed true (cond_text (either a b))) (either a b) =
    λ d n l. unit_of_cond d n _ (either a b) (omega (arith, l)) (cond (d + 1) n (omega (arith, l))) in
    record {
      as_cond = cond;
      as_conj = λ d n l. conj_of_unit d n _ (either a b) (unit d n l);
      as_unit = unit;
    }
made (neither a) h =
    let x = made a h in
    let unit : (d n : ℕ) → d + open_depth (neither a) ≤ MAX_OPEN → UnitMade d n (cond_text (neither a)) (neither a) =
    λ d n l. unit_of_unit d n _ a (omega (arith, l)) (x.as_unit (d + 1) n (omega (arith, l))) in
    record {
      as_cond = λ d n l. cond_of_conj d n (cond_text (neither a)) (neither a) (conj_of_unit d n (cond_text (neither a)) (neither a) (unit d n l));
      as_conj = λ d n l. conj_of_unit d n _ (neither a) (unit d n l);
      as_unit = unit;
    }
made (test t) h =
    let unit : (d n : ℕ) → UnitMade d n (test_text t) (test t) = λ d n. (n + 1, test_wrote d n t h) in
    record {
      as_cond = λ d n l. cond_of_conj d n _ (test t) (conj_of_unit d n _ (test t) (unit d n));
      as_conj = λ d n l. conj_of_unit d n _ (test t) (unit d n);
      as_unit = λ d n l. unit d n;
    }

-- the condition of an `if`
pub cond_wrote : (c : CondData) → IsWritableCond c → open_depth c ≤ MAX_OPEN → (count : ℕ) × Wrote false Edge (of.Cond 0 0) (cond_text c) (counted c count)
cond_wrote c h few = let x = (made c h).as_cond 0 0 (omega (arith, few)) in (x.0, chosen_wrote (cond_whole 0 0 (cond_text c) c x))
