-- The table derives the conditions of the grammar's own shape.
use Rattle.std.proofs.Common.{◌≡◌, ℕ, ◌+◌, Bool, List, [], ◌∷◌, ◌++◌, refl, ap, sym, ◌∙◌, subst, append_assoc, append-nil, None, IsSome, inl, inr}
use Rattle.sml_tree.specs.declared.token_kind.TokenKind.TheVariants.{Name, Comma}
use Rattle.sml_tree.specs.declared.cond.Scope.{Scope}
use Rattle.sml_tree.specs.declared.cond.Scope.TheVariants as scope
use Rattle.sml_tree.specs.Syntax.{TestData, CondData, neither, test}
use Rattle.sml_tree.specs.Piece.{Piece}
use Rattle.sml_tree.specs.Form as of
use Rattle.sml_tree.specs.Form.{Bone, B, P, Form, gives, needs, calls, part, ◌>>=◌, Part, family, Value, Counted}
use Rattle.sml_tree.specs.Grammar.{empty, name, unit_rules, conj_rules}
use Rattle.sml_tree.specs.Condition.{AreNames, last_name, more_names, AreStates, bare, braced, IsSense, in_state, not_in_state, IsScope, of_one, of_all, of_any, IsTest, asked, IsCond, conj, cond_or_conj, IsConj, unit, conj_and_unit, IsUnit, not_unit, brackets, one_test}
use Rattle.sml_tree.specs.Laws.{IsTextOf, SameConditions}
use Rattle.sml_tree.proofs.Marks.{◌⨾◌}
use Rattle.sml_tree.proofs.Shows.{Closed, EachWay, begun_ways, free, holds, writes, writes_none, begun_writes}

-- ---- what the table derives is in the grammar's own shape
abbrev pub Shaped : (n : Part) → List Piece → Value n → Type 0
Shaped (of.Cond depth tests) ts v = IsCond ts v.formula
Shaped (of.Conj depth tests) ts v = IsConj ts v.formula
Shaped (of.Unit' depth tests) ts v = IsUnit ts v.formula
Shaped (of.MoreAnd depth tests left) ts v = (us : List Piece) → IsConj us left → IsConj (us ++ ts) v.formula
Shaped (of.MoreOr depth tests left) ts v = (us : List Piece) → IsCond us left → IsCond (us ++ ts) v.formula
Shaped of.Sense ts v = IsSense ts v
Shaped of.StateList ts v = AreStates ts v
Shaped of.Names ts v = AreNames ts v
Shaped (of.MoreName n) ts v = (t : Piece) → t.kind ≡ Name → AreNames (t ∷ ts) (name t ∷ v)
Shaped _ ts v = Unit {0}

abbrev of_scope : Scope → Piece → Bool → List (List ℕ) → TestData
of_scope s t b ns = record { scope = s; name = name t; negated = b; states = ns }

shaped_unit : (d n : ℕ) → EachWay Shaped (of.Unit' d n) (unit_rules d n)
shaped_unit d n =
    (λ t e w us x. not_unit t (us ++ []) w.formula e (subst (λ l. IsUnit l w.formula) (sym (append-nil us)) x))
    ⨾ (λ t e w us x t' e'. brackets t t' us w.formula e x e')
    ⨾ (λ t e s us x ns vs y. one_test (t ∷ (us ++ (vs ++ []))) (of_scope scope.One t s ns) (rw (append-nil vs) (asked [] us vs t scope.One s ns of_one e x y)))
    ⨾ (λ a i t e s us x ns vs y. one_test (a ∷ t ∷ (us ++ (vs ++ []))) (of_scope scope.All t s ns) (rw (append-nil vs) (asked (a ∷ []) us vs t scope.All s ns (of_all a i) e x y)))
    ⨾ (λ a i t e s us x ns vs y. one_test (a ∷ t ∷ (us ++ (vs ++ []))) (of_scope scope.Any t s ns) (rw (append-nil vs) (asked (a ∷ []) us vs t scope.Any s ns (of_any a i) e x y)))
    ⨾ tt

shaped_conj : (d n : ℕ) → EachWay Shaped (of.Conj d n) (conj_rules d n)
shaped_conj d n =
    begun_ways Shaped (of.Unit' d n) (of.Conj d n) (P of.MoreAnds ∷ []) (λ u. part (of.MoreAnd d u.count u.formula)) (unit_rules d n) (shaped_unit d n)
    (λ w us x v vs y. subst (λ l. IsConj (us ++ l) v.formula) (sym (append-nil vs)) (y us (unit us w.formula x)))

shaped : (n : Part) → Closed Shaped n
shaped (of.Cond d n) = (
  tt,
  begun_ways Shaped (of.Conj d n) (of.Cond d n) (P of.MoreOrs ∷ []) (λ u. part (of.MoreOr d u.count u.formula)) (conj_rules d n) (shaped_conj d n)
      (λ w us x v vs y. subst (λ l. IsCond (us ++ l) v.formula) (sym (append-nil vs)) (y us (conj us w.formula x))),
)
shaped (of.Conj d n) = (tt, shaped_conj d n)
shaped (of.Unit' d n) = (tt, shaped_unit d n)
shaped (of.MoreAnd d n left) = (
  λ us x. subst (λ l. IsConj l left) (sym (append-nil us)) x,
  (
    λ t e w us x v vs y ls z. subst (λ l. IsConj l v.formula) (append_assoc ls (t ∷ us) vs ∙ ap (λ l. ls ++ t ∷ (us ++ l)) (sym (append-nil vs)))
        (y (ls ++ t ∷ us) (conj_and_unit ls us t left w.formula z e x)),
    tt,
  ),
)
shaped (of.MoreOr d n left) = (
  λ us x. subst (λ l. IsCond l left) (sym (append-nil us)) x,
  (
    λ t e w us x v vs y ls z. subst (λ l. IsCond l v.formula) (append_assoc ls (t ∷ us) vs ∙ ap (λ l. ls ++ t ∷ (us ++ l)) (sym (append-nil vs)))
        (y (ls ++ t ∷ us) (cond_or_conj ls us t left w.formula z e x)),
    tt,
  ),
)
shaped of.Sense = (tt, (λ t e. in_state t e, (λ t e. not_in_state t e, tt)))
shaped of.StateList = (tt, (λ t e. bare t e, (λ t e w us x t' e'. braced t t' us w e x e', tt)))
shaped of.Names = (tt, (λ t e w us x. subst (λ l. AreNames (t ∷ l) (name t ∷ w)) (sym (append-nil us)) (x t e), tt))
shaped (of.MoreName n) = (
  λ t e. last_name t e,
  (λ c i u j w us x t e. subst (λ l. AreNames (t ∷ c ∷ u ∷ l) (name t ∷ name u ∷ w)) (sym (append-nil us)) (more_names t c (u ∷ us) (name u ∷ w) e i (x u j)), tt),
)
shaped n = free Shaped n (λ ts v. tt)

-- ---- what is in the grammar's own shape is derived by the table
empty_none : (n : Part) → empty n ≡ None → IsSome (empty n) → ⊥
empty_none n e h = absurd (cc (e, h))

abbrev counted : CondData → ℕ → Counted
counted c count = record { formula = c; count = count }

-- the first name of a list, and those behind it
abbrev FirstName : ℕ → List Piece → List (List ℕ) → Type 0
FirstName n ts names = (t : Piece) × (us : List Piece) × (others : List (List ℕ)) × (ts ≡ t ∷ us) × (names ≡ name t ∷ others) × (t.kind ≡ Name) × IsTextOf (of.MoreName n) us others

behind_comma : (n : ℕ) (comma : Piece) (ts : List Piece) (names : List (List ℕ)) → comma.kind ≡ Comma → FirstName (n + 1) ts names → IsTextOf (of.MoreName n) (comma ∷ ts) names
behind_comma n comma ts names i x = rw (x.3, x.4) (subst (λ l. IsTextOf (of.MoreName n) (comma ∷ x.0 ∷ l) (name x.0 ∷ x.2)) (append-nil x.1)
    (writes (of.MoreName n) _ (inl refl) comma i x.0 x.5 x.2 x.1 x.6))

names_written : (ts : List Piece) (names : List (List ℕ)) → AreNames ts names → (n : ℕ) → FirstName n ts names
names_written ts names (last_name t e) n = (t, [], [], refl, refl, e, writes_none (of.MoreName n) [] refl)
names_written ts names (more_names t comma us others e i h) n = (t, comma ∷ us, others, refl, refl, e, behind_comma n comma us others i (names_written us others h (n + 1)))

list_written : (ts : List Piece) (names : List (List ℕ)) → FirstName 1 ts names → IsTextOf of.Names ts names
list_written ts names x = rw (x.3, x.4) (subst (λ l. IsTextOf of.Names (x.0 ∷ l) (name x.0 ∷ x.2)) (append-nil x.1) (writes of.Names _ (inl refl) x.0 x.5 x.2 x.1 x.6))

states_written : (ts : List Piece) (names : List (List ℕ)) → AreStates ts names → IsTextOf of.StateList ts names
states_written ts names (bare t e) = writes of.StateList _ (inl refl) t e
states_written ts names (braced left right us list e h i) = writes of.StateList _ (inr (inl refl)) left e list us (list_written us list (names_written us list h 1)) right i

sense_written : (ts : List Piece) (negated : Bool) → IsSense ts negated → IsTextOf of.Sense ts negated
sense_written ts negated (in_state t e) = writes of.Sense _ (inl refl) t e
sense_written ts negated (not_in_state t e) = writes of.Sense _ (inr (inl refl)) t e

test_written : (d n : ℕ) (ts : List Piece) (x : TestData) → IsTest ts x → IsTextOf (of.Unit' d n) ts (counted (test x) (n + 1))
test_written d n ts x (asked us vs ws t s negated states h e i j) = go us s h
  where
    go : (us : List Piece) (s : Scope) → IsScope us s → IsTextOf (of.Unit' d n) (us ++ t ∷ (vs ++ ws)) (counted (test (of_scope s t negated states)) (n + 1))
    go us s of_one = subst (λ l. IsTextOf (of.Unit' d n) (t ∷ (vs ++ l)) (counted (test (of_scope scope.One t negated states)) (n + 1))) (append-nil ws)
        (writes (of.Unit' d n) _ (inr (inr (inl refl))) t e negated vs (sense_written vs negated i) states ws (states_written ws states j))
    go us s (of_all a k) = subst (λ l. IsTextOf (of.Unit' d n) (a ∷ t ∷ (vs ++ l)) (counted (test (of_scope scope.All t negated states)) (n + 1))) (append-nil ws)
        (writes (of.Unit' d n) _ (inr (inr (inr (inl refl)))) a k t e negated vs (sense_written vs negated i) states ws (states_written ws states j))
    go us s (of_any a k) = subst (λ l. IsTextOf (of.Unit' d n) (a ∷ t ∷ (vs ++ l)) (counted (test (of_scope scope.Any t negated states)) (n + 1))) (append-nil ws)
        (writes (of.Unit' d n) _ (inr (inr (inr (inr (inl refl))))) a k t e negated vs (sense_written vs negated i) states ws (states_written ws states j))

-- The front of a chain, from the left: what goes on behind it goes on from its formula and its count.
abbrev ConjFront : ℕ → ℕ → List Piece → CondData → Type 0
ConjFront d n ts c = (count : ℕ) × ((us : List Piece) (v : Counted) → IsTextOf (of.MoreAnd d count c) us v → IsTextOf (of.Conj d n) (ts ++ us) v)

abbrev CondFront : ℕ → ℕ → List Piece → CondData → Type 0
CondFront d n ts c = (count : ℕ) × ((us : List Piece) (v : Counted) → IsTextOf (of.MoreOr d count c) us v → IsTextOf (of.Cond d n) (ts ++ us) v)

conj_begun : (d n : ℕ) (ts : List Piece) (w : Counted) → IsTextOf (of.Unit' d n) ts w → (us : List Piece) (v : Counted) → IsTextOf (of.MoreAnd d w.count w.formula) us v → IsTextOf (of.Conj d n) (ts ++ us) v
conj_begun d n ts w s us v h = subst (λ l. IsTextOf (of.Conj d n) (ts ++ l) v) (append-nil us)
    (begun_writes (of.Unit' d n) (of.Conj d n) (P of.MoreAnds ∷ []) (λ u. part (of.MoreAnd d u.count u.formula)) (empty_none (of.Unit' d n) refl) (λ r one. one) ts w s v us h)

cond_begun : (d n : ℕ) (ts : List Piece) (w : Counted) → IsTextOf (of.Conj d n) ts w → (us : List Piece) (v : Counted) → IsTextOf (of.MoreOr d w.count w.formula) us v → IsTextOf (of.Cond d n) (ts ++ us) v
cond_begun d n ts w s us v h = subst (λ l. IsTextOf (of.Cond d n) (ts ++ l) v) (append-nil us)
    (begun_writes (of.Conj d n) (of.Cond d n) (P of.MoreOrs ∷ []) (λ u. part (of.MoreOr d u.count u.formula)) (empty_none (of.Conj d n) refl) (λ r one. one) ts w s v us h)

conj_whole : (d n : ℕ) (ts : List Piece) (c : CondData) (front : ConjFront d n ts c) → IsTextOf (of.Conj d n) ts (counted c front.0)
conj_whole d n ts c front = subst (λ l. IsTextOf (of.Conj d n) l (counted c front.0)) (append-nil ts) (front.1 [] (counted c front.0) (writes_none (of.MoreAnd d front.0 c) (counted c front.0) refl))

cond_whole : (d n : ℕ) (ts : List Piece) (c : CondData) (front : CondFront d n ts c) → IsTextOf (of.Cond d n) ts (counted c front.0)
cond_whole d n ts c front = subst (λ l. IsTextOf (of.Cond d n) l (counted c front.0)) (append-nil ts) (front.1 [] (counted c front.0) (writes_none (of.MoreOr d front.0 c) (counted c front.0) refl))

mutual
  unit_written : (ts : List Piece) (c : CondData) → IsUnit ts c → (d n : ℕ) → (count : ℕ) × IsTextOf (of.Unit' d n) ts (counted c count)
  unit_written ts c (not_unit t us u e h) d n =
      let x = unit_written us u h (d + 1) n in
      (x.0, subst (λ l. IsTextOf (of.Unit' d n) (t ∷ l) (counted (neither u) x.0)) (append-nil us) (writes (of.Unit' d n) _ (inl refl) t e (counted u x.0) us x.1))
  unit_written ts c (brackets left right us u e h i) d n =
      let x = cond_front us u h (d + 1) n in
      (x.0, writes (of.Unit' d n) _ (inr (inl refl)) left e (counted u x.0) us (cond_whole (d + 1) n us u x) right i)
  unit_written ts c (one_test us x h) d n = (n + 1, test_written d n us x h)

  conj_front : (ts : List Piece) (c : CondData) → IsConj ts c → (d n : ℕ) → ConjFront d n ts c
  conj_front ts c (unit us u h) d n = let x = unit_written us u h d n in (x.0, conj_begun d n us (counted u x.0) x.1)
  conj_front ts c (conj_and_unit us vs t l r h e i) d n =
      let x = conj_front us l h d n in
      let y = unit_written vs r i d x.0 in (
        y.0,
        λ ws v s. subst (λ k. IsTextOf (of.Conj d n) k v) (sym (append_assoc us (t ∷ vs) ws)) (x.1 (t ∷ (vs ++ ws)) v
            (subst (λ k. IsTextOf (of.MoreAnd d x.0 l) (t ∷ (vs ++ k)) v) (append-nil ws) (writes (of.MoreAnd d x.0 l) _ (inl refl) t e (counted r y.0) vs y.1 v ws s))),
      )

  cond_front : (ts : List Piece) (c : CondData) → IsCond ts c → (d n : ℕ) → CondFront d n ts c
  cond_front ts c (conj us u h) d n = let x = conj_front us u h d n in (x.0, cond_begun d n us (counted u x.0) (conj_whole d n us u x))
  cond_front ts c (cond_or_conj us vs t l r h e i) d n =
      let x = cond_front us l h d n in
      let y = conj_front vs r i d x.0 in (
        y.0,
        λ ws v s. subst (λ k. IsTextOf (of.Cond d n) k v) (sym (append_assoc us (t ∷ vs) ws)) (x.1 (t ∷ (vs ++ ws)) v
            (subst (λ k. IsTextOf (of.MoreOr d x.0 l) (t ∷ (vs ++ k)) v) (append-nil ws) (writes (of.MoreOr d x.0 l) _ (inl refl) t e (counted r y.0) vs (conj_whole d x.0 vs r y) v ws s))),
      )

pub same_conditions : SameConditions
same_conditions depth tests ts c = (
  λ h. holds Shaped shaped (of.Cond depth tests) ts (counted c h.0) h.1,
  λ h. let x = cond_front ts c h depth tests in (x.0, cond_whole depth tests ts c x),
)
