-- What holds of all that the grammar derives from the tokens of a text, by its ways to write each part.
use Rattle.std.proofs.Common.{◌≡◌, List, [], ◌∷◌, ◌++◌, sym, subst, map, Option, Some, None, IfSome, inl, inr}
use Rattle.std.specs.List.{AllByRecursion}
use Rattle.sml_tree.specs.Piece.{Piece}
use Rattle.sml_tree.specs.Form.{Bone, B, P, Form, gives, needs, calls, part, ◌>>=◌, Part, family, Value}
use Rattle.sml_tree.specs.Grammar.{Rule, rules, empty, begun}
use Rattle.sml_tree.specs.Derive.{Marked, OneOf, Derives, nothing, token, left_out, written}
use Rattle.sml_tree.proofs.Marks.{all_front, all_back}
use Rattle.sml_round_trip.proofs.Real.{IsReal}

-- the tokens of a text
abbrev pub AllReal : List Marked → Type 0
AllReal ms = AllByRecursion (λ m. IsReal m.token) ms

module _ (Held : (n : Part) → Value n → Type 0) where
  -- Where Held holds of the parts of a form, K holds of what the form is worth. A token has three arguments (itself,
  -- its kind, that it is of a text), and a part has two (its worth, what holds of it).
  abbrev pub Holds : {A : Type 0} (bones : List Bone) → Form A bones → (A → Type 0) → Type 0
  Holds [] (gives v) K = K v
  Holds (_ ∷ bones) (needs kind mark f) K = (t : Piece) → t.kind ≡ kind → IsReal t → Holds bones (f t) K
  Holds (_ ∷ bones) (calls n f) K = (w : Value n) → Held n w → Holds bones (f w) K

  abbrev pub EachHolds : (n : Part) → List (Rule n) → Type 0
  EachHolds n [] = Unit {0}
  EachHolds n (r ∷ rs) = Holds (B r.kind ∷ r.bones) (needs r.kind r.mark r.rest) (Held n) × EachHolds n rs

  abbrev pub Holding : Part → Type 0
  Holding n = IfSome (empty n) (Held n) × EachHolds n (rules n)

  -- what holds of everything
  always : {A : Type 0} (bones : List Bone) (form : Form A bones) (K : A → Type 0) → ((v : A) → K v) → Holds bones form K
  always [] (gives v) K h = h v
  always (_ ∷ bones) (needs kind mark f) K h = λ t e r. always bones (f t) K h
  always (_ ∷ bones) (calls n f) K h = λ w x. always bones (f w) K h

  each_always : (n : Part) (rs : List (Rule n)) → ((v : Value n) → Held n v) → EachHolds n rs
  each_always n [] h = tt
  each_always n (r ∷ rs) h = (always (B r.kind ∷ r.bones) (needs r.kind r.mark r.rest) (Held n) h, each_always n rs h)

  some_always : (n : Part) (o : Option (Value n)) → ((v : Value n) → Held n v) → IfSome o (Held n)
  some_always n None h = tt
  some_always n (Some v) h = h v

  pub free_holding : (n : Part) → ((v : Value n) → Held n v) → Holding n
  free_holding n h = (some_always n (empty n) h, each_always n (rules n) h)

  -- a form and what is behind it
  bound : (n m : Part) (more : List Bone) (k : Value n → Form (Value m) more) (bones : List Bone) (form : Form (Value n) bones) (K : Value n → Type 0) (L : Value m → Type 0)
      → Holds bones form K → ((w : Value n) → K w → Holds more (k w) L) → Holds (bones ++ more) (form >>= k) L
  bound n m more k [] (gives v) K L s h = h v s
  bound n m more k (_ ∷ bones) (needs kind mark f) K L s h = λ t e r. bound n m more k bones (f t) K L (s t e r) h
  bound n m more k (_ ∷ bones) (calls q f) K L s h = λ w x. bound n m more k bones (f w) K L (s w x) h

  -- rules that begin with those of another part
  pub begun_holding : (n m : Part) (more : List Bone) (k : Value n → Form (Value m) more) (rs : List (Rule n)) → EachHolds n rs
      → ((w : Value n) → Held n w → Holds more (k w) (Held m)) → EachHolds m (map (begun n m k) rs)
  begun_holding n m more k [] each h = tt
  begun_holding n m more k (r ∷ rs) each h =
      (bound n m more k (B r.kind ∷ r.bones) (needs r.kind r.mark r.rest) (Held n) (Held m) each.0 h, begun_holding n m more k rs each.1 h)

  one_holds : (n : Part) (rs : List (Rule n)) (r : Rule n) → OneOf rs r → EachHolds n rs → Holds (B r.kind ∷ r.bones) (needs r.kind r.mark r.rest) (Held n)
  one_holds n [] r one each = absurd one
  one_holds n (x ∷ rs) r (inl e) each = let Q : Rule n → Type 0 = λ y. Holds (B y.kind ∷ y.bones) (needs y.kind y.mark y.rest) (Held n) in subst Q (sym e) each.0
  one_holds n (x ∷ rs) r (inr one) each = one_holds n rs r one each.1

  module _ (holding : (n : Part) → Holding n) where
    held : (g : Part) (bones : List Bone) (form : Form (Value g) bones) (ms : List Marked) (v : Value g) → Derives g bones form ms v
        → AllReal ms → (K : Value g → Type 0) → Holds bones form K → K v
    held g bones form ms v (nothing _ _) all K s = s
    held g bones form ms v (token _ bones' kind mark f t ts _ e d) all K s = held g bones' (f t) ts v d all.1 K (s t e all.0)
    held g bones form ms v (left_out _ n bones' f w ts _ e d) all K s =
        held g bones' (f w) ts v d all K (s w (subst (λ (o : Option (Value n)). IfSome o (Held n)) e (holding n).0))
    held g bones form ms v (written _ n bones' f rule w us ts _ one inner d) all K s =
        let good = held n (B rule.kind ∷ rule.bones) (needs rule.kind rule.mark rule.rest) us w inner (all_front (λ m. IsReal m.token) us ts all) (Held n) (one_holds n (rules n) rule one (holding n).1) in
        held g bones' (f w) ts v d (all_back (λ m. IsReal m.token) us ts all) K (s w good)

    -- it holds of a part
    pub part_held : (n : Part) (ms : List Marked) (v : Value n) → Derives n (P (family n) ∷ []) (part n) ms v → AllReal ms → Held n v
    part_held n ms v d all = held n (P (family n) ∷ []) (part n) ms v d all (Held n) (λ w x. x)
