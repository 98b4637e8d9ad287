-- What is kept by the grammar's ways to write each part, for any tokens.
use Rattle.std.proofs.Common.{◌≡◌, List, [], ◌∷◌, ◌++◌, sym, subst, map, Option, Some, None, IfSome, inl, inr}
use Rattle.sml_tree.specs.Piece.{Piece}
use Rattle.sml_tree.specs.Form.{Bone, B, P, Form, gives, needs, calls, part, ◌>>=◌, Mark, Part, family, Value}
use Rattle.sml_tree.specs.Grammar.{Rule, rules, empty, begun}
use Rattle.sml_tree.proofs.Marks.{AllMarks, all_front, all_back}
use Rattle.sml_tree.specs.Derive.{Marked, OneOf, Derives, nothing, token, left_out, written}

-- nothing is known
abbrev pub Anything : (n : Part) → Value n → Type 0
Anything n v = Unit {0}

-- Known is known of all parts, Stands is what the marks may be, and Kept is to be shown.
module _ (Known : (n : Part) → Value n → Type 0) (Stands : Mark → Type 0) (Kept : (n : Part) → Value n → Type 0) where
  -- Where Kept holds of the parts of a form, K holds of what the form is worth. A token has three arguments (itself,
  -- its kind, its mark), and a part has three (its worth, what is known of it, what is kept by it).
  abbrev pub Keeps : {A : Type 0} (bones : List Bone) → Form A bones → (A → Type 0) → Type 0
  Keeps [] (gives v) K = K v
  Keeps (_ ∷ bones) (needs kind mark f) K = (t : Piece) → t.kind ≡ kind → Stands mark → Keeps bones (f t) K
  Keeps (_ ∷ bones) (calls n f) K = (w : Value n) → Known n w → Kept n w → Keeps bones (f w) K

  abbrev pub EachKeeps : (n : Part) → List (Rule n) → Type 0
  EachKeeps n [] = Unit {0}
  EachKeeps n (r ∷ rs) = Keeps (B r.kind ∷ r.bones) (needs r.kind r.mark r.rest) (Kept n) × EachKeeps n rs

  abbrev pub Keeping : Part → Type 0
  Keeping n = IfSome (empty n) (Kept n) × EachKeeps n (rules n)

  -- what holds of everything
  always : {A : Type 0} (bones : List Bone) (form : Form A bones) (K : A → Type 0) → ((v : A) → K v) → Keeps bones form K
  always [] (gives v) K h = h v
  always (_ ∷ bones) (needs kind mark f) K h = λ t e p. always bones (f t) K h
  always (_ ∷ bones) (calls n f) K h = λ w k x. always bones (f w) K h

  each_always : (n : Part) (rs : List (Rule n)) → ((v : Value n) → Kept n v) → EachKeeps n rs
  each_always n [] h = tt
  each_always n (r ∷ rs) h = (always (B r.kind ∷ r.bones) (needs r.kind r.mark r.rest) (Kept n) h, each_always n rs h)

  some_always : (n : Part) (o : Option (Value n)) → ((v : Value n) → Kept n v) → IfSome o (Kept n)
  some_always n None h = tt
  some_always n (Some v) h = h v

  pub free_keeping : (n : Part) → ((v : Value n) → Kept n v) → Keeping n
  free_keeping n h = (some_always n (empty n) h, each_always n (rules n) h)

  -- a form and what is behind it
  bound : (n m : Part) (more : List Bone) (k : Value n → Form (Value m) more) (bones : List Bone) (form : Form (Value n) bones) (K : Value n → Type 0) (L : Value m → Type 0)
      → Keeps bones form K → ((w : Value n) → K w → Keeps more (k w) L) → Keeps (bones ++ more) (form >>= k) L
  bound n m more k [] (gives v) K L s h = h v s
  bound n m more k (_ ∷ bones) (needs kind mark f) K L s h = λ t e p. bound n m more k bones (f t) K L (s t e p) h
  bound n m more k (_ ∷ bones) (calls q f) K L s h = λ w y x. bound n m more k bones (f w) K L (s w y x) h

  -- rules that begin with those of another part
  pub begun_keeping : (n m : Part) (more : List Bone) (k : Value n → Form (Value m) more) (rs : List (Rule n)) → EachKeeps n rs
      → ((w : Value n) → Kept n w → Keeps more (k w) (Kept m)) → EachKeeps m (map (begun n m k) rs)
  begun_keeping n m more k [] each h = tt
  begun_keeping n m more k (r ∷ rs) each h =
      (bound n m more k (B r.kind ∷ r.bones) (needs r.kind r.mark r.rest) (Kept n) (Kept m) each.0 h, begun_keeping n m more k rs each.1 h)

  one_keeps : (n : Part) (rs : List (Rule n)) (r : Rule n) → OneOf rs r → EachKeeps n rs → Keeps (B r.kind ∷ r.bones) (needs r.kind r.mark r.rest) (Kept n)
  one_keeps n [] r one each = absurd one
  one_keeps n (x ∷ rs) r (inl e) each = let Q : Rule n → Type 0 = λ y. Keeps (B y.kind ∷ y.bones) (needs y.kind y.mark y.rest) (Kept n) in subst Q (sym e) each.0
  one_keeps n (x ∷ rs) r (inr one) each = one_keeps n rs r one each.1

  module _ (known : (n : Part) (ms : List Marked) (v : Value n) → Derives n (P (family n) ∷ []) (part n) ms v → Known n v) (keeping : (n : Part) → Keeping n) where
    -- it is kept by all that is derived
    pub kept : (g : Part) (bones : List Bone) (form : Form (Value g) bones) (ms : List Marked) (v : Value g) → Derives g bones form ms v
        → AllMarks Stands ms → (K : Value g → Type 0) → Keeps bones form K → K v
    kept g bones form ms v (nothing _ _) all K s = s
    kept g bones form ms v (token _ bones' kind mark f t ts _ e d) all K s = kept g bones' (f t) ts v d all.1 K (s t e all.0)
    kept g bones form ms v (left_out _ n bones' f w ts _ e d) all K s =
        kept g bones' (f w) ts v d all K (s w (known n [] w (left_out n n [] gives w [] w e (nothing n w))) (subst (λ (o : Option (Value n)). IfSome o (Kept n)) e (keeping n).0))
    kept g bones form ms v (written _ n bones' f rule w us ts _ one inner d) all K s =
        let good = kept n (B rule.kind ∷ rule.bones) (needs rule.kind rule.mark rule.rest) us w inner (all_front (λ m. Stands m.mark) us ts all) (Kept n) (one_keeps n (rules n) rule one (keeping n).1) in
        kept g bones' (f w) ts v d (all_back (λ m. Stands m.mark) us ts all) K (s w (known n (us ++ []) w (written n n [] gives rule w us [] w one inner (nothing n w))) good)

    pub part_kept : (n : Part) (ms : List Marked) (v : Value n) → Derives n (P (family n) ∷ []) (part n) ms v → AllMarks Stands ms → Kept n v
    part_kept n ms v d all = kept n (P (family n) ∷ []) (part n) ms v d all (Kept n) (λ w k x. x)
