-- What holds of all that the grammar derives, by its ways to write each part.
use Rattle.std.proofs.Common.{◌≡◌, List, [], ◌∷◌, ◌++◌, refl, ap, sym, ◌∙◌, subst, append_assoc, append-nil, map, Option, Some, None, IfSome, IsSome, ◌⊎◌, inl, inr}
use Rattle.sml_tree.specs.Piece.{Piece}
use Rattle.sml_tree.specs.Form.{Bone, B, P, Form, gives, needs, calls, part, ◌>>=◌, Part, family, Value}
use Rattle.sml_tree.specs.Grammar.{Rule, rules, empty, begun}
use Rattle.sml_tree.specs.Derive.{Marked, marked, plain, OneOf, Derives, nothing, token, left_out, written}
use Rattle.sml_tree.specs.Laws.{IsTextOf}

pub plain_append : (ms ns : List Marked) → plain (ms ++ ns) ≡ plain ms ++ plain ns
plain_append [] ns = refl
plain_append (m ∷ ms) ns = ap (λ l. m.token ∷ l) (plain_append ms ns)

-- what is behind a form is derived behind it
pub joined : (n : Part) (bones : List Bone) (f : Form (Value n) bones) (us : List Marked) (w : Value n) → Derives n bones f us w
    → (g : Part) (more : List Bone) (k : Value n → Form (Value g) more) (ms : List Marked) (v : Value g)
    → Derives g more (k w) ms v → Derives g (bones ++ more) (f >>= k) (us ++ ms) v
joined n bones f us w (nothing _ _) g more k ms v d = d
joined n bones f us w (token _ bones' kind mark f' t us' _ e d') g more k ms v d =
    token g (bones' ++ more) kind mark (λ x. f' x >>= k) t (us' ++ ms) v e (joined n bones' (f' t) us' w d' g more k ms v d)
joined n bones f us w (left_out _ m bones' f' x us' _ e d') g more k ms v d =
    left_out g m (bones' ++ more) (λ y. f' y >>= k) x (us' ++ ms) v e (joined n bones' (f' x) us' w d' g more k ms v d)
joined n bones f us w (written _ m bones' f' rule x us1 us2 _ e inner d') g more k ms v d =
    let Q : List Marked → Type 0 = λ all. Derives g (P (family m) ∷ (bones' ++ more)) (calls m (λ y. f' y >>= k)) all v in
    subst Q (sym (append_assoc us1 us2 ms)) (written g m (bones' ++ more) (λ y. f' y >>= k) rule x us1 (us2 ++ ms) v e inner (joined n bones' (f' x) us2 w d' g more k ms v d))

-- a part's text in front of what is behind it
pub called : (g n : Part) (bones : List Bone) (f : Value n → Form (Value g) bones) (w : Value n) (us ms : List Marked) (v : Value g) → Derives n (P (family n) ∷ []) (part n) us w
    → Derives g bones (f w) ms v → Derives g (P (family n) ∷ bones) (calls n f) (us ++ ms) v
called g n bones f w us ms v d e = joined n (P (family n) ∷ []) (part n) us w d g bones f ms v e

-- a statement about texts of parts
module _ (Good : (n : Part) → List Piece → Value n → Type 0) where
  -- where it holds of the parts of a form, K holds of what the form derives
  abbrev pub Shows : {A : Type 0} (bones : List Bone) → Form A bones → (List Piece → A → Type 0) → Type 0
  Shows [] (gives v) K = K [] v
  Shows (_ ∷ bones) (needs kind mark f) K = (t : Piece) → t.kind ≡ kind → Shows bones (f t) (λ ts v. K (t ∷ ts) v)
  Shows (_ ∷ bones) (calls n f) K = (w : Value n) (us : List Piece) → Good n us w → Shows bones (f w) (λ ts v. K (us ++ ts) v)

  abbrev pub EachWay : (n : Part) → List (Rule n) → Type 0
  EachWay n [] = Unit {0}
  EachWay n (r ∷ rs) = Shows (B r.kind ∷ r.bones) (needs r.kind r.mark r.rest) (Good n) × EachWay n rs

  -- it holds of a part where it holds of the parts in it
  abbrev pub Closed : Part → Type 0
  Closed n = IfSome (empty n) (Good n []) × EachWay n (rules n)

  abbrev pub weaker : {A : Type 0} (bones : List Bone) (form : Form A bones) (K L : List Piece → A → Type 0) → ((ts : List Piece) (v : A) → K ts v → L ts v) → Shows bones form K → Shows bones form L
  weaker [] (gives v) K L h s = h [] v s
  weaker (_ ∷ bones) (needs kind mark f) K L h s = λ t e. weaker bones (f t) (λ ts v. K (t ∷ ts) v) (λ ts v. L (t ∷ ts) v) (λ ts v. h (t ∷ ts) v) (s t e)
  weaker (_ ∷ bones) (calls n f) K L h s = λ w us x. weaker bones (f w) (λ ts v. K (us ++ ts) v) (λ ts v. L (us ++ ts) v) (λ ts v. h (us ++ ts) v) (s w us x)

  -- what holds of everything
  always : {A : Type 0} (bones : List Bone) (form : Form A bones) (K : List Piece → A → Type 0) → ((ts : List Piece) (v : A) → K ts v) → Shows bones form K
  always [] (gives v) K h = h [] v
  always (_ ∷ bones) (needs kind mark f) K h = λ t e. always bones (f t) (λ ts v. K (t ∷ ts) v) (λ ts v. h (t ∷ ts) v)
  always (_ ∷ bones) (calls n f) K h = λ w us x. always bones (f w) (λ ts v. K (us ++ ts) v) (λ ts v. h (us ++ ts) v)

  each_always : (n : Part) (rs : List (Rule n)) → ((ts : List Piece) (v : Value n) → Good n ts v) → EachWay n rs
  each_always n [] h = tt
  each_always n (r ∷ rs) h = (always (B r.kind ∷ r.bones) (needs r.kind r.mark r.rest) (Good n) h, each_always n rs h)

  some_always : (n : Part) (o : Option (Value n)) → ((ts : List Piece) (v : Value n) → Good n ts v) → IfSome o (Good n [])
  some_always n None h = tt
  some_always n (Some v) h = h [] v

  pub free : (n : Part) → ((ts : List Piece) (v : Value n) → Good n ts v) → Closed n
  free n h = (some_always n (empty n) h, each_always n (rules n) h)

  -- a form and what is behind it
  bound : (n m : Part) (more : List Bone) (k : Value n → Form (Value m) more) (bones : List Bone) (form : Form (Value n) bones) (K : List Piece → Value n → Type 0) (L : List Piece → Value m → Type 0)
      → Shows bones form K → ((w : Value n) (us : List Piece) → K us w → Shows more (k w) (λ ts v. L (us ++ ts) v)) → Shows (bones ++ more) (form >>= k) L
  bound n m more k [] (gives v) K L s h = h v [] s
  bound n m more k (_ ∷ bones) (needs kind mark f) K L s h =
      λ t e. bound n m more k bones (f t) (λ ts v. K (t ∷ ts) v) (λ ts v. L (t ∷ ts) v) (s t e) (λ w us x. h w (t ∷ us) x)
  bound n m more k (_ ∷ bones) (calls p f) K L s h =
      λ w us x. bound n m more k bones (f w) (λ ts v. K (us ++ ts) v) (λ ts v. L (us ++ ts) v) (s w us x)
      (λ y vs z. weaker more (k y) (λ ts v. L ((us ++ vs) ++ ts) v) (λ ts v. L (us ++ (vs ++ ts)) v) (λ ts v. subst (λ l. L l v) (append_assoc us vs ts)) (h y (us ++ vs) z))

  -- rules that begin with those of another part
  pub begun_ways : (n m : Part) (more : List Bone) (k : Value n → Form (Value m) more) (rs : List (Rule n)) → EachWay n rs
      → ((w : Value n) (us : List Piece) → Good n us w → Shows more (k w) (λ ts v. Good m (us ++ ts) v)) → EachWay m (map (begun n m k) rs)
  begun_ways n m more k [] each h = tt
  begun_ways n m more k (r ∷ rs) each h = (bound n m more k (B r.kind ∷ r.bones) (needs r.kind r.mark r.rest) (Good n) (Good m) each.0 h, begun_ways n m more k rs each.1 h)

  one_way : (n : Part) (rs : List (Rule n)) (r : Rule n) → OneOf rs r → EachWay n rs → Shows (B r.kind ∷ r.bones) (needs r.kind r.mark r.rest) (Good n)
  one_way n [] r one each = absurd one
  one_way n (x ∷ rs) r (inl e) each = let Q : Rule n → Type 0 = λ y. Shows (B y.kind ∷ y.bones) (needs y.kind y.mark y.rest) (Good n) in subst Q (sym e) each.0
  one_way n (x ∷ rs) r (inr one) each = one_way n rs r one each.1

  module _ (closed : (n : Part) → Closed n) where
    -- it holds of all that is derived
    pub shown : (g : Part) (bones : List Bone) (form : Form (Value g) bones) (ms : List Marked) (v : Value g) → Derives g bones form ms v
        → (K : List Piece → Value g → Type 0) → Shows bones form K → K (plain ms) v
    shown g bones form ms v (nothing _ _) K s = s
    shown g bones form ms v (token _ bones' kind mark f t ts _ e d) K s = shown g bones' (f t) ts v d (λ us w. K (t ∷ us) w) (s t e)
    shown g bones form ms v (left_out _ n bones' f w ts _ e d) K s =
        shown g bones' (f w) ts v d K (s w [] (subst (λ (o : Option (Value n)). IfSome o (Good n [])) e (closed n).0))
    shown g bones form ms v (written _ n bones' f rule w us ts _ one inner d) K s =
        let good = shown n (B rule.kind ∷ rule.bones) (needs rule.kind rule.mark rule.rest) us w inner (Good n) (one_way n (rules n) rule one (closed n).1) in
        subst (λ (l : List Piece). K l v) (sym (plain_append us ts)) (shown g bones' (f w) ts v d (λ l x. K (plain us ++ l) x) (s w (plain us) good))

    pub holds : (n : Part) (ts : List Piece) (v : Value n) → IsTextOf n ts v → Good n ts v
    holds n ts v w = subst (λ (l : List Piece). Good n l v) w.1
        (shown n (P (family n) ∷ []) (part n) w.0 v w.2 (Good n) (λ x us good. subst (λ (l : List Piece). Good n l x) (sym (append-nil us)) good))

-- a form derives what its tokens and the texts of its parts make
built : (g : Part) (bones : List Bone) (form : Form (Value g) bones) (K : List Piece → Value g → Type 0)
    → ((ms : List Marked) (v : Value g) → Derives g bones form ms v → K (plain ms) v) → Shows IsTextOf bones form K
built g [] (gives v) K h = h [] v (nothing g v)
built g (_ ∷ bones) (needs kind mark f) K h = λ t e. built g bones (f t) (λ ts v. K (t ∷ ts) v) (λ ms v d. h (marked mark t ∷ ms) v (token g bones kind mark f t ms v e d))
built g (_ ∷ bones) (calls n f) K h =
    λ w us s. built g bones (f w) (λ ts v. K (us ++ ts) v)
    (λ ms v d. subst (λ (l : List Piece). K l v) (plain_append s.0 ms ∙ ap (λ l. l ++ plain ms) s.1) (h (s.0 ++ ms) v (called g n bones f w s.0 ms v s.2 d)))

-- each rule makes texts of its part
pub writes : (n : Part) (r : Rule n) → OneOf (rules n) r → Shows IsTextOf (B r.kind ∷ r.bones) (needs r.kind r.mark r.rest) (IsTextOf n)
writes n r one =
    built n (B r.kind ∷ r.bones) (needs r.kind r.mark r.rest) (IsTextOf n)
    (λ ms v d. (ms ++ [], ap plain (append-nil ms), written n n [] gives r v ms [] v one d (nothing n v)))

-- what may be left out has the empty text
pub writes_none : (n : Part) (v : Value n) → empty n ≡ Some v → IsTextOf n [] v
writes_none n v e = ([], refl, left_out n n [] gives v [] v e (nothing n v))

one_begun : (n m : Part) (more : List Bone) (k : Value n → Form (Value m) more) (rs : List (Rule n)) (r : Rule n) → OneOf rs r → OneOf (map (begun n m k) rs) (begun n m k r)
one_begun n m more k [] r one = absurd one
one_begun n m more k (x ∷ rs) r (inl e) = inl (ap (begun n m k) e)
one_begun n m more k (x ∷ rs) r (inr one) = inr (one_begun n m more k rs r one)

-- the rule of a text that is called
abbrev pub ByRule : (g : Part) (bones : List Bone) → Form (Value g) bones → List Marked → Value g → Type 0
ByRule g [] (gives v) ms w = (v ≡ w) × (ms ≡ [])
ByRule g (_ ∷ bones) (needs kind mark f) ms v = Unit {0}
ByRule g (_ ∷ bones) (calls n f) ms v =
    IsSome (empty n) ⊎ ((rule : Rule n) × (w : Value n) × (us : List Marked) × (ts : List Marked) × OneOf (rules n) rule
    × Derives n (B rule.kind ∷ rule.bones) (needs rule.kind rule.mark rule.rest) us w × Derives g bones (f w) ts v × (ms ≡ us ++ ts))

by_rule : (g : Part) (bones : List Bone) (form : Form (Value g) bones) (ms : List Marked) (v : Value g) → Derives g bones form ms v → ByRule g bones form ms v
by_rule g bones form ms v (nothing _ _) = (refl, refl)
by_rule g bones form ms v (token _ bones' kind mark f t ts _ e d) = tt
by_rule g bones form ms v (left_out _ n bones' f w ts _ e d) = inl (subst (λ (o : Option (Value n)). IsSome o) (sym e) refl)
by_rule g bones form ms v (written _ n bones' f rule w us ts _ one inner d) = inr (rule, w, us, ts, one, inner, d, refl)

-- texts of a part that begins with another, where its rules are those of the other, each begun
pub begun_writes : (n m : Part) (more : List Bone) (k : Value n → Form (Value m) more) → (IsSome (empty n) → ⊥)
    → ((r : Rule n) → OneOf (map (begun n m k) (rules n)) (begun n m k r) → OneOf (rules m) (begun n m k r))
    → (ts : List Piece) (w : Value n) → IsTextOf n ts w → Shows IsTextOf more (k w) (λ us v. IsTextOf m (ts ++ us) v)
begun_writes n m more k full same ts w s = elim (by_rule n (P (family n) ∷ []) (part n) s.0 w s.2) [
  | inl e ↦ absurd (full e)
  | inr i ↦ (
      let rest = by_rule n [] (gives i.1) i.3 w i.6 in
      let tokens : s.0 ≡ i.2 = i.7 ∙ ap (λ l. i.2 ++ l) rest.1 ∙ append-nil i.2 in
      let inner : Derives n (B (i.0).kind ∷ (i.0).bones) (needs (i.0).kind (i.0).mark (i.0).rest) i.2 w = subst (λ (x : Value n). Derives n (B (i.0).kind ∷ (i.0).bones) (needs (i.0).kind (i.0).mark (i.0).rest) i.2 x) rest.0 i.5 in
      built m more (k w) (λ us v. IsTextOf m (ts ++ us) v) (λ ms v d. (
        (i.2 ++ ms) ++ [],
        ap plain (append-nil (i.2 ++ ms)) ∙ plain_append i.2 ms ∙ ap (λ l. l ++ plain ms) (ap plain (sym tokens) ∙ s.1),
        written m m [] gives (begun n m k i.0) v (i.2 ++ ms) [] v (same i.0 (one_begun n m more k (rules n) i.0 i.4))
            (joined n (B (i.0).kind ∷ (i.0).bones) (needs (i.0).kind (i.0).mark (i.0).rest) i.2 w inner m more k ms v d) (nothing m v),
      ))
      )
]
