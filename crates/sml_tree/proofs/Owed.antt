-- Marks that do not stand against tokens, since what the parts are worth is within the limits.
use Rattle.std.proofs.Common.{◌≡◌, List, [], ◌∷◌, ◌++◌, sym, subst, map, inl, inr}
use Rattle.std.specs.List.{AllByRecursion}
use Rattle.sml_tree.specs.Piece.{Piece}
use Rattle.sml_tree.specs.Form.{Bone, B, P, Form, gives, needs, calls, part, ◌>>=◌, Part, family, Value}
use Rattle.sml_tree.specs.Grammar.{Rule, rules, begun}
use Rattle.sml_tree.specs.Derive.{Marked, marked, OneOf, Derives, nothing, token, left_out, written}
use Rattle.sml_tree.specs.Laws.{IsNotTooDeep}
use Rattle.sml_tree.proofs.Marks.{AllMarks, IsFine, all_append, all_front, all_back}

-- Known is known of all parts, and Fits of a part is to show that no mark stands in it.
module _ (Known : (n : Part) → Value n → Type 0) (Fits : (n : Part) → Value n → Type 0) where
  -- Where the worth of a form has K, no mark stands against its tokens and its parts fit, besides what is owed before.
  -- A token has three arguments (itself, its kind, that it is no `not` or bracket too deep), and a part has two (its
  -- worth, what is known of it).
  abbrev pub Owes : {A : Type 0} (bones : List Bone) → Form A bones → (A → Type 0) → Type 0 → Type 0
  Owes [] (gives v) K before = K v → before
  Owes (_ ∷ bones) (needs kind mark f) K before = (t : Piece) → t.kind ≡ kind → IsNotTooDeep (marked mark t) → Owes bones (f t) K (before × IsFine mark)
  Owes (_ ∷ bones) (calls n f) K before = (w : Value n) → Known n w → Owes bones (f w) K (before × Fits n w)

  abbrev pub EachOwes : (n : Part) → List (Rule n) → Type 0
  EachOwes n [] = Unit {0}
  EachOwes n (r ∷ rs) = Owes (B r.kind ∷ r.bones) (needs r.kind r.mark r.rest) (Fits n) (Unit {0}) × EachOwes n rs

  -- a form and what is behind it
  bound : (n m : Part) (more : List Bone) (k : Value n → Form (Value m) more) (bones : List Bone) (form : Form (Value n) bones) (K : Value n → Type 0) (L : Value m → Type 0) (before : Type 0)
      → Owes bones form K before → ((w : Value n) (before' : Type 0) → (K w → before') → Owes more (k w) L before') → Owes (bones ++ more) (form >>= k) L before
  bound n m more k [] (gives v) K L before s h = h v before s
  bound n m more k (_ ∷ bones) (needs kind mark f) K L before s h = λ t e d. bound n m more k bones (f t) K L (before × IsFine mark) (s t e d) h
  bound n m more k (_ ∷ bones) (calls p f) K L before s h = λ w y. bound n m more k bones (f w) K L (before × Fits p w) (s w y) h

  -- rules that begin with those of another part
  pub begun_owes : (n m : Part) (more : List Bone) (k : Value n → Form (Value m) more) (rs : List (Rule n)) → EachOwes n rs
      → ((w : Value n) (before : Type 0) → (Fits n w → before) → Owes more (k w) (Fits m) before) → EachOwes m (map (begun n m k) rs)
  begun_owes n m more k [] each h = tt
  begun_owes n m more k (r ∷ rs) each h =
      (bound n m more k (B r.kind ∷ r.bones) (needs r.kind r.mark r.rest) (Fits n) (Fits m) (Unit {0}) each.0 h, begun_owes n m more k rs each.1 h)

  one_owes : (n : Part) (rs : List (Rule n)) (r : Rule n) → OneOf rs r → EachOwes n rs → Owes (B r.kind ∷ r.bones) (needs r.kind r.mark r.rest) (Fits n) (Unit {0})
  one_owes n [] r one each = absurd one
  one_owes n (x ∷ rs) r (inl e) each = let Q : Rule n → Type 0 = λ y. Owes (B y.kind ∷ y.bones) (needs y.kind y.mark y.rest) (Fits n) (Unit {0}) in subst Q (sym e) each.0
  one_owes n (x ∷ rs) r (inr one) each = one_owes n rs r one each.1

  module _ (known : (n : Part) (ms : List Marked) (v : Value n) → Derives n (P (family n) ∷ []) (part n) ms v → Known n v) (owing : (n : Part) → EachOwes n (rules n)) where
    paid : (g : Part) (bones : List Bone) (form : Form (Value g) bones) (ms : List Marked) (v : Value g) → Derives g bones form ms v
        → AllByRecursion IsNotTooDeep ms → (K : Value g → Type 0) (before : Type 0) → Owes bones form K before → K v → before × AllMarks IsFine ms
    paid g bones form ms v (nothing _ _) all K before s h = (s h, tt)
    paid g bones form ms v (token _ bones' kind mark f t ts _ e d) all K before s h =
        let r = paid g bones' (f t) ts v d all.1 K (before × IsFine mark) (s t e all.0) h in ((r.0).0, ((r.0).1, r.1))
    paid g bones form ms v (left_out _ n bones' f w ts _ e d) all K before s h =
        let r = paid g bones' (f w) ts v d all K (before × Fits n w) (s w (known n [] w (left_out n n [] gives w [] w e (nothing n w)))) h in ((r.0).0, r.1)
    paid g bones form ms v (written _ n bones' f rule w us ts _ one inner d) all K before s h =
        let r = paid g bones' (f w) ts v d (all_back IsNotTooDeep us ts all) K (before × Fits n w) (s w (known n (us ++ []) w (written n n [] gives rule w us [] w one inner (nothing n w)))) h in
        let q = paid n (B rule.kind ∷ rule.bones) (needs rule.kind rule.mark rule.rest) us w inner (all_front IsNotTooDeep us ts all) (Fits n) (Unit {0}) (one_owes n (rules n) rule one (owing n)) (r.0).1 in
        ((r.0).0, all_append (λ m. IsFine m.mark) us ts q.1 r.1)

    -- a part that fits has no mark
    pub part_paid : (n : Part) (ms : List Marked) (v : Value n) → Derives n (P (family n) ∷ []) (part n) ms v → AllByRecursion IsNotTooDeep ms → Fits n v → AllMarks IsFine ms
    part_paid n ms v d all h = (paid n (P (family n) ∷ []) (part n) ms v d all (Fits n) (Unit {0}) (λ w k x. (tt, x)) h).1
