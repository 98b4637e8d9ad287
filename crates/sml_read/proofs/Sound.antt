-- What the machine takes is derived by the grammar.
use Rattle.std.proofs.Common.{◌≡◌, List, [], ◌∷◌, ◌++◌, refl, ap, sym, ◌∙◌, subst, append_assoc, Option, Some, None, Ok, cond, nat_eq, true, false, Bool, ◌⊎◌, inl, inr}
use Rattle.sml_tree.specs.declared.token_kind.TokenKind.{TokenKind}
use Rattle.sml_tree.specs.Piece.{Piece}
use Rattle.sml_tree.specs.Form.{Bone, B, P, Form, gives, needs, calls, ◌>>=◌, Mark, Fine, Deep, Many, Part, family, Value}
use Rattle.sml_tree.specs.Grammar.{Rule, rules, empty}
use Rattle.sml_tree.specs.Derive.{Marked, OneOf, Derives, nothing, token, left_out, written, fine}
use Rattle.sml_read_parts.specs.Machine.{code, chosen, TokenMove, Goes, Stuck, take_rule, or_else, advance, finish, go_on, ended, run}
use Rattle.sml_read_parts.proofs.Codes.{same_kind}

-- what is behind a form is derived behind it
pub joined : (n : Part) (bones : List Bone) (f : Form (Value n) bones) (us : List Marked) (w : Value n) → Derives n bones f us w
    → (g : Part) (more : List Bone) (k : Value n → Form (Value g) more) (ms : List Marked) (v : Value g)
    → Derives g more (k w) ms v → Derives g (bones ++ more) (f >>= k) (us ++ ms) v
joined n bones f us w (nothing _ _) g more k ms v d = d
joined n bones f us w (token _ bones' kind mark f' t us' _ e d') g more k ms v d =
    token g (bones' ++ more) kind mark (λ x. f' x >>= k) t (us' ++ ms) v e (joined n bones' (f' t) us' w d' g more k ms v d)
joined n bones f us w (left_out _ m bones' f' x us' _ e d') g more k ms v d =
    left_out g m (bones' ++ more) (λ y. f' y >>= k) x (us' ++ ms) v e (joined n bones' (f' x) us' w d' g more k ms v d)
joined n bones f us w (written _ m bones' f' rule x us1 us2 _ e inner d') g more k ms v d =
    let Q : List Marked → Type 0 = λ all. Derives g (P (family m) ∷ (bones' ++ more)) (calls m (λ y. f' y >>= k)) all v in
    subst Q (sym (append_assoc us1 us2 ms)) (written g m (bones' ++ more) (λ y. f' y >>= k) rule x us1 (us2 ++ ms) v e inner (joined n bones' (f' x) us2 w d' g more k ms v d))

-- a derivation, by its form
abbrev pub Inverse : (g : Part) (bones : List Bone) → Form (Value g) bones → List Marked → Value g → Type 0
Inverse g [] (gives k) ms v = (ms ≡ []) × (k ≡ v)
Inverse g (_ ∷ bones) (needs kind mark f) ms v = (t : Piece) × (ts : List Marked) × (ms ≡ record { token = t; mark = mark } ∷ ts) × (t.kind ≡ kind) × Derives g bones (f t) ts v
Inverse g (_ ∷ bones) (calls n f) ms v =
    ((w : Value n) × (empty n ≡ Some w) × Derives g bones (f w) ms v)
    ⊎ ((rule : Rule n) × (w : Value n) × (us : List Marked) × (ts : List Marked) × OneOf (rules n) rule
    × Derives n (B rule.kind ∷ rule.bones) (needs rule.kind rule.mark rule.rest) us w × Derives g bones (f w) ts v × (ms ≡ us ++ ts))

pub inverted : (g : Part) (bones : List Bone) (form : Form (Value g) bones) (ms : List Marked) (v : Value g) → Derives g bones form ms v → Inverse g bones form ms v
inverted g bones form ms v (nothing _ _) = (refl, refl)
inverted g bones form ms v (token _ bones' kind mark f t ts _ e d) = (t, ts, refl, e, d)
inverted g bones form ms v (left_out _ n bones' f w ts _ e d) = inl (w, e, d)
inverted g bones form ms v (written _ n bones' f rule w us ts _ e inner d) = inr (rule, w, us, ts, e, inner, d, refl)

-- what a form derives, and what the rest does
pub record Split (n g : Part) (bones more : List Bone) (f : Form (Value n) bones) (k : Value n → Form (Value g) more) (ms : List Marked) (v : Value g) : Type 0 where
  pub front : List Marked
  pub back : List Marked
  pub value : Value n
  pub whole : ms ≡ front ++ back
  pub inner : Derives n bones f front value
  pub outer : Derives g more (k value) back v

pub splits : (n g : Part) (bones more : List Bone) (f : Form (Value n) bones) (k : Value n → Form (Value g) more) (ms : List Marked) (v : Value g)
    → Derives g (bones ++ more) (f >>= k) ms v → Split n g bones more f k ms v
splits n g [] more (gives x) k ms v d = record { front = []; back = ms; value = x; whole = refl; inner = nothing n x; outer = d }
splits n g (_ ∷ bones) more (needs kind mark f) k ms v d =
    let i = inverted g (B kind ∷ (bones ++ more)) (needs kind mark (λ t. f t >>= k)) ms v d in
    let s = splits n g bones more (f i.0) k i.1 v i.4 in
    record {
      front = record { token = i.0; mark = mark } ∷ s.front;
      back = s.back;
      value = s.value;
      whole = i.2 ∙ ap (λ l. record { token = i.0; mark = mark } ∷ l) s.whole;
      inner = token n bones kind mark f i.0 s.front s.value i.3 s.inner;
      outer = s.outer;
    }
splits n g (_ ∷ bones) more (calls p f) k ms v d =
    elim (inverted g (P (family p) ∷ (bones ++ more)) (calls p (λ w. f w >>= k)) ms v d) [
      | inl i ↦ (let s = splits n g bones more (f i.0) k ms v i.2 in record {
        front = s.front;
        back = s.back;
        value = s.value;
        whole = s.whole;
        inner = left_out n p bones f i.0 s.front s.value i.1 s.inner;
        outer = s.outer;
      })
      | inr i ↦ (let s = splits n g bones more (f i.1) k i.3 v i.6 in record {
        front = i.2 ++ s.front;
        back = s.back;
        value = s.value;
        whole = i.7 ∙ ap (λ l. i.2 ++ l) s.whole ∙ sym (append_assoc i.2 s.front s.back);
        inner = written n p bones f i.0 i.1 i.2 s.front s.value i.4 i.5 s.inner;
        outer = s.outer;
      })
    ]

-- what is said of a move that isn't stuck
abbrev pub IfGoes : {g : Part} → TokenMove g → ((mark : Mark) (bones : List Bone) → Form (Value g) bones → Type 0) → Type 0
IfGoes Stuck Q = Unit {0}
IfGoes (Goes mark bones form) Q = Q mark bones form

-- what the machine does with a token, the grammar derives
abbrev pub Backed : (g : Part) (bones : List Bone) → Form (Value g) bones → Piece → TokenMove g → Type 0
Backed g bones form t move = IfGoes move (λ mark after form'. (ms : List Marked) (v : Value g) → Derives g after form' ms v → Derives g bones form (record { token = t; mark = mark } ∷ ms) v)

backed_word : (g : Part) (bones : List Bone) (kind : TokenKind) (mark : Mark) (f : Piece → Form (Value g) bones) (t : Piece) (b : Bool) → nat_eq (code kind) (code t.kind) ≡ b
    → Backed g (B kind ∷ bones) (needs kind mark f) t (cond b (Goes mark bones (f t)) Stuck)
backed_word g bones kind mark f t true e = λ ms v d. token g bones kind mark f t ms v (sym (same_kind kind t.kind e)) d
backed_word g bones kind mark f t false e = tt

backed_left_out : (g n : Part) (bones : List Bone) (f : Value n → Form (Value g) bones) (t : Piece) (w : Value n) → empty n ≡ Some w
    → (move : TokenMove g) → Backed g bones (f w) t move → Backed g (P (family n) ∷ bones) (calls n f) t move
backed_left_out g n bones f t w e Stuck h = tt
backed_left_out g n bones f t w e (Goes mark after form') h = λ ms v d. left_out g n bones f w (record { token = t; mark = mark } ∷ ms) v e (h ms v d)

backed_rule : (g n : Part) (bones : List Bone) (f : Value n → Form (Value g) bones) (t : Piece) (r : Rule n) → OneOf (rules n) r → r.kind ≡ t.kind
    → Backed g (P (family n) ∷ bones) (calls n f) t (take_rule n g bones f t r)
backed_rule g n bones f t r one e = λ ms v d.
    let s = splits n g r.bones bones (r.rest t) f ms v d in
    let Q : List Marked → Type 0 = λ l. Derives g (P (family n) ∷ bones) (calls n f) (record { token = t; mark = r.mark } ∷ l) v in
    subst Q (sym s.whole) (written g n bones f r s.value (record { token = t; mark = r.mark } ∷ s.front) s.back v one
    (token n r.bones r.kind r.mark r.rest t s.front s.value (sym e) s.inner) s.outer)

-- the chosen rule is one of them, and begins so
pub chosen_is : (n : Part) (rs : List (Rule n)) (c : TokenKind) (r : Rule n) → chosen rs c ≡ Some r → OneOf rs r × (r.kind ≡ c)
chosen_is n [] c r h = absurd (cc h)
chosen_is n (x ∷ rs) c r h = go (nat_eq (code x.kind) (code c)) refl h (chosen_is n rs c r)
  where
    go : (b : Bool) → nat_eq (code x.kind) (code c) ≡ b → cond b (Some x) (chosen rs c) ≡ Some r → (chosen rs c ≡ Some r → OneOf rs r × (r.kind ≡ c)) → OneOf (x ∷ rs) r × (r.kind ≡ c)
    go true e h' rec = let same : x ≡ r = cc in (inl (sym same), ap (λ (y : Rule n). y.kind) (sym same) ∙ same_kind x.kind c e)
    go false e h' rec = let i = rec h' in (inr i.0, i.1)

-- each step of the machine is backed
pub backed : (g : Part) (bones : List Bone) (form : Form (Value g) bones) (t : Piece) → Backed g bones form t (advance g bones form t)
backed g [] (gives x) t = tt
backed g (_ ∷ bones) (needs kind mark f) t = backed_word g bones kind mark f t (nat_eq (code kind) (code t.kind)) refl
backed g (_ ∷ bones) (calls n f) t = go (chosen (rules n) t.kind) refl (empty n) refl (λ w. backed g bones (f w) t)
  where
    go : (o : Option (Rule n)) → chosen (rules n) t.kind ≡ o → (e : Option (Value n)) → empty n ≡ e → ((w : Value n) → Backed g bones (f w) t (advance g bones (f w) t))
        → Backed g (P (family n) ∷ bones) (calls n f) t (or_else o (take_rule n g bones f t) (or_else e (λ w. advance g bones (f w) t) Stuck))
    go (Some r) was e was' rec = let i = chosen_is n (rules n) t.kind r was in backed_rule g n bones f t r i.0 i.1
    go None was (Some w) was' rec = backed_left_out g n bones f t w was' (advance g bones (f w) t) (rec w)
    go None was None was' rec = tt

-- where the machine may end, nothing is derived
pub finish_backed : (g : Part) (bones : List Bone) (form : Form (Value g) bones) (v : Value g) → finish g bones form ≡ Some v → Derives g bones form [] v
finish_backed g [] (gives x) v h = let e : x ≡ v = cc in subst (λ (y : Value g). Derives g [] (gives x) [] y) e (nothing g x)
finish_backed g (_ ∷ bones) (needs kind mark f) v h = absurd (cc h)
finish_backed g (_ ∷ bones) (calls n f) v h = go (empty n) refl h (λ w. finish_backed g bones (f w) v)
  where
    go : (e : Option (Value n)) → empty n ≡ e → or_else e (λ w. finish g bones (f w)) None ≡ Some v → ((w : Value n) → finish g bones (f w) ≡ Some v → Derives g bones (f w) [] v)
        → Derives g (P (family n) ∷ bones) (calls n f) [] v
    go (Some w) was h' rec = left_out g n bones f w [] v was (rec w h')
    go None was h' rec = absurd (cc h')

-- what the machine takes is derived
pub sound : (g : Part) (bones : List Bone) (form : Form (Value g) bones) (ts : List Piece) (v : Value g) → run g bones form ts ≡ Ok v → Derives g bones form (fine ts) v
sound g bones form [] v h = go (finish g bones form) refl h
  where
    go : (o : Option (Value g)) → finish g bones form ≡ o → ended o ≡ Ok v → Derives g bones form [] v
    go None was h' = absurd (cc h')
    go (Some w) was h' = let e : w ≡ v = cc in finish_backed g bones form v (was ∙ ap Some e)
sound g bones form (t ∷ ts) v h = go (advance g bones form t) (backed g bones form t) h (λ after form'. sound g after form' ts v)
  where
    go : (move : TokenMove g) → Backed g bones form t move → go_on move t.at (λ after form'. run g after form' ts) ≡ Ok v
        → ((after : List Bone) (form' : Form (Value g) after) → run g after form' ts ≡ Ok v → Derives g after form' (fine ts) v) → Derives g bones form (fine (t ∷ ts)) v
    go Stuck b h' rec = absurd (cc h')
    go (Goes Fine after form') b h' rec = b (fine ts) v (rec after form' h')
    go (Goes Deep after form') b h' rec = absurd (cc h')
    go (Goes Many after form') b h' rec = absurd (cc h')
