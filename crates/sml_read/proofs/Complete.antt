-- What the grammar derives the machine takes.
use Rattle.std.proofs.Common.{◌≡◌, List, [], ◌∷◌, ◌++◌, refl, ap, sym, ◌∙◌, subst, Option, Some, None, Ok, cond, nat_eq, true, false, Bool, ◌⊎◌, inl, inr, ◌&&◌, ◌||◌, not}
use Rattle.sml_tree.specs.declared.token_kind.TokenKind.{TokenKind}
use Rattle.sml_tree.specs.Piece.{Piece}
use Rattle.sml_tree.specs.Form.{Bone, B, P, Form, needs, calls, Mark, Fine, Deep, Many, Part, Family, family, Value}
use Rattle.sml_tree.specs.Grammar.{Rule, rules, empty}
use Rattle.sml_tree.specs.Derive.{Marked, OneOf, Derives, nothing, token, left_out, written, fine}
use Rattle.sml_read_parts.specs.Machine.{code, chosen, TokenMove, Goes, Stuck, take_rule, or_else, advance, finish, go_on, ended, run}
use Rattle.sml_read.proofs.Tables.{is_there, starts, hollow, begins, skips, follows, implies, rest_fits, all_fit, tested, lacks, distinct, sorted}
use Rattle.sml_read_parts.proofs.Codes.{same_code}
use Rattle.sml_read.proofs.Sound.{joined, inverted}

-- tests
pub and_true : (a b : Bool) → (a && b) ≡ true → (a ≡ true) × (b ≡ true)
and_true true b h = (refl, h)
and_true false b h = absurd (cc h)

implied : (a b : Bool) → implies a b ≡ true → a ≡ true → b ≡ true
implied true b h e = h
implied false b h e = absurd (cc e)

both_true : (a b : Bool) → a ≡ true → b ≡ true → (a && b) ≡ true
both_true true b e f = f
both_true false b e f = e

-- what begins bones begins their front, or what is behind a front that is left out
starts_append : (front bones : List Bone) (c : TokenKind) → starts (front ++ bones) c ≡ true
    → (starts front c ≡ true) ⊎ ((hollow front ≡ true) × (starts bones c ≡ true))
starts_append [] bones c h = inr (refl, h)
starts_append (B kind ∷ front) bones c h = inl h
starts_append (P p ∷ front) bones c h = go (begins p c) (skips p) h (starts_append front bones c)
  where
    go : (x y : Bool) → (x || (y && starts (front ++ bones) c)) ≡ true → (starts (front ++ bones) c ≡ true → (starts front c ≡ true) ⊎ ((hollow front ≡ true) × (starts bones c ≡ true)))
        → ((x || (y && starts front c)) ≡ true) ⊎ (((y && hollow front) ≡ true) × (starts bones c ≡ true))
    go true y h' rec = inl refl
    go false true h' rec = rec h'
    go false false h' rec = absurd (cc h')

-- what is behind a part may follow it
abbrev pub Ready : List Bone → Type 0
Ready [] = Unit {0}
Ready (B kind ∷ bones) = Ready bones
Ready (P p ∷ bones) = ((c : TokenKind) → starts bones c ≡ true → follows p c ≡ true) × Ready bones

ready_rest : (n : Family) (rest bones : List Bone) → ((c : TokenKind) → rest_fits n rest c ≡ true) → ((c : TokenKind) → starts bones c ≡ true → follows n c ≡ true) → Ready bones → Ready (rest ++ bones)
ready_rest n [] bones fit h ready = ready
ready_rest n (B kind ∷ rest) bones fit h ready = ready_rest n rest bones fit h ready
ready_rest n (P p ∷ rest) bones fit h ready =
    let first : (c : TokenKind) → implies (starts rest c) (follows p c) ≡ true = λ c. (and_true _ _ (fit c)).0 in
    let second : (c : TokenKind) → implies (hollow rest && follows n c) (follows p c) ≡ true = λ c. (and_true _ _ (and_true _ _ (fit c)).1).0 in (
      λ c e. elim (starts_append rest bones c e) [
        | inl b ↦ implied (starts rest c) (follows p c) (first c) b
        | inr b ↦ implied (hollow rest && follows n c) (follows p c) (second c) (both_true _ _ b.0 (h c b.1))
      ],
      ready_rest n rest bones (λ c. (and_true _ _ (and_true _ _ (fit c)).1).1) h ready,
    )

one_fits : (n : Part) (rs : List (Rule n)) (r : Rule n) (c : TokenKind) → OneOf rs r → all_fit n rs c ≡ true → rest_fits (family n) r.bones c ≡ true
one_fits n [] r c one h = absurd one
one_fits n (x ∷ rs) r c (inl e) h = let Q : Rule n → Type 0 = λ y. rest_fits (family n) y.bones c ≡ true in subst Q (sym e) (and_true _ _ h).0
one_fits n (x ∷ rs) r c (inr one) h = one_fits n rs r c one (and_true _ _ h).1

lacks_one : (n : Part) (rs : List (Rule n)) (r : Rule n) (c : TokenKind) → OneOf rs r → lacks n c rs ≡ true → nat_eq (code c) (code r.kind) ≡ false
lacks_one n [] r c one h = absurd one
lacks_one n (x ∷ rs) r c (inl e) h = let Q : Rule n → Type 0 = λ y. nat_eq (code c) (code y.kind) ≡ false in subst Q (sym e) (not_true _ (and_true _ _ h).0)
  where
    not_true : (b : Bool) → not b ≡ true → b ≡ false
    not_true true h' = absurd (cc h')
    not_true false h' = refl
lacks_one n (x ∷ rs) r c (inr one) h = lacks_one n rs r c one (and_true _ _ h).1

-- a rule is the one that is chosen by its first token
pub one_chosen : (n : Part) (rs : List (Rule n)) (r : Rule n) → OneOf rs r → distinct n rs ≡ true → chosen rs r.kind ≡ Some r
one_chosen n [] r one h = absurd one
one_chosen n (x ∷ rs) r (inl e) h = let same = same_code x.kind r.kind (ap (λ (y : Rule n). y.kind) (sym e)) in let f : Some x ≡ Some r = ap Some (sym e) in rw same f
one_chosen n (x ∷ rs) r (inr one) h = let other = lacks_one n rs r x.kind one (and_true _ _ h).0 in rw other (one_chosen n rs r one (and_true _ _ h).1)

-- the machine goes on from a token as the grammar does
abbrev pub Takes : {g : Part} → TokenMove g → Mark → List Marked → Value g → Type 0
Takes Stuck mark ms v = ⊥
Takes {g = g} (Goes mark' bones form) mark ms v = (mark' ≡ mark) × Ready bones × Derives g bones form ms v

abbrev pub Stepped : (g : Part) (bones : List Bone) → Form (Value g) bones → List Marked → Value g → Type 0
Stepped g bones form [] v = Unit {0}
Stepped g bones form (m ∷ ms) v = Takes (advance g bones form m.token) m.mark ms v × (starts bones m.token.kind ≡ true)

stepped_left_out : (g n : Part) (bones : List Bone) (f : Value n → Form (Value g) bones) (w : Value n) (ms : List Marked) (v : Value g)
    → empty n ≡ Some w → ((c : TokenKind) → starts bones c ≡ true → follows (family n) c ≡ true) → Stepped g bones (f w) ms v → Stepped g (P (family n) ∷ bones) (calls n f) ms v
stepped_left_out g n bones f w [] v e h s = tt
stepped_left_out g n bones f w (m ∷ ms) v e h s =
    let skip : skips (family n) ≡ true = sym (sorted n).skipped ∙ ap is_there e in
    let free : begins (family n) m.token.kind ≡ false = unbegun (skips (family n)) (follows (family n) m.token.kind) (begins (family n) m.token.kind) skip (h m.token.kind s.1) (tested n m.token.kind).apart in
    let none : chosen (rules n) m.token.kind ≡ None = unchosen (chosen (rules n) m.token.kind) ((tested n m.token.kind).begun ∙ free) in
    let Q : Option (Rule n) → Option (Value n) → Type 0 = λ o e'.
    Takes (or_else o (take_rule n g bones f m.token) (or_else e' (λ w'. advance g bones (f w') m.token) Stuck)) m.mark ms v in (
      subst (λ (o : Option (Rule n)). Q o (empty n)) (sym none) (subst (λ (e' : Option (Value n)). Q None e') (sym e) s.0),
      begun (begins (family n) m.token.kind) (skips (family n)) (starts bones m.token.kind) skip s.1,
    )
  where
    unbegun : (x y z : Bool) → x ≡ true → y ≡ true → (x && y && z) ≡ false → z ≡ false
    unbegun true true z a b c = c
    unbegun false y z a b c = absurd (cc a)
    unbegun true false z a b c = absurd (cc b)

    unchosen : (o : Option (Rule n)) → is_there o ≡ false → o ≡ None
    unchosen None a = refl
    unchosen (Some r) a = absurd (cc a)

    begun : (x y z : Bool) → y ≡ true → z ≡ true → (x || (y && z)) ≡ true
    begun true y z a b = refl
    begun false true z a b = b
    begun false false z a b = absurd (cc a)

pub stepped : (g : Part) (bones : List Bone) (form : Form (Value g) bones) (ms : List Marked) (v : Value g) → Derives g bones form ms v → Ready bones → Stepped g bones form ms v
stepped g bones form ms v (nothing _ _) ready = tt
stepped g bones form ms v (token _ after kind mark f t ts _ e d) ready =
    let same = same_code kind t.kind (sym e) in
    (subst (λ (b : Bool). Takes (cond b (Goes mark after (f t)) Stuck) mark ts v) (sym same) (refl, ready, d), same)
stepped g bones form ms v (left_out _ n after f w ts _ e d) ready = stepped_left_out g n after f w ts v e ready.0 (stepped g after (f w) ts v d ready.1)
stepped g bones form ms v (written _ n after f rule w us ts _ one inner d) ready =
    let i = inverted n (B rule.kind ∷ rule.bones) (needs rule.kind rule.mark rule.rest) us w inner in
    let was : chosen (rules n) i.0.kind ≡ Some rule = subst (λ (c : TokenKind). chosen (rules n) c ≡ Some rule) (sym i.3) (one_chosen n (rules n) rule one (sorted n).told_apart) in
    let next = joined n rule.bones (rule.rest i.0) i.1 w i.4 g after f ts v d in
    let fine = ready_rest (family n) rule.bones after (λ c. one_fits n (rules n) rule c one (tested n c).fit) ready.0 ready.1 in
    let Q : Option (Rule n) → Type 0 = λ o. Takes (or_else o (take_rule n g after f i.0) (or_else (empty n) (λ w'. advance g after (f w') i.0) Stuck)) rule.mark (i.1 ++ ts) v in
    let begun : begins (family n) i.0.kind ≡ true = sym (tested n i.0.kind).begun ∙ ap is_there was in
    subst (λ (us' : List Marked). Stepped g (P (family n) ∷ after) (calls n f) (us' ++ ts) v) (sym i.2) (subst Q (sym was) (refl, fine, next), rw begun refl)

-- what derives nothing may end
pub finished : (g : Part) (bones : List Bone) (form : Form (Value g) bones) (ms : List Marked) (v : Value g) → Derives g bones form ms v → ms ≡ [] → finish g bones form ≡ Some v
finished g bones form ms v (nothing _ _) e = refl
finished g bones form ms v (token _ after kind mark f t ts _ e d) h = absurd (cc h)
finished g bones form ms v (left_out _ n after f w ts _ e d) h = let Q : Option (Value n) → Type 0 = λ o. or_else o (λ w'. finish g after (f w')) None ≡ Some v in subst Q (sym e) (finished g after (f w) ts v d h)
finished g bones form ms v (written _ n after f rule w us ts _ one inner d) h =
    let i = inverted n (B rule.kind ∷ rule.bones) (needs rule.kind rule.mark rule.rest) us w inner in
    let e : record { token = i.0; mark = rule.mark } ∷ (i.1 ++ ts) ≡ [] = ap (λ (l : List Marked). l ++ ts) (sym i.2) ∙ h in
    absurd (cc e)

-- what is derived, the machine takes
pub complete : (g : Part) (bones : List Bone) (form : Form (Value g) bones) (ts : List Piece) (v : Value g) → Derives g bones form (fine ts) v → Ready bones → run g bones form ts ≡ Ok v
complete g bones form [] v d ready = ap ended (finished g bones form [] v d refl)
complete g bones form (t ∷ ts) v d ready = go (advance g bones form t) (stepped g bones form (fine (t ∷ ts)) v d ready).0 (λ after form'. complete g after form' ts v)
  where
    go : (move : TokenMove g) → Takes move Fine (fine ts) v
        → ((after : List Bone) (form' : Form (Value g) after) → Derives g after form' (fine ts) v → Ready after → run g after form' ts ≡ Ok v)
        → go_on move t.at (λ after form'. run g after form' ts) ≡ Ok v
    go Stuck h rec = absurd h
    go (Goes Fine after form') h rec = rec after form' h.2 h.1
    go (Goes Deep after form') h rec = absurd (cc h.0)
    go (Goes Many after form') h rec = absurd (cc h.0)
