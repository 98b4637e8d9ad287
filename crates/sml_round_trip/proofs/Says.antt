-- A text whose tokens a form derives, built from its end to its front.
use Rattle.std.proofs.Common.{◌≡◌, ℕ, Bool, true, false, List, [], ◌∷◌, ◌++◌, refl, ap, sym, ◌∙◌, subst, append_assoc, append-nil, map, Some, inl, inr}
use Rattle.std.specs.List.{AllByRecursion}
use Rattle.sml_text.specs.Bytes.{is_blank, is_ascii, is_word_byte}
use Rattle.sml_text.specs.Tokens.{Lexeme, Each, Over, LexemeStands}
use Rattle.sml_text.specs.declared.source.Source.TheVariants.{Domain}
use Rattle.sml_tree.specs.declared.token_kind.TokenKind.{TokenKind}
use Rattle.sml_tree.specs.declared.token_kind.TokenKind.TheVariants.{Not, OpenBracket}
use Rattle.sml_tree.specs.Piece.{Piece, piece_kind, is_slash}
use Rattle.sml_tree.specs.Form.{Bone, B, P, Form, gives, needs, calls, part, ◌>>=◌, Mark, Fine, Deep, Part, family, Value}
use Rattle.sml_tree.specs.Grammar.{Rule, rules, empty, begun}
use Rattle.sml_tree.specs.Derive.{Marked, marked, plain, OneOf, Derives, nothing, token, left_out, written}
use Rattle.sml_tree.specs.Laws.{IsNotTooDeep}
use Rattle.sml_tree.proofs.Marks.{all_append}
use Rattle.sml_tree.proofs.Shows.{plain_append, joined, called}
use Rattle.sml_round_trip.proofs.Lexed.{Mould, mould, moulds, Lexes, lexes_token, lexes_blank, Spelt, spelt_none, spelt_both}

-- a piece of this kind at a place
abbrev pub piece_at : TokenKind → Lexeme → ℕ → Piece
piece_at k l at = record { kind = k; lexeme = l; at = at }

-- a rest in front of which a word or an int has ended
abbrev pub Edge : List ℕ → Type 0
Edge rest = Over is_word_byte rest

-- any rest
abbrev pub Anywhere : List ℕ → Type 0
Anywhere rest = Unit {0}

-- ---- what the tokens derive, wherever they stand in a text
-- the form derives these tokens, with no `not` and no bracket too deep
abbrev pub DerivedFrom : (g : Part) (bones : List Bone) → Form (Value g) bones → List Piece → Value g → Type 0
DerivedFrom g bones form ts v = (ks : List Marked) × (plain ks ≡ ts) × Derives g bones form ks v × AllByRecursion IsNotTooDeep ks

-- the form derives all pieces with these kinds and lexemes
abbrev pub Formed : (g : Part) (bones : List Bone) → Form (Value g) bones → List Mould → Value g → Type 0
Formed g bones form ms v = (ts : List Piece) → moulds ts ≡ ms → DerivedFrom g bones form ts v

-- where the kind is a `not` or a bracket, no limit refuses it
abbrev pub Free : TokenKind → Mark → Type 0
Free Not mark = mark ≡ Fine
Free OpenBracket mark = mark ≡ Fine
Free _ mark = Unit {0}

fine_deep : Fine ≡ Deep → ⊥
fine_deep e = absurd (cc e)

free_deep : (k : TokenKind) (mark : Mark) (l : Lexeme) (at : ℕ) → Free k mark → IsNotTooDeep (marked mark (piece_at k l at))
free_deep Not mark l at h = λ e k. fine_deep (sym h ∙ e)
free_deep OpenBracket mark l at h = λ e k. fine_deep (sym h ∙ e)
free_deep k mark l at h = λ e w. elim w [ inl x ↦ absurd (cc x) | inr x ↦ absurd (cc x) ]

formed_none : (g : Part) (v : Value g) → Formed g [] (gives v) [] v
formed_none g v [] e = ([], refl, nothing g v, tt)
formed_none g v (t ∷ ts) e = absurd (cc e)

formed_token : (g : Part) (bones : List Bone) (k : TokenKind) (mark : Mark) (f : Piece → Form (Value g) bones) (l : Lexeme) (ms : List Mould) (v : Value g)
    → Free k mark → ((at : ℕ) → f (piece_at k l at) ≡ f (piece_at k l 0)) → Formed g bones (f (piece_at k l 0)) ms v → Formed g (B k ∷ bones) (needs k mark f) (mould k l ∷ ms) v
formed_token g bones k mark f l ms v free blind h [] e = absurd (cc e)
formed_token g bones k mark f l ms v free blind h (t ∷ ts) e =
    let first : mould t.kind t.lexeme ≡ mould k l = cc in
    let kind : t.kind ≡ k = ap (λ (m : Mould). m.kind) first in
    let lexeme : t.lexeme ≡ l = ap (λ (m : Mould). m.lexeme) first in
    let same : t ≡ piece_at k l t.at = ap (λ k'. piece_at k' t.lexeme t.at) kind ∙ ap (λ l'. piece_at k l' t.at) lexeme in
    let x = h ts (cc) in
    subst (λ (u : Piece). DerivedFrom g (B k ∷ bones) (needs k mark f) (u ∷ ts) v) (sym same) (
      marked mark (piece_at k l t.at) ∷ x.0,
      ap (λ (us : List Piece). piece_at k l t.at ∷ us) x.1,
      token g bones k mark f (piece_at k l t.at) x.0 v refl (subst (λ (form : Form (Value g) bones). Derives g bones form x.0 v) (sym (blind t.at)) x.2),
      (free_deep k mark l t.at free, x.3),
    )

-- tokens in two parts
cut : (ms ns : List Mould) (ts : List Piece) → moulds ts ≡ ms ++ ns → (us : List Piece) × (vs : List Piece) × (ts ≡ us ++ vs) × (moulds us ≡ ms) × (moulds vs ≡ ns)
cut [] ns ts e = ([], ts, refl, refl, e)
cut (m ∷ ms) ns [] e = absurd (cc e)
cut (m ∷ ms) ns (t ∷ ts) e =
    let x = cut ms ns ts (cc) in
    let first : mould t.kind t.lexeme ≡ m = cc in
    (t ∷ x.0, x.1, ap (λ (l : List Piece). t ∷ l) x.2, ap (λ (y : Mould). y ∷ moulds x.0) first ∙ ap (λ (l : List Mould). m ∷ l) x.3, x.4)

formed_call : (g n : Part) (bones : List Bone) (f : Value n → Form (Value g) bones) (w : Value n) (ms ns : List Mould) (v : Value g)
    → Formed n (P (family n) ∷ []) (part n) ms w → Formed g bones (f w) ns v → Formed g (P (family n) ∷ bones) (calls n f) (ms ++ ns) v
formed_call g n bones f w ms ns v h k ts e =
    let c = cut ms ns ts e in
    let x = h c.0 c.3 in
    let y = k c.1 c.4 in
    (x.0 ++ y.0, plain_append x.0 y.0 ∙ ap (λ l. l ++ plain y.0) x.1 ∙ ap (λ l. c.0 ++ l) y.1 ∙ sym c.2, called g n bones f w x.0 y.0 v x.2 y.2, all_append IsNotTooDeep x.0 y.0 x.3 y.3)

formed_rule : (n : Part) (r : Rule n) (ms : List Mould) (v : Value n) → OneOf (rules n) r → Formed n (B r.kind ∷ r.bones) (needs r.kind r.mark r.rest) ms v → Formed n (P (family n) ∷ []) (part n) ms v
formed_rule n r ms v one h ts e =
    let x = h ts e in
    let whole : x.0 ++ [] ≡ x.0 = append-nil x.0 in
    (x.0, x.1, subst (λ (l : List Marked). Derives n (P (family n) ∷ []) (part n) l v) whole (written n n [] gives r v x.0 [] v one x.2 (nothing n v)), x.3)

formed_left_out : (n : Part) (v : Value n) → empty n ≡ Some v → Formed n (P (family n) ∷ []) (part n) [] v
formed_left_out n v e [] i = ([], refl, left_out n n [] gives v [] v e (nothing n v), tt)
formed_left_out n v e (t ∷ ts) i = absurd (cc i)

-- ---- texts
-- the text has tokens which the form derives
pub record Say (slash : Bool) (E : List ℕ → Type 0) (g : Part) (bones : List Bone) (form : Form (Value g) bones) (text : List ℕ) (v : Value g) : Type 0 where
  pub tokens : List Mould
  pub spelt : Spelt slash E text tokens
  pub formed : Formed g bones form tokens v

-- the text has tokens which are a text of the part
pub record Wrote (slash : Bool) (E : List ℕ → Type 0) (n : Part) (text : List ℕ) (v : Value n) : Type 0 where
  pub tokens : List Mould
  pub spelt : Spelt slash E text tokens
  pub formed : Formed n (P (family n) ∷ []) (part n) tokens v

-- the end
pub say_end : {E : List ℕ → Type 0} {g : Part} {v : Value g} → Say false E g [] (gives v) [] v
say_end {E} {g} {v} = record { tokens = []; spelt = spelt_none E; formed = formed_none g v }

-- a blank
pub say_blank : {slash : Bool} {E : List ℕ → Type 0} {g : Part} {bones : List Bone} {form : Form (Value g) bones} {text : List ℕ} {v : Value g} {c : ℕ}
    → is_blank c ≡ true → is_ascii c ≡ true → Say slash E g bones form text v → Say slash E g bones form (c ∷ text) v
say_blank {slash} {E} {g} {bones} {form} {text} {v} {c} e a h = record {
  tokens = h.tokens;
  spelt = record { whole = λ more ns x y. lexes_blank slash c (text ++ more) (h.tokens ++ ns) e a (h.spelt.whole more ns x y) };
  formed = h.formed;
}

-- a token
pub say_token : {slash : Bool} {E : List ℕ → Type 0} {g : Part} {bones : List Bone} {mark : Mark} {f : Piece → Form (Value g) bones} {text : List ℕ} {v : Value g}
    (bytes : List ℕ) (l : Lexeme) (k : TokenKind) → ((rest : List ℕ) → E rest → LexemeStands Domain bytes (text ++ rest) (Some l)) → Each is_ascii bytes → piece_kind slash l ≡ k → Free k mark
    → ((at : ℕ) → f (piece_at k l at) ≡ f (piece_at k l 0)) → Say (is_slash l) E g bones (f (piece_at k l 0)) text v → Say slash E g (B k ∷ bones) (needs k mark f) (bytes ++ text) v
say_token {slash} {E} {g} {bones} {mark} {f} {text} {v} bytes l k s a is free blind h = record {
  tokens = mould k l ∷ h.tokens;
  spelt = record {
    whole = λ more ns x y.
        let t = lexes_token slash bytes (text ++ more) l (h.tokens ++ ns) (s more x) a (h.spelt.whole more ns x y) in
        let Q : List ℕ → TokenKind → Type 0 = λ b k'. Lexes slash b (mould k' l ∷ (h.tokens ++ ns)) in
        subst (λ b. Q b k) (sym (append_assoc bytes text more)) (subst (λ k'. Q (bytes ++ (text ++ more)) k') is t);
  };
  formed = formed_token g bones k mark f l h.tokens v free blind h.formed;
}

-- a part, and what is behind it
pub say_part : {slash : Bool} {E F : List ℕ → Type 0} {g n : Part} {bones : List Bone} {f : Value n → Form (Value g) bones} {a b : List ℕ} {w : Value n} {v : Value g}
    → Wrote slash E n a w → ((more : List ℕ) → F more → E (b ++ more)) → Say false F g bones (f w) b v → Say slash F g (P (family n) ∷ bones) (calls n f) (a ++ b) v
say_part {slash} {E} {F} {g} {n} {bones} {f} {a} {b} {w} {v} x clear y = record {
  tokens = x.tokens ++ y.tokens;
  spelt = spelt_both slash E F a b x.tokens y.tokens x.spelt y.spelt clear;
  formed = formed_call g n bones f w x.tokens y.tokens v x.formed y.formed;
}

-- a part at the end
pub say_last : {slash : Bool} {E : List ℕ → Type 0} {g n : Part} {f : Value n → Form (Value g) []} {a : List ℕ} {w : Value n} {v : Value g}
    → Wrote slash E n a w → f w ≡ gives v → Say slash E g (P (family n) ∷ []) (calls n f) a v
say_last {slash} {E} {g} {n} {f} {a} {w} {v} x e =
    let last : Say false E g [] (f w) [] v = subst (λ (form : Form (Value g) []). Say false E g [] form [] v) (sym e) say_end in
    subst (λ t. Say slash E g (P (family n) ∷ []) (calls n f) t v) (append-nil a) (say_part x (λ more h. h) last)

-- a text of three parts, joined from the other side
pub say_grouped : {slash : Bool} {E : List ℕ → Type 0} {g : Part} {bones : List Bone} {form : Form (Value g) bones} {v : Value g} (a b c : List ℕ)
    → Say slash E g bones form (a ++ (b ++ c)) v → Say slash E g bones form ((a ++ b) ++ c) v
say_grouped {slash} {E} {g} {bones} {form} {v} a b c h = subst (λ t. Say slash E g bones form t v) (sym (append_assoc a b c)) h

-- a part that is written in one of its ways
pub wrote_by : {slash : Bool} {E : List ℕ → Type 0} {n : Part} {text : List ℕ} {v : Value n} (r : Rule n) → OneOf (rules n) r → Say slash E n (B r.kind ∷ r.bones) (needs r.kind r.mark r.rest) text v → Wrote slash E n text v
wrote_by {slash} {E} {n} {text} {v} r one h = record { tokens = h.tokens; spelt = h.spelt; formed = formed_rule n r h.tokens v one h.formed }

-- a part that is left out
pub wrote_none : {E : List ℕ → Type 0} {n : Part} {v : Value n} → empty n ≡ Some v → Wrote false E n [] v
wrote_none {E} {n} {v} e = record { tokens = []; spelt = spelt_none E; formed = formed_left_out n v e }

-- a text with nothing behind it
pub say_alone : {slash : Bool} {E : List ℕ → Type 0} {g : Part} {bones : List Bone} {form : Form (Value g) bones} {v : Value g} (a : List ℕ)
    → Say slash E g bones form (a ++ []) v → Say slash E g bones form a v
say_alone {slash} {E} {g} {bones} {form} {v} a h = subst (λ t. Say slash E g bones form t v) (append-nil a) h

-- a text spelled otherwise
pub say_spelled : {slash : Bool} {E : List ℕ → Type 0} {g : Part} {bones : List Bone} {form : Form (Value g) bones} {v : Value g} (s t : List ℕ)
    → s ≡ t → Say slash E g bones form t v → Say slash E g bones form s v
say_spelled {slash} {E} {g} {bones} {form} {v} s t e h = subst (λ l. Say slash E g bones form l v) (sym e) h

-- ---- parts that begin with other parts
one_begun : (n m : Part) (more : List Bone) (k : Value n → Form (Value m) more) (rs : List (Rule n)) (r : Rule n) → OneOf rs r → OneOf (map (begun n m k) rs) (begun n m k r)
one_begun n m more k [] r one = absurd one
one_begun n m more k (x ∷ rs) r (inl e) = inl (ap (begun n m k) e)
one_begun n m more k (x ∷ rs) r (inr one) = inr (one_begun n m more k rs r one)

formed_behind : (n m : Part) (bones more : List Bone) (form : Form (Value n) bones) (k : Value n → Form (Value m) more) (w : Value n) (ms ns : List Mould) (v : Value m)
    → Formed n bones form ms w → Formed m more (k w) ns v → Formed m (bones ++ more) (form >>= k) (ms ++ ns) v
formed_behind n m bones more form k w ms ns v h l ts e =
    let c = cut ms ns ts e in
    let x = h c.0 c.3 in
    let y = l c.1 c.4 in (
      x.0 ++ y.0,
      plain_append x.0 y.0 ∙ ap (λ l'. l' ++ plain y.0) x.1 ∙ ap (λ l'. c.0 ++ l') y.1 ∙ sym c.2,
      joined n bones form x.0 w x.2 m more k y.0 v y.2,
      all_append IsNotTooDeep x.0 y.0 x.3 y.3,
    )

-- the text is written in this way
pub record Chosen (slash : Bool) (E : List ℕ → Type 0) (n : Part) (text : List ℕ) (v : Value n) : Type 0 where
  pub rule : Rule n
  pub one : OneOf (rules n) rule
  pub say : Say slash E n (B rule.kind ∷ rule.bones) (needs rule.kind rule.mark rule.rest) text v

pub chosen : {slash : Bool} {E : List ℕ → Type 0} {n : Part} {text : List ℕ} {v : Value n} (r : Rule n) → OneOf (rules n) r → Say slash E n (B r.kind ∷ r.bones) (needs r.kind r.mark r.rest) text v → Chosen slash E n text v
chosen r one h = record { rule = r; one = one; say = h }

pub chosen_wrote : {slash : Bool} {E : List ℕ → Type 0} {n : Part} {text : List ℕ} {v : Value n} → Chosen slash E n text v → Wrote slash E n text v
chosen_wrote c = wrote_by c.rule c.one c.say

-- a part whose rules are those of another, each begun, with what is behind that
pub begin : {slash : Bool} {E F : List ℕ → Type 0} {a b : List ℕ} (n m : Part) (more : List Bone) (k : Value n → Form (Value m) more) (w : Value n) (v : Value m)
    → ((r : Rule n) → OneOf (map (begun n m k) (rules n)) (begun n m k r) → OneOf (rules m) (begun n m k r))
    → Chosen slash E n a w → ((rest : List ℕ) → F rest → E (b ++ rest)) → Say false F m more (k w) b v → Chosen slash F m (a ++ b) v
begin {slash} {E} {F} {a} {b} n m more k w v same c clear y = record {
  rule = begun n m k c.rule;
  one = same c.rule (one_begun n m more k (rules n) c.rule c.one);
  say = record {
    tokens = c.say.tokens ++ y.tokens;
    spelt = spelt_both slash E F a b c.say.tokens y.tokens c.say.spelt y.spelt clear;
    formed = formed_behind n m (B c.rule.kind ∷ c.rule.bones) more (needs c.rule.kind c.rule.mark c.rule.rest) k w c.say.tokens y.tokens v c.say.formed y.formed;
  };
}
