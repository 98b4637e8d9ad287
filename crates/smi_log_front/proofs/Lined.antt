-- Texts of whole lines, each of which may be the last.
use Rattle.std.proofs.Common.{◌≡◌, ◌≢◌, ◌∙◌, sym, ap, refl, subst, inl, inr, ℕ, true, List, [], ◌∷◌, ◌++◌, append_assoc, arith}
use Rattle.std.specs.Prelude.{◌⊎◌}
use Rattle.std.proofs.lemmas.Bool.Decides.{nat_tests}
use Rattle.sml_text.specs.Tokens.{Each}
use Rattle.smi_carried.specs.Pieces.{is_other_byte}
use Rattle.smi_carried.proofs.Cuts.{one_cut}
use Rattle.smi_log_front.specs.Laws.{IsOneLine}

abbrev rest_of : List ℕ → List ℕ
rest_of [] = []
rest_of (c ∷ cs) = cs

-- the last byte of a text, or this one where it has none
abbrev pub last_byte : ℕ → List ℕ → ℕ
last_byte b [] = b
last_byte b (c ∷ cs) = last_byte c cs

-- it begins with `! `, and then not with `a`
pub record IsCarriedLine (line : List ℕ) : Type 0 where
  pub byte : ℕ
  pub more : List ℕ
  pub other : byte ≢ 97
  pub is : line ≡ 33 ∷ 32 ∷ byte ∷ more

-- a line follows, up to which the text may be
pub record NextLine (may : List ℕ → Type 0) (before after : List ℕ) : Type 0 where
  pub line : List ℕ
  pub rest : List ℕ
  pub is : after ≡ line ++ rest
  pub one : IsOneLine line
  pub kind : IsCarriedLine line
  pub may_be : may (before ++ line)

-- wherever a line of the text ends, nothing follows, or a line up to which the text may be
abbrev pub IsLined : (List ℕ → Type 0) → List ℕ → Type 0
IsLined may text = (before after : List ℕ) → text ≡ before ++ after → last_byte 10 before ≡ 10 → (after ≡ []) ⊎ NextLine may before after

no_feed : (b : ℕ) → b ≡ 10 → is_other_byte 10 b ≡ true → ⊥
no_feed b e h = grind (arith, nat_tests, e)

-- whole lines begin with the first line of the text
first_line_cut : (words rest : List ℕ) (c : ℕ) (p u : List ℕ) → Each (is_other_byte 10) words → words ++ 10 ∷ rest ≡ c ∷ (p ++ u) → last_byte c p ≡ 10
    → (q : List ℕ) × (c ∷ p ≡ words ++ 10 ∷ q) × (rest ≡ q ++ u) × (last_byte 10 q ≡ 10)
first_line_cut [] rest c p u each e last =
    let f : 10 ≡ c = cc e in (p, ap (λ k. k ∷ p) (sym f), ap rest_of e, subst (λ k. last_byte k p ≡ 10) (sym f) last)
first_line_cut (b ∷ words) rest c [] u each e last = let f : b ≡ c = cc e in absurd (no_feed b (f ∙ last) each.0)
first_line_cut (b ∷ words) rest c (k ∷ p) u each e last =
    let f : b ≡ c = cc e in
    let r = first_line_cut words rest k p u each.1 (ap rest_of e) last in
    (r.0, ap (λ l. c ∷ l) r.1 ∙ ap (λ j. j ∷ (words ++ 10 ∷ r.0)) (sym f), r.2, r.3)

line_and : (line rest : List ℕ) (one : IsOneLine line) → line ++ rest ≡ one.words ++ 10 ∷ rest
line_and line rest one = ap (λ l. l ++ rest) one.is ∙ append_assoc one.words (10 ∷ []) rest

-- whole lines in front of a text that begins with a line are none, or begin with it
pub line_cut : (line rest : List ℕ) → IsOneLine line → (c : ℕ) (p u : List ℕ) → line ++ rest ≡ (c ∷ p) ++ u → last_byte 10 (c ∷ p) ≡ 10
    → (q : List ℕ) × (c ∷ p ≡ line ++ q) × (rest ≡ q ++ u) × (last_byte 10 q ≡ 10)
line_cut line rest one c p u e last =
    let cut = first_line_cut one.words rest c p u one.each (sym (line_and line rest one) ∙ e) last in
    (cut.0, cut.1 ∙ sym (line_and line cut.0 one), cut.2, cut.3)

-- one line is in front of a text
pub one_line : (x y t u : List ℕ) → IsOneLine x → IsOneLine y → x ++ t ≡ y ++ u → (x ≡ y) × (t ≡ u)
one_line x y t u hx hy e =
    let cut = one_cut 10 hx.words hy.words t u hx.each hy.each (sym (line_and x t hx) ∙ e ∙ line_and y u hy) in
    (hx.is ∙ ap (λ l. l ++ 10 ∷ []) cut.0 ∙ sym hy.is, cut.1)

last_both : (b : ℕ) (x y : List ℕ) → last_byte b (x ++ y) ≡ last_byte (last_byte b x) y
last_both b [] y = refl
last_both b (c ∷ x) y = last_both c x y

pub last_of_line : (b : ℕ) (line rest : List ℕ) → IsOneLine line → last_byte b (line ++ rest) ≡ last_byte 10 rest
last_of_line b line rest one = ap (last_byte b) (line_and line rest one) ∙ last_both b one.words (10 ∷ rest)

pub lined_none : (may : List ℕ → Type 0) → IsLined may []
lined_none may [] after e last = inl (sym e)
lined_none may (c ∷ p) after e last = absurd (cc e)

pub lined_more : (may other : List ℕ → Type 0) (text : List ℕ) → ((q : List ℕ) → may q → other q) → IsLined may text → IsLined other text
lined_more may other text to on before after e last = step (on before after e last)
  where
    step : (after ≡ []) ⊎ NextLine may before after → (after ≡ []) ⊎ NextLine other before after
    step (inl x) = inl x
    step (inr n) = inr (record { line = n.line; rest = n.rest; is = n.is; one = n.one; kind = n.kind; may_be = to (before ++ n.line) n.may_be })

-- one line more in front
pub lined_line : (may : List ℕ → Type 0) (line rest : List ℕ) → IsOneLine line → IsCarriedLine line → may line → IsLined (λ q. may (line ++ q)) rest
    → IsLined may (line ++ rest)
lined_line may line rest one kind may_be on [] after e last =
    inr (record { line = line; rest = rest; is = sym e; one = one; kind = kind; may_be = may_be })
lined_line may line rest one kind may_be on (c ∷ p) after e last =
    let cut = line_cut line rest one c p after e last in step cut.0 cut.1 (on cut.0 after cut.2 cut.3)
  where
    step : (q : List ℕ) → c ∷ p ≡ line ++ q → (after ≡ []) ⊎ NextLine (λ q. may (line ++ q)) q after → (after ≡ []) ⊎ NextLine may (c ∷ p) after
    step q is (inl x) = inl x
    step q is (inr n) =
        inr (record {
          line = n.line;
          rest = n.rest;
          is = n.is;
          one = n.one;
          kind = n.kind;
          may_be = subst may (sym (append_assoc line q n.line) ∙ ap (λ l. l ++ n.line) (sym is)) n.may_be;
        })

-- ---- texts with one text behind them

-- one of two texts in front of one text begins with the other
pub one_longer : (a b t u : List ℕ) → a ++ t ≡ b ++ u → ((v : List ℕ) × (b ≡ a ++ v) × (t ≡ v ++ u)) ⊎ ((v : List ℕ) × (a ≡ b ++ v) × (u ≡ v ++ t))
one_longer [] b t u e = inl (b, refl, e)
one_longer (x ∷ a) [] t u e = inr (x ∷ a, refl, sym e)
one_longer (x ∷ a) (y ∷ b) t u e = step (one_longer a b t u (ap rest_of e))
  where
    same : x ≡ y
    same = cc e

    step : ((v : List ℕ) × (b ≡ a ++ v) × (t ≡ v ++ u)) ⊎ ((v : List ℕ) × (a ≡ b ++ v) × (u ≡ v ++ t))
        → ((v : List ℕ) × (y ∷ b ≡ (x ∷ a) ++ v) × (t ≡ v ++ u)) ⊎ ((v : List ℕ) × (x ∷ a ≡ (y ∷ b) ++ v) × (u ≡ v ++ t))
    step (inl s) = inl (s.0, ap (λ l. y ∷ l) s.1 ∙ ap (λ k. k ∷ (a ++ s.0)) (sym same), s.2)
    step (inr s) = inr (s.0, ap (λ l. x ∷ l) s.1 ∙ ap (λ k. k ∷ (b ++ s.0)) same, s.2)

-- no line of what goes along is in front
abbrev pub NoCarriedLine : List ℕ → Type 0
NoCarriedLine text = (byte : ℕ) (more : List ℕ) → byte ≢ 97 → text ≢ 33 ∷ 32 ∷ byte ∷ more
