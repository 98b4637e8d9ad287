-- How many bytes pass at the front of a text.
use Rattle.std.proofs.Common.{◌≡◌, ◌≤◌, ◌<◌, ℕ, zero, suc, ◌+◌, List, [], ◌∷◌, ◌++◌, refl, ap, sym, ◌∙◌, subst, cond, true, false, Bool, arith, length, take, drop, take_while, get_or}
use Rattle.std.proofs.lemmas.List.Sums.{take_while-cons}
use Rattle.std.proofs.Math.Seq.{take-append_seam}
use Rattle.sml_text.specs.Scan.{span}
use Rattle.sml_text.specs.Tokens.{Each, Over}

pub span_more : (p : ℕ → Bool) (c : ℕ) (text : List ℕ) → p c ≡ true → span p (c ∷ text) ≡ span p text + 1
span_more p c text e =
    let h : length (cond (p c) (c ∷ take_while p text) []) ≡ length (take_while p text) + 1 = subst (λ (b : Bool). length (cond b (c ∷ take_while p text) []) ≡ length (take_while p text) + 1) (sym e) (omega arith) in
    ap length (take_while-cons p c text) ∙ h

pub span_none : (p : ℕ → Bool) (c : ℕ) (text : List ℕ) → p c ≡ false → span p (c ∷ text) ≡ 0
span_none p c text e = ap length (take_while-cons p c text) ∙ subst (λ (b : Bool). length (cond b (c ∷ take_while p text) []) ≡ 0) (sym e) refl

-- a text is what passes at its front and a rest that doesn't
pub record Cut (p : ℕ → Bool) (text : List ℕ) : Type 0 where
  pub body : List ℕ
  pub rest : List ℕ
  pub whole : text ≡ body ++ rest
  pub long : length body ≡ span p text
  pub each : Each p body
  pub over : Over p rest

pub cut : (p : ℕ → Bool) (text : List ℕ) → Cut p text
cut p [] = record { body = []; rest = []; whole = refl; long = refl; each = tt; over = tt }
cut p (c ∷ text) = go (p c) refl (cut p text)
  where
    go : (b : Bool) → p c ≡ b → Cut p text → Cut p (c ∷ text)
    go true e s = record { body = c ∷ s.body; rest = s.rest; whole = ap (λ l. c ∷ l) s.whole; long = (let h = span_more p c text e in let l = s.long in omega arith); each = (e, s.each); over = s.over }
    go false e s = record { body = []; rest = c ∷ text; whole = refl; long = sym (span_none p c text e); each = tt; over = e }

-- and its front is as long as that
pub span_cut : (p : ℕ → Bool) (body rest : List ℕ) → Each p body → Over p rest → span p (body ++ rest) ≡ length body
span_cut p [] [] each over = refl
span_cut p [] (c ∷ rest) each over = span_none p c rest over
span_cut p (c ∷ body) rest each over = let m = span_more p c (body ++ rest) each.0 in let h = span_cut p body rest each.1 over in omega arith

-- the front and the rest, as taken and dropped
pub take_seam : (body rest : List ℕ) (n : ℕ) → length body ≡ n → take n (body ++ rest) ≡ body
take_seam body rest n e = ap (λ k. take k (body ++ rest)) (sym e) ∙ take-append_seam body rest

pub drop_seam : (body rest : List ℕ) (n : ℕ) → length body ≡ n → drop n (body ++ rest) ≡ rest
drop_seam body rest n e = ap (λ k. drop k (body ++ rest)) (sym e) ∙ seam body
  where
    seam : (body : List ℕ) → drop (length body) (body ++ rest) ≡ rest
    seam [] = refl
    seam (c ∷ body) = seam body

-- the bytes that pass
pub span_each : (p : ℕ → Bool) (text : List ℕ) → Each p (take (span p text) text)
span_each p text =
    let k = cut p text in
    subst (Each p) (sym (ap (take (span p text)) k.whole ∙ take_seam k.body k.rest (span p text) k.long)) k.each

pub span_within : (p : ℕ → Bool) (text : List ℕ) → span p text ≤ length text
span_within p [] = omega arith
span_within p (c ∷ text) = go (p c) refl (span_within p text)
  where
    go : (b : Bool) → p c ≡ b → span p text ≤ length text → span p (c ∷ text) ≤ length (c ∷ text)
    go true e h = let m = span_more p c text e in omega arith
    go false e h = let m = span_none p c text e in omega arith

-- at the head of a text as many pass, or all of it
pub span_head : (p : ℕ → Bool) (k : ℕ) (text : List ℕ) → span p (take k text) < k → span p (take k text) ≡ span p text
span_head p zero text h = absurd (omega (arith, h))
span_head p (suc k) [] h = refl
span_head p (suc k) (c ∷ text) h = go (p c) refl (λ l. span_head p k text l)
  where
    go : (b : Bool) → p c ≡ b → (span p (take k text) < k → span p (take k text) ≡ span p text) → span p (c ∷ take k text) ≡ span p (c ∷ text)
    go true e more =
        let m = span_more p c (take k text) e in let n = span_more p c text e in
        let r = more (omega (arith, h, m)) in omega (arith, m, n, r)
    go false e more = span_none p c (take k text) e ∙ sym (span_none p c text e)

pub span_head_all : (p : ℕ → Bool) (k : ℕ) (text : List ℕ) → k ≤ span p (take k text) → k ≤ span p text
span_head_all p zero text h = omega arith
span_head_all p (suc k) [] h = h
span_head_all p (suc k) (c ∷ text) h = go (p c) refl (λ l. span_head_all p k text l)
  where
    go : (b : Bool) → p c ≡ b → (k ≤ span p (take k text) → k ≤ span p text) → suc k ≤ span p (c ∷ text)
    go true e more =
        let m = span_more p c (take k text) e in let n = span_more p c text e in
        let r = more (omega (arith, h, m)) in omega (arith, m, n, r)
    go false e more = let m = span_none p c (take k text) e in absurd (omega (arith, h, m))

-- each passes, so this one does
pub each_at : (p : ℕ → Bool) (xs : List ℕ) (i : ℕ) → Each p xs → i < length xs → p (get_or xs i 0) ≡ true
each_at p [] i h l = absurd (omega arith)
each_at p (x ∷ xs) zero h l = h.0
each_at p (x ∷ xs) (suc i) h l = each_at p xs i h.1 (omega arith)
