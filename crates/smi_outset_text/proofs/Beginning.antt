-- A text that begins with what may stand in some lines.
use Rattle.std.proofs.Common.{◌≡◌, ◌∙◌, sym, ap, refl, subst, ℕ, zero, suc, ◌+◌, ◌-◌, ◌<◌, ◌≤◌, List, [], ◌∷◌, ◌++◌, append_assoc, append-nil, length, map, flat_map, arith}
use Rattle.std.specs.List.{range_with_len}
use Rattle.std.proofs.lemmas.List.{length-append, map-append}
use Rattle.std.proofs.lemmas.List.Concat.{flat_map-append}
use Rattle.std.proofs.lemmas.List.FromFn.{length-map-range_with_len}
use Rattle.sml_domain.specs.Domain.{Domain}
use Rattle.smi_outset_text.specs.Lines.{BeginsWithLines, IsBadFor, IsFirstBadLine, MayStand, MembersOf, OutsetLine, ParamOf, StateOf}
use Rattle.smi_outset_text.specs.Reading.{FaultIsIn}
use Rattle.smi_outset_text.specs.declared.fault.OutsetFault.{OutsetFault}
use Rattle.smi_outset_text.specs.declared.fault.OutsetFault.TheVariants.{BadLine, Memory}

abbrev HasByte : List ℕ → Type 0
HasByte [] = ⊥
HasByte (c ∷ cs) = Unit {0}

-- a range, cut at a number
range_append : (a m n : ℕ) → range_with_len a (m + n) ≡ range_with_len a m ++ range_with_len (a + m) n
range_append a zero n =
    let z : 0 + n ≡ n = omega arith in
    let e : a ≡ a + 0 = omega arith in ap (range_with_len a) z ∙ ap (λ k. range_with_len k n) e
range_append a (suc m) n =
    let s : suc m + n ≡ suc (m + n) = omega arith in
    let e : (a + 1) + m ≡ a + suc m = omega arith in
    ap (range_with_len a) s
    ∙ ap (λ l. a ∷ l) (range_append (a + 1) m n ∙ ap (λ k. range_with_len (a + 1) m ++ range_with_len k n) e)

-- a range, cut at one of its numbers
range_at : (o n : ℕ) → o < n → range_with_len 0 n ≡ range_with_len 0 o ++ o ∷ range_with_len (o + 1) (n - (o + 1))
range_at o n lt =
    let z : 0 + o ≡ o = omega arith in
    let e : n ≡ o + suc (n - (o + 1)) = omega (arith, lt) in
    ap (range_with_len 0) e ∙ range_append 0 o (suc (n - (o + 1)))
    ∙ ap (λ k. range_with_len 0 o ++ k ∷ range_with_len (k + 1) (n - (o + 1))) z

-- a range, and one number more
range_more : (n : ℕ) → range_with_len 0 (n + 1) ≡ range_with_len 0 n ++ n ∷ []
range_more n = let z : 0 + n ≡ n = omega arith in range_append 0 n 1 ∙ ap (λ k. range_with_len 0 n ++ k ∷ []) z

module _ (d : Domain) where
  pub begins_both : (first others : List OutsetLine) (text mid rest : List ℕ) → BeginsWithLines d first text mid
      → BeginsWithLines d others mid rest → BeginsWithLines d (first ++ others) text rest
  begins_both [] others text mid rest h g = subst (λ t. BeginsWithLines d others t rest) (sym h) g
  begins_both (l ∷ ls) others text mid rest h g =
      (h.0, h.1, h.2, h.3, begins_both ls others h.1 mid rest h.4 g)

  -- one line more
  begins_line : (line : OutsetLine) (text one more : List ℕ) → MayStand d line one → text ≡ one ++ more → BeginsWithLines d (line ∷ []) text more
  begins_line line text one more may e = (one, more, may, e, refl)

  pub begins_more : (f : ℕ → OutsetLine) (o : ℕ) (text rest one more : List ℕ) → BeginsWithLines d (map f (range_with_len 0 o)) text rest
      → MayStand d (f o) one → rest ≡ one ++ more → BeginsWithLines d (map f (range_with_len 0 (o + 1))) text more
  begins_more f o text rest one more h may e =
      subst (λ ls. BeginsWithLines d ls text more)
      (sym (ap (map f) (range_more o) ∙ map-append f (range_with_len 0 o) (o ∷ [])))
      (begins_both (map f (range_with_len 0 o)) (f o ∷ []) text rest more h (begins_line (f o) rest one more may e))

  pub begins_flat_more : (g : ℕ → List OutsetLine) (o : ℕ) (text rest more : List ℕ) → BeginsWithLines d (flat_map g (range_with_len 0 o)) text rest
      → BeginsWithLines d (g o) rest more → BeginsWithLines d (flat_map g (range_with_len 0 (o + 1))) text more
  begins_flat_more g o text rest more h own =
      subst (λ ls. BeginsWithLines d ls text more)
      (sym (ap (flat_map g) (range_more o) ∙ flat_map-append g (range_with_len 0 o) (o ∷ [])))
      (begins_both (flat_map g (range_with_len 0 o)) (g o ++ []) text rest more h (subst (λ ls. BeginsWithLines d ls rest more) (sym (append-nil (g o))) own))

  pub flat_count : (g : ℕ → List OutsetLine) (o n m : ℕ) → n ≡ length (flat_map g (range_with_len 0 o)) → m ≡ length (g o)
      → n + m ≡ length (flat_map g (range_with_len 0 (o + 1)))
  flat_count g o n m e f =
      let whole = ap length (ap (flat_map g) (range_more o) ∙ flat_map-append g (range_with_len 0 o) (o ∷ [])) in
      let both = length-append (flat_map g (range_with_len 0 o)) (g o ++ []) in
      let own = ap length (append-nil (g o)) in
      omega (arith, e, f, whole, both, own)

  -- the first bad line of the lines that follow good ones, and of those that stand before others
  bad_after : (first others : List OutsetLine) (text mid : List ℕ) (count : ℕ) → BeginsWithLines d first text mid
      → IsFirstBadLine d others mid count → IsFirstBadLine d (first ++ others) text (length first + count)
  bad_after first others text mid count h b = record {
    before = first ++ b.before;
    line = b.line;
    others = b.others;
    rest = b.rest;
    split = ap (λ l. first ++ l) b.split ∙ sym (append_assoc first b.before (b.line ∷ b.others));
    number = ap (λ k. length first + k) b.number ∙ sym (length-append first b.before);
    good = begins_both first b.before text mid b.rest h b.good;
    bad = b.bad;
  }

  bad_before : (first others : List OutsetLine) (text : List ℕ) (count : ℕ) → IsFirstBadLine d first text count → IsFirstBadLine d (first ++ others) text count
  bad_before first others text count b = record {
    before = b.before;
    line = b.line;
    others = b.others ++ others;
    rest = b.rest;
    split = ap (λ l. l ++ others) b.split ∙ append_assoc b.before (b.line ∷ b.others) others;
    number = b.number;
    good = b.good;
    bad = b.bad;
  }

  pub fault_after : (lines : ℕ) (first others : List OutsetLine) (text mid : List ℕ) (count : ℕ) → lines ≡ length first
      → BeginsWithLines d first text mid → IsFirstBadLine d others mid count → IsFirstBadLine d (first ++ others) text (lines + count)
  fault_after lines first others text mid count e h b =
      subst (IsFirstBadLine d (first ++ others) text) (ap (λ k. k + count) (sym e)) (bad_after first others text mid count h b)

  fault_before : (first others : List OutsetLine) (text : List ℕ) (fault : OutsetFault) → FaultIsIn d first text fault → FaultIsIn d (first ++ others) text fault
  fault_before first others text (BadLine count) b = bad_before first others text count b
  fault_before first others text Memory b = tt

  -- what is bad in the line of one number
  pub bad_at : (f : ℕ → OutsetLine) (o n : ℕ) (text rest : List ℕ) → o < n → BeginsWithLines d (map f (range_with_len 0 o)) text rest
      → IsBadFor d (f o) rest → IsFirstBadLine d (map f (range_with_len 0 n)) text o
  bad_at f o n text rest lt h b = record {
    before = map f (range_with_len 0 o);
    line = f o;
    others = map f (range_with_len (o + 1) (n - (o + 1)));
    rest = rest;
    split = ap (map f) (range_at o n lt) ∙ map-append f (range_with_len 0 o) (o ∷ range_with_len (o + 1) (n - (o + 1)));
    number = sym (length-map-range_with_len f 0 o);
    good = h;
    bad = b;
  }

  -- what is bad in the lines of one number
  pub fault_at : (g : ℕ → List OutsetLine) (o n : ℕ) (text : List ℕ) (fault : OutsetFault) → o < n
      → FaultIsIn d (flat_map g (range_with_len 0 o) ++ g o) text fault → FaultIsIn d (flat_map g (range_with_len 0 n)) text fault
  fault_at g o n text fault lt b =
      subst (λ ls. FaultIsIn d ls text fault)
      (append_assoc (flat_map g (range_with_len 0 o)) (g o) (flat_map g (range_with_len (o + 1) (n - (o + 1))))
      ∙ sym (flat_map-append g (range_with_len 0 o) (o ∷ range_with_len (o + 1) (n - (o + 1))))
      ∙ sym (ap (flat_map g) (range_at o n lt)))
      (fault_before (flat_map g (range_with_len 0 o) ++ g o) (flat_map g (range_with_len (o + 1) (n - (o + 1)))) text fault b)

  -- each line has a byte
  some_byte : (line : OutsetLine) (one : List ℕ) → MayStand d line one → 1 ≤ length one
  some_byte line (c ∷ cs) h = omega arith
  some_byte (StateOf o) [] h = absurd (subst HasByte (sym h.says) tt)
  some_byte (ParamOf o k) [] h = absurd (subst HasByte (sym h.says) tt)
  some_byte (MembersOf set) [] h = absurd (subst HasByte (sym h.says) tt)

  -- so there are no more lines than bytes
  pub lines_fit : (lines : List OutsetLine) (text rest : List ℕ) → BeginsWithLines d lines text rest → length lines + length rest ≤ length text
  lines_fit [] text rest h = let e : length text ≡ length rest = ap length h in omega (arith, e)
  lines_fit (l ∷ ls) text rest h =
      let some = some_byte l h.0 h.2 in
      let more = lines_fit ls h.1 rest h.4 in
      let e : length text ≡ length h.0 + length h.1 = ap length h.3 ∙ length-append h.0 h.1 in
      omega (arith, some, more, e)

  pub counts_fit : (first others : List OutsetLine) (text mid : List ℕ) (count : ℕ) → BeginsWithLines d first text mid
      → IsFirstBadLine d others mid count → length first + count ≤ length text
  counts_fit first others text mid count h b =
      let one = lines_fit first text mid h in
      let two = lines_fit b.before mid b.rest b.good in
      let three = b.number in
      omega (arith, one, two, three)
