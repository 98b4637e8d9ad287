-- How many lines there are.
use Rattle.std.proofs.Common.{◌≡◌, ◌∙◌, sym, ap, ℕ, suc, ◌<◌, ◌≤◌, ◌+◌, ◌-◌, ◌==◌, Bool, true, false, List, [], ◌∷◌, ◌++◌, cond, get_or, length, length-append, take, arith}
use Rattle.std.proofs.Math.Seq.{take-append_seam}
use Rattle.std.proofs.lemmas.List.{take_more}
use Rattle.sml_domain.specs.Domain.{Domain}
use Rattle.smi_outset_text.specs.Lines.{BeginsWithLines, IsFirstBadLine, MayStand, MembersOf, OutsetLine, ParamOf, StateOf}
use Rattle.smi_outset_text.specs.OutsetText.{outset_members_line, outset_param_line, outset_state_line}
use Rattle.smi_log_front.specs.Faults.{line_count}

-- ---- line feeds

line_count_both : (a b : List ℕ) → line_count (a ++ b) ≡ line_count a + line_count b
line_count_both [] b = let e : line_count b ≡ 0 + line_count b = omega arith in e
line_count_both (c ∷ cs) b = by (c == 10) (line_count_both cs b)
  where
    by : (t : Bool) → line_count (cs ++ b) ≡ line_count cs + line_count b
        → (cond t (suc (line_count (cs ++ b))) (line_count (cs ++ b))) ≡ (cond t (suc (line_count cs)) (line_count cs)) + line_count b
    by true h = omega (arith, h)
    by false h = h

-- one byte more
pub byte_counted : (text : List ℕ) (k c : ℕ) → k < length text → c ≡ get_or text k c → line_count (take k text) + line_count (c ∷ []) ≡ line_count (take (k + 1) text)
byte_counted text k c lt is =
    sym (line_count_both (take k text) (c ∷ [])) ∙ ap line_count (ap (λ b. take k text ++ b ∷ []) is ∙ sym (take_more text k c lt))

-- what stands before the rest
pub front_taken : (text rest taken : List ℕ) (n : ℕ) → taken ≡ take (length text - length rest) text → n ≡ line_count taken
    → (front : List ℕ) → text ≡ front ++ rest → n ≡ line_count front
front_taken text rest taken n is count front e =
    let size : length text ≡ length front + length rest = ap length e ∙ length-append front rest in
    let place : length text - length rest ≡ length front = omega (arith, size) in
    count ∙ ap line_count (is ∙ ap (λ k. take k text) place ∙ ap (take (length front)) e ∙ take-append_seam front rest)

-- ---- lines of an outset

module _ (d : Domain) where
  some_byte : (line : OutsetLine) (one : List ℕ) → MayStand d line one → 1 ≤ length one
  some_byte (StateOf o) one h = let e : length one ≡ length (outset_state_line d o h.state) = ap length h.says in omega (arith, e)
  some_byte (ParamOf o k) one h = let e : length one ≡ length (outset_param_line d o h.given) = ap length h.says in omega (arith, e)
  some_byte (MembersOf set) one h = let e : length one ≡ length (outset_members_line d set h.members) = ap length h.says in omega (arith, e)

  -- there are no more lines than bytes
  lines_fit : (lines : List OutsetLine) (text rest : List ℕ) → BeginsWithLines d lines text rest → length lines + length rest ≤ length text
  lines_fit [] text rest h = let e : length text ≡ length rest = ap length h in omega (arith, e)
  lines_fit (l ∷ ls) text rest h =
      let some = some_byte l h.0 h.2 in
      let more = lines_fit ls h.1 rest h.4 in
      let e : length text ≡ length h.0 + length h.1 = ap length h.3 ∙ length-append h.0 h.1 in
      omega (arith, some, more, e)

  pub bad_fits : (lines : List OutsetLine) (text : List ℕ) (count : ℕ) → IsFirstBadLine d lines text count → count ≤ length text
  bad_fits lines text count b =
      let fits = lines_fit b.before text b.rest b.good in
      let number = b.number in
      omega (arith, fits, number)
