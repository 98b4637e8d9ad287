-- Lines of one place more.
use Rattle.std.proofs.Common.{◌≡◌, ◌∙◌, sym, ap, refl, subst, ℕ, zero, suc, ◌<◌, ◌+◌, ◌-◌, List, [], ◌∷◌, ◌++◌, arith, length, get_or, take, drop, flat_map}
use Rattle.std.specs.List.{range_with_len}
use Rattle.std.proofs.lemmas.List.{flat_map_more, take_all}
use Rattle.sml_domain.specs.declared.value.Value.{Value}
use Rattle.sml_domain.specs.Domain.{Domain, Param}
use Rattle.sml_domain.specs.Lookups.{class_params_at}
use Rattle.smi_journal_entries.specs.declared.entry.Entry.{Entry}
use Rattle.smi_journal_entries.specs.declared.journal.Format.{Format}
use Rattle.smi_journal_entries.specs.Words.{open_at, state_of}
use Rattle.smi_meaning.specs.Params.{ParamsAfter}
use Rattle.show_states.specs.StandingText.{AreOpenLines, AreParamLines, standing_open_line, standing_param_lines, standing_state_line}

-- a range, with its last number by itself
range_with_last : (a n : ℕ) → range_with_len a (suc n) ≡ range_with_len a n ++ (a + n) ∷ []
range_with_last a zero = let e : a ≡ a + 0 = omega arith in ap (λ k. k ∷ []) e
range_with_last a (suc n) =
    let e : (a + 1) + n ≡ a + suc n = omega arith in
    ap (λ l. a ∷ l) (range_with_last (a + 1) n ∙ ap (λ k. range_with_len (a + 1) n ++ k ∷ []) e)

-- one number more
range_of_one_more : (n : ℕ) → range_with_len 0 (n + 1) ≡ range_with_len 0 n ++ n ∷ []
range_of_one_more n =
    let e : n + 1 ≡ suc n = omega arith in
    let z : 0 + n ≡ n = omega arith in
    ap (range_with_len 0) e ∙ range_with_last 0 n ∙ ap (λ k. range_with_len 0 n ++ k ∷ []) z

-- the lines of one place more
pub lines_of_one_more : (line : ℕ → List ℕ) (n : ℕ)
    → flat_map line (range_with_len 0 n) ++ line n ≡ flat_map line (range_with_len 0 (n + 1))
lines_of_one_more line n = flat_map_more line [] (range_with_len 0 n) n ∙ ap (flat_map line) (sym (range_of_one_more n))

-- the first of a list, and what a pattern leaves of it
pub first_and_rest : {A : Type 0} (xs : List A) (x : A) → 0 < length xs → x ≡ get_or xs 0 x
    → x ∷ take (length xs - 1) (drop 1 xs) ≡ xs
first_and_rest [] x some is = absurd (omega (arith, some))
first_and_rest (y ∷ ys) x some is =
    ap (λ z. z ∷ take (length (y ∷ ys) - 1) ys) is
    ∙ ap (λ l. y ∷ l) (take_all (length (y ∷ ys) - 1) ys (omega arith))

-- the line of a state, of an object that is known by other terms
pub same_state_line : {d d2 : Domain} {o o2 s : ℕ} (J : List Entry) → d2 ≡ d → o2 ≡ o → s ≡ state_of d o2 J
    → standing_state_line d2 o2 s ≡ standing_state_line d o (state_of d o J)
same_state_line {d} {d2} {o} {o2} {s} J e n p =
    ap (standing_state_line d2 o2) p ∙ (λ i. standing_state_line (e i) (n i) (state_of d (n i) J))

-- the lines of parameters, of an object that is known by other terms
pub same_param_lines : {d d2 : Domain} {o o2 : ℕ} {ps : List Param} (own : List Value) → d2 ≡ d → o2 ≡ o
    → ps ≡ class_params_at d2 o2
    → standing_param_lines d2 o2 ps own ≡ standing_param_lines d o (class_params_at d o) own
same_param_lines {d} {d2} {o} {o2} {ps} own e n p =
    ap (λ qs. standing_param_lines d2 o2 qs own) p
    ∙ (λ i. standing_param_lines (e i) (n i) (class_params_at (e i) (n i)) own)

-- the parameters of one object more
pub param_lines_more : (format : Format) (d : Domain) (J : List Entry) (o : ℕ) (lines : List ℕ) (own : List Value)
    → AreParamLines format d J o lines → ParamsAfter format d o J own
    → AreParamLines format d J (o + 1) (lines ++ standing_param_lines d o (class_params_at d o) own)
param_lines_more format d J o lines own are after =
    let e : suc o ≡ o + 1 = omega arith in
    let text = lines ++ standing_param_lines d o (class_params_at d o) own in
    subst (λ n. AreParamLines format d J n text) e (lines, own, are, after, refl)

-- what is open at one object more
pub open_lines_more : (d : Domain) (J : List Entry) (o : ℕ) (lines waits : List ℕ) → AreOpenLines d J o lines
    → AreOpenLines d J (o + 1) (lines ++ standing_open_line d o (open_at o J) waits)
open_lines_more d J o lines waits are =
    let e : suc o ≡ o + 1 = omega arith in
    let text = lines ++ standing_open_line d o (open_at o J) waits in
    subst (λ n. AreOpenLines d J n text) e (lines, waits, are, refl)
