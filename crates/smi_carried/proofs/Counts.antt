-- The lines of counts.
use Rattle.std.proofs.Common.{◌≡◌, ◌≢◌, ◌∙◌, sym, ap, refl, subst, inl, inr, ℕ, zero, suc, ◌<◌, ◌≤◌, ◌+◌, ◌^◌, Bool, true, false, List, [], ◌∷◌, ◌++◌, append_assoc, get_or, length, arith}
use Rattle.std.specs.Prelude.{◌⊎◌, codes}
use Rattle.std.proofs.lemmas.List.{append_cancel_left}
use Rattle.sml_text.specs.Decimal.{decimal_text}
use Rattle.sml_domain.specs.Domain.{Domain}
use Rattle.sml_domain.specs.Sound.{IsObject, IsSound}
use Rattle.smi_journal.specs.CallText.{object_name_text, spaced}
use Rattle.smi_journal.specs.HasText.{HasNames}
use Rattle.smi_live_once.proofs.Decimals.{one_number}
use Rattle.smi_carried.specs.declared.carried.CarriedCounts.{CarriedCounts}
use Rattle.smi_carried.specs.CarriedText.{carried_count_line, carried_counts_lines, carried_object_text}
use Rattle.smi_carried.specs.Counts.{BeginsWithCount, CountIsRead, NoCountIsRead, ReadsCount}
use Rattle.smi_carried.proofs.Cuts.{number_bytes, one_cut}
use Rattle.smi_carried.proofs.Names.{name_bytes, object_name, one_object_name}

-- ---- one line

module _ (keyword : List ℕ) (d : Domain) (o : ℕ) where
  -- the line of a count that is not 0
  line_says : (n : ℕ) (more : List ℕ) → 0 < n
      → carried_count_line keyword d o n ++ more ≡ (carried_object_text keyword d o ++ codes " ") ++ (decimal_text n ++ 10 ∷ more)
  line_says zero more lt = absurd (omega (arith, lt))
  line_says (suc n) more lt =
      let front = carried_object_text keyword d o in
      append_assoc front (32 ∷ (decimal_text (suc n) ++ 10 ∷ [])) more
      ∙ ap (λ l. front ++ 32 ∷ l) (append_assoc (decimal_text (suc n)) (10 ∷ []) more)
      ∙ sym (append_assoc front (32 ∷ []) (decimal_text (suc n) ++ 10 ∷ more))

  pub no_front : (text : List ℕ) → ((more : List ℕ) → text ≢ (carried_object_text keyword d o ++ codes " ") ++ more) → NoCountIsRead keyword d o text
  no_front text none n more read = none (decimal_text n ++ 10 ∷ more) (read.says ∙ line_says n more read.some)

  module _ (text digits : List ℕ) (is : text ≡ (carried_object_text keyword d o ++ codes " ") ++ digits) where
    digits_behind : (n : ℕ) (more : List ℕ) → CountIsRead keyword d o text n more → digits ≡ decimal_text n ++ 10 ∷ more
    digits_behind n more read =
        append_cancel_left (carried_object_text keyword d o ++ codes " ") digits (decimal_text n ++ 10 ∷ more) (sym is ∙ read.says ∙ line_says n more read.some)

    pub no_count_read : ((n : ℕ) (more : List ℕ) → n < 2 ^ 64 → digits ≢ decimal_text n ++ 10 ∷ more) → NoCountIsRead keyword d o text
    no_count_read none n more read = none n more read.held (digits_behind n more read)

    pub no_zero : (k : ℕ) (last : List ℕ) → digits ≡ decimal_text k ++ 10 ∷ last → k < 2 ^ 64 → k ≤ 0 → NoCountIsRead keyword d o text
    no_zero k last e small none n more read =
        let same = (one_cut 10 (decimal_text n) (decimal_text k) more last (number_bytes 10 n refl read.held) (number_bytes 10 k refl small)
        (sym (digits_behind n more read) ∙ e)).0 in
        let is_k : n ≡ k = one_number n k read.held small same in
        let some = read.some in
        omega (arith, is_k, none, some)

    pub count_read : (k : ℕ) (last : List ℕ) → digits ≡ decimal_text k ++ 10 ∷ last → k < 2 ^ 64 → 0 < k → CountIsRead keyword d o text k last
    count_read k last e small some = record {
      some = some;
      held = small;
      says = is ∙ ap (λ l. (carried_object_text keyword d o ++ codes " ") ++ l) e ∙ sym (line_says k last some);
    }

  -- the name of an object is in front
  abbrev pub IsKeyed : List ℕ → Type 0
  IsKeyed text = (more : List ℕ) × (text ≡ carried_object_text keyword d o ++ 32 ∷ more)

  line_keyed : (n : ℕ) (more : List ℕ) → 0 < n → IsKeyed (carried_count_line keyword d o n ++ more)
  line_keyed n more some = (
    decimal_text n ++ 10 ∷ more,
    line_says n more some ∙ append_assoc (carried_object_text keyword d o) (32 ∷ []) (decimal_text n ++ 10 ∷ more),
  )

  -- counts of one text are one, or one of them is 0 and the other stands in front of what follows it
  pub one_count : (m n : ℕ) (t u : List ℕ) → m < 2 ^ 64 → n < 2 ^ 64 → carried_count_line keyword d o m ++ t ≡ carried_count_line keyword d o n ++ u
      → ((m ≡ n) × (t ≡ u)) ⊎ (((m ≡ 0) × IsKeyed t) ⊎ ((n ≡ 0) × (0 < m) × IsKeyed u))
  one_count zero zero t u hm hn e = inl (refl, e)
  one_count zero (suc n) t u hm hn e = inr (inl (refl, subst IsKeyed (sym e) (line_keyed (suc n) u (omega arith))))
  one_count (suc m) zero t u hm hn e = inr (inr (refl, omega arith, subst IsKeyed e (line_keyed (suc m) t (omega arith))))
  one_count (suc m) (suc n) t u hm hn e =
      let same = append_cancel_left (carried_object_text keyword d o ++ codes " ") (decimal_text (suc m) ++ 10 ∷ t) (decimal_text (suc n) ++ 10 ∷ u)
      (sym (line_says (suc m) t (omega arith)) ∙ e ∙ line_says (suc n) u (omega arith)) in
      let both = one_cut 10 (decimal_text (suc m)) (decimal_text (suc n)) t u (number_bytes 10 (suc m) refl hm) (number_bytes 10 (suc n) refl hn) same in
      inl (one_number (suc m) (suc n) hm hn both.0, both.1)

  -- another count in front of a text is the one that is read, or it is 0 and stands before the line
  pub count_read_or : (text : List ℕ) (n m : ℕ) (more t : List ℕ) → ReadsCount keyword d o text n more → m < 2 ^ 64 → text ≡ carried_count_line keyword d o m ++ t
      → ((m ≡ n) × (t ≡ more)) ⊎ ((m ≡ 0) × IsKeyed t)
  count_read_or text n m more t read hm e = by (one_count m n t more hm read.held (sym e ∙ read.says))
    where
      by : ((m ≡ n) × (t ≡ more)) ⊎ (((m ≡ 0) × IsKeyed t) ⊎ ((n ≡ 0) × (0 < m) × IsKeyed more)) → ((m ≡ n) × (t ≡ more)) ⊎ ((m ≡ 0) × IsKeyed t)
      by (inl same) = inl same
      by (inr (inl skipped)) = inr skipped
      by (inr (inr other)) = absurd (read.none other.0 m t (record { some = other.1; held = hm; says = e }))

-- ---- lines of several objects

-- the keyword of starts, and of ends
abbrev pub count_word : Bool → List ℕ
count_word true = codes "! started"
count_word false = codes "! ended"

-- the lines of the counts of these objects from one on
abbrev pub counts_from : Domain → ℕ → List CarriedCounts → List ℕ
counts_from d n [] = []
counts_from d n (c ∷ cs) = carried_counts_lines d n c ++ counts_from d (suc n) cs

pub keyed_begins : (word : Bool) (d : Domain) (o : ℕ) (text : List ℕ) → IsKeyed (count_word word) d o text → BeginsWithCount text
keyed_begins true d o text k =
    (spaced (object_name_text d o) ++ 32 ∷ k.0, inl (k.1 ∙ append_assoc (count_word true) (spaced (object_name_text d o)) (32 ∷ k.0)))
keyed_begins false d o text k =
    (spaced (object_name_text d o) ++ 32 ∷ k.0, inr (k.1 ∙ append_assoc (count_word false) (spaced (object_name_text d o)) (32 ∷ k.0)))

-- the four parts of the lines of an object and what follows them
pub counts_parts : (d : Domain) (n : ℕ) (c : CarriedCounts) (cs : List CarriedCounts) (t : List ℕ)
    → counts_from d n (c ∷ cs) ++ t ≡ carried_count_line (count_word true) d n c.started ++ (carried_count_line (count_word false) d n c.ended ++ (counts_from d (suc n) cs ++ t))
counts_parts d n c cs t =
    append_assoc (carried_counts_lines d n c) (counts_from d (suc n) cs) t
    ∙ append_assoc (carried_count_line (count_word true) d n c.started) (carried_count_line (count_word false) d n c.ended) (counts_from d (suc n) cs ++ t)

pub same_counts : (x y : CarriedCounts) → x.started ≡ y.started → x.ended ≡ y.ended → x ≡ y
same_counts x y s e = λ i. record { started = s i; ended = e i }

module _ (d : Domain) (sound : IsSound d) (names : HasNames d) where
  -- the line of an object is in front of one text only
  one_name : (o p : ℕ) (x y : List ℕ) → IsObject d o → IsObject d p → object_name_text d o ++ 32 ∷ x ≡ object_name_text d p ++ 32 ∷ y → o ≡ p
  one_name o p x y ho hp e =
      one_object_name d sound names o p ho hp
      (one_cut 32 (object_name_text d o) (object_name_text d p) x y (name_bytes (object_name_text d o) (object_name d sound names o ho))
      (name_bytes (object_name_text d p) (object_name d sound names p hp)) e).0

  one_keyed : (a b : Bool) (o p : ℕ) (text : List ℕ) → IsObject d o → IsObject d p → IsKeyed (count_word a) d o text → IsKeyed (count_word b) d p text
      → (a ≡ b) × (o ≡ p)
  one_keyed true true o p text ho hp k l =
      (refl, one_name o p k.0 l.0 ho hp (append_cancel_left (codes "! started ") (object_name_text d o ++ 32 ∷ k.0) (object_name_text d p ++ 32 ∷ l.0) (sym k.1 ∙ l.1)))
  one_keyed false false o p text ho hp k l =
      (refl, one_name o p k.0 l.0 ho hp (append_cancel_left (codes "! ended ") (object_name_text d o ++ 32 ∷ k.0) (object_name_text d p ++ 32 ∷ l.0) (sym k.1 ∙ l.1)))
  one_keyed true false o p text ho hp k l = let f : 115 ≡ 101 = ap (λ x. get_or x 2 0) (sym k.1 ∙ l.1) in absurd (omega (arith, f))
  one_keyed false true o p text ho hp k l = let f : 101 ≡ 115 = ap (λ x. get_or x 2 0) (sym k.1 ∙ l.1) in absurd (omega (arith, f))

  -- where the line of another count is in front, the count is 0
  other_line : (a b : Bool) (o p : ℕ) (n : ℕ) (t : List ℕ) → IsObject d o → IsObject d p → ((a ≡ b) × (o ≡ p) → ⊥)
      → IsKeyed (count_word a) d o (carried_count_line (count_word b) d p n ++ t) → n ≡ 0
  other_line a b o p zero t ho hp other k = refl
  other_line a b o p (suc n) t ho hp other k =
      absurd (other (one_keyed a b o p (carried_count_line (count_word b) d p (suc n) ++ t) ho hp k (line_keyed (count_word b) d p (suc n) t (omega arith))))

  pub no_line : (b : Bool) (p n : ℕ) (t : List ℕ) → n ≡ 0 → carried_count_line (count_word b) d p n ++ t ≡ t
  no_line b p n t e = ap (λ k. carried_count_line (count_word b) d p k ++ t) e

  -- so later objects have no lines there
  pub skipped : (a : Bool) (o n : ℕ) (cs : List CarriedCounts) (t : List ℕ) → o < n → n + length cs ≤ length d.objects
      → IsKeyed (count_word a) d o (counts_from d n cs ++ t) → counts_from d n cs ++ t ≡ t
  skipped a o n [] t lt fit k = refl
  skipped a o n (c ∷ cs) t lt fit k =
      let ends = carried_count_line (count_word false) d n c.ended ++ (counts_from d (suc n) cs ++ t) in
      let later = counts_from d (suc n) cs ++ t in
      let ho : IsObject d o = omega (arith, lt, fit) in
      let hn : IsObject d n = omega (arith, fit) in
      let parts = counts_parts d n c cs t in
      let first = no_line true n c.started ends
      (other_line a true o n c.started ends ho hn (λ e. let x = e.1 in omega (arith, x, lt)) (subst (IsKeyed (count_word a) d o) parts k)) in
      let second = no_line false n c.ended later
      (other_line a false o n c.ended later ho hn (λ e. let x = e.1 in omega (arith, x, lt)) (subst (IsKeyed (count_word a) d o) (parts ∙ first) k)) in
      let whole = parts ∙ first ∙ second in
      whole ∙ skipped a o (suc n) cs t (omega (arith, lt)) (omega (arith, fit)) (subst (IsKeyed (count_word a) d o) whole k)

  -- nor has the object itself that of its ends where that of its starts is in front
  pub skipped_ends : (o n : ℕ) (cs : List CarriedCounts) (t : List ℕ) → suc o + length cs ≤ length d.objects
      → IsKeyed (count_word true) d o (carried_count_line (count_word false) d o n ++ (counts_from d (suc o) cs ++ t))
      → carried_count_line (count_word false) d o n ++ (counts_from d (suc o) cs ++ t) ≡ t
  skipped_ends o n cs t fit k =
      let later = counts_from d (suc o) cs ++ t in
      let ho : IsObject d o = omega (arith, fit) in
      let first = no_line false o n later (other_line true false o o n later ho ho (λ e. cc (e.0)) k) in
      first ∙ skipped true o (suc o) cs t (omega arith) fit (subst (IsKeyed (count_word true) d o) first k)
