-- Counts of all objects, one after another.
use Rattle.std.proofs.Common.{◌≡◌, ◌∙◌, sym, ap, refl, subst, inl, inr, ℕ, suc, ◌<◌, ◌≤◌, ◌+◌, true, false, List, [], ◌∷◌, ◌++◌, All, Some, append_assoc, append-nil, flat_map, length, length-append, slice_get, arith}
use Rattle.std.specs.Prelude.{◌⊎◌, codes}
use Rattle.std.specs.List.{range_with_len}
use Rattle.sml_domain.specs.Domain.{Domain}
use Rattle.sml_domain.specs.Sound.{IsSound}
use Rattle.sml_domain.proofs.Finds.{all_head, all_tail}
use Rattle.smi_journal.specs.HasText.{HasNames}
use Rattle.smi_carried.specs.declared.carried.CarriedCounts.{CarriedCounts}
use Rattle.smi_carried.specs.CarriedText.{carried_count_line, carried_counts_at, carried_counts_lines, carried_counts_of, carried_counts_text}
use Rattle.smi_carried.specs.Counts.{BeginsWithCount, CountsAreAll, CountsAreHeld, ReadsCounts}
use Rattle.smi_carried.proofs.Counts.{IsKeyed, count_read_or, count_word, counts_from, counts_parts, keyed_begins, no_line, one_count, same_counts, skipped, skipped_ends}

-- ---- the text of counts

seam : (pre cs : List CarriedCounts) (c : CarriedCounts) → slice_get (pre ++ c ∷ cs) (length pre) ≡ Some c
seam [] cs c = refl
seam (p ∷ pre) cs c = seam pre cs c

module _ (d : Domain) where
  text_of_range : (pre cs : List CarriedCounts) → flat_map (carried_counts_at d (pre ++ cs)) (range_with_len (length pre) (length cs)) ≡ counts_from d (length pre) cs
  text_of_range pre [] = refl
  text_of_range pre (c ∷ cs) =
      let all = pre ++ c ∷ cs in
      let pre2 = pre ++ c ∷ [] in
      let same : all ≡ pre2 ++ cs = sym (append_assoc pre (c ∷ []) cs) in
      let size : length pre + 1 ≡ length pre2 = sym (length-append pre (c ∷ [])) in
      let next : length pre2 ≡ suc (length pre) = omega (arith, size) in
      ap (λ x. carried_counts_of d (length pre) x ++ flat_map (carried_counts_at d all) (range_with_len (length pre + 1) (length cs))) (seam pre cs c)
      ∙ ap (λ l. carried_counts_lines d (length pre) c ++ l)
      (ap (λ l. flat_map (carried_counts_at d l) (range_with_len (length pre + 1) (length cs))) same
      ∙ ap (λ k. flat_map (carried_counts_at d (pre2 ++ cs)) (range_with_len k (length cs))) size
      ∙ text_of_range pre2 cs ∙ ap (λ k. counts_from d k cs) next)

  pub counts_text_from : (cs : List CarriedCounts) → carried_counts_text d cs ≡ counts_from d 0 cs
  counts_text_from cs = text_of_range [] cs

  counts_push : (n : ℕ) (xs : List CarriedCounts) (c : CarriedCounts) → counts_from d n (xs ++ c ∷ []) ≡ counts_from d n xs ++ carried_counts_lines d (n + length xs) c
  counts_push n [] c = let e : n ≡ n + 0 = omega arith in append-nil (carried_counts_lines d n c) ∙ ap (λ k. carried_counts_lines d k c) e
  counts_push n (x ∷ xs) c =
      let e : suc n + length xs ≡ n + suc (length xs) = omega arith in
      ap (λ l. carried_counts_lines d n x ++ l) (counts_push (suc n) xs c ∙ ap (λ k. counts_from d (suc n) xs ++ carried_counts_lines d k c) e)
      ∙ sym (append_assoc (carried_counts_lines d n x) (counts_from d (suc n) xs) (carried_counts_lines d (n + suc (length xs)) c))

  read_lines : (o : ℕ) (text : List ℕ) (c : CarriedCounts) (more : List ℕ) → ReadsCounts d o text c more → text ≡ carried_counts_lines d o c ++ more
  read_lines o text c more r =
      r.started.says ∙ ap (λ l. carried_count_line (codes "! started") d o c.started ++ l) r.ended.says
      ∙ sym (append_assoc (carried_count_line (codes "! started") d o c.started) (carried_count_line (codes "! ended") d o c.ended) more)

  -- the lines of one object more
  pub counts_read : (text : List ℕ) (xs ys : List CarriedCounts) (o : ℕ) (rest : List ℕ) (c : CarriedCounts) (more : List ℕ) → length xs ≡ o
      → text ≡ counts_from d 0 xs ++ rest → ReadsCounts d o rest c more → ys ≡ xs ++ c ∷ [] → text ≡ counts_from d 0 ys ++ more
  counts_read text xs ys o rest c more size whole r is =
      let k : o ≡ 0 + length xs = omega (arith, size) in
      whole ∙ ap (λ l. counts_from d 0 xs ++ l) (read_lines o rest c more r) ∙ sym (append_assoc (counts_from d 0 xs) (carried_counts_lines d o c) more)
      ∙ ap (λ j. (counts_from d 0 xs ++ carried_counts_lines d j c) ++ more) k
      ∙ ap (λ l. l ++ more) (sym (counts_push 0 xs c) ∙ ap (counts_from d 0) (sym is))

-- what other counts of all objects stand in front of a text: these, and then others in front of the rest; or some after
-- which a line of a count comes, and no less text than the rest
abbrev pub CountsGoOn : Domain → List ℕ → List CarriedCounts → ℕ → List ℕ → Type 0
CountsGoOn d text found o rest =
    (others : List CarriedCounts) (more : List ℕ) → length others ≡ length d.objects → All CountsAreHeld others → text ≡ counts_from d 0 others ++ more
    → ((tail : List CarriedCounts) × (others ≡ found ++ tail) × All CountsAreHeld tail × (rest ≡ counts_from d o tail ++ more))
    ⊎ (BeginsWithCount more × (length rest ≤ length more))

shorter : (a b c : List ℕ) → a ≡ b ++ c → length c ≤ length a
shorter a b c e = let s : length a ≡ length b + length c = ap length e ∙ length-append b c in omega (arith, s)

pub counts_all : (d : Domain) (text : List ℕ) (xs : List CarriedCounts) (rest : List ℕ) → length xs ≡ length d.objects → CountsGoOn d text xs (length d.objects) rest
    → CountsAreAll d text xs rest
counts_all d text xs rest full on others more many held e = step (on others more many held (e ∙ ap (λ l. l ++ more) (counts_text_from d others)))
  where
    end : (tail : List CarriedCounts) → others ≡ xs ++ tail → rest ≡ counts_from d (length d.objects) tail ++ more → (others ≡ xs) × (more ≡ rest)
    end [] all r = (all ∙ append-nil xs, sym r)
    end (y ∷ ys) all r = let s : length others ≡ length xs + suc (length ys) = ap length all ∙ length-append xs (y ∷ ys) in absurd (omega (arith, s, full, many))

    step : ((tail : List CarriedCounts) × (others ≡ xs ++ tail) × All CountsAreHeld tail × (rest ≡ counts_from d (length d.objects) tail ++ more))
        ⊎ (BeginsWithCount more × (length rest ≤ length more))
        → ((others ≡ xs) × (more ≡ rest)) ⊎ (BeginsWithCount more × (length rest ≤ length more))
    step (inl t) = inl (end t.0 t.1 t.3)
    step (inr b) = inr b

module _ (d : Domain) (sound : IsSound d) (names : HasNames d) where
  -- the counts of one object more
  module _ (o : ℕ) (rest : List ℕ) (c : CarriedCounts) (more : List ℕ) (read : ReadsCounts d o rest c more)
      (y : CarriedCounts) (ys : List CarriedCounts) (last : List ℕ) (own : CountsAreHeld y) (fit : suc o + length ys ≤ length d.objects) where
    abbrev later : List ℕ
    later = counts_from d (suc o) ys ++ last

    abbrev ends : List ℕ
    ends = carried_count_line (count_word false) d o y.ended ++ later

    abbrev Goes : Type 0
    Goes = ((y ≡ c) × (more ≡ later)) ⊎ (BeginsWithCount last × (length more ≤ length last))

    second : y.started ≡ c.started → ends ≡ read.between → ((y.ended ≡ c.ended) × (later ≡ more)) ⊎ ((y.ended ≡ 0) × IsKeyed (count_word false) d o later) → Goes
    second s m (inl e) = inl (same_counts y c s e.0, sym e.1)
    second s m (inr k) =
        let same : later ≡ last = skipped d sound names false o (suc o) ys last (omega arith) fit k.1 in
        let is : read.between ≡ last = sym m ∙ no_line d sound names false o y.ended later k.0 ∙ same in
        inr (
          keyed_begins false d o last (subst (IsKeyed (count_word false) d o) same k.1),
          subst (λ l. length more ≤ length l) is (shorter read.between (carried_count_line (codes "! ended") d o c.ended) more read.ended.says),
        )

    first : rest ≡ carried_count_line (count_word true) d o y.started ++ ends
        → ((y.started ≡ c.started) × (ends ≡ read.between)) ⊎ ((y.started ≡ 0) × IsKeyed (count_word true) d o ends) → Goes
    first r (inl e) = second e.0 e.1 (count_read_or (count_word false) d o read.between c.ended y.ended more later read.ended own.ended (sym e.1))
    first r (inr k) =
        let same : ends ≡ last = skipped_ends d sound names o y.ended ys last fit k.1 in
        let is : rest ≡ last = r ∙ no_line d sound names true o y.started ends k.0 ∙ same in
        let one = shorter rest (carried_count_line (codes "! started") d o c.started) read.between read.started.says in
        let two = shorter read.between (carried_count_line (codes "! ended") d o c.ended) more read.ended.says in
        let less : length more ≤ length rest = omega (arith, one, two) in
        inr (keyed_begins true d o last (subst (IsKeyed (count_word true) d o) same k.1), subst (λ l. length more ≤ length l) is less)

    object_goes : rest ≡ counts_from d o (y ∷ ys) ++ last → Goes
    object_goes r =
        let parts = r ∙ counts_parts d o y ys last in
        first parts (count_read_or (count_word true) d o rest c.started y.started read.between ends read.started own.started parts)

  -- what goes on after the counts of one object more
  abbrev Next : List CarriedCounts → List CarriedCounts → ℕ → CarriedCounts → List ℕ → List ℕ → Type 0
  Next others xs o c more last =
      ((tail : List CarriedCounts) × (others ≡ (xs ++ c ∷ []) ++ tail) × All CountsAreHeld tail × (more ≡ counts_from d (o + 1) tail ++ last))
      ⊎ (BeginsWithCount last × (length more ≤ length last))

  next_taken : (others xs : List CarriedCounts) (o : ℕ) (c : CarriedCounts) (more last : List ℕ) (y : CarriedCounts) (ys : List CarriedCounts) → others ≡ xs ++ y ∷ ys
      → All CountsAreHeld (y ∷ ys) → ((y ≡ c) × (more ≡ counts_from d (suc o) ys ++ last)) ⊎ (BeginsWithCount last × (length more ≤ length last)) → Next others xs o c more last
  next_taken others xs o c more last y ys all h (inl s) =
      let next : suc o ≡ o + 1 = omega arith in
      inl (
        ys,
        all ∙ ap (λ k. xs ++ k ∷ ys) s.0 ∙ sym (append_assoc xs (c ∷ []) ys),
        all_tail CountsAreHeld y ys h,
        s.1 ∙ ap (λ k. counts_from d k ys ++ last) next,
      )
  next_taken others xs o c more last y ys all h (inr b) = inr b

  next_of : (others xs : List CarriedCounts) (o : ℕ) (rest : List ℕ) (c : CarriedCounts) (more last : List ℕ) → ReadsCounts d o rest c more → length xs ≡ o → o < length d.objects
      → length others ≡ length d.objects → (tail : List CarriedCounts) → others ≡ xs ++ tail → All CountsAreHeld tail → rest ≡ counts_from d o tail ++ last → Next others xs o c more last
  next_of others xs o rest c more last read size lt many [] all h r =
      let s : length others ≡ length xs + 0 = ap length all ∙ length-append xs [] in absurd (omega (arith, s, size, lt, many))
  next_of others xs o rest c more last read size lt many (y ∷ ys) all h r =
      let s : length others ≡ length xs + suc (length ys) = ap length all ∙ length-append xs (y ∷ ys) in
      next_taken others xs o c more last y ys all h (object_goes o rest c more read y ys last (all_head CountsAreHeld y ys h) (omega (arith, s, size, many)) r)

  pub counts_go_on : (text : List ℕ) (xs : List CarriedCounts) (o : ℕ) (rest : List ℕ) (c : CarriedCounts) (more : List ℕ) → length xs ≡ o → o < length d.objects
      → CountsGoOn d text xs o rest → ReadsCounts d o rest c more → CountsGoOn d text (xs ++ c ∷ []) (o + 1) more
  counts_go_on text xs o rest c more size lt on read others last many held e = step (on others last many held e)
    where
      step : ((tail : List CarriedCounts) × (others ≡ xs ++ tail) × All CountsAreHeld tail × (rest ≡ counts_from d o tail ++ last))
          ⊎ (BeginsWithCount last × (length rest ≤ length last)) → Next others xs o c more last
      step (inl t) = next_of others xs o rest c more last read size lt many t.0 t.1 t.2 t.3
      step (inr b) =
          let one = shorter rest (carried_count_line (codes "! started") d o c.started) read.between read.started.says in
          let two = shorter read.between (carried_count_line (codes "! ended") d o c.ended) more read.ended.says in
          let le = b.1 in
          inr (b.0, omega (arith, one, two, le))

  -- ---- counts of one text are one, where no line of a count follows them

  abbrev ends_of : ℕ → CarriedCounts → List CarriedCounts → List ℕ → List ℕ
  ends_of n c cs t = carried_count_line (count_word false) d n c.ended ++ (counts_from d (suc n) cs ++ t)

  module _ (n : ℕ) (x y : CarriedCounts) (xs ys : List CarriedCounts) (t u : List ℕ) (own_x : CountsAreHeld x) (own_y : CountsAreHeld y)
      (fit_x : suc n + length xs ≤ length d.objects) (fit_y : suc n + length ys ≤ length d.objects) (nt : BeginsWithCount t → ⊥) (nu : BeginsWithCount u → ⊥)
      (rest : counts_from d (suc n) xs ++ t ≡ counts_from d (suc n) ys ++ u → (xs ≡ ys) × (t ≡ u)) where
    second_one : x.started ≡ y.started
        → ((x.ended ≡ y.ended) × (counts_from d (suc n) xs ++ t ≡ counts_from d (suc n) ys ++ u))
        ⊎ (((x.ended ≡ 0) × IsKeyed (count_word false) d n (counts_from d (suc n) xs ++ t))
        ⊎ ((y.ended ≡ 0) × (0 < x.ended) × IsKeyed (count_word false) d n (counts_from d (suc n) ys ++ u))) → (x ∷ xs ≡ y ∷ ys) × (t ≡ u)
    second_one s (inl b) = let r = rest b.1 in (ap (λ k. k ∷ xs) (same_counts x y s b.0) ∙ ap (λ l. y ∷ l) r.0, r.1)
    second_one s (inr (inl k)) =
        absurd (nt (keyed_begins false d n t (subst (IsKeyed (count_word false) d n) (skipped d sound names false n (suc n) xs t (omega arith) fit_x k.1) k.1)))
    second_one s (inr (inr k)) =
        absurd (nu (keyed_begins false d n u (subst (IsKeyed (count_word false) d n) (skipped d sound names false n (suc n) ys u (omega arith) fit_y k.2) k.2)))

    first_one : ((x.started ≡ y.started) × (ends_of n x xs t ≡ ends_of n y ys u))
        ⊎ (((x.started ≡ 0) × IsKeyed (count_word true) d n (ends_of n x xs t)) ⊎ ((y.started ≡ 0) × (0 < x.started) × IsKeyed (count_word true) d n (ends_of n y ys u)))
        → (x ∷ xs ≡ y ∷ ys) × (t ≡ u)
    first_one (inl b) =
        second_one b.0 (one_count (count_word false) d n x.ended y.ended (counts_from d (suc n) xs ++ t) (counts_from d (suc n) ys ++ u) own_x.ended own_y.ended b.1)
    first_one (inr (inl k)) =
        absurd (nt (keyed_begins true d n t (subst (IsKeyed (count_word true) d n) (skipped_ends d sound names n x.ended xs t fit_x k.1) k.1)))
    first_one (inr (inr k)) =
        absurd (nu (keyed_begins true d n u (subst (IsKeyed (count_word true) d n) (skipped_ends d sound names n y.ended ys u fit_y k.2) k.2)))

    one_object : counts_from d n (x ∷ xs) ++ t ≡ counts_from d n (y ∷ ys) ++ u → (x ∷ xs ≡ y ∷ ys) × (t ≡ u)
    one_object e =
        first_one (one_count (count_word true) d n x.started y.started (ends_of n x xs t) (ends_of n y ys u) own_x.started own_y.started
        (sym (counts_parts d n x xs t) ∙ e ∙ counts_parts d n y ys u))

  pub one_counts : (n : ℕ) (xs ys : List CarriedCounts) (t u : List ℕ) → length xs ≡ length ys → n + length xs ≤ length d.objects → All CountsAreHeld xs → All CountsAreHeld ys
      → (BeginsWithCount t → ⊥) → (BeginsWithCount u → ⊥) → counts_from d n xs ++ t ≡ counts_from d n ys ++ u → (xs ≡ ys) × (t ≡ u)
  one_counts n [] [] t u same fit hx hy nt nu e = (refl, e)
  one_counts n [] (y ∷ ys) t u same fit hx hy nt nu e = absurd (omega (arith, same))
  one_counts n (x ∷ xs) [] t u same fit hx hy nt nu e = absurd (omega (arith, same))
  one_counts n (x ∷ xs) (y ∷ ys) t u same fit hx hy nt nu e =
      one_object n x y xs ys t u (all_head CountsAreHeld x xs hx) (all_head CountsAreHeld y ys hy) (omega (arith, fit)) (omega (arith, fit, same)) nt nu
      (λ r. one_counts (suc n) xs ys t u (omega (arith, same)) (omega (arith, fit)) (all_tail CountsAreHeld x xs hx) (all_tail CountsAreHeld y ys hy) nt nu r) e
