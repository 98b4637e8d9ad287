-- How many objects have devices.
use Rattle.std.proofs.Common.{◌≡◌, ◌+◌, ◌∙◌, ◌++◌, ◌∷◌, ℕ, [], length, map, ap, sym, refl, arith, Bool, true, false, cond, List}
use Rattle.std.specs.List.{filter, range_with_len}
use Rattle.std.proofs.lemmas.List.{length_push, append-nil, map-append}
use Rattle.smi_mail.proofs.Opening.{range_more}
use Rattle.sml_domain.specs.Domain.{Domain}
use Rattle.sml_domain.specs.Lookups.{associated_at}
use Rattle.smi_run_runtime.specs.Opening.{device_place}

filter_push : (f : ℕ → Bool) (xs : List ℕ) (x : ℕ) → filter f (xs ++ x ∷ []) ≡ filter f xs ++ filter f (x ∷ [])
filter_push f [] x = refl
filter_push f (y ∷ ys) x = by (f y) (filter_push f ys x)
  where
    by : (b : Bool) → filter f (ys ++ x ∷ []) ≡ filter f ys ++ filter f (x ∷ []) → cond b (y ∷ filter f (ys ++ x ∷ [])) (filter f (ys ++ x ∷ [])) ≡ cond b (y ∷ filter f ys) (filter f ys) ++ filter f (x ∷ [])
    by true rest = ap (λ l. y ∷ l) rest
    by false rest = rest

module _ (d : Domain) (o : ℕ) where
  more : filter (associated_at d) (range_with_len 0 (o + 1)) ≡ filter (associated_at d) (range_with_len 0 o) ++ filter (associated_at d) (o ∷ [])
  more = ap (filter (associated_at d)) (range_more o) ∙ filter_push (associated_at d) (range_with_len 0 o) o

  -- one more has a device
  pub one_more : (n : ℕ) → n ≡ length (filter (associated_at d) (range_with_len 0 o)) → associated_at d o ≡ true → n + 1 ≡ length (filter (associated_at d) (range_with_len 0 (o + 1)))
  one_more n is has =
      ap (λ k. k + 1) is
      ∙ sym (ap length (more ∙ ap (λ b. filter (associated_at d) (range_with_len 0 o) ++ cond b (o ∷ []) []) has) ∙ length_push (filter (associated_at d) (range_with_len 0 o)) o)

  -- one more has none
  pub none_more : (n : ℕ) → n ≡ length (filter (associated_at d) (range_with_len 0 o)) → associated_at d o ≡ false → n ≡ length (filter (associated_at d) (range_with_len 0 (o + 1)))
  none_more n is has =
      is ∙ sym (ap length (more ∙ ap (λ b. filter (associated_at d) (range_with_len 0 o) ++ cond b (o ∷ []) []) has ∙ append-nil (filter (associated_at d) (range_with_len 0 o))))

-- the places of the first objects, and that of one more
pub one_place : (d : Domain) (o n : ℕ) (ps : List ℕ) → ps ≡ map (device_place d) (range_with_len 0 o) → n ≡ device_place d o → ps ++ n ∷ [] ≡ map (device_place d) (range_with_len 0 (o + 1))
one_place d o n ps all one =
    ap (λ (l : List ℕ). l ++ n ∷ []) all ∙ ap (λ k. map (device_place d) (range_with_len 0 o) ++ k ∷ []) one
    ∙ sym (ap (map (device_place d)) (range_more o) ∙ map-append (device_place d) (range_with_len 0 o) (o ∷ []))
