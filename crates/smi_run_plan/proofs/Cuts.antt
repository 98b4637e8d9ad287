-- Lists of devices and of lines by their places.
use Rattle.std.proofs.Common.{◌≡◌, ◌∙◌, ◌+◌, ℕ, zero, suc, Bool, true, false, cond, List, [], ◌∷◌, ◌++◌, length, map}
use Rattle.std.proofs.Common.{refl, sym, ap, arith, drop, take, ltb, Some, None, drop-drop, ◌==◌}
use Rattle.std.specs.Prelude.{Vec, slice_get}
use Rattle.std.specs.Global.{Global}
use Rattle.std.specs.List.{enumerate_from, position_or_len}
use Rattle.std.specs.Option.{option_map_or}
use Rattle.std.proofs.lemmas.List.{append-nil, length-map}
use Rattle.std.proofs.lemmas.List.Splits.{slice_split_first}
use Rattle.sml_domain.specs.Domain.{Domain}
use Rattle.sml_domain.specs.Lookups.{associated_at}
use Rattle.smi_run.specs.declared.script.Line.{Line}
use Rattle.smi_run.specs.declared.script.Script.{Script}
use Rattle.smi_run_plan.specs.declared.device.ScriptDevice.{ScriptDevice}
use Rattle.smi_run_plan.specs.Devices.{devices_from}
use Rattle.smi_run_plan.specs.Plans.{deeds_of, deeds_at, deeds_of_script, planned_at, script_lines}

-- the second of a pair
abbrev pub second : ℕ × ScriptDevice → ScriptDevice
second p = p.1

-- one device more: of an object that has one, or of one that has none
devices_more : (d : Domain) (o : ℕ) (xs : List ScriptDevice) (x : ScriptDevice)
    → devices_from d o (xs ++ x ∷ []) ≡ devices_from d o xs ++ cond (associated_at d (o + length xs)) (x ∷ []) []
devices_more d o [] x = ap (λ n. cond (associated_at d n) (x ∷ []) []) (omega arith)
devices_more d o (y ∷ ys) x =
    let rest = devices_more d (suc o) ys x ∙ ap (λ n. devices_from d (suc o) ys ++ cond (associated_at d n)
    (x ∷ []) []) (omega arith) in
    by (associated_at d o) rest
  where
    by : (b : Bool) → devices_from d (suc o) (ys ++ x ∷ []) ≡ devices_from d (suc o) ys ++ cond (associated_at d
        (o + length (y ∷ ys))) (x ∷ []) []
        → cond b (y ∷ devices_from d (suc o) (ys ++ x ∷ [])) (devices_from d (suc o) (ys ++ x ∷ [])) ≡ cond b
        (y ∷ devices_from d (suc o) ys) (devices_from d (suc o) ys) ++ cond (associated_at d (o + length
        (y ∷ ys))) (x ∷ []) []
    by true e = ap (λ l. y ∷ l) e
    by false e = e

-- what is enumerated, without the numbers
pub unnumbered : (n : ℕ) (xs : List ScriptDevice) → map second (enumerate_from n xs) ≡ xs
unnumbered n [] = refl
unnumbered n (x ∷ xs) = ap (λ l. x ∷ l) (unnumbered (n + 1) xs)

second_push : (xs : List (ℕ × ScriptDevice)) (x : ℕ × ScriptDevice)
    → map second (xs ++ x ∷ []) ≡ map second xs ++ x.1 ∷ []
second_push [] x = refl
second_push (y ∷ ys) x = ap (λ l. y.1 ∷ l) (second_push ys x)

length_second : (xs : List (ℕ × ScriptDevice)) → length (map second xs) ≡ length xs
length_second [] = refl
length_second (x ∷ xs) = ap suc (length_second xs)

module _ (d : Domain) (seen : List (ℕ × ScriptDevice)) (o : ℕ) (x : ScriptDevice) (place : o ≡ length seen) where
  more : (b : Bool) → associated_at d o ≡ b → devices_from d 0 (map second (seen ++
      (o, x) ∷ [])) ≡ devices_from d 0 (map second seen) ++ cond b (x ∷ []) []
  more b e =
      ap (devices_from d 0) (second_push seen (o, x)) ∙ devices_more d 0 (map second seen) x
      ∙ ap (λ (c : Bool). devices_from d 0 (map second seen) ++ cond c (x ∷ []) []) (ap (associated_at d) (omega
      (arith, length_second seen, place)) ∙ e)

  pub taken_more : (out : List ScriptDevice) → out ≡ devices_from d 0 (map second seen) → associated_at d o ≡ true
      → out ++ x ∷ [] ≡ devices_from d 0 (map second (seen ++ (o, x) ∷ []))
  taken_more out is e = ap (λ l. l ++ x ∷ []) is ∙ sym (more true e)

  pub left_more : (out : List ScriptDevice) → out ≡ devices_from d 0 (map second seen) → associated_at d o ≡ false
      → out ≡ devices_from d 0 (map second (seen ++ (o, x) ∷ []))
  left_more out is e = is ∙ sym (more false e ∙ append-nil (devices_from d 0 (map second seen)))

-- scripts of lists hold what the lists hold
pub planned : (scripts : List Script) (lists : List (Vec Line Global))
    → map deeds_of_script scripts ≡ map deeds_of lists → (i : ℕ) → planned_at scripts i ≡ deeds_at lists i
planned [] [] e i = refl
planned [] (v ∷ vs) e i = absurd (omega (arith, ap length e))
planned (s ∷ ss) [] e i = absurd (omega (arith, ap length e))
planned (s ∷ ss) (v ∷ vs) e zero = ap (λ l. option_map_or (λ x. x) (slice_get l 0) []) e
planned (s ∷ ss) (v ∷ vs) e (suc i) = planned ss vs (ap (λ l. drop 1 l) e) i

same_count : {A B C : Type 0} (f : A → C) (g : B → C) (xs : List A) (ys : List B) → map f xs ≡ map g ys
    → length xs ≡ length ys
same_count f g xs ys e = sym (length-map xs f) ∙ ap length e ∙ length-map ys g

pub planned_count : (scripts : List Script) (lists : List (Vec Line Global))
    → map deeds_of_script scripts ≡ map deeds_of lists → length scripts ≡ length lists
planned_count scripts lists e = same_count deeds_of_script deeds_of scripts lists e

-- the first line of a text ends at its first line feed
pub cut : (text : List ℕ) (end : ℕ) → Some end ≡ cond (ltb (position_or_len (λ b. b == 10) text) (length text))
    (Some (position_or_len (λ b. b == 10) text)) None
    → script_lines text ≡ take end text ∷ script_lines (drop 1 (drop end text))
cut text end e = by (position_or_len (λ b. b == 10) text) (ltb (position_or_len (λ b. b == 10) text)
    (length text)) refl refl e
  where
    by : (p : ℕ) (b : Bool) → position_or_len (λ b. b == 10) text ≡ p → ltb p (length text) ≡ b
        → Some end ≡ cond b (Some p) None → script_lines text ≡ take end text ∷ script_lines (drop 1 (drop end text))
    by p true is within same =
        let at : end ≡ position_or_len (λ b. b == 10) text = cc in
        slice_split_first (λ b. b == 10) text 0 (grind arith)
        ∙ ap (λ n. take n text ∷ script_lines (drop (n + 1) text)) (sym at)
        ∙ ap (λ l. take end text ∷ script_lines l) (sym (drop-drop 1 end text))
    by p false is within same = absurd cc
