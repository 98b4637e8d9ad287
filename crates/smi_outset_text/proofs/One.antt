-- One text has one outset.
use Rattle.std.proofs.Common.{◌≡◌, ◌∙◌, sym, ap, refl, subst, ℕ, zero, suc, ◌+◌, ◌<◌, true, List, [], ◌∷◌, ◌++◌, Option, Some, All, append_assoc, flat_map, get_or, length, map, slice_get, arith}
use Rattle.std.proofs.lemmas.Bool.Decides.{nat_tests}
use Rattle.std.proofs.lemmas.Option.{same_Some, slice_get-get_or}
use Rattle.std.specs.List.{range_with_len}
use Rattle.std.proofs.lemmas.List.{append_cancel_left, map-id}
use Rattle.std.specs.Prelude.{codes}
use Rattle.sml_text.specs.Bytes.{no_line_feed}
use Rattle.sml_text.specs.Tokens.{Each}
use Rattle.sml_domain.specs.declared.value.Value.{Value}
use Rattle.sml_domain.specs.Domain.{Domain, Param}
use Rattle.sml_domain.specs.Lookups.{class_params_at}
use Rattle.sml_domain.specs.Sound.{IsObject, IsSound}
use Rattle.sml_domain.proofs.Finds.{all_head, all_tail}
use Rattle.sml_domain.proofs.Setted.{may_there}
use Rattle.smi_journal.specs.CallText.{object_name_text, state_name_text, value_text}
use Rattle.smi_journal.specs.HasText.{HasNames, ValueIsHeld}
use Rattle.sml_tree.specs.declared.file.Kind.{Kind}
use Rattle.sml_tree.specs.Word.{is_name_byte}
use Rattle.sml_outset.specs.Outset.{Outset, Stand}
use Rattle.sml_outset.specs.Suits.{MembersSuit, ParamSuits, ParamsSuit, StandSuits, Suits}
use Rattle.smi_outset_text.specs.OutsetText.{keyed_object, member_word, numbered, objects_text, outset_members_front, outset_members_line, outset_param_front, outset_param_line, outset_param_lines, outset_state_line, outset_text, stand_param_lines, stand_state_line}
use Rattle.smi_outset_text.specs.Lines.{BeginsWithLines, IsBadFor, IsFirstBadLine, MayStand, MembersOf, OutsetLine, ParamOf, StateOf, members_lines, lines_of_objects, outset_lines, param_lines, param_lines_of, state_lines}
use Rattle.smi_outset_text.specs.Reading.{IsHeldOutset, IsHeldParam, IsHeldStand, IsOwnState, state_of_stand}
use Rattle.smi_outset_text.proofs.Beginning.{begins_both}
use Rattle.smi_outset_text.proofs.Fronts.{one_line_front}
use Rattle.smi_outset_text.proofs.Names.{name_bytes, object_name, one_state_name, state_name}
use Rattle.smi_outset_text.proofs.Spelled.{each_append, each_more, one_value, value_line}
use Rattle.smi_outset_text.proofs.Valued.{has_value}
use Rattle.smi_outset_text.proofs.Words.{one_object, more_ends}

abbrev first_of : List ℕ → ℕ
first_of [] = 0
first_of (c ∷ cs) = c

name_line : (c : ℕ) → is_name_byte c ≡ true → no_line_feed c ≡ true
name_line c h = grind (arith, nat_tests)

-- equal parts
same_param : (g : Param) (n : List ℕ) (k : Kind) (v : Option Value) → g.name ≡ n → g.kind ≡ k → g.value ≡ v → g ≡ record { name = n; kind = k; value = v }
same_param g n k v a b e = λ i. record { name = a i; kind = b i; value = e i }

same_stand : (x y : Stand) → x.state ≡ y.state → x.params ≡ y.params → x ≡ y
same_stand x y s p = λ i. record { state = s i; params = p i }

same_outset : (x y : Outset) → x.stands ≡ y.stands → x.members ≡ y.members → x ≡ y
same_outset x y s m = λ i. record { stands = s i; members = m i }

-- one front, and what differs behind it
behind_front : (front a b t u : List ℕ) → (front ++ a) ++ t ≡ (front ++ b) ++ u → a ++ t ≡ b ++ u
behind_front front a b t u e = append_cancel_left front (a ++ t) (b ++ u) (sym (append_assoc front a t) ∙ e ∙ append_assoc front b u)

lines_of_one : (a b t u : List ℕ) → Each no_line_feed a → Each no_line_feed b → (a ++ 10 ∷ []) ++ t ≡ (b ++ 10 ∷ []) ++ u → (a ≡ b) × (t ≡ u)
lines_of_one a b t u ha hb e = one_line_front a b t u ha hb (sym (append_assoc a (10 ∷ []) t) ∙ e ∙ append_assoc b (10 ∷ []) u)

module _ (d : Domain) (sound : IsSound d) (names : HasNames d) where
  -- the lines of two states of one object
  state_word : (o s : ℕ) → IsOwnState d o s → Each no_line_feed (32 ∷ state_name_text d s)
  state_word o s h = (refl, each_more is_name_byte no_line_feed (state_name_text d s) name_line (name_bytes (state_name_text d s) (state_name d sound names o s h)))

  one_state : (o s r : ℕ) (t u : List ℕ) → IsOwnState d o s → IsOwnState d o r
      → outset_state_line d o s ++ t ≡ outset_state_line d o r ++ u → (s ≡ r) × (t ≡ u)
  one_state o s r t u hs hr e =
      let eq = behind_front (keyed_object (codes "! state") d o) ((32 ∷ state_name_text d s) ++ 10 ∷ []) ((32 ∷ state_name_text d r) ++ 10 ∷ []) t u e in
      let both = lines_of_one (32 ∷ state_name_text d s) (32 ∷ state_name_text d r) t u (state_word o s hs) (state_word o r hr) eq in
      (one_state_name d sound names o s r hs hr (append_cancel_left (32 ∷ []) (state_name_text d s) (state_name_text d r) both.0), both.1)

  -- the lines of two values of one parameter
  value_of_line : (o : ℕ) (p given : Param) → ParamSuits p given → IsHeldParam given
      → (v : Value) × ValueIsHeld v × (given ≡ record { name = p.name; kind = p.kind; value = Some v })
      × (outset_param_line d o given ≡ outset_param_front d o p ++ (value_text v ++ 10 ∷ []))
  value_of_line o p given suits held =
      let h = has_value p given suits held in
      let is : given ≡ record { name = p.name; kind = p.kind; value = Some h.value } = same_param given p.name p.kind (Some h.value) suits.name suits.kind h.is in
      (h.value, h.held, is, ap (outset_param_line d o) is)

  one_param : (o : ℕ) (p x y : Param) (t u : List ℕ) → ParamSuits p x → ParamSuits p y → IsHeldParam x → IsHeldParam y
      → outset_param_line d o x ++ t ≡ outset_param_line d o y ++ u → (x ≡ y) × (t ≡ u)
  one_param o p x y t u sx sy hx hy e =
      let v = value_of_line o p x sx hx in
      let w = value_of_line o p y sy hy in
      let eq = behind_front (outset_param_front d o p) (value_text v.0 ++ 10 ∷ []) (value_text w.0 ++ 10 ∷ []) t u
      (ap (λ l. l ++ t) (sym v.3) ∙ e ∙ ap (λ l. l ++ u) w.3) in
      let both = lines_of_one (value_text v.0) (value_text w.0) t u (value_line v.0 v.1) (value_line w.0 w.1) eq in
      (v.2 ∙ ap (λ k. record { name = p.name; kind = p.kind; value = Some k }) (one_value v.0 w.0 v.1 w.1 both.0) ∙ sym w.2, both.1)

  -- the lines of the members of one set
  member_line : (ms : List ℕ) → All (IsObject d) ms → Each no_line_feed (flat_map (member_word d) ms)
  member_line [] h = tt
  member_line (m ∷ ms) h =
      let lt = all_head (IsObject d) m ms h in
      each_append no_line_feed (member_word d m) (flat_map (member_word d) ms)
      (refl, each_more is_name_byte no_line_feed (object_name_text d m) name_line (name_bytes (object_name_text d m) (object_name d sound names m lt)))
      (member_line ms (all_tail (IsObject d) m ms h))

  one_list : (xs ys : List ℕ) → All (IsObject d) xs → All (IsObject d) ys → flat_map (member_word d) xs ++ 10 ∷ [] ≡ flat_map (member_word d) ys ++ 10 ∷ [] → xs ≡ ys
  one_list [] [] hx hy e = refl
  one_list [] (y ∷ ys) hx hy e = let x : 10 ≡ 32 = ap first_of e in absurd (omega (arith, x))
  one_list (x ∷ xs) [] hx hy e = let y : 32 ≡ 10 = ap first_of e in absurd (omega (arith, y))
  one_list (x ∷ xs) (y ∷ ys) hx hy e =
      let both = one_object d sound names x y (flat_map (member_word d) xs ++ 10 ∷ []) (flat_map (member_word d) ys ++ 10 ∷ [])
      (all_head (IsObject d) x xs hx) (all_head (IsObject d) y ys hy) (more_ends d xs []) (more_ends d ys [])
      (sym (append_assoc (member_word d x) (flat_map (member_word d) xs) (10 ∷ [])) ∙ e ∙ append_assoc (member_word d y) (flat_map (member_word d) ys) (10 ∷ [])) in
      ap (λ k. k ∷ xs) both.0 ∙ ap (λ l. y ∷ l) (one_list xs ys (all_tail (IsObject d) x xs hx) (all_tail (IsObject d) y ys hy) both.1)

  one_members : (set : ℕ) (xs ys t u : List ℕ) → All (IsObject d) xs → All (IsObject d) ys
      → outset_members_line d set xs ++ t ≡ outset_members_line d set ys ++ u → (xs ≡ ys) × (t ≡ u)
  one_members set xs ys t u hx hy e =
      let eq = behind_front (outset_members_front d set) (flat_map (member_word d) xs ++ 10 ∷ []) (flat_map (member_word d) ys ++ 10 ∷ []) t u e in
      let both = lines_of_one (flat_map (member_word d) xs) (flat_map (member_word d) ys) t u (member_line xs hx) (member_line ys hy) eq in
      (one_list xs ys hx hy (ap (λ l. l ++ 10 ∷ []) both.0), both.1)

-- what is so of each of these, and of its number from one on
abbrev pub EachFrom : {X : Type 0} → (ℕ → X → Type 0) → ℕ → List X → Type 0
EachFrom {X} P n xs = (k : ℕ) (x : X) → k < length xs → P (n + k) (get_or xs k x)

module _ {X : Type 0} (P : ℕ → X → Type 0) where
  each_first : (n : ℕ) (x : X) (xs : List X) → EachFrom P n (x ∷ xs) → P n x
  each_first n x xs h = let e : n + 0 ≡ n = omega arith in subst (λ k. P k x) e (h 0 x (omega arith))

  each_rest : (n : ℕ) (x : X) (xs : List X) → EachFrom P n (x ∷ xs) → EachFrom P (suc n) xs
  each_rest n x xs h k y lt = let e : n + suc k ≡ suc n + k = omega arith in subst (λ j. P j (get_or xs k y)) e (h (suc k) y (omega (arith, lt)))

  -- what is written of each is written of one list
  module _ {Y : Type 0} (f : ℕ → X → List ℕ) (g : X → Y)
      (one : (k : ℕ) (x y : X) (t u : List ℕ) → P k x → P k y → f k x ++ t ≡ f k y ++ u → (g x ≡ g y) × (t ≡ u)) where
    pub numbered_one : (n : ℕ) (xs ys : List X) (t u : List ℕ) → length xs ≡ length ys → EachFrom P n xs → EachFrom P n ys
        → numbered f n xs ++ t ≡ numbered f n ys ++ u → (map g xs ≡ map g ys) × (t ≡ u)
    numbered_one n [] [] t u same hx hy e = (refl, e)
    numbered_one n [] (y ∷ ys) t u same hx hy e = absurd (omega (arith, same))
    numbered_one n (x ∷ xs) [] t u same hx hy e = absurd (omega (arith, same))
    numbered_one n (x ∷ xs) (y ∷ ys) t u same hx hy e =
        let both = one n x y (numbered f (suc n) xs ++ t) (numbered f (suc n) ys ++ u) (each_first n x xs hx) (each_first n y ys hy)
        (sym (append_assoc (f n x) (numbered f (suc n) xs) t) ∙ e ∙ append_assoc (f n y) (numbered f (suc n) ys) u) in
        let rest = numbered_one (suc n) xs ys t u (omega (arith, same)) (each_rest n x xs hx) (each_rest n y ys hy) both.1 in
        (ap (λ k. k ∷ map g xs) both.0 ∙ ap (λ l. g y ∷ l) rest.0, rest.1)

  -- and begins with what may stand in the lines of each
  module _ (d : Domain) (f : ℕ → X → List ℕ) where
    pub numbered_begins : (line : ℕ → OutsetLine) → ((k : ℕ) (x : X) → P k x → MayStand d (line k) (f k x)) → (n m : ℕ) (xs : List X) (t : List ℕ)
        → m ≡ length xs → EachFrom P n xs → BeginsWithLines d (map line (range_with_len n m)) (numbered f n xs ++ t) t
    numbered_begins line may n zero [] t e h = refl
    numbered_begins line may n (suc m) [] t e h = absurd (omega (arith, e))
    numbered_begins line may n zero (x ∷ xs) t e h = absurd (omega (arith, e))
    numbered_begins line may n (suc m) (x ∷ xs) t e h =
        let s : suc n ≡ n + 1 = omega arith in (
          f n x,
          numbered f (suc n) xs ++ t,
          may n x (each_first n x xs h),
          append_assoc (f n x) (numbered f (suc n) xs) t,
          subst (λ k. BeginsWithLines d (map line (range_with_len k m)) (numbered f (suc n) xs ++ t) t) s
              (numbered_begins line may (suc n) m xs t (omega (arith, e)) (each_rest n x xs h)),
        )

    pub numbered_begins_flat : (lines : ℕ → List OutsetLine) → ((k : ℕ) (x : X) (t : List ℕ) → P k x → BeginsWithLines d (lines k) (f k x ++ t) t)
        → (n m : ℕ) (xs : List X) (t : List ℕ) → m ≡ length xs → EachFrom P n xs
        → BeginsWithLines d (flat_map lines (range_with_len n m)) (numbered f n xs ++ t) t
    numbered_begins_flat lines begin n zero [] t e h = refl
    numbered_begins_flat lines begin n (suc m) [] t e h = absurd (omega (arith, e))
    numbered_begins_flat lines begin n zero (x ∷ xs) t e h = absurd (omega (arith, e))
    numbered_begins_flat lines begin n (suc m) (x ∷ xs) t e h =
        let s : suc n ≡ n + 1 = omega arith in
        begins_both d (lines n) (flat_map lines (range_with_len (n + 1) m)) ((f n x ++ numbered f (suc n) xs) ++ t) (numbered f (suc n) xs ++ t) t
        (subst (λ l. BeginsWithLines d (lines n) l (numbered f (suc n) xs ++ t)) (sym (append_assoc (f n x) (numbered f (suc n) xs) t))
        (begin n x (numbered f (suc n) xs ++ t) (each_first n x xs h)))
        (subst (λ k. BeginsWithLines d (flat_map lines (range_with_len k m)) (numbered f (suc n) xs ++ t) t) s
        (numbered_begins_flat lines begin (suc n) m xs t (omega (arith, e)) (each_rest n x xs h)))

module _ (d : Domain) (sound : IsSound d) (names : HasNames d) where
  own_objects : (set : ℕ) (ms : List ℕ) → MembersSuit d set ms → All (IsObject d) ms
  own_objects set ms h k o lt = let c = h.may k o lt in subst (IsObject d) c.2 (may_there d set sound c.0 (get_or ms k o) c.1)

  -- what may stand in a line ends where the line ends
  one_line : (line : OutsetLine) (a b t u : List ℕ) → MayStand d line a → MayStand d line b → a ++ t ≡ b ++ u → t ≡ u
  one_line (StateOf o) a b t u h g e =
      (one_state d sound names o h.state g.state t u (record { is = h.is; small = h.held }) (record { is = g.is; small = g.held })
      (ap (λ l. l ++ t) (sym h.says) ∙ e ∙ ap (λ l. l ++ u) g.says)).1
  one_line (ParamOf o k) a b t u h g e =
      let same : h.param ≡ g.param = same_Some h.param g.param (sym h.at ∙ g.at) in
      (one_param d sound names o h.param h.given g.given t u h.suits (subst (λ p. ParamSuits p g.given) (sym same) g.suits) h.held g.held
      (ap (λ l. l ++ t) (sym h.says) ∙ e ∙ ap (λ l. l ++ u) g.says)).1
  one_line (MembersOf set) a b t u h g e =
      (one_members d sound names set h.members g.members t u (own_objects set h.members h.suit) (own_objects set g.members g.suit)
      (ap (λ l. l ++ t) (sym h.says) ∙ e ∙ ap (λ l. l ++ u) g.says)).1

  -- so one rest follows the same lines
  one_rest : (lines : List OutsetLine) (text r s : List ℕ) → BeginsWithLines d lines text r → BeginsWithLines d lines text s → r ≡ s
  one_rest [] text r s h g = sym h ∙ g
  one_rest (l ∷ ls) text r s h g =
      let more = one_line l h.0 g.0 h.1 g.1 h.2 g.2 (sym h.3 ∙ g.3) in
      one_rest ls h.1 r s h.4 (subst (λ t. BeginsWithLines d ls t s) (sym more) g.4)

  -- where good lines follow, no line is the first bad one
  none_bad : (before others : List OutsetLine) (line : OutsetLine) (text mid rest : List ℕ) → BeginsWithLines d (before ++ line ∷ others) text rest
      → BeginsWithLines d before text mid → IsBadFor d line mid → ⊥
  none_bad [] others line text mid rest h g bad = bad h.0 h.1 h.2 (sym g ∙ h.3)
  none_bad (l ∷ ls) others line text mid rest h g bad =
      let more = one_line l h.0 g.0 h.1 g.1 h.2 g.2 (sym h.3 ∙ g.3) in
      none_bad ls others line h.1 mid rest h.4 (subst (λ t. BeginsWithLines d ls t mid) (sym more) g.4) bad

  pub good_is_not_bad : (lines : List OutsetLine) (text rest : List ℕ) (count : ℕ) → BeginsWithLines d lines text rest → IsFirstBadLine d lines text count → ⊥
  good_is_not_bad lines text rest count h b =
      none_bad b.before b.others b.line text b.rest rest (subst (λ ls. BeginsWithLines d ls text rest) b.split h) b.good b.bad

  -- how an object may stand, and is held
  abbrev OwnStand : ℕ → Stand → Type 0
  OwnStand o x = StandSuits d o x × IsHeldStand x

  own_stands : (x : Outset) → Suits d x → IsHeldOutset x → EachFrom OwnStand 0 x.stands
  own_stands x suits held k s lt =
      let z : k ≡ 0 + k = omega arith in subst (λ j. OwnStand j (get_or x.stands k s)) z (suits.stand k s lt, held k s lt)

  own_sets : (x : Outset) → Suits d x → EachFrom (MembersSuit d) 0 x.members
  own_sets x suits k m lt =
      let z : k ≡ 0 + k = omega arith in subst (λ j. MembersSuit d j (get_or x.members k m)) z (suits.have k m lt)

  -- the lines of one object's parameters
  params_begin : (o n : ℕ) (ps xs : List Param) (t : List ℕ) → ((k : ℕ) (p : Param) → k < length ps → slice_get (class_params_at d o) (n + k) ≡ Some (get_or ps k p))
      → ParamsSuit ps xs → All IsHeldParam xs
      → BeginsWithLines d (map (ParamOf o) (range_with_len n (length ps))) (outset_param_lines d o xs ++ t) t
  params_begin o n [] [] t at h held = refl
  params_begin o n [] (x ∷ xs) t at h held = let c = h.count in absurd (omega (arith, c))
  params_begin o n (p ∷ ps) [] t at h held = let c = h.count in absurd (omega (arith, c))
  params_begin o n (p ∷ ps) (x ∷ xs) t at h held =
      let z : n + 0 ≡ n = omega arith in
      let c = h.count in (
        outset_param_line d o x,
        outset_param_lines d o xs ++ t,
        record { param = p; given = x; at = ap (slice_get (class_params_at d o)) (sym z) ∙ at 0 p (omega arith); suits = h.each 0 p x (omega arith); held = held 0 x (omega arith); says = refl },
        append_assoc (outset_param_line d o x) (outset_param_lines d o xs) t,
        params_begin o (n + 1) ps xs t (λ k q lt. let e : (n + 1) + k ≡ n + suc k = omega arith in ap (slice_get (class_params_at d o)) e ∙ at (suc k) q (omega (arith, lt)))
            (record { count = omega (arith, c); each = λ k q y lt. h.each (suc k) q y (omega (arith, lt)) }) (λ k y lt. held (suc k) y (omega (arith, lt))),
      )

  own_params_begin : (o : ℕ) (x : Stand) (t : List ℕ) → OwnStand o x → BeginsWithLines d (param_lines_of d o) (stand_param_lines d o x ++ t) t
  own_params_begin o x t h = params_begin o 0 (class_params_at d o) x.params t (λ k p lt. let z : 0 + k ≡ k = omega arith in ap (slice_get (class_params_at d o)) z ∙ slice_get-get_or (class_params_at d o) k p lt) h.0.params h.1.params

  outset_parts : (x : Outset) (more : List ℕ) → outset_text d x ++ more
      ≡ numbered (stand_state_line d) 0 x.stands ++ (numbered (stand_param_lines d) 0 x.stands ++ (numbered (outset_members_line d) 0 x.members ++ more))
  outset_parts x more =
      append_assoc (objects_text d x.stands) (numbered (outset_members_line d) 0 x.members) more
      ∙ append_assoc (numbered (stand_state_line d) 0 x.stands) (numbered (stand_param_lines d) 0 x.stands) (numbered (outset_members_line d) 0 x.members ++ more)

  pub outset_begins : (x : Outset) (more : List ℕ) → Suits d x → IsHeldOutset x → BeginsWithLines d (outset_lines d) (outset_text d x ++ more) more
  outset_begins x more suits held =
      let params = numbered (stand_param_lines d) 0 x.stands in
      let members = numbered (outset_members_line d) 0 x.members in
      let text = numbered (stand_state_line d) 0 x.stands ++ (params ++ (members ++ more)) in
      subst (λ l. BeginsWithLines d (outset_lines d) l more) (sym (outset_parts x more))
      (begins_both d (lines_of_objects d) (members_lines d) text (members ++ more) more
      (begins_both d (state_lines d) (param_lines d) text (params ++ (members ++ more)) (members ++ more)
      (numbered_begins OwnStand d (stand_state_line d) StateOf (λ k s h. record { state = s.state; is = h.0.state; held = h.1.state; says = refl }) 0 (length d.objects) x.stands (params ++ (members ++ more)) (sym suits.objects) (own_stands x suits held))
      (numbered_begins_flat OwnStand d (stand_param_lines d) (param_lines_of d) own_params_begin 0 (length d.objects) x.stands (members ++ more) (sym suits.objects) (own_stands x suits held)))
      (numbered_begins (MembersSuit d) d (outset_members_line d) MembersOf (λ k m h. record { members = m; suit = h; says = refl }) 0 (length d.groups) x.members more (sym suits.sets) (own_sets x suits)))

  -- parameters that are written so are one list
  one_params : (o : ℕ) (ps xs ys : List Param) (t u : List ℕ) → ParamsSuit ps xs → ParamsSuit ps ys → All IsHeldParam xs → All IsHeldParam ys
      → outset_param_lines d o xs ++ t ≡ outset_param_lines d o ys ++ u → (xs ≡ ys) × (t ≡ u)
  one_params o [] [] [] t u h g hx hy e = (refl, e)
  one_params o [] (x ∷ xs) ys t u h g hx hy e = let c = h.count in absurd (omega (arith, c))
  one_params o [] [] (y ∷ ys) t u h g hx hy e = let c = g.count in absurd (omega (arith, c))
  one_params o (p ∷ ps) [] ys t u h g hx hy e = let c = h.count in absurd (omega (arith, c))
  one_params o (p ∷ ps) (x ∷ xs) [] t u h g hx hy e = let c = g.count in absurd (omega (arith, c))
  one_params o (p ∷ ps) (x ∷ xs) (y ∷ ys) t u h g hx hy e =
      let c = h.count in
      let b = g.count in
      let both = one_param d sound names o p x y (outset_param_lines d o xs ++ t) (outset_param_lines d o ys ++ u)
      (h.each 0 p x (omega arith)) (g.each 0 p y (omega arith)) (hx 0 x (omega arith)) (hy 0 y (omega arith))
      (sym (append_assoc (outset_param_line d o x) (outset_param_lines d o xs) t) ∙ e ∙ append_assoc (outset_param_line d o y) (outset_param_lines d o ys) u) in
      let rest = one_params o ps xs ys t u
      (record { count = omega (arith, c); each = λ k q z lt. h.each (suc k) q z (omega (arith, lt)) })
      (record { count = omega (arith, b); each = λ k q z lt. g.each (suc k) q z (omega (arith, lt)) })
      (λ k z lt. hx (suc k) z (omega (arith, lt))) (λ k z lt. hy (suc k) z (omega (arith, lt))) both.1 in
      (ap (λ k. k ∷ xs) both.0 ∙ ap (λ l. y ∷ l) rest.0, rest.1)

  -- stands with these states and these parameters are one list
  abbrev params_of_stand : Stand → List Param
  params_of_stand x = x.params

  same_stands : (xs ys : List Stand) → map state_of_stand xs ≡ map state_of_stand ys → map params_of_stand xs ≡ map params_of_stand ys → xs ≡ ys
  same_stands [] [] e f = refl
  same_stands [] (y ∷ ys) e f = cc e
  same_stands (x ∷ xs) [] e f = cc e
  same_stands (x ∷ xs) (y ∷ ys) e f =
      let head_state : state_of_stand x ≡ state_of_stand y = cc e in
      let head_params : params_of_stand x ≡ params_of_stand y = cc f in
      let head : x ≡ y = same_stand x y head_state head_params in
      let s : map state_of_stand xs ≡ map state_of_stand ys = cc e in
      let p : map params_of_stand xs ≡ map params_of_stand ys = cc f in
      ap (λ k. k ∷ xs) head ∙ ap (λ l. y ∷ l) (same_stands xs ys s p)

  pub one_outset : (x y : Outset) (more others : List ℕ) → Suits d x → Suits d y → IsHeldOutset x → IsHeldOutset y
      → outset_text d x ++ more ≡ outset_text d y ++ others → (x ≡ y) × (more ≡ others)
  one_outset x y more others sx sy hx hy e =
      let params_x = numbered (stand_param_lines d) 0 x.stands in
      let params_y = numbered (stand_param_lines d) 0 y.stands in
      let members_x = numbered (outset_members_line d) 0 x.members in
      let members_y = numbered (outset_members_line d) 0 y.members in
      let states = numbered_one OwnStand (stand_state_line d) state_of_stand
      (λ k s r t u hs hr q. one_state d sound names k s.state r.state t u (record { is = hs.0.state; small = hs.1.state }) (record { is = hr.0.state; small = hr.1.state }) q)
      0 x.stands y.stands (params_x ++ (members_x ++ more)) (params_y ++ (members_y ++ others)) (sx.objects ∙ sym sy.objects) (own_stands x sx hx) (own_stands y sy hy)
      (sym (outset_parts x more) ∙ e ∙ outset_parts y others) in
      let params = numbered_one OwnStand (stand_param_lines d) params_of_stand
      (λ k s r t u hs hr q. one_params k (class_params_at d k) s.params r.params t u hs.0.params hr.0.params hs.1.params hr.1.params q)
      0 x.stands y.stands (members_x ++ more) (members_y ++ others) (sx.objects ∙ sym sy.objects) (own_stands x sx hx) (own_stands y sy hy) states.1 in
      let members = numbered_one (MembersSuit d) (outset_members_line d) (λ m. m)
      (λ k s r t u hs hr q. one_members d sound names k s r t u (own_objects k s hs) (own_objects k r hr) q)
      0 x.members y.members more others (sx.sets ∙ sym sy.sets) (own_sets x sx) (own_sets y sy) params.1 in
      let sets : x.members ≡ y.members = sym (map-id x.members) ∙ members.0 ∙ map-id y.members in
      (same_outset x y (same_stands x.stands y.stands states.0 params.0) sets, members.1)
