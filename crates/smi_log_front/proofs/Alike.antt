-- What two texts of fronts have in common.
use Rattle.std.proofs.Common.{◌≡◌, ◌≢◌, ◌∙◌, sym, ap, refl, inl, inr, ℕ, suc, ◌+◌, ◌&&◌, true, List, [], ◌∷◌, ◌++◌, append_assoc, append-nil, get_or, arith}
use Rattle.std.specs.Prelude.{◌⊎◌, codes}
use Rattle.std.proofs.lemmas.Bool.Decides.{nat_tests}
use Rattle.std.proofs.lemmas.List.{append_cancel_left}
use Rattle.sml_text.specs.Decimal.{decimal_text}
use Rattle.sml_domain.specs.Domain.{Domain}
use Rattle.sml_domain.specs.Sound.{IsObject, IsSound}
use Rattle.smi_journal.specs.CallText.{object_name_text, spaced}
use Rattle.smi_journal.specs.EntryText.{session_text}
use Rattle.smi_journal.specs.HasText.{HasNames}
use Rattle.smi_live_once.proofs.Decimals.{one_number}
use Rattle.smi_carried.specs.Carried.{CarriedView}
use Rattle.smi_carried.specs.CarriedText.{carried_text}
use Rattle.smi_carried.specs.Pieces.{is_other_byte}
use Rattle.smi_carried.specs.Reading.{CarriedIsHeld, OneCarried}
use Rattle.smi_carried.specs.Suits.{CarriedSuits}
use Rattle.smi_carried.proofs.Cuts.{each_append, number_bytes, one_cut}
use Rattle.smi_carried.proofs.Names.{both_true, each_of_all, name_bytes, object_name, one_object_name}
use Rattle.smi_log_front.specs.declared.front.FrontKill.{FrontKill}
use Rattle.smi_log_front.specs.FrontText.{front_end, front_kill_line, front_kills_text}
use Rattle.smi_log_front.specs.Laws.{IsOneLine}
use Rattle.smi_log_front.specs.Reading.{HeadIsRead, session_words}
use Rattle.smi_log_front.specs.Suits.{are_kills_from, is_kill_from}
use Rattle.smi_log_front.specs.Sums.{is_log_sum}
use Rattle.smi_log_front.proofs.CarriedLines.{IsCarriedText, carried_ends, carried_lined, name_feed}
use Rattle.smi_log_front.proofs.Heads.{end_says, head_says, room_text}
use Rattle.smi_log_front.proofs.KillLines.{kill_line_says, kill_parts}
use Rattle.smi_log_front.proofs.Lined.{NextLine, NoCarriedLine}
use Rattle.smi_log_front.proofs.SumDigits.{one_sum}

-- ---- first and last lines

pub one_head : (text a b : List ℕ) (m n : ℕ) (t u : List ℕ) → HeadIsRead text a m t → HeadIsRead text b n u → (a ≡ b) × (m ≡ n) × (t ≡ u)
one_head text a b m n t u x y =
    let words = append_cancel_left (codes "! smirun live 2 ") (a ++ room_text m t) (b ++ room_text n u)
    (sym (head_says a m t) ∙ sym x.says ∙ y.says ∙ head_says b n u) in
    let sums = one_sum a b (room_text m t) (room_text n u) x.digits y.digits words in
    let numbers = append_cancel_left (codes " capacity ") (decimal_text m ++ 10 ∷ t) (decimal_text n ++ 10 ∷ u) sums.1 in
    let cut = one_cut 10 (decimal_text m) (decimal_text n) t u (number_bytes 10 m refl x.held) (number_bytes 10 n refl y.held) numbers in
    (sums.0, one_number m n x.held y.held cut.0, cut.1)

abbrev rest_of : List ℕ → List ℕ
rest_of [] = []
rest_of (c ∷ cs) = cs

pub one_end : (a b t u : List ℕ) → is_log_sum a ≡ true → is_log_sum b ≡ true → front_end a ++ t ≡ front_end b ++ u → (a ≡ b) × (t ≡ u)
one_end a b t u ha hb e =
    let words = append_cancel_left (codes "! after ") (a ++ 10 ∷ t) (b ++ 10 ∷ u) (sym (end_says a t) ∙ e ∙ end_says b u) in
    let sums = one_sum a b (10 ∷ t) (10 ∷ u) ha hb words in
    (sums.0, ap rest_of sums.1)

-- ---- kills

-- no line of a kill is in front
abbrev pub NoKillLine : List ℕ → Type 0
NoKillLine text = get_or text 0 0 ≢ 107

pub no_end_kill : (sum t : List ℕ) → NoKillLine (front_end sum ++ t)
no_end_kill sum t e = let f : 33 ≡ 107 = e in omega (arith, f)

module _ (d : Domain) (sound : IsSound d) (names : HasNames d) where
  session_feed : (k : ℕ) → is_other_byte 10 (48 + k) ≡ true
  session_feed k = grind (arith, nat_tests)

  pub kill_is_line : (x : FrontKill) → IsObject d x.object → IsOneLine (front_kill_line d x)
  kill_is_line x lt =
      let name = object_name_text d x.object in
      record {
        words = codes "kill" ++ (spaced name ++ spaced (session_text x.session));
        each = each_append (is_other_byte 10) (codes "kill") (spaced name ++ spaced (session_text x.session)) (each_of_all (is_other_byte 10) (codes "kill") refl)
            (each_append (is_other_byte 10) (spaced name) (spaced (session_text x.session)) (refl, name_feed name (object_name d sound names x.object lt))
            (refl, (refl, (session_feed x.session, tt))));
        is = refl;
      }

  one_kill : (x y : FrontKill) (t u : List ℕ) → IsObject d x.object → IsObject d y.object → front_kill_line d x ++ t ≡ front_kill_line d y ++ u → (x ≡ y) × (t ≡ u)
  one_kill x y t u hx hy e =
      let nx = object_name_text d x.object in
      let ny = object_name_text d y.object in
      let words = append_cancel_left (codes "kill ") (nx ++ (session_words x.session ++ t)) (ny ++ (session_words y.session ++ u))
      (sym (kill_line_says d x t) ∙ e ∙ kill_line_says d y u) in
      let cut = one_cut 32 nx ny (64 ∷ (48 + x.session) ∷ 10 ∷ t) (64 ∷ (48 + y.session) ∷ 10 ∷ u) (name_bytes nx (object_name d sound names x.object hx))
      (name_bytes ny (object_name d sound names y.object hy)) words in
      let object = one_object_name d sound names x.object y.object hx hy cut.0 in
      let number : 48 + x.session ≡ 48 + y.session = ap (λ l. get_or l 1 0) cut.1 in
      let session : x.session ≡ y.session = omega (arith, number) in
      (λ i. record { object = object i; session = session i }, ap (λ l. rest_of (rest_of (rest_of l))) cut.1)

  -- kills in front of one text, of which some are all that may be read there
  pub kills_split : (m n : ℕ) (xs ys : List FrontKill) (t u : List ℕ) → are_kills_from d m xs ≡ true → are_kills_from d n ys ≡ true → NoKillLine t
      → front_kills_text d xs ++ t ≡ front_kills_text d ys ++ u → (zs : List FrontKill) × (xs ≡ ys ++ zs) × (u ≡ front_kills_text d zs ++ t)
  kills_split m n xs [] t u hx hy bare e = (xs, refl, sym e)
  kills_split m n [] (y ∷ ys) t u hx hy bare e = absurd (bare (ap (λ l. get_or l 0 0) e))
  kills_split m n (x ∷ xs) (y ∷ ys) t u hx hy bare e =
      let px = both_true (is_kill_from d m x) (are_kills_from d (suc x.object) xs) hx in
      let py = both_true (is_kill_from d n y) (are_kills_from d (suc y.object) ys) hy in
      let one = one_kill x y (front_kills_text d xs ++ t) (front_kills_text d ys ++ u) (kill_parts d m x px.0).1 (kill_parts d n y py.0).1
      (sym (append_assoc (front_kill_line d x) (front_kills_text d xs) t) ∙ e ∙ append_assoc (front_kill_line d y) (front_kills_text d ys) u) in
      let r = kills_split (suc x.object) (suc y.object) xs ys t u px.1 py.1 bare one.1 in
      (r.0, ap (λ k. k ∷ xs) one.0 ∙ ap (λ l. y ∷ l) r.1, r.2)

  -- the first of those that follow others
  pub kills_first : (n : ℕ) (xs zs : List FrontKill) (z : FrontKill) → are_kills_from d n (xs ++ z ∷ zs) ≡ true → are_kills_from d n (xs ++ z ∷ []) ≡ true
  kills_first n [] zs z h = ap (λ b. b && true) (both_true (is_kill_from d n z) (are_kills_from d (suc z.object) zs) h).0
  kills_first n (x ∷ xs) zs z h =
      let p = both_true (is_kill_from d n x) (are_kills_from d (suc x.object) (xs ++ z ∷ zs)) h in
      ap (λ b. b && are_kills_from d (suc x.object) (xs ++ z ∷ [])) p.0 ∙ kills_first (suc x.object) xs zs z p.1

  -- what follows what goes along begins with no line of it
  pub past_ends : (xs : List FrontKill) (sum t : List ℕ) → NoCarriedLine (front_kills_text d xs ++ (front_end sum ++ t))
  past_ends [] sum t byte more other e = let f : 97 ≡ byte = ap (λ l. get_or l 2 0) e in other (sym f)
  past_ends (x ∷ xs) sum t byte more other e = let f : 107 ≡ 33 = ap (λ l. get_or l 0 0) e in omega (arith, f)

  -- ---- what goes along

  module _ (one : OneCarried) (x y : CarriedView) (sx : CarriedSuits d x) (sy : CarriedSuits d y) (hx : CarriedIsHeld x) (hy : CarriedIsHeld y)
      (t u : List ℕ) where
    same_carried : carried_text d x ≡ carried_text d y → x ≡ y
    same_carried e = one d x y sound names sx sy hx hy e

    -- with less text behind the one, and no line of what goes along there, they are one
    pub carried_shorter : NoCarriedLine t → (v : List ℕ) → carried_text d y ≡ carried_text d x ++ v → t ≡ v ++ u → (x ≡ y) × (t ≡ u)
    carried_shorter bare v e f = step (carried_lined d sound names y sy hy (carried_text d x) v e (carried_ends d sound names x sx hx))
      where
        step : (v ≡ []) ⊎ NextLine (IsCarriedText d) (carried_text d x) v → (x ≡ y) × (t ≡ u)
        step (inl none) = (
          same_carried (sym (append-nil (carried_text d x)) ∙ ap (λ l. carried_text d x ++ l) (sym none) ∙ sym e),
          f ∙ ap (λ l. l ++ u) none,
        )
        step (inr n) =
            absurd (bare n.kind.byte ((n.kind.more ++ n.rest) ++ u) n.kind.other (f ∙ ap (λ l. l ++ u) (n.is ∙ ap (λ l. l ++ n.rest) n.kind.is)))
