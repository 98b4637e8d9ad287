-- The last requests of names, one after another.
use Rattle.std.proofs.Common.{◌≡◌, ◌∙◌, sym, ap, refl, subst, inl, inr, ℕ, ◌<◌, ◌≤◌, ◌+◌, ◌&&◌, ◌||◌, Bool, true, false, not, List, [], ◌∷◌, ◌++◌, All, append_assoc, get_or, length, length-append, arith}
use Rattle.std.specs.Prelude.{◌⊎◌, codes}
use Rattle.std.specs.List.{list_all, list_any}
use Rattle.std.proofs.lemmas.List.Elements.{All-push}
use Rattle.sml_domain.specs.Domain.{Domain}
use Rattle.sml_domain.specs.Sound.{IsSound}
use Rattle.sml_domain.proofs.Finds.{all_head, all_tail}
use Rattle.smi_journal.specs.HasText.{HasNames}
use Rattle.smi_live_once.specs.Tables.{same_bytes}
use Rattle.smi_live_once.proofs.Decimals.{is_same_text, not_same}
use Rattle.smi_carried.specs.Carried.{OnceView}
use Rattle.smi_carried.specs.CarriedText.{carried_names_text, carried_once_line}
use Rattle.smi_carried.specs.Counts.{BeginsWithCount}
use Rattle.smi_carried.specs.Onces.{NextOnceIsRead, NoNextOnce, OnceIsHeld, OnceIsRead, OncesAreMost, OncesMayGo}
use Rattle.smi_carried.specs.Suits.{are_named_once, has_none, is_once_of, once_suits}
use Rattle.smi_carried.proofs.Names.{both_true}
use Rattle.smi_carried.proofs.Numbered.{flat_read}
use Rattle.smi_carried.proofs.OnceLines.{one_once}

-- ---- tests of lists

and_both : (a b : Bool) → a ≡ true → b ≡ true → (a && b) ≡ true
and_both a b ha hb = ap (λ k. k && b) ha ∙ hb

none_parts : (a b : Bool) → not (a || b) ≡ true → (a ≡ false) × (not b ≡ true)
none_parts true b h = absurd (cc h)
none_parts false b h = (refl, h)

none_both : (a b : Bool) → a ≡ false → not b ≡ true → not (a || b) ≡ true
none_both a b ha hb = ap (λ k. not (k || b)) ha ∙ hb

other_name : (x y : List ℕ) → same_bytes x y ≡ false → same_bytes y x ≡ false
other_name x y h = by (same_bytes y x) refl
  where
    by : (b : Bool) → same_bytes y x ≡ b → b ≡ false
    by true e = absurd (not_same x y h (sym (is_same_text y x e)))
    by false e = refl

module _ (f : OnceView → Bool) where
  all_true_push : (xs : List OnceView) (x : OnceView) → list_all f xs ≡ true → f x ≡ true → list_all f (xs ++ x ∷ []) ≡ true
  all_true_push [] x h e = and_both (f x) true e refl
  all_true_push (y ∷ ys) x h e =
      let b = both_true (f y) (list_all f ys) h in and_both (f y) (list_all f (ys ++ x ∷ [])) b.0 (all_true_push ys x b.1 e)

  all_true_at : (xs ys : List OnceView) (y : OnceView) → list_all f (xs ++ y ∷ ys) ≡ true → f y ≡ true
  all_true_at [] ys y h = (both_true (f y) (list_all f ys) h).0
  all_true_at (x ∷ xs) ys y h = all_true_at xs ys y (both_true (f x) (list_all f (xs ++ y ∷ ys)) h).1

all_at : (P : OnceView → Type 0) (xs ys : List OnceView) (y : OnceView) → All P (xs ++ y ∷ ys) → P y
all_at P [] ys y h = all_head P y ys h
all_at P (x ∷ xs) ys y h = all_at P xs ys y (all_tail P x (xs ++ y ∷ ys) h)

-- ---- no name twice

none_at : (xs ys : List OnceView) (y : OnceView) (name : List ℕ) → has_none name (xs ++ y ∷ ys) ≡ true → same_bytes y.name name ≡ false
none_at [] ys y name h = (none_parts (same_bytes y.name name) (list_any (is_once_of name) ys) h).0
none_at (x ∷ xs) ys y name h = none_at xs ys y name (none_parts (same_bytes x.name name) (list_any (is_once_of name) (xs ++ y ∷ ys)) h).1

-- the name of one of these is none of those before it
none_before : (xs ys : List OnceView) (y : OnceView) → are_named_once (xs ++ y ∷ ys) ≡ true → has_none y.name xs ≡ true
none_before [] ys y h = refl
none_before (x ∷ xs) ys y h =
    let b = both_true (has_none x.name (xs ++ y ∷ ys)) (are_named_once (xs ++ y ∷ ys)) h in
    none_both (same_bytes x.name y.name) (list_any (is_once_of y.name) xs) (other_name y.name x.name (none_at xs ys y x.name b.0)) (none_before xs ys y b.1)

none_push : (xs : List OnceView) (x : OnceView) (name : List ℕ) → has_none name xs ≡ true → same_bytes x.name name ≡ false → has_none name (xs ++ x ∷ []) ≡ true
none_push [] x name h e = none_both (same_bytes x.name name) false e refl
none_push (y ∷ ys) x name h e =
    let p = none_parts (same_bytes y.name name) (list_any (is_once_of name) ys) h in
    none_both (same_bytes y.name name) (list_any (is_once_of name) (ys ++ x ∷ [])) p.0 (none_push ys x name p.1 e)

once_push : (xs : List OnceView) (x : OnceView) → are_named_once xs ≡ true → has_none x.name xs ≡ true → are_named_once (xs ++ x ∷ []) ≡ true
once_push [] x h g = refl
once_push (y ∷ ys) x h g =
    let b = both_true (has_none y.name ys) (are_named_once ys) h in
    let p = none_parts (same_bytes y.name x.name) (list_any (is_once_of x.name) ys) g in
    and_both (has_none y.name (ys ++ x ∷ [])) (are_named_once (ys ++ x ∷ []))
    (none_push ys x y.name b.0 (other_name y.name x.name p.0)) (once_push ys x b.1 p.1)

-- ---- the line of one name more

pub may_none : (d : Domain) → OncesMayGo d []
may_none d = record { few = omega arith; each = refl; once = refl; held = λ k x lt. absurd (omega (arith, lt)) }

pub may_push : (d : Domain) (xs ys : List OnceView) (x : OnceView) (rest more : List ℕ) → OncesMayGo d xs → NextOnceIsRead d xs rest x more → ys ≡ xs ++ x ∷ [] → OncesMayGo d ys
may_push d xs ys x rest more may r is =
    let few = r.few in
    let size = length-append xs (x ∷ []) in
    subst (OncesMayGo d) (sym is) (record {
      few = omega (arith, few, size);
      each = all_true_push (once_suits d) xs x may.each r.read.suits;
      once = once_push xs x may.once r.new;
      held = All-push OnceIsHeld xs x may.held r.read.held;
    })

pub names_read : (d : Domain) (xs ys : List OnceView) (x : OnceView) (text rest more : List ℕ) → text ≡ carried_names_text d xs ++ rest → NextOnceIsRead d xs rest x more
    → ys ≡ xs ++ x ∷ [] → text ≡ carried_names_text d ys ++ more
names_read d xs ys x text rest more whole r is = flat_read (carried_once_line d) xs ys x text rest more whole r.read.says is

-- what is read, and may not stand after these, leaves none that may
pub other_next : (d : Domain) → IsSound d → HasNames d → (before : List OnceView) (text : List ℕ) (x : OnceView) (more : List ℕ) → OnceIsRead d text x more
    → has_none x.name before ≡ false → NoNextOnce d before text
other_next d sound names before text x more read not y last r =
    let same = one_once d sound names text x y more last read r.read in
    let f : ◌≡◌ {A = Bool} true false = sym r.new ∙ ap (λ (k : OnceView). has_none k.name before) (sym same.0) ∙ not in cc f

-- each line takes a byte
pub once_takes : (d : Domain) (xs : List OnceView) (rest : List ℕ) (x : OnceView) (more : List ℕ) → NextOnceIsRead d xs rest x more → length more < length rest
once_takes d xs rest x more r =
    let s : length rest ≡ length (carried_once_line d x) + length more = ap length r.read.says ∙ length-append (carried_once_line d x) more in
    let some : 1 ≤ length (carried_once_line d x) = omega arith in
    omega (arith, s, some)

-- what other last requests stand in front of the text: these, and then others in front of the rest; or some after which
-- no less text comes than the rest
abbrev pub OncesGoOn : Domain → List ℕ → List OnceView → List ℕ → Type 0
OncesGoOn d text found rest =
    (others : List OnceView) (more : List ℕ) → OncesMayGo d others → text ≡ carried_names_text d others ++ more
    → ((tail : List OnceView) × (others ≡ found ++ tail) × (rest ≡ carried_names_text d tail ++ more)) ⊎ (length rest ≤ length more)

pub onces_begin : (d : Domain) (text : List ℕ) → OncesGoOn d text [] text
onces_begin d text others more may e = inl (others, refl, e)

shorter : (a b c : List ℕ) → a ≡ b ++ c → length c ≤ length a
shorter a b c e = let s : length a ≡ length b + length c = ap length e ∙ length-append b c in omega (arith, s)

module _ (d : Domain) (found others : List OnceView) (rest more : List ℕ) (may : OncesMayGo d others) (y : OnceView) (ys : List OnceView)
    (all : others ≡ found ++ y ∷ ys) (is : rest ≡ carried_names_text d (y ∷ ys) ++ more) where
  -- the first of those that are still to be read stands in front
  stands_next : OnceIsRead d rest y (carried_names_text d ys ++ more)
  stands_next = record {
    suits = all_true_at (once_suits d) found ys y (ap (list_all (once_suits d)) (sym all) ∙ may.each);
    held = all_at OnceIsHeld found ys y (subst (All OnceIsHeld) all may.held);
    says = is ∙ append_assoc (carried_once_line d y) (carried_names_text d ys) more;
  }

  may_stand_next : NextOnceIsRead d found rest y (carried_names_text d ys ++ more)
  may_stand_next =
      let few = may.few in
      let size = ap length all ∙ length-append found (y ∷ ys) in
      record {
        few = omega (arith, few, size);
        new = none_before found ys y (ap are_named_once (sym all) ∙ may.once);
        read = stands_next;
      }

module _ (d : Domain) (text : List ℕ) (found : List OnceView) (rest : List ℕ) where
  pub onces_stop : OncesGoOn d text found rest → NoNextOnce d found rest → OncesAreMost d text rest
  onces_stop on none others more may e = step (on others more may e)
    where
      none_of : (tail : List OnceView) → others ≡ found ++ tail → rest ≡ carried_names_text d tail ++ more → length rest ≤ length more
      none_of [] all is = let s : length rest ≡ length more = ap length is in omega (arith, s)
      none_of (y ∷ ys) all is = absurd (none y (carried_names_text d ys ++ more) (may_stand_next d found others rest more may y ys all is))

      step : ((tail : List OnceView) × (others ≡ found ++ tail) × (rest ≡ carried_names_text d tail ++ more)) ⊎ (length rest ≤ length more) → length rest ≤ length more
      step (inl t) = none_of t.0 t.1 t.2
      step (inr le) = le

  module _ (sound : IsSound d) (names : HasNames d) (x : OnceView) (next : List ℕ) (read : OnceIsRead d rest x next) where
    pub onces_go_on : OncesGoOn d text found rest → OncesGoOn d text (found ++ x ∷ []) next
    onces_go_on on others more may e = step (on others more may e)
      where
        less : length next ≤ length rest
        less = shorter rest (carried_once_line d x) next read.says

        on_from : (tail : List OnceView) → others ≡ found ++ tail → rest ≡ carried_names_text d tail ++ more
            → ((tail : List OnceView) × (others ≡ (found ++ x ∷ []) ++ tail) × (next ≡ carried_names_text d tail ++ more)) ⊎ (length next ≤ length more)
        on_from [] all is = let s : length rest ≡ length more = ap length is in inr (omega (arith, s, less))
        on_from (y ∷ ys) all is =
            let same = one_once d sound names rest y x (carried_names_text d ys ++ more) next (stands_next d found others rest more may y ys all is) read in
            inl (ys, all ∙ ap (λ k. found ++ k ∷ ys) same.0 ∙ sym (append_assoc found (x ∷ []) ys), sym same.1)

        step : ((tail : List OnceView) × (others ≡ found ++ tail) × (rest ≡ carried_names_text d tail ++ more)) ⊎ (length rest ≤ length more)
            → ((tail : List OnceView) × (others ≡ (found ++ x ∷ []) ++ tail) × (next ≡ carried_names_text d tail ++ more)) ⊎ (length next ≤ length more)
        step (inl t) = on_from t.0 t.1 t.2
        step (inr le) = inr (omega (arith, le, less))

-- ---- last requests of one text are one

pub once_no_count : (d : Domain) (x : OnceView) (t : List ℕ) → BeginsWithCount (carried_once_line d x ++ t) → ⊥
once_no_count d x t b = by b.1
  where
    by : (carried_once_line d x ++ t ≡ codes "! started" ++ b.0) ⊎ (carried_once_line d x ++ t ≡ codes "! ended" ++ b.0) → ⊥
    by (inl e) = let f : 111 ≡ 115 = ap (λ l. get_or l 2 0) e in omega (arith, f)
    by (inr e) = let f : 111 ≡ 101 = ap (λ l. get_or l 2 0) e in omega (arith, f)

pub none_no_count : BeginsWithCount [] → ⊥
none_no_count b = by b.1
  where
    by : (◌≡◌ {A = List ℕ} [] (codes "! started" ++ b.0)) ⊎ (◌≡◌ {A = List ℕ} [] (codes "! ended" ++ b.0)) → ⊥
    by (inl e) = let f : 0 ≡ 33 = ap (λ l. get_or l 0 0) e in omega (arith, f)
    by (inr e) = let f : 0 ≡ 33 = ap (λ l. get_or l 0 0) e in omega (arith, f)

pub names_no_count : (d : Domain) (xs : List OnceView) → BeginsWithCount (carried_names_text d xs) → ⊥
names_no_count d [] b = none_no_count b
names_no_count d (x ∷ xs) b = once_no_count d x (carried_names_text d xs) b

module _ (d : Domain) (sound : IsSound d) (names : HasNames d) where
  pub one_names : (xs ys : List OnceView) → list_all (once_suits d) xs ≡ true → list_all (once_suits d) ys ≡ true → All OnceIsHeld xs → All OnceIsHeld ys
      → carried_names_text d xs ≡ carried_names_text d ys → xs ≡ ys
  one_names [] [] sx sy hx hy e = refl
  one_names [] (y ∷ ys) sx sy hx hy e = let f : 0 ≡ 33 = ap (λ l. get_or l 0 0) e in absurd (omega (arith, f))
  one_names (x ∷ xs) [] sx sy hx hy e = let f : 33 ≡ 0 = ap (λ l. get_or l 0 0) e in absurd (omega (arith, f))
  one_names (x ∷ xs) (y ∷ ys) sx sy hx hy e =
      let bx = both_true (once_suits d x) (list_all (once_suits d) xs) sx in
      let by = both_true (once_suits d y) (list_all (once_suits d) ys) sy in
      let first : OnceIsRead d (carried_names_text d (x ∷ xs)) x (carried_names_text d xs)
      = record { suits = bx.0; held = all_head OnceIsHeld x xs hx; says = refl } in
      let second : OnceIsRead d (carried_names_text d (x ∷ xs)) y (carried_names_text d ys)
      = record { suits = by.0; held = all_head OnceIsHeld y ys hy; says = e } in
      let same = one_once d sound names (carried_names_text d (x ∷ xs)) x y (carried_names_text d xs) (carried_names_text d ys) first second in
      ap (λ k. k ∷ xs) same.0 ∙ ap (λ l. y ∷ l) (one_names xs ys bx.1 by.1 (all_tail OnceIsHeld x xs hx) (all_tail OnceIsHeld y ys hy) same.1)
