-- Objects that are listed with one.
use Rattle.std.proofs.Common.{◌≡◌, ◌<◌, ◌+◌, ◌==◌, ◌∷◌, ℕ, zero, suc, Bool, true, false, List, [], Option, Some, None, length, replicate, arith, refl, sym, ap, ◌∙◌, subst, ⊎_elim, get_or}
use Rattle.std.specs.Prelude.{slice_set, is_some}
use Rattle.std.proofs.lemmas.Bool.{cases_eq, eq-eqb, eqb-true, ne_eqb, true≢false}
use Rattle.std.proofs.lemmas.List.{get_or-set_same, get_or-set_other, get_or_default, length-set}
use Rattle.smi_board.specs.Rings.{bit, times_in}
use Rattle.smi_board.specs.Holders.{AreLinked, AreListed, IsChain, holder_of, is_holder}

-- ---- what holds an object

-- an object that is held is there
held_within : (holders : List (Option ℕ)) (o x : ℕ) → holder_of holders o ≡ Some x → o < length holders
held_within [] o x e = absurd (true≢false (sym (ap is_some e)))
held_within (h ∷ hs) zero x e = omega arith
held_within (h ∷ hs) (suc o) x e = let rest = held_within hs o x e in omega (arith, rest)

-- what passes the test is the holder
is_held : (x : ℕ) (h : Option ℕ) → is_holder x h ≡ true → h ≡ Some x
is_held x None e = absurd (true≢false (sym e))
is_held x (Some y) e = ap Some (eqb-true y x e)

-- nothing is held at first
none_at : (places o : ℕ) → holder_of (replicate places None) o ≡ None
none_at zero o = refl
none_at (suc places) zero = refl
none_at (suc places) (suc o) = none_at places o

-- what is read at a place is what stands there
pub read_at : (xs : List (Option ℕ)) (x p : ℕ) (read : Option ℕ) → p < length xs → p ≡ x → read ≡ get_or xs p read
    → read ≡ get_or xs x None
read_at xs x p read lt place is = is ∙ get_or_default xs p read None lt ∙ ap (λ i. get_or xs i None) place

-- ---- chains

-- a chain that begins with an object continues behind it
chain_front : (nexts : List (Option ℕ)) (o : ℕ) (os : List ℕ) → IsChain nexts (Some o) os
    → (rest : List ℕ) × (os ≡ o ∷ rest) × IsChain nexts (get_or nexts o None) rest
chain_front nexts o [] h = absurd h
chain_front nexts o (p ∷ os) h =
    (os, ap (λ q. q ∷ os) (sym h.0), subst (λ q. IsChain nexts (get_or nexts q None) os) (sym h.0) h.1)

-- a chain stays where what comes behind another object is changed
chain_apart : (nexts : List (Option ℕ)) (first : Option ℕ) (os : List ℕ) (o : ℕ) (next : Option ℕ) → times_in o os ≡ 0
    → IsChain nexts first os → IsChain (slice_set nexts o next) first os
chain_apart nexts None [] o next none h = h
chain_apart nexts None (p ∷ os) o next none h = h
chain_apart nexts (Some p) [] o next none h = h
chain_apart nexts (Some p) (q ∷ os) o next none h = (
  h.0,
  subst (λ f. IsChain (slice_set nexts o next) f os)
      (sym (get_or-set_other nexts o q next None (λ e. absurd (omega (arith, none, ap bit (eq-eqb q o e))))))
      (chain_apart nexts (get_or nexts q None) os o next (omega (arith, none)) h.1),
)

-- ---- who is listed with an object

-- the first that is listed with an object is held by it
first_held : (holders firsts nexts : List (Option ℕ)) (x o : ℕ) → AreLinked holders firsts nexts
    → get_or firsts x None ≡ Some o → holder_of holders o ≡ Some x
first_held holders firsts nexts x o h first =
    let l = h.each x in
    let front = chain_front nexts o l.listed (subst (λ f. IsChain nexts f l.listed) first l.linked) in
    is_held x (holder_of holders o)
    (by (is_holder x (holder_of holders o)) front.0 (sym (ap (times_in o) front.1) ∙ l.once o))
  where
    by : (b : Bool) (rest : List ℕ) → bit (o == o) + times_in o rest ≡ bit b → b ≡ true
    by true rest e = refl
    by false rest e = absurd (omega (arith, e, ap bit (eq-eqb o o refl)))

-- what is read at an object's place is its first
pub first_read : (holders firsts nexts : List (Option ℕ)) (x p o : ℕ) (read : Option ℕ)
    → AreLinked holders firsts nexts → x < length holders → p ≡ x → read ≡ get_or firsts p read → read ≡ Some o
    → get_or firsts x None ≡ Some o
first_read holders firsts nexts x p o read h x_in place is some =
    sym (read_at firsts x p read (omega (arith, x_in, h.firsts_count, place)) place is) ∙ some

-- what is read there is one of the objects
pub first_within : (holders firsts nexts : List (Option ℕ)) (x p o : ℕ) (read : Option ℕ)
    → AreLinked holders firsts nexts → x < length holders → p ≡ x → read ≡ get_or firsts p read → read ≡ Some o
    → o < length holders
first_within holders firsts nexts x p o read h x_in place is some =
    held_within holders o x (first_held holders firsts nexts x o h
    (first_read holders firsts nexts x p o read h x_in place is some))

-- nobody is listed at first
pub linked_first : (holders firsts nexts : List (Option ℕ)) (places : ℕ) → holders ≡ replicate places None
    → firsts ≡ replicate places None → nexts ≡ replicate places None → AreLinked holders firsts nexts
linked_first holders firsts nexts places hs fs ns =
    record {
      firsts_count = ap length fs ∙ sym (ap length hs);
      nexts_count = ap length ns ∙ sym (ap length hs);
      each = λ x. record {
        listed = [];
        linked = subst (λ f. IsChain nexts f []) (sym (ap (λ l. get_or l x None) fs ∙ none_at places x)) tt;
        once = λ o. sym (ap (λ f. bit (is_holder x f)) (ap (λ l. get_or l o None) hs ∙ none_at places o));
      };
    }

-- one is listed in front of the others with an object
pub linked_more : (holders firsts nexts : List (Option ℕ)) (o x : ℕ) (next : Option ℕ)
    → AreLinked holders firsts nexts → o < length holders → x < length holders → holder_of holders o ≡ None
    → next ≡ get_or firsts x None
    → AreLinked (slice_set holders o (Some x)) (slice_set firsts x (Some o)) (slice_set nexts o next)
linked_more holders firsts nexts o x next h o_in x_in free is =
    record {
      firsts_count = length-set firsts x (Some o) ∙ h.firsts_count ∙ sym (length-set holders o (Some x));
      nexts_count = length-set nexts o next ∙ h.nexts_count ∙ sym (length-set holders o (Some x));
      each = λ y. ⊎_elim (at y) (apart y) (cases_eq y x);
    }
  where
    holders2 : List (Option ℕ)
    holders2 = slice_set holders o (Some x)

    nexts2 : List (Option ℕ)
    nexts2 = slice_set nexts o next

    firsts2 : List (Option ℕ)
    firsts2 = slice_set firsts x (Some o)

    -- it was listed with none
    out : (y : ℕ) → times_in o (h.each y).listed ≡ 0
    out y = (h.each y).once o ∙ ap (λ f. bit (is_holder y f)) free

    now : holder_of holders2 o ≡ Some x
    now = get_or-set_same holders o (Some x) None o_in

    other : (p : ℕ) → (p ≡ o → ⊥) → holder_of holders2 p ≡ holder_of holders p
    other p apart = get_or-set_other holders o p (Some x) None apart

    at : (y : ℕ) → y ≡ x → AreListed holders2 nexts2 (get_or firsts2 y None) y
    at y same =
        let first : get_or firsts2 y None ≡ Some o = ap (λ z. get_or firsts2 z None) same
        ∙ get_or-set_same firsts x (Some o) None (omega (arith, x_in, h.firsts_count)) in
        let behind : get_or nexts2 o None ≡ get_or firsts y None =
        get_or-set_same nexts o next None (omega (arith, o_in, h.nexts_count)) ∙ is
        ∙ ap (λ z. get_or firsts z None) (sym same) in
        let l = h.each y in
        record {
          listed = o ∷ l.listed;
          linked = subst (λ f. IsChain nexts2 f (o ∷ l.listed)) (sym first) (
            refl,
            subst (λ f. IsChain nexts2 f l.listed) (sym behind)
                (chain_apart nexts (get_or firsts y None) l.listed o next (out y) l.linked),
          );
          once = λ p. ⊎_elim
              (λ (e : p ≡ o).
              let one : bit (is_holder y (holder_of holders2 p)) ≡ 1 =
              ap (λ z. bit (is_holder y (holder_of holders2 z))) e ∙ ap (λ f. bit (is_holder y f)) now
              ∙ ap bit (eq-eqb x y (sym same)) in
              let was : times_in p l.listed ≡ 0 = ap (λ z. times_in z l.listed) e ∙ out y in
              omega (arith, one, was, ap bit (eq-eqb o p (sym e))))
              (λ ne. omega (
                arith,
                l.once p,
                ap bit (ne_eqb o p (λ e. ne (sym e))),
                ap (λ f. bit (is_holder y f)) (other p ne),
              ))
              (cases_eq p o);
        }

    apart : (y : ℕ) → (y ≡ x → ⊥) → AreListed holders2 nexts2 (get_or firsts2 y None) y
    apart y differ =
        let l = h.each y in
        record {
          listed = l.listed;
          linked = subst (λ f. IsChain nexts2 f l.listed) (sym (get_or-set_other firsts x y (Some o) None differ))
              (chain_apart nexts (get_or firsts y None) l.listed o next (out y) l.linked);
          once = λ p. ⊎_elim
              (λ (e : p ≡ o).
              let none : bit (is_holder y (holder_of holders2 p)) ≡ 0 =
              ap (λ z. bit (is_holder y (holder_of holders2 z))) e ∙ ap (λ f. bit (is_holder y f)) now
              ∙ ap bit (ne_eqb x y (λ same. differ (sym same))) in
              ap (λ z. times_in z l.listed) e ∙ out y ∙ sym none)
              (λ ne. l.once p ∙ sym (ap (λ f. bit (is_holder y f)) (other p ne)))
              (cases_eq p o);
        }

-- the first that is listed with an object is listed no more
pub linked_less : (holders firsts nexts : List (Option ℕ)) (o x : ℕ) (next : Option ℕ)
    → AreLinked holders firsts nexts → get_or firsts x None ≡ Some o → x < length holders
    → next ≡ get_or nexts o None → AreLinked (slice_set holders o None) (slice_set firsts x next) nexts
linked_less holders firsts nexts o x next h first x_in is =
    record {
      firsts_count = length-set firsts x next ∙ h.firsts_count ∙ sym (length-set holders o None);
      nexts_count = h.nexts_count ∙ sym (length-set holders o None);
      each = λ y. ⊎_elim (at y) (apart y) (cases_eq y x);
    }
  where
    holders2 : List (Option ℕ)
    holders2 = slice_set holders o None

    firsts2 : List (Option ℕ)
    firsts2 = slice_set firsts x next

    held : holder_of holders o ≡ Some x
    held = first_held holders firsts nexts x o h first

    now : holder_of holders2 o ≡ None
    now = get_or-set_same holders o None None (held_within holders o x held)

    other : (p : ℕ) → (p ≡ o → ⊥) → holder_of holders2 p ≡ holder_of holders p
    other p apart = get_or-set_other holders o p None None apart

    none : (y p : ℕ) → p ≡ o → bit (is_holder y (holder_of holders2 p)) ≡ 0
    none y p e = ap (λ z. bit (is_holder y (holder_of holders2 z))) e ∙ ap (λ f. bit (is_holder y f)) now

    at : (y : ℕ) → y ≡ x → AreListed holders2 nexts (get_or firsts2 y None) y
    at y same =
        let l = h.each y in
        let begins : get_or firsts y None ≡ Some o = ap (λ z. get_or firsts z None) same ∙ first in
        let front = chain_front nexts o l.listed (subst (λ f. IsChain nexts f l.listed) begins l.linked) in
        let behind : get_or firsts2 y None ≡ get_or nexts o None = ap (λ z. get_or firsts2 z None) same
        ∙ get_or-set_same firsts x next None (omega (arith, x_in, h.firsts_count)) ∙ is in
        let was : (p : ℕ) → bit (o == p) + times_in p front.0 ≡ bit (is_holder y (holder_of holders p)) =
        λ p. sym (ap (times_in p) front.1) ∙ l.once p in
        record {
          listed = front.0;
          linked = subst (λ f. IsChain nexts f front.0) (sym behind) front.2;
          once = λ p. ⊎_elim
              (λ (e : p ≡ o).
              let one : bit (is_holder y (holder_of holders p)) ≡ 1 =
              ap (λ z. bit (is_holder y (holder_of holders z))) e ∙ ap (λ f. bit (is_holder y f)) held
              ∙ ap bit (eq-eqb x y (sym same)) in
              omega (arith, was p, one, none y p e, ap bit (eq-eqb o p (sym e))))
              (λ ne. omega (
                arith,
                was p,
                ap bit (ne_eqb o p (λ e. ne (sym e))),
                ap (λ f. bit (is_holder y f)) (other p ne),
              ))
              (cases_eq p o);
        }

    apart : (y : ℕ) → (y ≡ x → ⊥) → AreListed holders2 nexts (get_or firsts2 y None) y
    apart y differ =
        let l = h.each y in
        record {
          listed = l.listed;
          linked = subst (λ f. IsChain nexts f l.listed) (sym (get_or-set_other firsts x y next None differ)) l.linked;
          once = λ p. ⊎_elim
              (λ (e : p ≡ o).
              let was : bit (is_holder y (holder_of holders p)) ≡ 0 =
              ap (λ z. bit (is_holder y (holder_of holders z))) e ∙ ap (λ f. bit (is_holder y f)) held
              ∙ ap bit (ne_eqb x y (λ same. differ (sym same))) in
              l.once p ∙ was ∙ sym (none y p e))
              (λ ne. l.once p ∙ sym (ap (λ f. bit (is_holder y f)) (other p ne)))
              (cases_eq p o);
        }
