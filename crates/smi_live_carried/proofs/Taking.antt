-- What goes along, object by object.
use Rattle.std.proofs.Common.{◌≡◌, ◌∙◌, sym, ap, refl, subst, ℕ, zero, suc, ◌+◌, ◌<◌, Bool, List, [], ◌∷◌, ◌++◌, Option, Some, None, arith, codes, get_or, length, map, take}
use Rattle.std.specs.List.{range_with_len}
use Rattle.std.specs.Prelude.{IfNone, slice_get}
use Rattle.std.proofs.lemmas.List.{append_cancel_left, append_cancel_right, map-append}
use Rattle.std.proofs.lemmas.Option.{slice_get-get_or}
use Rattle.sml_domain.specs.Domain.{Domain}
use Rattle.smi_carried.specs.Carried.{CarriedView, OnceView}
use Rattle.smi_carried.specs.Suits.{CarriedSuits}
use Rattle.smi_live_once.specs.Carrying.{LastNumber, last_number}
use Rattle.smi_live_once.specs.Tables.{OnceTold}
use Rattle.smi_live_accounts.specs.Accounts.{AccountsView}
use Rattle.smi_request_fates.specs.declared.fate.Came.{Came}
use Rattle.smi_request_fates.specs.declared.fate.Came.TheVariants.{Accepted, Past, Refused}
use Rattle.smi_request_fates.specs.declared.fate.Fate.TheVariants.{Ended, Killed, Open, Skipped, Waits}
use Rattle.smi_request_fates.specs.Kept.{WatchedView}
use Rattle.smi_live_carried.specs.TakingAlong.{AreTaken, IsNotTaken, IsTaken, IsWhat, NothingGoesAlong, all_counts_taken, last_number_taken}

range_with_last : (a n : ℕ) → range_with_len a (suc n) ≡ range_with_len a n ++ (a + n) ∷ []
range_with_last a zero = let e : a ≡ a + 0 = omega arith in ap (λ k. k ∷ []) e
range_with_last a (suc n) =
    let e : (a + 1) + n ≡ a + suc n = omega arith in
    ap (λ l. a ∷ l) (range_with_last (a + 1) n ∙ ap (λ k. range_with_len (a + 1) n ++ k ∷ []) e)

-- that of one number more
pub one_more : {X : Type 0} (f : ℕ → X) (n : ℕ) (made new : List X) (x : X) → made ≡ map f (range_with_len 0 n) → new ≡ made ++ x ∷ [] → x ≡ f n
    → new ≡ map f (range_with_len 0 (n + 1))
one_more f n made new x m e is =
    let one : suc n ≡ n + 1 = omega arith in
    let zero_more : 0 + n ≡ n = omega arith in
    e ∙ ap (λ l. l ++ x ∷ []) m ∙ ap (λ y. map f (range_with_len 0 n) ++ y ∷ []) (is ∙ ap f (sym zero_more))
    ∙ sym (map-append f (range_with_len 0 n) ((0 + n) ∷ [])) ∙ ap (map f) (sym (range_with_last 0 n)) ∙ ap (λ k. map f (range_with_len 0 k)) one

-- what goes along of one name more
taken_next : (ts : List OnceTold) (ws : List WatchedView) (xs : List OnceView) (i : ℕ) (t : OnceTold) (w : WatchedView) (x : OnceView) → AreTaken (take i ts) ws xs → slice_get ts i ≡ Some t → slice_get ws i ≡ Some w → IsTaken t w x
    → AreTaken (take (suc i) ts) ws (xs ++ x ∷ [])
taken_next [] ws xs i t w x h e f k = absurd (cc e)
taken_next (u ∷ ts) [] xs i t w x h e f k = absurd (cc f)
taken_next (u ∷ ts) (v ∷ ws) [] zero t w x h e f k =
    (subst (λ y. IsTaken u y x) (sym (cc f)) (subst (λ y. IsTaken y w x) (sym (cc e)) k), tt)
taken_next (u ∷ ts) (v ∷ ws) (y ∷ xs) zero t w x h e f k = absurd h
taken_next (u ∷ ts) (v ∷ ws) [] (suc i) t w x h e f k = absurd h
taken_next (u ∷ ts) (v ∷ ws) (y ∷ xs) (suc i) t w x h e f k = (h.0, taken_next ts ws xs i t w x h.1 e f k)

pub taken_more : (ts : List OnceTold) (ws : List WatchedView) (xs ys : List OnceView) (i : ℕ) (x : OnceView) → AreTaken (take i ts) ws xs → ys ≡ xs ++ x ∷ []
    → ((t : OnceTold) → slice_get ts i ≡ Some t → (w : WatchedView) × (slice_get ws i ≡ Some w) × IsTaken t w x) → i < length ts → AreTaken (take (i + 1) ts) ws ys
taken_more ts ws xs ys i x h e of lt =
    let any : OnceTold = record { name = []; number = 0; answer = [] } in
    let t : OnceTold = get_or ts i any in
    let there = slice_get-get_or ts i any lt in
    let w = of t there in
    let one : suc i ≡ i + 1 = omega arith in
    subst (AreTaken (take (i + 1) ts) ws) (sym e) (subst (λ n. AreTaken (take n ts) ws (xs ++ x ∷ [])) one (taken_next ts ws xs i t w.0 x h there w.1 w.2))

-- so the names and their last numbers go along
pub taken_numbers : (ts : List OnceTold) (ws : List WatchedView) (xs : List OnceView) → AreTaken ts ws xs → map last_number_taken xs ≡ map last_number ts
taken_numbers [] ws [] h = refl
taken_numbers [] ws (x ∷ xs) h = absurd h
taken_numbers (t ∷ ts) ws [] h = absurd h
taken_numbers (t ∷ ts) [] (x ∷ xs) h = absurd h
taken_numbers (t ∷ ts) (w ∷ ws) (x ∷ xs) h =
    ap (λ n. mk n x.number ∷ map last_number_taken xs) h.0.name ∙ ap (λ n. mk t.name n ∷ map last_number_taken xs) h.0.number
    ∙ ap (λ l. last_number t ∷ l) (taken_numbers ts ws xs h.1)
  where
    mk : List ℕ → ℕ → LastNumber
    mk name number = record { name = name; number = number }

-- what became of a request is one word
one_what : (came : Came) (answer x y : List ℕ) → IsWhat came answer x → IsWhat came answer y → x ≡ y
one_what (Accepted Waits) answer x y h g = absurd h
one_what (Accepted Open) answer x y h g = absurd h
one_what (Accepted (Ended at)) answer x y h g = h ∙ sym g
one_what (Accepted (Skipped at)) answer x y h g = h ∙ sym g
one_what (Accepted (Killed at)) answer x y h g = h ∙ sym g
one_what (Refused at) answer x y h g = append_cancel_right x y (10 ∷ []) (sym h ∙ g)
one_what (Past at) answer x y h g =
    append_cancel_right x y (10 ∷ []) (append_cancel_left (codes "past ") (x ++ 10 ∷ []) (y ++ 10 ∷ []) (sym h ∙ g))

-- so one thing goes along of a name
one_taken : (t : OnceTold) (w : WatchedView) (x y : OnceView) → IsTaken t w x → IsTaken t w y → x ≡ y
one_taken t w x y h g =
    let name = h.name ∙ sym g.name in
    let number = h.number ∙ sym g.number in
    let place = h.place ∙ sym g.place in
    let what = one_what w.came t.answer x.what y.what h.what g.what in
    λ i. record { name = name i; number = number i; place = place i; what = what i }

all_one_taken : (ts : List OnceTold) (ws : List WatchedView) (xs ys : List OnceView) → AreTaken ts ws xs → AreTaken ts ws ys → xs ≡ ys
all_one_taken [] ws [] [] h g = refl
all_one_taken [] ws [] (y ∷ ys) h g = absurd g
all_one_taken [] ws (x ∷ xs) ys h g = absurd h
all_one_taken (t ∷ ts) ws [] ys h g = absurd h
all_one_taken (t ∷ ts) ws (x ∷ xs) [] h g = absurd g
all_one_taken (t ∷ ts) [] (x ∷ xs) (y ∷ ys) h g = absurd h
all_one_taken (t ∷ ts) (w ∷ ws) (x ∷ xs) (y ∷ ys) h g =
    ap (λ z. z ∷ xs) (one_taken t w x y h.0 g.0) ∙ ap (λ zs. y ∷ zs) (all_one_taken ts ws xs ys h.1 g.1)

-- of a request with no such word nothing goes along
pub nothing_at : (ts : List OnceTold) (ws : List WatchedView) (p : ℕ) (t : OnceTold) (w : WatchedView) → slice_get ts p ≡ Some t → slice_get ws p ≡ Some w
    → ((what : List ℕ) → IsWhat w.came t.answer what → ⊥) → IsNotTaken ts ws p
nothing_at ts ws p t w e f none u v x g k h =
    let same_t : t ≡ u = cc (sym e ∙ g) in
    let same_w : w ≡ v = cc (sym f ∙ k) in
    none x.what (subst (λ y. IsWhat y.came t.answer x.what) (sym same_w) (subst (λ y. IsWhat v.came y.answer x.what) (sym same_t) h.what))

-- where it does not of one, it does not of all
pub none_taken : (ts : List OnceTold) (ws : List WatchedView) (p : ℕ) → p < length ts → IsNotTaken ts ws p → (xs : List OnceView) → AreTaken ts ws xs → ⊥
none_taken [] ws p lt none xs h = absurd (omega (arith, lt))
none_taken (t ∷ ts) ws p lt none [] h = h
none_taken (t ∷ ts) [] p lt none (x ∷ xs) h = h
none_taken (t ∷ ts) (w ∷ ws) zero lt none (x ∷ xs) h = none t w x refl refl h.0
none_taken (t ∷ ts) (w ∷ ws) (suc p) lt none (x ∷ xs) h = none_taken ts ws p (omega (arith, lt)) none xs h.1

-- where what goes along does not suit, nothing does
nothing_suits : (d : Domain) (killed : List Bool) (a : AccountsView) (b : CarriedView) → b.counts ≡ all_counts_taken killed a.fates.counts (length d.objects)
    → AreTaken a.told a.fates.watched b.names → (CarriedSuits d b → ⊥) → NothingGoesAlong d killed a
nothing_suits d killed a b n h none c m g s =
    let counts = m ∙ sym n in
    let names = all_one_taken a.told a.fates.watched c.names b.names g h in
    none (subst (CarriedSuits d) (λ i. record { counts = counts i; names = names i }) s)

pub if_none_suits : {X : Type 0} (d : Domain) (killed : List Bool) (a : AccountsView) (b : CarriedView) (r : Option X) → b.counts ≡ all_counts_taken killed a.fates.counts (length d.objects)
    → AreTaken a.told a.fates.watched b.names → IfNone r (CarriedSuits d b → ⊥) → IfNone r (NothingGoesAlong d killed a)
if_none_suits d killed a b None n h none = nothing_suits d killed a b n h none
if_none_suits d killed a b (Some x) n h none = tt
