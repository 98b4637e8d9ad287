-- Sessions in their places.
use Rattle.std.proofs.Common.{◌≡◌, ◌≢◌, ◌<◌, ◌≤◌, ◌+◌, ◌++◌, ◌∷◌, ◌==◌, ℕ, zero, suc, List, [], length, map, set, get_or, Option, Some, None, Bool, true, false, cond, refl, sym, ap, ◌∙◌, subst, ⊎_elim, arith, length-set, length-append, append_assoc}
use Rattle.std.specs.Prelude.{Vec, slice_get, option_to_list}
use Rattle.std.specs.Global.{Global}
use Rattle.std.specs.List.{All, flat_map, find, range_with_len}
use Rattle.std.proofs.lemmas.Bool.{cases_eq, eq-eqb, ne_eqb}
use Rattle.std.proofs.lemmas.List.{flat_map_more, length_push, get_or_at, get_or-map}
use Rattle.std.proofs.lemmas.Option.{get_or_from_slice_get, slice_get_within}
use Rattle.smi_mail.proofs.Lists.{slice_get-snoc}
use Rattle.smi_mail.proofs.Turns.{slice_get-set_same, slice_get-set_other}
use Rattle.smi_mail.proofs.Opening.{range_more}
use Rattle.smi_mail.specs.Mails.{OperatorSide}
use Rattle.smi_journal_entries.specs.declared.entry.Entry.{Entry}
use Rattle.smi_run_report.specs.declared.told.Accepted.{Accepted}
use Rattle.smi_run_report.specs.declared.told.Receipt.{Receipt}
use Rattle.smi_run_runtime.specs.Sessions.{SessionBook, AreSessionsOf, IsUntold, told_at}
use Rattle.smi_run_runtime.specs.Closing.{closed_of, receipts_of, all_unmet, AreAllThere, AreSlots, IsSeat, AreSeats}
use Rattle.smi_run_report.specs.Receipts.{unmet_among}
use Rattle.smi_run_report.specs.Told.{AreTold, accepted_in, accepted_of, rows_of}

pub all_more : (n : ℕ) (cs : List SessionBook) (c : SessionBook) → AreAllThere n cs → closed_of cs (n + 1) ≡ Some c → AreAllThere (n + 1) cs
all_more n cs c h is k lt = ⊎_elim (λ (e : k ≡ n). (c, ap (λ j. closed_of cs (j + 1)) e ∙ is)) (λ apart. h k (omega (arith, apart))) (cases_eq k n)

pub unmet_more : (J : List Entry) (cs : List SessionBook) (n : ℕ) → all_unmet J cs (n + 1) ≡ all_unmet J cs n ++ unmet_among J (receipts_of (closed_of cs (n + 1)))
unmet_more J cs n =
    let f : ℕ → List Receipt = λ k. unmet_among J (receipts_of (closed_of cs (k + 1))) in
    ap (flat_map f) (range_more n) ∙ sym (flat_map_more f [] (range_with_len 0 n) n)

pub slots_more : (n : ℕ) (slots : List (Option SessionBook)) → AreSlots n [] slots → AreSlots (n + 1) [] (slots ++ None ∷ [])
slots_more n slots h = record {
  long = length_push slots None ∙ ap (λ k. k + 1) h.long;
  each = λ k lt. ⊎_elim (λ (e : k ≡ n). ap (slice_get (slots ++ None ∷ [])) (e ∙ sym h.long) ∙ at_end slots None) (λ apart. before slots None k _ (h.each k (omega (arith, apart)))) (cases_eq k n);
}
  where
    at_end : {A : Type 0} (xs : List A) (x : A) → slice_get (xs ++ x ∷ []) (length xs) ≡ Some x
    at_end [] x = refl
    at_end (y ∷ ys) x = at_end ys x

    before : {A : Type 0} (xs : List A) (x : A) (k : ℕ) (y : A) → slice_get xs k ≡ Some y → slice_get (xs ++ x ∷ []) k ≡ Some y
    before [] x k y e = absurd cc
    before (z ∷ zs) x zero y e = e
    before (z ∷ zs) x (suc k) y e = before zs x k y e

-- the one more goes before those that are placed
pub slots_placed : (n p : ℕ) (c : SessionBook) (rest : List SessionBook) (slots : List (Option SessionBook)) → c.session ≡ p + 1 → p < length slots → AreSlots n rest slots → AreSlots n (c ∷ rest) (set slots p (Some c))
slots_placed n p c rest slots place lt h = record {
  long = length-set slots p (Some c) ∙ h.long;
  each = λ k le. ⊎_elim
      (λ (e : p ≡ k). ap (slice_get (set slots p (Some c))) (sym e) ∙ slice_get-set_same slots p (Some c) lt ∙ ap Some (sym (ap (λ b. cond b (Some c) (find (λ (d : SessionBook). d.session == (k + 1)) rest)) (eq-eqb c.session (k + 1) (place ∙ ap (λ j. j + 1) e)))))
      (λ apart. slice_get-set_other slots p k (Some c) (λ e. apart (sym e)) ∙ h.each k le ∙ ap Some (sym (ap (λ b. cond b (Some c) (find (λ (d : SessionBook). d.session == (k + 1)) rest)) (ne_eqb c.session (k + 1) (λ e. apart (omega (arith, e, place)))))))
      (cases_eq p k);
}

-- one of no place here
pub slots_past : (n p : ℕ) (c : SessionBook) (rest : List SessionBook) (slots : List (Option SessionBook)) → c.session ≡ p + 1 → length slots ≤ p → AreSlots n rest slots → AreSlots n (c ∷ rest) slots
slots_past n p c rest slots place le h = record {
  long = h.long;
  each = λ k lt. h.each k lt ∙ ap Some (sym (ap (λ b. cond b (Some c) (find (λ (d : SessionBook). d.session == (k + 1)) rest)) (ne_eqb c.session (k + 1) (λ e. absurd (omega (arith, h.long, place, e))))));
}

at_last : {A : Type 0} (xs : List A) (x : A) → slice_get (xs ++ x ∷ []) (length xs) ≡ Some x
at_last [] x = refl
at_last (y ∷ ys) x = at_last ys x

still : {A : Type 0} (xs : List A) (x : A) (k : ℕ) (y : A) → slice_get xs k ≡ Some y → slice_get (xs ++ x ∷ []) k ≡ Some y
still [] x k y e = absurd cc
still (z ∷ zs) x zero y e = e
still (z ∷ zs) x (suc k) y e = still zs x k y e

pub ends_more : (n : ℕ) (cs : List SessionBook) (ends : List OperatorSide) (accepted : List (Vec (Vec Accepted Global) Global)) (one : SessionBook) (side : OperatorSide) (row : Vec (Vec Accepted Global) Global) → AreSeats n cs ends accepted → closed_of cs (n + 1) ≡ Some one → side.session ≡ n + 1 → rows_of row.items ≡ one.accepted → one.accepted ≡ map (map accepted_of) side.sent → AreSeats (n + 1) cs (ends ++ side ∷ []) (accepted ++ row ∷ [])
ends_more n cs ends accepted one side row h is place same tied = record {
  long = length_push ends side ∙ ap (λ k. k + 1) h.long;
  wide = length_push accepted row ∙ ap (λ k. k + 1) h.wide;
  each = λ k lt. ⊎_elim
      (λ (e : k ≡ n). record {
        one = one;
        closed = ap (λ j. closed_of cs (j + 1)) e ∙ is;
        side = side;
        end = ap (slice_get (ends ++ side ∷ [])) (e ∙ sym h.long) ∙ at_last ends side;
        session = place ∙ ap (λ j. j + 1) (sym e);
        row = row;
        rows = ap (slice_get (accepted ++ row ∷ [])) (e ∙ sym h.wide) ∙ at_last accepted row;
        same = same;
        tied = tied;
      })
      (λ apart. let s = h.each k (omega (arith, apart)) in record {
        one = s.one;
        closed = s.closed;
        side = s.side;
        end = still ends side k s.side s.end;
        session = s.session;
        row = s.row;
        rows = still accepted row k s.row s.rows;
        same = s.same;
        tied = s.tied;
      })
      (cases_eq k n);
}

-- one end more, and a session more that was told nothing
pub sessions_more : (ends : List OperatorSide) (sessions : List SessionBook) (e : OperatorSide) (s : SessionBook) → AreSessionsOf ends sessions → IsUntold e.session s → AreSessionsOf (ends ++ e ∷ []) (sessions ++ s ∷ [])
sessions_more ends sessions e s h untold = record {
  long = length_push sessions s ∙ ap (λ k. k + 1) h.long ∙ sym (length_push ends e);
  each = λ k x y at here. ⊎_elim
      (λ (old : slice_get ends k ≡ Some x). ⊎_elim
      (λ (was : slice_get sessions k ≡ Some y). h.each k x y old was)
      (λ (is : (k ≡ length sessions) × (s ≡ y)). absurd (omega (arith, slice_get_within ends k x old, is.0, h.long)))
      (slice_get-snoc sessions s y k here))
      (λ (new : (k ≡ length ends) × (e ≡ x)). ⊎_elim
      (λ (was : slice_get sessions k ≡ Some y). absurd (omega (arith, slice_get_within sessions k y was, new.0, h.long)))
      (λ (is : (k ≡ length sessions) × (s ≡ y)). subst (λ (z : OperatorSide). IsUntold z.session y) new.1 (subst (IsUntold e.session) is.1 untold))
      (slice_get-snoc sessions s y k here))
      (slice_get-snoc ends e x k at);
}

pub same_end : {A : Type 0} (all now new rest : List A) (r : Option A) (x : A) → all ≡ now ++ rest → now ≡ new ++ option_to_list r → r ≡ Some x → all ≡ new ++ x ∷ rest
same_end {A} all now new rest r x is was some = is ∙ ap (λ l. l ++ rest) (was ∙ ap (λ (s : Option A). new ++ option_to_list s) some) ∙ append_assoc new (x ∷ []) rest

pub popped : {A : Type 0} (P : A → Type 0) (old new : List A) (r : Option A) (x : A) → old ≡ new ++ option_to_list r → r ≡ Some x → All P old → P x
popped {A} P old new r x was some all =
    let is : old ≡ new ++ x ∷ [] = was ∙ ap (λ (s : Option A). new ++ option_to_list s) some in
    subst P (ap (λ l. get_or l (length new) x) is ∙ get_or_at new x [] x (length new) refl) (all (length new) x (omega (arith, ap length is, length_push new x)))

pub found_is : (cs : List SessionBook) (k : ℕ) (c : SessionBook) → closed_of cs k ≡ Some c → c.session ≡ k
found_is [] k c e = absurd cc
found_is (x ∷ xs) k c e = ⊎_elim
    (λ (is : x.session ≡ k). let f : Some x ≡ Some c = sym (ap (λ b. cond b (Some x) (find (λ (d : SessionBook). d.session == k) xs)) (eq-eqb x.session k is)) ∙ e in let g : x ≡ c = cc (f) in ap (λ (d : SessionBook). d.session) (sym g) ∙ is)
    (λ apart. found_is xs k c (sym (ap (λ b. cond b (Some x) (find (λ (d : SessionBook). d.session == k) xs)) (ne_eqb x.session k apart)) ∙ e))
    (cases_eq x.session k)

pub no_rows : (rows : List (Vec Accepted Global)) → All (λ v. v.items ≡ []) rows → (o : ℕ) → get_or (rows_of rows) o [] ≡ []
no_rows [] all o = refl
no_rows (x ∷ xs) all zero = all 0 x (omega arith)
no_rows (x ∷ xs) all (suc o) = no_rows xs (λ i e lt. all (suc i) e (omega (arith, lt))) o

module _ (n : ℕ) (cs : List SessionBook) (ends : List OperatorSide) (accepted : List (Vec (Vec Accepted Global) Global)) (seats : AreSeats n cs ends accepted) where
  -- what is in the places is what the ends sent
  pub told_of : AreTold n ends accepted
  told_of = record {
    long = seats.long;
    wide = seats.wide;
    each = λ k lt.
        let s = seats.each k lt in
        record { side = s.side; end = s.end; session = s.session; row = s.row; rows = s.rows; tied = s.same ∙ s.tied };
  }

  -- what is in a place is what its session was told
  pub accepted_is : (k o : ℕ) (lt : k < n) → accepted_in (map (λ (v : Vec (Vec Accepted Global) Global). rows_of v.items) accepted) k o ≡ told_at (seats.each k lt).one o
  accepted_is k o lt =
      let s = seats.each k lt in
      let g : Vec (Vec Accepted Global) Global → List (List Accepted) = λ v. rows_of v.items in
      let here : get_or (map g accepted) k [] ≡ g (get_or accepted k s.row) = get_or-map g accepted k s.row [] (slice_get_within accepted k s.row s.rows) in
      ap (λ (l : List (List Accepted)). get_or l o []) (here ∙ ap g (get_or_from_slice_get accepted k s.row s.row s.rows) ∙ s.same)
