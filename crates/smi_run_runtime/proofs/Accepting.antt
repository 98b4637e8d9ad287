-- What is accepted, when it grows.
use Rattle.std.proofs.Common.{◌≡◌, ◌<◌, ◌++◌, ◌∷◌, ℕ, zero, suc, List, [], length, map, set, get_or, length-set, refl, sym, ap, ◌∙◌, subst, arith}
use Rattle.std.specs.Prelude.{Vec, slice_get, Some, Result, Ok, Err, OnOk, vec_len, vec_capacity, ◌+◌, ◌≤◌}
use Rattle.std.specs.Global.{Global}
use Rattle.std.specs.List.{All}
use Rattle.std.proofs.lemmas.List.{map-set, get_or-map, map-append, length-map}
use Rattle.smi_mail.proofs.Turns.{slice_get-set_same}
use Rattle.smi_mail.specs.Mails.{OperatorSide, with_sent}
use Rattle.smi_journal_entries.specs.declared.letter.Letter.{Letter}
use Rattle.smi_run_report.specs.declared.told.Accepted.{Accepted}
use Rattle.smi_run_report.specs.declared.told.Receipt.{Receipt}
use Rattle.smi_run_runtime.specs.Sessions.{SessionBook, told_at, with_told, HasRoomAt}
use Rattle.smi_run_report.specs.Told.{rows_of, accepted_of}

pub accepted_grows : (rows : List (List Accepted)) (sent : List (List Letter)) (o : ℕ) (x : Letter) → rows ≡ map (map accepted_of) sent → o < length sent → set rows o (get_or rows o [] ++ accepted_of x ∷ []) ≡ map (map accepted_of) (set sent o (get_or sent o [] ++ x ∷ []))
accepted_grows rows sent o x is lt =
    let was : get_or rows o [] ≡ map accepted_of (get_or sent o []) = ap (λ l. get_or l o []) is ∙ get_or-map (map accepted_of) sent o [] [] lt in
    let row : get_or rows o [] ++ accepted_of x ∷ [] ≡ map accepted_of (get_or sent o [] ++ x ∷ []) = ap (λ l. l ++ accepted_of x ∷ []) was ∙ sym (map-append accepted_of (get_or sent o []) (x ∷ [])) in
    ap (set rows o) row ∙ ap (λ l. set l o (map accepted_of (get_or sent o [] ++ x ∷ []))) is ∙ sym (map-set (map accepted_of) sent o (get_or sent o [] ++ x ∷ []))

-- how many there are of each is the same
pub counts : (rows : List (List Accepted)) (sent : List (List Letter)) (o : ℕ) → rows ≡ map (map accepted_of) sent → o < length sent → length (get_or sent o []) ≡ length (get_or rows o [])
counts rows sent o is lt = sym (ap (λ l. length (get_or l o [])) is ∙ ap length (get_or-map (map accepted_of) sent o [] [] lt) ∙ length-map (get_or sent o []) accepted_of)

-- rows of nothing, beside lists of nothing
pub fresh : (rows : List (Vec Accepted Global)) (sent : List (List Letter)) → length rows ≡ length sent → All (λ v. v.items ≡ []) rows → ((o : ℕ) → get_or sent o [] ≡ []) → rows_of rows ≡ map (map accepted_of) sent
fresh [] [] is all none = refl
fresh [] (y ∷ ys) is all none = absurd cc
fresh (x ∷ xs) [] is all none = absurd cc
fresh (x ∷ xs) (y ∷ ys) is all none =
    let first : x.items ≡ map accepted_of y = all 0 x (omega arith) ∙ sym (ap (map accepted_of) (none 0)) in
    ap (λ z. z ∷ rows_of xs) first ∙ ap (λ l. map accepted_of y ∷ l) (fresh xs ys (omega (arith, is)) (λ i e lt. all (suc i) e (omega (arith, lt))) (λ o. none (suc o)))

pub has_room : {T E : Type 0} (rows : List (Vec Accepted Global)) (o : ℕ) (v : Vec Accepted Global) (r : Result T E) → o < length rows → OnOk r (vec_len v + 1 ≤ vec_capacity v) → OnOk r (HasRoomAt (set rows o v) o)
has_room rows o v (Ok t) lt h = λ w at. let e : v ≡ w = cc (at, slice_get-set_same rows o v lt) in subst (λ (u : Vec Accepted Global). vec_len u + 1 ≤ vec_capacity u) e h
has_room rows o v (Err e) lt h = h

module _ (end end' : OperatorSide) (rows : List (Vec Accepted Global)) (grown new : List (List Accepted)) (o p : ℕ) (x : Letter) (y : Accepted) (was : rows_of rows ≡ map (map accepted_of) end.sent) (same : grown ≡ rows_of rows) (place : p ≡ o) (lt : o < length rows) (posted : end' ≡ with_sent end o x) (alike : y ≡ accepted_of x) (added : new ≡ set grown p (get_or grown p [] ++ y ∷ [])) where
  abbrev old : List (List Accepted)
  old = rows_of rows

  lt' : o < length end.sent
  lt' = omega (arith, lt, ap length was, length-map end.sent (map accepted_of), length-map rows (λ (v : Vec Accepted Global). v.items))

  at : new ≡ set old o (get_or old o [] ++ y ∷ [])
  at = added ∙ ap (λ l. set l p (get_or l p [] ++ y ∷ [])) same ∙ ap (λ i. set old i (get_or old i [] ++ y ∷ [])) place

  pub posted_rows : new ≡ map (map accepted_of) end'.sent
  posted_rows = at ∙ ap (λ z. set old o (get_or old o [] ++ z ∷ [])) alike ∙ accepted_grows old end.sent o x was lt' ∙ sym (ap (λ (e : OperatorSide). map (map accepted_of) e.sent) posted)

  pub posted_long : length new ≡ length rows
  posted_long = ap length at ∙ length-set old o (get_or old o [] ++ y ∷ []) ∙ length-map rows (λ (v : Vec Accepted Global). v.items)

  pub posted_shown : (now : SessionBook) (receipts receipts' : List Receipt) (n : ℕ) → record { session = end.session; accepted = old; receipts = receipts } ≡ now → receipts' ≡ receipts → n ≡ length (get_or end.sent o []) → (n ≡ length (told_at now o)) × (record { session = end'.session; accepted = new; receipts = receipts' } ≡ with_told now o y)
  posted_shown now receipts receipts' n shown kept count = (
    count ∙ counts old end.sent o was lt' ∙ ap (λ (s : SessionBook). length (told_at s o)) shown,
    ap (λ (e : OperatorSide). record { session = e.session; accepted = new; receipts = receipts' }) posted ∙ ap (λ (l : List (List Accepted)). record { session = end.session; accepted = l; receipts = receipts' }) at ∙ ap (λ (l : List Receipt). record { session = end.session; accepted = set old o (get_or old o [] ++ y ∷ []); receipts = l }) kept ∙ ap (λ (s : SessionBook). with_told s o y) shown,
  )
