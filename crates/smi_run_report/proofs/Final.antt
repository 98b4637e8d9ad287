-- What was told, what the mailboxes held and the journal, put together.
use Rattle.std.proofs.Common.{◌≡◌, ◌<◌, ◌≤◌, ◌+◌, ◌++◌, ◌∷◌, ℕ, zero, suc, List, [], length, map, get_or, Bool, true, false, cond, refl, sym, ap, ◌∙◌, subst, arith, inr, ⊎_elim}
use Rattle.std.specs.Prelude.{Vec}
use Rattle.std.specs.Global.{Global}
use Rattle.std.proofs.lemmas.Bool.{cases_lt}
use Rattle.std.proofs.lemmas.List.{map-append, get_or-map, get_or_past, length-map}
use Rattle.std.proofs.lemmas.Option.{get_or_from_slice_get, slice_get_within}
use Rattle.sml_domain.specs.Domain.{Domain}
use Rattle.smi_journal_entries.specs.declared.entry.Sender.{Sender}
use Rattle.smi_journal_entries.specs.declared.entry.Sender.TheVariants.{Operator, Object}
use Rattle.smi_journal_entries.specs.declared.letter.Letter.{Letter}
use Rattle.smi_journal_entries.specs.declared.entry.Entry.{Entry}
use Rattle.smi_journal_entries.specs.Requests.{request_of, from_sender}
use Rattle.smi_journal_entries.specs.Words.{starts_at}
use Rattle.smi_mail.specs.Letters.{letters_from, is_same, requests_in}
use Rattle.smi_mail.specs.Mails.{OperatorSide, session_sent}
use Rattle.smi_mail.specs.Drains.{AreAllEnds, Final, IsNoSession, final_at}
use Rattle.smi_mail.proofs.Lists.{from_requests, is_same-true}
use Rattle.smi_board.specs.Closed.{IsClosed}
use Rattle.smi_run_report.specs.declared.told.Accepted.{Accepted}
use Rattle.smi_run_report.specs.Told.{accepted_of, told_request, rows_of, accepted_in, AreTold}
use Rattle.smi_run_report.specs.Reports.{left_from, IsFinalReport}

-- what a session was told of its letters are their requests
told_by : (k : ℕ) (x : Letter) (xs : List Letter) (b : Bool) → is_same (Operator k) x.sender ≡ b
    → map (told_request k) (map accepted_of xs) ≡ requests_in xs
    → map (told_request k) (map accepted_of (cond b (x ∷ xs) xs)) ≡ requests_in (cond b (x ∷ xs) xs)
told_by k x xs true e h =
    let first : Operator k ≡ x.sender = is_same-true (Operator k) x.sender e in
    let rest = map (told_request k) (map accepted_of xs) in
    ap (λ (s : Sender). record { sender = s; action = x.action; args = x.args } ∷ rest) first ∙ ap (λ l. request_of x ∷ l) h
told_by k x xs false e h = h

told_of : (k : ℕ) (xs : List Letter)
    → map (told_request k) (map accepted_of (letters_from (Operator k) xs)) ≡ requests_in (letters_from (Operator k) xs)
told_of k [] = refl
told_of k (x ∷ xs) = told_by k x (letters_from (Operator k) xs) (is_same (Operator k) x.sender) refl (told_of k xs)

told_twice : (k : ℕ) (xs ys : List Letter)
    → map (told_request k) (map accepted_of (letters_from (Operator k) xs ++ letters_from (Operator k) ys))
    ≡ requests_in (letters_from (Operator k) xs ++ letters_from (Operator k) ys)
told_twice k xs ys =
    let x = letters_from (Operator k) xs in
    let y = letters_from (Operator k) ys in
    ap (map (told_request k)) (map-append accepted_of x y)
    ∙ map-append (told_request k) (map accepted_of x) (map accepted_of y)
    ∙ ap (λ l. l ++ map (told_request k) (map accepted_of y)) (told_of k xs)
    ∙ ap (λ l. requests_in x ++ l) (told_of k ys) ∙ sym (map-append request_of x y)

row_in : (xs : List (List Letter)) (i : ℕ) → get_or (map (map accepted_of) xs) i [] ≡ map accepted_of (get_or xs i [])
row_in [] i = refl
row_in (x ∷ xs) zero = refl
row_in (x ∷ xs) (suc i) = row_in xs i

-- the ends of all sessions are there
pub all_ends : (n : ℕ) (ends : List OperatorSide) (accepted : List (Vec (Vec Accepted Global) Global))
    → AreTold n ends accepted → AreAllEnds n ends
all_ends n ends accepted told = record {
  count = told.long;
  each = λ k lt. let t = told.each k lt in (k, t.side, t.end, t.session);
}

module _ (d : Domain) (n : ℕ) (ends : List OperatorSide) (accepted : List (Vec (Vec Accepted Global) Global))
    (J : List Entry) (f : List Final) (told : AreTold n ends accepted) (closed : IsClosed d J ends f) where
  abbrev all : List (List (List Accepted))
  all = map (λ v. rows_of v.items) accepted

  -- what was told in a place is what the end in that place sent
  told_is : (k o : ℕ) (lt : k < n) → accepted_in all k o ≡ map accepted_of (session_sent (told.each k lt).side o)
  told_is k o lt =
      let t = told.each k lt in
      let rows : Vec (Vec Accepted Global) Global → List (List Accepted) = λ v. rows_of v.items in
      let here : get_or all k [] ≡ rows (get_or accepted k t.row)
      = get_or-map rows accepted k t.row [] (slice_get_within accepted k t.row t.rows) in
      let row : rows (get_or accepted k t.row) ≡ map (map accepted_of) t.side.sent
      = ap rows (get_or_from_slice_get accepted k t.row t.row t.rows) ∙ t.tied in
      ap (λ (l : List (List Accepted)). get_or l o []) (here ∙ row) ∙ row_in t.side.sent o

  -- what a sender sent is what was started of it, followed by what is left of it
  split : (s : Sender) (o : ℕ) → o < length d.objects
      → requests_in (letters_from s (final_at f o).taken ++ letters_from s (final_at f o).left)
      ≡ from_sender s (starts_at o J) ++ left_from f s o
  split s o lt =
      let taken = (final_at f o).taken in
      let left = (final_at f o).left in
      let started : requests_in (letters_from s taken) ≡ from_sender s (starts_at o J)
      = sym (from_requests s taken) ∙ ap (from_sender s) (sym (closed.starts o lt)) in
      map-append request_of (letters_from s taken) (letters_from s left)
      ∙ ap (λ l. l ++ requests_in (letters_from s left)) started
      ∙ ap (λ l. from_sender s (starts_at o J) ++ l) (sym (from_requests s left))

  -- of a session that there is not, nothing is started or left
  of_nobody : (k o : ℕ) → IsNoSession n k → o < length d.objects → from_sender (Operator k) (starts_at o J) ++ left_from f (Operator k) o ≡ []
  of_nobody k o none lt =
      sym (split (Operator k) o lt)
      ∙ ap requests_in (sym (closed.settled (Operator k) o lt) ∙ closed.nobody k o (subst (λ m. IsNoSession m k) (sym told.long) none) lt)

  untold : (k o : ℕ) → n ≤ k → accepted_in all k o ≡ []
  untold k o le =
      ap (λ (l : List (List Accepted)). get_or l o [])
      (get_or_past all k [] (subst (λ (m : ℕ). m ≤ k) (sym (length-map accepted _ ∙ told.wide)) le))

  of_session : (k o : ℕ) → k < n → o < length d.objects
      → map (told_request (k + 1)) (accepted_in all k o) ≡ from_sender (Operator (k + 1)) (starts_at o J) ++ left_from f (Operator (k + 1)) o
  of_session k o lt lt' =
      let t = told.each k lt in
      let taken = (final_at f o).taken in
      let left = (final_at f o).left in
      let own : session_sent t.side o ≡ letters_from (Operator (k + 1)) taken ++ letters_from (Operator (k + 1)) left
      = sym (closed.sessions k o t.side t.end lt') ∙ closed.settled (Operator t.side.session) o lt'
      ∙ ap (λ j. letters_from (Operator j) taken ++ letters_from (Operator j) left) t.session in
      ap (map (told_request (k + 1))) (told_is k o lt ∙ ap (map accepted_of) own) ∙ told_twice (k + 1) taken left
      ∙ split (Operator (k + 1)) o lt'

  final : IsFinalReport d n J all f
  final = record {
    operators = λ k o lt'. ⊎_elim (λ (lt : k < n). of_session k o lt lt')
        (λ (le : n ≤ k). ap (map (told_request (k + 1))) (untold k o le) ∙ sym (of_nobody (k + 1) o (inr (omega (arith, le))) lt'))
        (cases_lt k n);
    untold = untold;
    nobody = of_nobody;
    settled = λ s o lt. ap requests_in (closed.settled s o lt) ∙ split s o lt;
    objects_sent = λ a o lt lt'.
        closed.posts a o lt lt' ∙ ap requests_in (closed.settled (Object a) o lt') ∙ split (Object a) o lt';
    taken = λ o lt. sym (closed.starts o lt);
    sent = closed.posts;
    legal = closed.legal;
  }

  -- so it is for the journal under another name
  pub final_report : (shown : List Entry) → shown ≡ J → IsFinalReport d n shown all f
  final_report shown same = subst (λ (l : List Entry). IsFinalReport d n l all f) (sym same) final
