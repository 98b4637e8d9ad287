-- Mailboxes as they are made.
use Rattle.std.proofs.Common.{◌≡◌, ◌+◌, ◌++◌, ℕ, zero, suc, List, [], ◌∷◌, length, map, get_or, Some, refl, sym, ap, ◌∙◌, subst, arith, ⊎_elim}
use Rattle.std.specs.Prelude.{slice_get, Vec}
use Rattle.std.specs.Global.{Global}
use Rattle.std.specs.List.{All, range_with_len}
use Rattle.std.proofs.lemmas.List.{length-map}
use Rattle.std.proofs.lemmas.List.Elements.{All-map, All-weaker, All-tail}
use Rattle.atomic_table.specs.Seated.{TableId}
use Rattle.sml_domain.specs.Domain.{Domain}
use Rattle.smi_journal_entries.specs.declared.entry.Sender.{Sender}
use Rattle.smi_mail.specs.Letters.{letters_from, requests_in}
use Rattle.smi_mail.specs.Rule.{add_session, new_session}
use Rattle.smi_mail.specs.Sides.{BoardSide, SessionSide}
use Rattle.smi_mail.specs.Rows.{session_side_of, more_side}
use Rattle.smi_mail.specs.Mails.{AreSessions, AreBoards, IsRunning, AreFresh, OperatorSide, operator_side, session_sent, Letters, letters_of, letters_at, requests_taken, requests_sent, AreOpenBoards, AreOpenSessions, AreRows, board_opened, session_opened}
use Rattle.smi_mail.proofs.Lists.{slice_get-snoc}

same_names : (board : List BoardSide) → map (λ (e : BoardSide). e.mailbox) (map more_side board) ≡ map (λ (e : BoardSide). e.mailbox) board
same_names [] = refl
same_names (b ∷ bs) = ap (λ l. b.mailbox ∷ l) (same_names bs)

same_kinds : (board : List BoardSide) → map (λ (e : BoardSide). e.seen.kind) (map more_side board) ≡ map (λ (e : BoardSide). e.seen.kind) board
same_kinds [] = refl
same_kinds (b ∷ bs) = ap (λ l. b.seen.kind ∷ l) (same_kinds bs)

own_kinds : (board : List BoardSide) → map (λ (e : SessionSide). e.seen.kind) (map session_side_of board) ≡ map (λ (e : BoardSide). e.seen.kind) board
own_kinds [] = refl
own_kinds (b ∷ bs) = ap (λ l. b.seen.kind ∷ l) (own_kinds bs)

own_names : (board : List BoardSide) → map (λ (e : SessionSide). e.mailbox) (map session_side_of board) ≡ map (λ (e : BoardSide). e.mailbox) board
own_names [] = refl
own_names (b ∷ bs) = ap (λ l. b.mailbox ∷ l) (own_names bs)

pub boards_more : (d : Domain) (n k : ℕ) (board : List BoardSide) → AreOpenBoards d n k board → AreOpenBoards d n (k + 1) (map more_side board)
boards_more d n k board h = record {
  kinds = same_kinds board ∙ h.kinds;
  wide = length-map board more_side ∙ h.wide;
  each = All-map (λ (e : BoardSide). e.seen ≡ board_opened e.seen.kind n (k + 1)) more_side board (All-weaker (λ (e : BoardSide). e.seen ≡ board_opened e.seen.kind n k) (λ (e : BoardSide). add_session e.seen ≡ board_opened e.seen.kind n (k + 1)) (λ e is. ap add_session is) board h.each);
}

pub rows_more : (d : Domain) (n k : ℕ) (board now : List BoardSide) (rows : List (Vec SessionSide Global)) (v : Vec SessionSide Global) → AreOpenBoards d n k board → now ≡ map more_side board → v.items ≡ map session_side_of board → length rows ≡ k → AreRows n board rows → AreRows n now (rows ++ v ∷ [])
rows_more d n k board now rows v h is row long all j w at = ⊎_elim (λ t. old t) (λ (t : (j ≡ length rows) × (v ≡ w)). subst (λ (y : ℕ × Vec SessionSide Global). AreOpenSessions n y.0 now y.1.items) (λ i. (sym (t.0 ∙ long) i, t.1 i)) new) (slice_get-snoc rows v w j at)
  where
    names : map (λ (e : BoardSide). e.mailbox) now ≡ map (λ (e : BoardSide). e.mailbox) board
    names = ap (map (λ (e : BoardSide). e.mailbox)) is ∙ same_names board

    kinds : map (λ (e : BoardSide). e.seen.kind) now ≡ map (λ (e : BoardSide). e.seen.kind) board
    kinds = ap (map (λ (e : BoardSide). e.seen.kind)) is ∙ same_kinds board

    old : slice_get rows j ≡ Some w → AreOpenSessions n j now w.items
    old t = let a = all j w t in record { named = a.named ∙ sym names; kinds = a.kinds ∙ sym kinds; each = a.each }

    new : AreOpenSessions n k now v.items
    new = subst (AreOpenSessions n k now) (sym row) (record {
      named = own_names board ∙ sym names;
      kinds = own_kinds board ∙ sym kinds;
      each = All-map (λ (e : SessionSide). e.seen ≡ session_opened e.seen.kind n k) session_side_of board (All-weaker (λ (e : BoardSide). e.seen ≡ board_opened e.seen.kind n k) (λ (e : BoardSide). new_session e.seen ≡ session_opened e.seen.kind n k) (λ e same. ap new_session same) board h.each);
    })

none_at : {A B : Type 0} (f : A → List B) (xs : List A) (o : ℕ) → All (λ x. f x ≡ []) xs → get_or (map f xs) o [] ≡ []
none_at f [] o h = refl
none_at f (x ∷ xs) zero h = h 0 x (omega arith)
none_at f (x ∷ xs) (suc o) h = none_at f xs o (All-tail (λ y. f y ≡ []) x xs h)

-- the row of a session, named
pub row_named : (d : Domain) (n k m : ℕ) (board : List BoardSide) (row : List SessionSide) (mailboxes : List TableId) → AreOpenBoards d n m board → AreOpenSessions n k board row → mailboxes ≡ map (λ (e : BoardSide). e.mailbox) board
    → AreSessions d n (k + 1) mailboxes row × ((o : ℕ) → session_sent (operator_side (k + 1) row) o ≡ [])
row_named d n k m board row mailboxes h r is = (
  record {
    named = r.named ∙ sym is;
    kinds = r.kinds ∙ h.kinds;
    wide = sym (length-map row (λ (e : SessionSide). e.mailbox)) ∙ ap length r.named ∙ length-map board (λ (e : BoardSide). e.mailbox) ∙ h.wide;
    each = All-weaker (λ (e : SessionSide). e.seen ≡ session_opened e.seen.kind n k) (λ (e : SessionSide). (e.seen.capacity ≡ n) × (e.seen.session ≡ k + 1)) (λ e q. (ap (λ s. s.capacity) q, ap (λ s. s.session) q)) row r.each;
  },
  λ o. none_at (λ (e : SessionSide). e.seen.sent) row o (All-weaker (λ (e : SessionSide). e.seen ≡ session_opened e.seen.kind n k) (λ (e : SessionSide). e.seen.sent ≡ []) (λ e q. ap (λ s. s.sent) q) row r.each),
)

-- the board's ends, named
pub board_named : (d : Domain) (n m : ℕ) (board : List BoardSide) (mailboxes : List TableId) → AreOpenBoards d n m board → mailboxes ≡ map (λ (e : BoardSide). e.mailbox) board → AreBoards d n m mailboxes board
board_named d n m board mailboxes h is = record {
  named = sym is;
  kinds = h.kinds;
  wide = h.wide;
  each = All-weaker (λ (e : BoardSide). e.seen ≡ board_opened e.seen.kind n m) (λ (e : BoardSide). IsRunning n m e.seen) (λ e q. record { capacity = ap (λ b. b.capacity) q; made = ap (λ b. b.made) q; known = ap (λ b. b.known) q }) board h.each;
}

-- nothing was taken, and nothing sent
pub mail_opened : (d : Domain) (n m : ℕ) (board : List BoardSide) → AreOpenBoards d n m board → (o : ℕ) → (requests_taken (map letters_of board) o ≡ []) × ((s : Sender) → requests_sent (map letters_of board) s o ≡ [])
mail_opened d n m board h o = (ap (λ (l : Letters). requests_in l.taken) (empty board h.each o), λ s. ap (λ (l : Letters). requests_in (letters_from s l.sent)) (empty board h.each o))
  where
    empty : (xs : List BoardSide) → All (λ e. e.seen ≡ board_opened e.seen.kind n m) xs → (k : ℕ) → letters_at (map letters_of xs) k ≡ record { taken = []; sent = [] }
    empty [] a k = refl
    empty (x ∷ xs) a zero = let q = a 0 x (omega arith) in λ i. record { taken = (q i).taken; sent = (q i).sent }
    empty (x ∷ xs) a (suc k) = empty xs (All-tail (λ (e : BoardSide). e.seen ≡ board_opened e.seen.kind n m) x xs a) k

pub fresh_more : (ends : List OperatorSide) (e : OperatorSide) → AreFresh ends → e.session ≡ length ends + 1 → ((o : ℕ) → session_sent e o ≡ []) → AreFresh (ends ++ e ∷ [])
fresh_more ends e h place none k x at = ⊎_elim (λ t. h k x t) (λ (t : (k ≡ length ends) × (e ≡ x)). subst (λ (y : OperatorSide). (y.session ≡ k + 1) × ((o : ℕ) → session_sent y o ≡ [])) t.1 (place ∙ ap (λ j. j + 1) (sym t.0), none)) (slice_get-snoc ends e x k at)

range_later : (a n : ℕ) → range_with_len a (suc n) ≡ range_with_len a n ++ (a + n) ∷ []
range_later a zero = let e : a ≡ a + 0 = omega arith in ap (λ k. k ∷ []) e
range_later a (suc n) = let e : (a + 1) + n ≡ a + suc n = omega arith in ap (λ l. a ∷ l) (range_later (a + 1) n ∙ ap (λ k. range_with_len (a + 1) n ++ k ∷ []) e)

pub range_more : (n : ℕ) → range_with_len 0 (n + 1) ≡ range_with_len 0 n ++ n ∷ []
range_more n = let e : n + 1 ≡ suc n = omega arith in let z : 0 + n ≡ n = omega arith in ap (range_with_len 0) e ∙ range_later 0 n ∙ ap (λ k. range_with_len 0 n ++ k ∷ []) z
