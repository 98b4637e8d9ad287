-- The board's ends of all mailboxes, when one changes.
use Rattle.std.proofs.Common.{◌≡◌, ◌≢◌, ◌<◌, ℕ, zero, suc, List, [], ◌∷◌, ◌++◌, length, map, set, get_or, Option, Some, None, Result, Ok, Err, MatchOption, IfSome, IfNone, IfOk, IfErr, OnErr, true, refl, sym, ap, ◌∙◌, subst, arith, length-set, ⊎_elim}
use Rattle.std.proofs.lemmas.Bool.{cases_eq}
use Rattle.std.proofs.lemmas.List.{map-set, get_or-set_same, get_or-set_other, set-get_or, length-map, append-nil}
use Rattle.smi_mail.proofs.Lists.{from-append, from-one, from-none, is_same-self, is_same-apart, from_requests, count_requests, length_requests, more_requests, prefix_requests}
use Rattle.std.proofs.lemmas.List.Elements.{All-set}
use mathlib.Core.List.{IsPrefix}
use Rattle.atomic_table.specs.Seated.{TableId}
use Rattle.smi_journal_entries.specs.declared.entry.Sender.{Sender}
use Rattle.smi_journal_entries.specs.declared.entry.Sender.TheVariants.{Operator, Object}
use Rattle.smi_journal_entries.specs.declared.letter.Letter.{Letter}
use Rattle.sml_domain.specs.Domain.{Domain}
use Rattle.smi_mail.specs.declared.rule.Kind.{Kind}
use Rattle.std.proofs.lemmas.List.FromFn.{get_or-map-range_with_len}
use Rattle.smi_mail.specs.declared.rule.BoardView.{BoardView}
use Rattle.smi_journal_entries.specs.Requests.{request_of, from_sender}
use Rattle.smi_journal_entries.specs.Fits.{letter_fits}
use Rattle.smi_mail_plain.specs.Mails as mails
use Rattle.smi_mail_plain.specs.declared.mail.Full.{Full}
use Rattle.smi_mail.specs.Letters.{letters_from, requests_in, IsFor}
use Rattle.smi_mail.specs.Rule.{add_taken, add_sent, mailbox_kind}
use Rattle.smi_mail.specs.Sides.{BoardSide}
use Rattle.smi_mail.specs.Mails.{Letters, letters_of, letters_at, letters_taken, letters_sent, requests_taken, requests_sent, GrowsByLetter, KeepsLetters, IsRunning, AreBoards, serves_object, kinds_of}

pub get_or-map : {A B : Type 0} (f : A → B) (xs : List A) (i : ℕ) (d : A) (e : B) → i < length xs → get_or (map f xs) i e ≡ f (get_or xs i d)
get_or-map f [] i d e lt = absurd (omega arith)
get_or-map f (x ∷ xs) zero d e lt = refl
get_or-map f (x ∷ xs) (suc i) d e lt = get_or-map f xs i d e (omega arith)

pub same_at : {A B : Type 0} (f : A → B) (xs : List A) (i : ℕ) (x y : A) → i < length xs → x ≡ get_or xs i x → f y ≡ f x → map f (set xs i y) ≡ map f xs
same_at f xs i x y lt is same = map-set f xs i y ∙ ap (set (map f xs) i) (same ∙ ap f is ∙ sym (get_or-map f xs i x (f x) lt)) ∙ set-get_or (map f xs) i (f x)

pub set_boards : (d : Domain) (n s : ℕ) (mailboxes : List TableId) (ends : List BoardSide) (i : ℕ) (e e' : BoardSide) → i < length ends → e ≡ get_or ends i e → e'.mailbox ≡ e.mailbox → e'.seen.kind ≡ e.seen.kind → (IsRunning n s e.seen → IsRunning n s e'.seen) → AreBoards d n s mailboxes ends → AreBoards d n s mailboxes (set ends i e')
set_boards d n s mailboxes ends i e e' lt is mailbox kind runs h = record {
  named = same_at (λ (x : BoardSide). x.mailbox) ends i e e' lt is mailbox ∙ h.named;
  kinds = same_at (λ (x : BoardSide). x.seen.kind) ends i e e' lt is kind ∙ h.kinds;
  wide = length-set ends i e' ∙ h.wide;
  each = All-set (λ (x : BoardSide). IsRunning n s x.seen) ends i e' (runs (subst (λ (x : BoardSide). IsRunning n s x.seen) (sym is) (h.each i e lt))) h.each;
}

-- which object an end belongs to
pub kind_in : {A : Type 0} (f : A → Kind) (d : Domain) (ends : List A) (i : ℕ) (e : A) → map f ends ≡ kinds_of d → length ends ≡ length d.objects → i < length ends → e ≡ get_or ends i e → f e ≡ mailbox_kind d i
kind_in f d ends i e kinds wide lt at = ap f at ∙ sym (get_or-map f ends i e (f e) lt) ∙ ap (λ l. get_or l i (f e)) kinds ∙ get_or-map-range_with_len (mailbox_kind d) 0 (length d.objects) i i (f e) (omega (arith, wide)) (omega arith)

pub kind_at : (d : Domain) (ends : List BoardSide) (i : ℕ) (e : BoardSide) → map (λ (x : BoardSide). x.seen.kind) ends ≡ kinds_of d → length ends ≡ length d.objects → i < length ends → e ≡ get_or ends i e → e.seen.kind ≡ mailbox_kind d i
kind_at d ends i e = kind_in (λ (x : BoardSide). x.seen.kind) d ends i e

-- the lists at one object
pub read_at : (ends : List BoardSide) (m : List Letters) (i : ℕ) (e : BoardSide) → map letters_of ends ≡ m → i < length ends → e ≡ get_or ends i e → letters_at m i ≡ letters_of e
read_at ends m i e is lt at = ap (λ l. letters_at l i) (sym is) ∙ get_or-map letters_of ends i e _ lt ∙ ap letters_of (sym at)

pub new_here : (ends : List BoardSide) (i : ℕ) (e' : BoardSide) → i < length ends → letters_at (map letters_of (set ends i e')) i ≡ letters_of e'
new_here ends i e' lt = ap (λ l. letters_at l i) (map-set letters_of ends i e') ∙ get_or-set_same (map letters_of ends) i (letters_of e') _ (omega (arith, length-map ends letters_of))

pub new_other : (ends : List BoardSide) (m : List Letters) (i k : ℕ) (e' : BoardSide) → map letters_of ends ≡ m → k ≢ i → letters_at (map letters_of (set ends i e')) k ≡ letters_at m k
new_other ends m i k e' is apart = ap (λ l. letters_at l k) (map-set letters_of ends i e') ∙ get_or-set_other (map letters_of ends) i k (letters_of e') _ apart ∙ ap (λ l. letters_at l k) is

-- an object of a domain is one of its senders
pub known_sender : (d : Domain) (s : Sender) → serves_object d s ≡ true → mails.is_sender d s ≡ true
known_sender d (Operator k) is = refl
known_sender d (Object a) is = is

-- what a take tells of one end
abbrev pub ToldTake : BoardSide → BoardSide → Option Letter → Type 0
ToldTake e e' r = MatchOption r ((e' ≡ e) × ((a : ℕ) → letters_from (Object a) e.seen.taken ≡ letters_from (Object a) e.seen.sent))
    (λ x. (e' ≡ record e { seen = add_taken e.seen x }) × IsFor e.seen.kind x × (x.number ≡ length (letters_from x.sender e.seen.taken)))

abbrev pub Alike : BoardView → BoardView → Type 0
Alike b c = (c.kind ≡ b.kind) × (c.capacity ≡ b.capacity) × (c.made ≡ b.made) × (c.known ≡ b.known)

pub runs_alike : (n s : ℕ) (b c : BoardView) → Alike b c → IsRunning n s b → IsRunning n s c
runs_alike n s b c a h = record { capacity = a.1 ∙ h.capacity; made = a.2 ∙ h.made; known = a.3 ∙ h.known }

take_alike : (e e' : BoardSide) (r : Option Letter) → ToldTake e e' r → (e'.mailbox ≡ e.mailbox) × Alike e.seen e'.seen × (e'.seen.sent ≡ e.seen.sent)
take_alike e e' None t = rw t.0 (refl, (refl, refl, refl, refl), refl)
take_alike e e' (Some x) t = rw t.0 (refl, (refl, refl, refl, refl), refl)

module _ (d : Domain) (n s : ℕ) (mailboxes : List TableId) (ends : List BoardSide) (m : List Letters) (i : ℕ) (e e' : BoardSide) (h : AreBoards d n s mailboxes ends) (shown : map letters_of ends ≡ m) (lt : i < length ends) (at : e ≡ get_or ends i e) where
  abbrev after : List Letters
  after = map letters_of (set ends i e')

  pub take_boards : (r : Option Letter) → ToldTake e e' r → AreBoards d n s mailboxes (set ends i e')
  take_boards r t = let a = take_alike e e' r t in set_boards d n s mailboxes ends i e e' lt at a.0 a.1.0 (runs_alike n s e.seen e'.seen a.1) h

  here : letters_at m i ≡ letters_of e
  here = read_at ends m i e shown lt at

  here' : letters_at after i ≡ letters_of e'
  here' = new_here ends i e' lt

  there : (k : ℕ) → k ≢ i → letters_at after k ≡ letters_at m k
  there k apart = new_other ends m i k e' shown apart

  same_part : {A : Type 0} (f : Letters → A) → f (letters_of e') ≡ f (letters_of e) → (k : ℕ) → f (letters_at after k) ≡ f (letters_at m k)
  same_part f is k = ⊎_elim (λ (same : k ≡ i). subst (λ (j : ℕ). f (letters_at after j) ≡ f (letters_at m j)) (sym same) (ap f here' ∙ is ∙ sym (ap f here))) (λ apart. ap f (there k apart)) (cases_eq k i)

  pub take_sent : (r : Option Letter) → ToldTake e e' r → (a : Sender) → KeepsLetters (letters_sent m a) (letters_sent after a)
  take_sent r t a k = ap (letters_from a) (same_part (λ (l : Letters). l.sent) (take_alike e e' r t).2 k)

  pub take_some : (r : Option Letter) → ToldTake e e' r → IfSome r (λ x. GrowsByLetter (letters_taken m) i x (letters_taken after) × IsFor (mailbox_kind d i) x × (x.number ≡ length (letters_from x.sender (letters_taken m i))))
  take_some None t = tt
  take_some (Some x) t =
      let was : letters_taken m i ≡ e.seen.taken = ap (λ (l : Letters). l.taken) here in (
        (
          ap (λ (l : Letters). l.taken) here' ∙ ap (λ (y : BoardSide). y.seen.taken) t.0 ∙ ap (λ l. l ++ x ∷ []) (sym was),
          λ k apart. ap (λ (l : Letters). l.taken) (there k apart),
        ),
        subst (λ (c : Kind). IsFor c x) (kind_at d ends i e h.kinds h.wide lt at) t.1,
        t.2 ∙ ap (λ l. length (letters_from x.sender l)) (sym was),
      )

  pub take_none : (r : Option Letter) → ToldTake e e' r → IfNone r (KeepsLetters (letters_taken m) (letters_taken after) × ((a : Sender) → serves_object d a ≡ true → letters_from a (letters_taken m i) ≡ letters_sent m a i))
  take_none (Some x) t = tt
  take_none None t = (same_part (λ (l : Letters). l.taken) (ap (λ (y : BoardSide). y.seen.taken) t.0), all)
    where
      all : (a : Sender) → serves_object d a ≡ true → letters_from a (letters_taken m i) ≡ letters_sent m a i
      all (Operator k) is = absurd (cc (is))
      all (Object a) is = ap (λ (l : Letters). letters_from (Object a) l.taken) here ∙ t.1 a ∙ sym (ap (λ (l : Letters). letters_from (Object a) l.sent) here)

  pub order_at : ((a : ℕ) → IsPrefix (letters_from (Object a) e.seen.taken) (letters_from (Object a) e.seen.sent)) → (a : Sender) → serves_object d a ≡ true → IsPrefix (letters_from a (letters_taken m i)) (letters_sent m a i)
  order_at order (Operator k) is = absurd (cc (is))
  order_at order (Object a) is = subst (λ (l : Letters). IsPrefix (letters_from (Object a) l.taken) (letters_from (Object a) l.sent)) (sym here) (order a)

  -- what a post by the object a tells
  abbrev pub ToldSent : ℕ → Letter → Result ℕ (Full × Letter) → Type 0
  ToldSent a x r = IfOk r (λ k. (k ≡ length (letters_from (Object a) e.seen.sent)) × (e' ≡ record e { seen = add_sent e.seen (record x { number = k }) }))

  abbrev pub ToldFull : Letter → Result ℕ (Full × Letter) → Type 0
  ToldFull x r = IfErr r (λ y. (y.1 ≡ x) × (e' ≡ e))

  post_alike : (a : ℕ) (x : Letter) (r : Result ℕ (Full × Letter)) → ToldSent a x r → ToldFull x r → (e'.mailbox ≡ e.mailbox) × Alike e.seen e'.seen × (e'.seen.taken ≡ e.seen.taken)
  post_alike a x (Ok k) t u = rw t.1 (refl, (refl, refl, refl, refl), refl)
  post_alike a x (Err y) t u = rw u.1 (refl, (refl, refl, refl, refl), refl)

  pub post_boards : (a : ℕ) (x : Letter) (r : Result ℕ (Full × Letter)) → ToldSent a x r → ToldFull x r → AreBoards d n s mailboxes (set ends i e')
  post_boards a x r t u = let k = post_alike a x r t u in set_boards d n s mailboxes ends i e e' lt at k.0 k.1.0 (runs_alike n s e.seen e'.seen k.1) h

  pub post_taken : (a : ℕ) (x : Letter) (r : Result ℕ (Full × Letter)) → ToldSent a x r → ToldFull x r → KeepsLetters (letters_taken m) (letters_taken after)
  post_taken a x r t u = same_part (λ (l : Letters). l.taken) (post_alike a x r t u).2

  pub post_sent : (a : ℕ) (x : Letter) (r : Result ℕ (Full × Letter)) → x.sender ≡ Object a → ToldSent a x r
      → IfOk r (λ k. (k ≡ length (letters_sent m x.sender i)) × GrowsByLetter (letters_sent m x.sender) i (record x { number = k }) (letters_sent after x.sender) × ((b : Sender) → b ≢ x.sender → KeepsLetters (letters_sent m b) (letters_sent after b)))
  post_sent a x (Err y) by t = tt
  post_sent a x (Ok k) by t =
      let y : Letter = record x { number = k } in
      let was : (letters_at m i).sent ≡ e.seen.sent = ap (λ (l : Letters). l.sent) here in
      let now : (letters_at after i).sent ≡ (letters_at m i).sent ++ y ∷ [] = ap (λ (l : Letters). l.sent) here' ∙ ap (λ (z : BoardSide). z.seen.sent) t.1 ∙ ap (λ l. l ++ y ∷ []) (sym was) in
      let grown : (b : Sender) → letters_sent after b i ≡ letters_sent m b i ++ letters_from b (y ∷ []) = λ b. ap (letters_from b) now ∙ from-append b (letters_at m i).sent (y ∷ []) in (
        t.0 ∙ ap (λ b. length (letters_from b e.seen.sent)) (sym by) ∙ ap (λ l. length (letters_from x.sender l)) (sym was),
        (
          grown x.sender ∙ ap (λ l. letters_sent m x.sender i ++ l) (from-one x.sender y (is_same-self x.sender)),
          λ j apart. ap (λ (l : Letters). letters_from x.sender l.sent) (there j apart),
        ),
        λ b other j. ⊎_elim (λ (same : j ≡ i). subst (λ (q : ℕ). letters_sent after b q ≡ letters_sent m b q) (sym same) (grown b ∙ ap (λ l. letters_sent m b i ++ l) (from-none b y (is_same-apart b x.sender other)) ∙ append-nil (letters_sent m b i)))
            (λ apart. ap (λ (l : Letters). letters_from b l.sent) (there j apart))
            (cases_eq j i),
      )

  pub post_full : (x : Letter) (r : Result ℕ (Full × Letter)) → ToldFull x r → IfErr r (λ y. (y.1 ≡ x) × ((b : Sender) → KeepsLetters (letters_sent m b) (letters_sent after b)))
  post_full x (Ok k) t = tt
  post_full x (Err y) t = (t.0, λ b j. ap (letters_from b) (same_part (λ (l : Letters). l.sent) (ap (λ (z : BoardSide). z.seen.sent) t.1) j))

  -- the clauses of a mail
  pub same_lists : e' ≡ e → after ≡ m
  same_lists is = same_at letters_of ends i e e' lt at (ap letters_of is) ∙ shown

  pub take_grows : (r : Option Letter) → ToldTake e e' r → IfSome r (λ x. mails.Grows (requests_taken m) i (request_of x) (requests_taken after))
  take_grows None t = tt
  take_grows (Some x) t = let g = (take_some (Some x) t).0 in (ap requests_in g.0 ∙ more_requests (letters_taken m i) x, λ k apart. ap requests_in (g.1 k apart))

  pub take_fits : (r : Option Letter) → ToldTake e e' r → IfSome r (λ x. letter_fits d i x ≡ true)
  take_fits None t = tt
  take_fits (Some x) t = (take_some (Some x) t).1.1

  pub take_sender : (r : Option Letter) → ToldTake e e' r → IfSome r (λ x. mails.is_sender d x.sender ≡ true)
  take_sender None t = tt
  take_sender (Some x) t = (take_some (Some x) t).1.0

  pub take_number : (r : Option Letter) → ToldTake e e' r → IfSome r (λ x. x.number ≡ length (from_sender x.sender (requests_taken m i)))
  take_number None t = tt
  take_number (Some x) t = (take_some (Some x) t).2 ∙ sym (count_requests x.sender (letters_taken m i))

  pub take_same : (r : Option Letter) → ToldTake e e' r → IfNone r (after ≡ m)
  take_same None t = same_lists t.0
  take_same (Some x) t = tt

  pub take_all : (r : Option Letter) → ToldTake e e' r → IfNone r ((a : Sender) → serves_object d a ≡ true → from_sender a (requests_taken m i) ≡ requests_sent m a i)
  take_all None t = let n = take_none None t in λ a is. from_requests a (letters_taken m i) ∙ ap requests_in (n.1 a is)
  take_all (Some x) t = tt

  pub take_unsent : (r : Option Letter) → ToldTake e e' r → (a : Sender) → mails.Same (requests_sent m a) (requests_sent after a)
  take_unsent r t a k = ap requests_in (take_sent r t a k)

  pub begins_at : ((a : ℕ) → IsPrefix (letters_from (Object a) e.seen.taken) (letters_from (Object a) e.seen.sent)) → (a : Sender) → serves_object d a ≡ true → IsPrefix (from_sender a (requests_taken m i)) (requests_sent m a i)
  begins_at order a is = subst (λ l. IsPrefix l (requests_sent m a i)) (sym (from_requests a (letters_taken m i))) (prefix_requests (letters_from a (letters_taken m i)) (letters_sent m a i) (order_at order a is))

  pub post_number : (a : ℕ) (x : Letter) (r : Result ℕ (Full × Letter)) → x.sender ≡ Object a → ToldSent a x r → IfOk r (λ n. n ≡ length (requests_sent m x.sender i))
  post_number a x (Err y) by t = tt
  post_number a x (Ok k) by t = (post_sent a x (Ok k) by t).0 ∙ sym (length_requests (letters_sent m x.sender i))

  pub post_grows : (a : ℕ) (x : Letter) (r : Result ℕ (Full × Letter)) → x.sender ≡ Object a → ToldSent a x r → IfOk r (λ _. mails.Grows (requests_sent m x.sender) i (request_of x) (requests_sent after x.sender))
  post_grows a x (Err y) by t = tt
  post_grows a x (Ok k) by t = let g = (post_sent a x (Ok k) by t).1 in (ap requests_in g.0 ∙ more_requests (letters_sent m x.sender i) (record x { number = k }), λ j apart. ap requests_in (g.1 j apart))

  pub post_others : (a : ℕ) (x : Letter) (r : Result ℕ (Full × Letter)) → x.sender ≡ Object a → ToldSent a x r → IfOk r (λ _. (b : Sender) → b ≢ x.sender → mails.Same (requests_sent m b) (requests_sent after b))
  post_others a x (Err y) by t = tt
  post_others a x (Ok k) by t = let o = (post_sent a x (Ok k) by t).2 in λ b other j. ap requests_in (o b other j)

  pub post_untaken : (a : ℕ) (x : Letter) (r : Result ℕ (Full × Letter)) → ToldSent a x r → ToldFull x r → mails.Same (requests_taken m) (requests_taken after)
  post_untaken a x r t u k = ap requests_in (post_taken a x r t u k)

  pub post_back : (x : Letter) (r : Result ℕ (Full × Letter)) → ToldFull x r → IfErr r (λ y. y.1 ≡ x)
  post_back x (Ok k) t = tt
  post_back x (Err y) t = t.0

  pub post_same : (x : Letter) (r : Result ℕ (Full × Letter)) → ToldFull x r → OnErr r (after ≡ m)
  post_same x (Ok k) t = tt
  post_same x (Err y) t = same_lists t.1
