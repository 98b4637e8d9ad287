-- A session's ends of all mailboxes, when one changes.
use Rattle.std.proofs.Common.{◌≡◌, ◌<◌, ◌++◌, ℕ, List, [], ◌∷◌, length, map, set, get_or, Result, Ok, Err, IfOk, IfErr, refl, sym, ap, ◌∙◌, subst, length-set}
use Rattle.std.proofs.lemmas.List.{map-set, get_or-map}
use Rattle.std.proofs.lemmas.List.Elements.{All-set}
use Rattle.atomic_table.specs.Seated.{TableId}
use Rattle.smi_journal_entries.specs.declared.letter.Letter.{Letter}
use Rattle.sml_domain.specs.Domain.{Domain}
use Rattle.smi_mail.specs.Rule.{add_own}
use Rattle.smi_mail.specs.Sides.{SessionSide}
use Rattle.smi_mail.specs.Mails.{AreSessions, OperatorSide, operator_side, session_sent, with_sent}
use Rattle.smi_mail_plain.specs.declared.mail.Full.{Full}
use Rattle.smi_mail.proofs.Boards.{same_at}

abbrev Of : ℕ → ℕ → SessionSide → Type 0
Of n k e = (e.seen.capacity ≡ n) × (e.seen.session ≡ k)

module _ (d : Domain) (n k : ℕ) (mailboxes : List TableId) (ends : List SessionSide) (m : OperatorSide) (i : ℕ) (e e' : SessionSide) (x : Letter) (h : AreSessions d n k mailboxes ends) (shown : operator_side k ends ≡ m) (lt : i < length ends) (at : e ≡ get_or ends i e) where
  abbrev pub Posted : Result ℕ (Full × Letter) → Type 0
  Posted r = IfOk r (λ j. (j ≡ length e.seen.sent) × (e' ≡ record e { seen = add_own e.seen (record x { number = j }) }))

  abbrev pub Refused : Result ℕ (Full × Letter) → Type 0
  Refused r = IfErr r (λ y. (y.1 ≡ x) × (e' ≡ e))

  alike : (r : Result ℕ (Full × Letter)) → Posted r → Refused r → (e'.mailbox ≡ e.mailbox) × (e'.seen.kind ≡ e.seen.kind) × (Of n k e → Of n k e')
  alike (Ok j) t u = rw t.1 (refl, refl, λ o. o)
  alike (Err y) t u = rw u.1 (refl, refl, λ o. o)

  pub operator_ends : (r : Result ℕ (Full × Letter)) → Posted r → Refused r → AreSessions d n k mailboxes (set ends i e')
  operator_ends r t u = let a = alike r t u in record {
    named = same_at (λ (y : SessionSide). y.mailbox) ends i e e' lt at a.0 ∙ h.named;
    kinds = same_at (λ (y : SessionSide). y.seen.kind) ends i e e' lt at a.1 ∙ h.kinds;
    wide = length-set ends i e' ∙ h.wide;
    each = All-set (Of n k) ends i e' (a.2 (subst (Of n k) (sym at) (h.each i e lt))) h.each;
  }

  pub operator_posted : (r : Result ℕ (Full × Letter)) → Posted r → IfOk r (λ j. (j ≡ length (session_sent m i)) × (operator_side k (set ends i e') ≡ with_sent m i (record x { number = j })))
  operator_posted (Err y) t = tt
  operator_posted (Ok j) t =
      let own : SessionSide → List Letter = λ y. y.seen.sent in
      let was : session_sent m i ≡ e.seen.sent = ap (λ (o : OperatorSide). session_sent o i) (sym shown) ∙ get_or-map own ends i e [] lt ∙ ap own (sym at) in
      let new : own e' ≡ session_sent m i ++ record x { number = j } ∷ [] = ap own t.1 ∙ ap (λ l. l ++ record x { number = j } ∷ []) (sym was) in (
        t.0 ∙ ap length (sym was),
        ap (λ l. record { session = k; sent = l }) (map-set own ends i e' ∙ ap (set (map own ends) i) new) ∙ ap (λ (o : OperatorSide). record o { sent = set o.sent i (session_sent m i ++ record x { number = j } ∷ []) }) shown,
      )
