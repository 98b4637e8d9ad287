-- The mailboxes of a domain, when one changes.
use Rattle.std.proofs.Common.{◌≡◌, ◌≢◌, ◌<◌, ◌≤◌, ℕ, zero, suc, true, false, List, [], ◌∷◌, ◌++◌, length, get_or, Option, Some, None, IfSome, IfNone, sym, ap, ◌∙◌, subst, arith, ⊎_elim, length-append, append_assoc, refl}
use Rattle.std.specs.Prelude.{slice_set}
use Rattle.std.specs.List.{All}
use Rattle.std.proofs.lemmas.Bool.{cases_eq}
use Rattle.std.proofs.lemmas.List.{length-set, get_or_default, get_or-set_same, get_or-set_other, append-nil}
use Rattle.std.proofs.lemmas.List.Elements.{All-tail, All-append}
use Rattle.sml_domain.specs.Domain.{Domain}
use Rattle.smi_journal_entries.specs.declared.entry.Sender.{Sender}
use Rattle.smi_journal_entries.specs.declared.letter.Letter.{Letter}
use Rattle.smi_journal_entries.specs.Requests.{Request, request_of, from_sender}
use Rattle.smi_journal_entries.specs.Fits.{letter_fits}
use Rattle.smi_mail_plain.specs.Mails.{Grows, Same, is_sender}
use Rattle.smi_mail_plain.specs.Boxes.{BoxView, posted, no_box, box_at, IsMail, IsBox, AreBoxes}
use Rattle.smi_mail_plain.proofs.Senders.{same-self, same-apart, from-append, from-one, from-none}

all_one : {X : Type 0} (P : X → Type 0) (x : X) → P x → All P (x ∷ [])
all_one P x p zero e lt = p
all_one P x p (suc k) e lt = absurd (omega arith)

-- what holds of all holds of all with one more
pub all_more : {X : Type 0} (P : X → Type 0) (xs ys : List X) (x : X) → ys ≡ xs ++ x ∷ [] → All P xs → P x → All P ys
all_more P xs ys x is h p = subst (All P) (sym is) (All-append P xs (x ∷ []) h (all_one P x p))

-- the mailbox that was reached is that of the object
pub here : (boxes : List BoxView) (i : ℕ) (b : BoxView) → i < length boxes → b ≡ get_or boxes i b → box_at boxes i ≡ b
here boxes i b lt at = get_or_default boxes i no_box b lt ∙ sym at

-- what a take tells of a mailbox
pub record TellsTake (b b2 : BoxView) (result : Option Letter) : Type 0 where
  pub none : IfNone result ((b.waiting ≡ []) × (b2 ≡ b))
  pub first : IfSome result (λ l. b.waiting ≡ request_of l ∷ b2.waiting)
  pub some : IfSome result (λ l. b2 ≡ record b { taken = b.taken ++ request_of l ∷ []; waiting = b2.waiting })

take_box : (d : Domain) (n o : ℕ) (b b2 : BoxView) (result : Option Letter) → TellsTake b b2 result → IsBox d n o b → IsBox d n o b2
take_box d n o b b2 None t h = subst (IsBox d n o) (sym t.none.1) h
take_box d n o b b2 (Some l) t h = record {
  mail = All-tail (IsMail d o) (request_of l) b2.waiting (subst (All (IsMail d o)) t.first h.mail);
  few = omega (arith, h.few, ap length t.first);
  senders = ap (λ (x : BoxView). x.objects) t.some ∙ h.senders;
}

module _ (d : Domain) (n : ℕ) (boxes : List BoxView) (i : ℕ) (b b2 : BoxView) (h : AreBoxes d n boxes) (lt : i < length boxes) (at : b ≡ get_or boxes i b) where
  pub is_box : IsBox d n i b
  is_box = subst (λ (x : BoxView). IsBox d n i x) (here boxes i b lt at) (h.each i lt)

  now : box_at (slice_set boxes i b2) i ≡ b2
  now = get_or-set_same boxes i b2 no_box lt

  there : (k : ℕ) → k ≢ i → box_at (slice_set boxes i b2) k ≡ box_at boxes k
  there k apart = get_or-set_other boxes i k b2 no_box apart

  boxes_set : IsBox d n i b2 → AreBoxes d n (slice_set boxes i b2)
  boxes_set k = record {
    count = length-set boxes i b2 ∙ h.count;
    each = λ o le. ⊎_elim
        (λ (e : o ≡ i). subst (λ (x : ℕ). IsBox d n x (box_at (slice_set boxes i b2) x)) (sym e) (subst (λ (x : BoxView). IsBox d n i x) (sym now) k))
        (λ apart. subst (λ (x : BoxView). IsBox d n o x) (sym (there o apart)) (h.each o (omega (arith, le, length-set boxes i b2))))
        (cases_eq o i);
  }

  pub take_boxes : (result : Option Letter) → TellsTake b b2 result → AreBoxes d n (slice_set boxes i b2)
  take_boxes result t = boxes_set (take_box d n i b b2 result t is_box)

  -- what was taken is mail for the object
  pub take_mail : (result : Option Letter) → TellsTake b b2 result → IfSome result (λ l. IsMail d i (request_of l))
  take_mail None t = tt
  take_mail (Some l) t = (subst (All (IsMail d i)) t.first is_box.mail) 0 (request_of l) (omega arith)

  module _ (r : Request) (is : b2 ≡ record b { waiting = b.waiting ++ r ∷ []; ready = false }) where
    pub post_boxes : IsMail d i r → length b.waiting < n → AreBoxes d n (slice_set boxes i b2)
    post_boxes mail few = boxes_set (subst (IsBox d n i) (sym is) (record {
      mail = all_more (IsMail d i) b.waiting (b.waiting ++ r ∷ []) r refl is_box.mail mail;
      few = omega (arith, few, length-append b.waiting (r ∷ []));
      senders = is_box.senders;
    }))

    -- what was posted, with one request more
    posted_more : posted b2 ≡ posted b ++ r ∷ []
    posted_more = ap posted is ∙ sym (append_assoc b.taken b.waiting (r ∷ []))

    from_more : (s : Sender) → from_sender s (posted (box_at (slice_set boxes i b2) i)) ≡ from_sender s (posted (box_at boxes i)) ++ from_sender s (r ∷ [])
    from_more s =
        ap (λ (x : BoxView). from_sender s (posted x)) now ∙ ap (from_sender s) posted_more ∙ from-append s (posted b) (r ∷ [])
        ∙ ap (λ (x : BoxView). from_sender s (posted x) ++ from_sender s (r ∷ [])) (sym (here boxes i b lt at))

    pub post_grows : Grows (λ o. from_sender r.sender (posted (box_at boxes o))) i r (λ o. from_sender r.sender (posted (box_at (slice_set boxes i b2) o)))
    post_grows = (
      from_more r.sender ∙ ap (λ xs. from_sender r.sender (posted (box_at boxes i)) ++ xs) (from-one r.sender r (same-self r.sender)),
      λ k apart. ap (λ (x : BoxView). from_sender r.sender (posted x)) (there k apart),
    )

    pub post_others : (s : Sender) → s ≢ r.sender → Same (λ o. from_sender s (posted (box_at boxes o))) (λ o. from_sender s (posted (box_at (slice_set boxes i b2) o)))
    post_others s other k = ⊎_elim
        (λ (e : k ≡ i). subst (λ (j : ℕ). from_sender s (posted (box_at (slice_set boxes i b2) j)) ≡ from_sender s (posted (box_at boxes j))) (sym e)
        (from_more s ∙ ap (λ xs. from_sender s (posted (box_at boxes i)) ++ xs) (from-none s r (same-apart s r.sender other)) ∙ append-nil (from_sender s (posted (box_at boxes i)))))
        (λ apart. ap (λ (x : BoxView). from_sender s (posted x)) (there k apart))
        (cases_eq k i)

-- mail fits its object, and its sender is one of the domain
pub some_fits : (d : Domain) (i o : ℕ) (result : Option Letter) → i ≡ o → IfSome result (λ l. IsMail d i (request_of l)) → IfSome result (λ l. letter_fits d o l ≡ true)
some_fits d i o None is h = tt
some_fits d i o (Some l) is h = subst (λ x. letter_fits d x l ≡ true) is h.1

pub some_sender : (d : Domain) (i : ℕ) (result : Option Letter) → IfSome result (λ l. IsMail d i (request_of l)) → IfSome result (λ l. is_sender d l.sender ≡ true)
some_sender d i None h = tt
some_sender d i (Some l) h = h.0

-- no more wait at an object than may, and at what is no object none
few_there : (n : ℕ) (boxes : List BoxView) (o : ℕ) → ((k : ℕ) → k < length boxes → length (box_at boxes k).waiting ≤ n) → length (box_at boxes o).waiting ≤ n
few_there n [] o h = omega arith
few_there n (b ∷ boxes) zero h = h zero (omega arith)
few_there n (b ∷ boxes) (suc o) h = few_there n boxes o (λ k lt. h (suc k) (omega (arith, lt)))

pub few_wait : (d : Domain) (n : ℕ) (boxes : List BoxView) (o : ℕ) → AreBoxes d n boxes → length (box_at boxes o).waiting ≤ n
few_wait d n boxes o h = few_there n boxes o (λ k lt. (h.each k lt).few)
