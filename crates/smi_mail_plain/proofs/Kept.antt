-- The books of a mailbox are kept by a post.
use Rattle.std.proofs.Common.{◌≡◌, ◌<◌, ◌+◌, ℕ, List, [], ◌∷◌, ◌++◌, length, map, sym, ap, ◌∙◌, subst, arith, length-append, append_assoc}
use Rattle.std.proofs.lemmas.List.{append-nil, map-append}
use Rattle.smi_journal_entries.specs.declared.entry.Sender.{Sender}
use Rattle.smi_journal_entries.specs.declared.letter.Letter.{Letter}
use Rattle.smi_journal_entries.specs.Requests.{Request, request_of, same_sender, from_sender}
use Rattle.smi_mail_plain.specs.Counts.{CountsView, count_of, most_count, one_where}
use Rattle.smi_mail_plain.specs.Numbers.{AreNumbered}
use Rattle.smi_mail_plain.specs.Boxes.{BoxIsKept}
use Rattle.smi_mail_plain.proofs.Senders.{from-append, length-one, from-few}

-- no count is above that of all
pub kept_few : (counts : CountsView) (all : ℕ) (taken : List Request) (waiting : List Letter) (s : Sender) → BoxIsKept counts all taken waiting → all < most_count → count_of counts s < most_count
kept_few counts all taken waiting s h lt = omega (arith, h.counted s, h.total, from-few s (taken ++ map request_of waiting))

-- one letter more, under the count of its sender's
numbered_more : (before : List Request) (waiting : List Letter) (l : Letter) → AreNumbered before waiting → l.number ≡ length (from_sender l.sender (before ++ map request_of waiting)) → AreNumbered before (waiting ++ l ∷ [])
numbered_more before [] l h n = (n ∙ ap (λ xs. length (from_sender l.sender xs)) (append-nil before), tt)
numbered_more before (w ∷ more) l h n = (h.0, numbered_more (before ++ request_of w ∷ []) more l h.1 (n ∙ ap (λ xs. length (from_sender l.sender xs)) (sym (append_assoc before (request_of w ∷ []) (map request_of more)))))

-- what was posted, with one letter more
all_more : (taken : List Request) (waiting : List Letter) (l : Letter) → taken ++ map request_of (waiting ++ l ∷ []) ≡ (taken ++ map request_of waiting) ++ request_of l ∷ []
all_more taken waiting l = ap (λ xs. taken ++ xs) (map-append request_of waiting (l ∷ [])) ∙ sym (append_assoc taken (map request_of waiting) (request_of l ∷ []))

pub kept_more : (counts counts2 : CountsView) (all : ℕ) (taken : List Request) (waiting waiting2 : List Letter) (l : Letter) → BoxIsKept counts all taken waiting → waiting2 ≡ waiting ++ l ∷ [] → l.number ≡ count_of counts l.sender
    → ((s : Sender) → count_of counts2 s ≡ count_of counts s + one_where (same_sender s l.sender)) → BoxIsKept counts2 (all + 1) taken waiting2
kept_more counts counts2 all taken waiting waiting2 l h is number more = subst (λ ws. BoxIsKept counts2 (all + 1) taken ws) (sym is) (record {
  counted = λ s.
      let grown : from_sender s (taken ++ map request_of (waiting ++ l ∷ [])) ≡ from_sender s (taken ++ map request_of waiting) ++ from_sender s (request_of l ∷ []) =
      ap (from_sender s) (all_more taken waiting l) ∙ from-append s (taken ++ map request_of waiting) (request_of l ∷ []) in
      omega (arith, more s, h.counted s, ap length grown, length-append (from_sender s (taken ++ map request_of waiting)) (from_sender s (request_of l ∷ [])), length-one s (request_of l));
  total = omega (arith, h.total, ap length (all_more taken waiting l), length-append (taken ++ map request_of waiting) (request_of l ∷ []));
  numbered = numbered_more taken waiting l h.numbered (number ∙ h.counted l.sender);
})
