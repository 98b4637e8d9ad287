-- Requests of a sender.
use Rattle.std.proofs.Common.{◌≡◌, ◌≢◌, ◌≤◌, Bool, true, false, cond, List, [], ◌∷◌, ◌++◌, length, refl, sym, ap, ⊎_elim, arith}
use Rattle.std.proofs.lemmas.Bool.{true≢false, eqb-true, eq-eqb, cases_Bool}
use Rattle.std.proofs.lemmas.List.Elements.{filter-append}
use Rattle.std.proofs.lemmas.List.Sums.{count_by-le-length, length-filter}
use Rattle.smi_journal_entries.specs.declared.entry.Sender.{Sender}
use Rattle.smi_journal_entries.specs.declared.entry.Sender.TheVariants.{Operator, Object}
use Rattle.smi_journal_entries.specs.Requests.{Request, same_sender, from_sender}
use Rattle.smi_mail_plain.specs.Counts.{one_where}

pub same-self : (s : Sender) → same_sender s s ≡ true
same-self (Operator a) = eq-eqb a a refl
same-self (Object a) = eq-eqb a a refl

pub same-true : (s t : Sender) → same_sender s t ≡ true → s ≡ t
same-true (Operator a) (Operator b) e = ap Operator (eqb-true a b e)
same-true (Operator a) (Object b) e = absurd (true≢false (sym e))
same-true (Object a) (Operator b) e = absurd (true≢false (sym e))
same-true (Object a) (Object b) e = ap Object (eqb-true a b e)

pub same-apart : (s t : Sender) → s ≢ t → same_sender s t ≡ false
same-apart s t n = ⊎_elim (λ e. absurd (n (same-true s t e))) (λ e. e) (cases_Bool (same_sender s t))

pub from-append : (s : Sender) (xs ys : List Request) → from_sender s (xs ++ ys) ≡ from_sender s xs ++ from_sender s ys
from-append s xs ys = filter-append (λ (r : Request). same_sender s r.sender) xs ys

pub from-one : (s : Sender) (r : Request) → same_sender s r.sender ≡ true → from_sender s (r ∷ []) ≡ r ∷ []
from-one s r e = ap (λ b. cond b (r ∷ []) []) e

pub from-none : (s : Sender) (r : Request) → same_sender s r.sender ≡ false → from_sender s (r ∷ []) ≡ []
from-none s r e = ap (λ b. cond b (r ∷ []) []) e

length-cond : (b : Bool) (r : Request) → length (cond b (r ∷ []) []) ≡ one_where b
length-cond true r = refl
length-cond false r = refl

-- how many of one request are of a sender
pub length-one : (s : Sender) (r : Request) → length (from_sender s (r ∷ [])) ≡ one_where (same_sender s r.sender)
length-one s r = length-cond (same_sender s r.sender) r

-- those of a sender are no more than all
pub from-few : (s : Sender) (xs : List Request) → length (from_sender s xs) ≤ length xs
from-few s xs = omega (arith, length-filter (λ (r : Request). same_sender s r.sender) xs, count_by-le-length (λ (r : Request). same_sender s r.sender) xs)
