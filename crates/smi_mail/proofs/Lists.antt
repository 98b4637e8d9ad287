-- Lists of envelopes, by sender.
use Rattle.std.proofs.Common.{◌≡◌, ◌≢◌, ◌⊎◌, ℕ, zero, suc, List, [], ◌∷◌, ◌++◌, length, set, Some, Bool, true, false, cond, refl, sym, ap, ◌∙◌, subst, inl, inr, ⊎_elim, append_assoc}
use Rattle.std.specs.Prelude.{slice_get}
use Rattle.std.proofs.lemmas.List.{append-nil}
use Rattle.std.proofs.lemmas.List.Elements.{filter-append}
use Rattle.std.proofs.lemmas.Bool.{true≢false, eqb-true, eq-eqb, ne_eqb, cases_Bool}
use mathlib.Core.Option.{some, some-ne-none, some-injective}
use lib.ListN.{get_elem?}
use Rattle.crossbeam_queue.proofs.Lists.{at_set}
use Rattle.smi_journal_entries.specs.declared.entry.Sender.{Sender}
use Rattle.smi_journal_entries.specs.declared.entry.Sender.TheVariants.{Operator, Object}
use Rattle.smi_journal_entries.specs.declared.letter.Letter.{Letter}
use Rattle.smi_journal_entries.specs.Requests.{Request, request_of, from_sender}
use Rattle.std.proofs.lemmas.List.{length-map, map-append}
use mathlib.Core.List.{IsPrefix}
use Rattle.smi_mail.specs.Letters.{is_same, letters_from, requests_in, IsNumbered}

pub at_end : {A : Type 0} (l : List A) (a b : A) (j : ℕ) → get_elem? l j ≢ some b → get_elem? (l ++ a ∷ []) j ≡ some b → j ≡ length l
at_end [] a b zero n e = refl
at_end [] a b (suc j) n e = absurd (some-ne-none b (sym e))
at_end (x ∷ xs) a b zero n e = absurd (n e)
at_end (x ∷ xs) a b (suc j) n e = ap suc (at_end xs a b j n e)

abbrev pub Each : {A : Type 0} → (ℕ → A → Type 0) → List A → Type 0
Each {A} F views = (port : ℕ) (v : A) → get_elem? views port ≡ some v → F port v

pub each_set : {A : Type 0} (F : ℕ → A → Type 0) (views : List A) (port : ℕ) (w : A) → F port w → ((j : ℕ) (u : A) → j ≢ port → get_elem? views j ≡ some u → F j u) → Each F (set views port w)
each_set {A} F views port w mine others j u e = ⊎_elim (λ (x : (j ≡ port) × (w ≡ u)). subst (λ (y : ℕ × A). F y.0 y.1) (λ i. (sym x.0 i, x.1 i)) mine)
    (λ (x : (j ≢ port) × (get_elem? views j ≡ some u)). others j u x.0 x.1) (at_set views port j w u e)

-- the place of an element of a list with one more
pub slice_get-snoc : {A : Type 0} (xs : List A) (x y : A) (k : ℕ) → slice_get (xs ++ x ∷ []) k ≡ Some y → (slice_get xs k ≡ Some y) ⊎ ((k ≡ length xs) × (x ≡ y))
slice_get-snoc [] x y zero e = inr (refl, cc)
slice_get-snoc [] x y (suc k) e = absurd cc
slice_get-snoc (z ∷ xs) x y zero e = inl e
slice_get-snoc (z ∷ xs) x y (suc k) e = ⊎_elim (λ t. inl t) (λ t. inr (ap suc t.0, t.1)) (slice_get-snoc xs x y k e)

pub slice_get-at : {A : Type 0} (xs ys : List A) (x : A) → slice_get (xs ++ x ∷ ys) (length xs) ≡ Some x
slice_get-at [] ys x = refl
slice_get-at (z ∷ xs) ys x = slice_get-at xs ys x

pub is_same-self : (s : Sender) → is_same s s ≡ true
is_same-self (Operator a) = eq-eqb a a refl
is_same-self (Object a) = eq-eqb a a refl

pub from-append : (s : Sender) (xs ys : List Letter) → letters_from s (xs ++ ys) ≡ letters_from s xs ++ letters_from s ys
from-append s xs ys = filter-append (λ (e : Letter). is_same s e.sender) xs ys

pub from-one : (s : Sender) (x : Letter) → is_same s x.sender ≡ true → letters_from s (x ∷ []) ≡ x ∷ []
from-one s x e = ap (λ b. cond b (x ∷ []) []) e

pub from-none : (s : Sender) (x : Letter) → is_same s x.sender ≡ false → letters_from s (x ∷ []) ≡ []
from-none s x e = ap (λ b. cond b (x ∷ []) []) e

-- one more at the back of the queue
pub balanced-more : (s : Sender) (taken items : List Letter) (x : Letter) → letters_from s (taken ++ (items ++ x ∷ [])) ≡ letters_from s (taken ++ items) ++ letters_from s (x ∷ [])
balanced-more s taken items x = ap (letters_from s) (sym (append_assoc taken items (x ∷ []))) ∙ from-append s (taken ++ items) (x ∷ [])

pub numbered-more : (s : Sender) (xs : List Letter) (x : Letter) → IsNumbered xs → (is_same s x.sender ≡ true → x.number ≡ length xs) → IsNumbered (xs ++ letters_from s (x ∷ []))
numbered-more s xs x h n = ⊎_elim (λ e. subst (λ ys. IsNumbered (xs ++ ys)) (sym (from-one s x e)) (at_place (n e))) (λ e. subst (λ ys. IsNumbered (xs ++ ys)) (sym (from-none s x e)) (subst IsNumbered (sym (append-nil xs)) h)) (cases_Bool (is_same s x.sender))
  where
    at_place : x.number ≡ length xs → IsNumbered (xs ++ x ∷ [])
    at_place m k e g = ⊎_elim (λ t. h k e t) (λ (t : (k ≡ length xs) × (x ≡ e)). sym (ap (λ (y : Letter). y.number) t.1) ∙ m ∙ sym t.0) (slice_get-snoc xs x e k g)

pub is_same-true : (s t : Sender) → is_same s t ≡ true → s ≡ t
is_same-true (Operator a) (Operator b) e = ap Operator (eqb-true a b e)
is_same-true (Operator a) (Object b) e = absurd (true≢false (sym e))
is_same-true (Object a) (Operator b) e = absurd (true≢false (sym e))
is_same-true (Object a) (Object b) e = ap Object (eqb-true a b e)

pub is_same-operators : (a b : ℕ) → a ≢ b → is_same (Operator a) (Operator b) ≡ false
is_same-operators a b n = ne_eqb a b n

at_snoc-place : {A : Type 0} (l : List A) (a b : A) (j : ℕ) → get_elem? (l ++ a ∷ []) j ≡ some b → (get_elem? l j ≡ some b) ⊎ ((j ≡ length l) × (a ≡ b))
at_snoc-place [] a b zero e = inr (refl, some-injective a b e)
at_snoc-place [] a b (suc j) e = absurd (some-ne-none b (sym e))
at_snoc-place (x ∷ xs) a b zero e = inl e
at_snoc-place (x ∷ xs) a b (suc j) e = ⊎_elim (λ t. inl t) (λ t. inr (ap suc t.0, t.1)) (at_snoc-place xs a b j e)

pub each_snoc : {A : Type 0} (F : ℕ → A → Type 0) (views : List A) (w : A) → Each F views → F (length views) w → Each F (views ++ w ∷ [])
each_snoc {A} F views w old new j u e = ⊎_elim (λ t. old j u t) (λ (t : (j ≡ length views) × (w ≡ u)). subst (λ (y : ℕ × A). F y.0 y.1) (λ i. (sym t.0 i, t.1 i)) new) (at_snoc-place views w u j e)

pub is_same-objects : (a b : ℕ) → a ≢ b → is_same (Object a) (Object b) ≡ false
is_same-objects a b n = ne_eqb a b n

pub is_same-apart : (s t : Sender) → s ≢ t → is_same s t ≡ false
is_same-apart s t n = ⊎_elim (λ e. absurd (n (is_same-true s t e))) (λ e. e) (cases_Bool (is_same s t))

-- the requests of a sender's letters
from_requests_by : (b : Bool) (l : Letter) (rs : List Request) (ls : List Letter) → rs ≡ requests_in ls → cond b (request_of l ∷ rs) rs ≡ requests_in (cond b (l ∷ ls) ls)
from_requests_by true l rs ls e = ap (λ t. request_of l ∷ t) e
from_requests_by false l rs ls e = e

pub from_requests : (s : Sender) (ls : List Letter) → from_sender s (requests_in ls) ≡ requests_in (letters_from s ls)
from_requests s [] = refl
from_requests s (l ∷ ls) = from_requests_by (is_same s l.sender) l (from_sender s (requests_in ls)) (letters_from s ls) (from_requests s ls)

pub length_requests : (ls : List Letter) → length (requests_in ls) ≡ length ls
length_requests ls = length-map ls request_of

pub count_requests : (s : Sender) (ls : List Letter) → length (from_sender s (requests_in ls)) ≡ length (letters_from s ls)
count_requests s ls = ap length (from_requests s ls) ∙ length_requests (letters_from s ls)

pub more_requests : (ls : List Letter) (x : Letter) → requests_in (ls ++ x ∷ []) ≡ requests_in ls ++ request_of x ∷ []
more_requests ls x = map-append request_of ls (x ∷ [])

pub prefix_requests : (xs ys : List Letter) → IsPrefix xs ys → IsPrefix (requests_in xs) (requests_in ys)
prefix_requests xs ys p = (requests_in p.0, sym (map-append request_of xs p.0) ∙ ap requests_in p.1)
