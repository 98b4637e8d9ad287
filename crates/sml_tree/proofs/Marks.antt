-- Marks against tokens, and the limits that set them.
use Rattle.std.proofs.Common.{◌≡◌, ℕ, ◌+◌, ◌<◌, ◌≤◌, nat_lt, Bool, true, false, if◌then◌else◌, List, [], ◌∷◌, ◌++◌, refl, ap, ◌∙◌, ltb-true, lt-ltb, arith}
use Rattle.std.specs.List.{AllByRecursion}
use Rattle.sml_tree.specs.Piece.{Piece}
use Rattle.sml_tree.specs.Form.{Mark, Fine, Deep, Many}
use Rattle.sml_tree.specs.Grammar.{most}
use Rattle.sml_tree.specs.Derive.{Marked, marked, fine, plain}
use Rattle.sml_tree.specs.Laws.{IsNotTooDeep}

-- one thing and the others
infixr 5 ◌⨾◌
abbrev pub ◌⨾◌ : {A C : Type 0} → A → C → A × C
a ⨾ c = (a, c)

-- ---- each of two lists, and of the one behind the other
pub all_append : {A : Type 0} (Q : A → Type 0) (xs ys : List A) → AllByRecursion Q xs → AllByRecursion Q ys → AllByRecursion Q (xs ++ ys)
all_append Q [] ys h k = k
all_append Q (x ∷ xs) ys h k = (h.0, all_append Q xs ys h.1 k)

pub all_front : {A : Type 0} (Q : A → Type 0) (xs ys : List A) → AllByRecursion Q (xs ++ ys) → AllByRecursion Q xs
all_front Q [] ys h = tt
all_front Q (x ∷ xs) ys h = (h.0, all_front Q xs ys h.1)

pub all_back : {A : Type 0} (Q : A → Type 0) (xs ys : List A) → AllByRecursion Q (xs ++ ys) → AllByRecursion Q ys
all_back Q [] ys h = h
all_back Q (x ∷ xs) ys h = all_back Q xs ys h.1

-- ---- marks of a list
abbrev pub AllMarks : (Mark → Type 0) → List Marked → Type 0
AllMarks Q ms = AllByRecursion (λ m. Q m.mark) ms

abbrev pub IsFine : Mark → Type 0
IsFine m = m ≡ Fine

abbrev pub AnyMark : Mark → Type 0
AnyMark m = Unit {0}

pub any_marks : (ms : List Marked) → AllMarks AnyMark ms
any_marks [] = tt
any_marks (m ∷ ms) = (tt, any_marks ms)

pub fine_marks : (ts : List Piece) → AllMarks IsFine (fine ts)
fine_marks [] = tt
fine_marks (t ∷ ts) = (refl, fine_marks ts)

pub unmarked : (ms : List Marked) → AllMarks IsFine ms → ms ≡ fine (plain ms)
unmarked [] h = refl
unmarked (m ∷ ms) h = ap (λ k. marked k m.token ∷ ms) h.0 ∙ ap (λ l. marked Fine m.token ∷ l) (unmarked ms h.1)

pub plain_fine : (ts : List Piece) → plain (fine ts) ≡ ts
plain_fine [] = refl
plain_fine (t ∷ ts) = ap (λ l. t ∷ l) (plain_fine ts)

fine_deep : Fine ≡ Deep → ⊥
fine_deep e = absurd (cc e)

pub fine_not_deep : (ts : List Piece) → AllByRecursion IsNotTooDeep (fine ts)
fine_not_deep [] = tt
fine_not_deep (t ∷ ts) = (λ e k. fine_deep e, fine_not_deep ts)

-- ---- marks of limits
below : (limit count : ℕ) (mark : Mark) → (mark ≡ Fine → ⊥) → IsFine (most limit count mark) → count + 1 ≤ limit
below limit count mark other h = go (nat_lt count limit) refl h
  where
    go : (b : Bool) → nat_lt count limit ≡ b → IsFine (if b then Fine else mark) → count + 1 ≤ limit
    go true e i = let h' = ltb-true count limit e in omega (arith, h')
    go false e i = absurd (other i)

pub below_deep : (limit count : ℕ) → IsFine (most limit count Deep) → count + 1 ≤ limit
below_deep limit count h = below limit count Deep (λ e. absurd (cc e)) h

pub below_many : (limit count : ℕ) → IsFine (most limit count Many) → count + 1 ≤ limit
below_many limit count h = below limit count Many (λ e. absurd (cc e)) h

pub not_reached : (limit count : ℕ) (mark : Mark) → count + 1 ≤ limit → IsFine (most limit count mark)
not_reached limit count mark h = let h' : count < limit = omega (arith, h) in rw (lt-ltb count limit h') refl

pub not_deep : (limit count : ℕ) → (most limit count Deep ≡ Deep → ⊥) → IsFine (most limit count Deep)
not_deep limit count h = go (nat_lt count limit) h
  where
    go : (b : Bool) → ((if b then Fine else Deep) ≡ Deep → ⊥) → IsFine (if b then Fine else Deep)
    go true h' = refl
    go false h' = absurd (h' refl)
