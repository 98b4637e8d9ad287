-- The first rule that is broken, and the first line that breaks one.
use Rattle.std.proofs.Common.{◌≡◌, ◌∙◌, sym, ap, refl, subst, inl, inr, ℕ, ◌+◌, List, [], ◌∷◌, ◌++◌, length, append_assoc, append-nil}
use Rattle.sml_domain.specs.Domain.{Domain}
use Rattle.smi_journal_entries.specs.declared.entry.Entry.{Entry}
use Rattle.smi_journal_entries.specs.declared.journal.Format.{Format}
use Rattle.smi_meaning.specs.Legal.{IsLegalAt, IsLegal}
use Rattle.smi_meaning.proofs.Journals.{legal_more, legal_front}
use Rattle.smi_audit_rules.specs.declared.rule.Rule.{Rule}
use Rattle.smi_audit_rules.specs.Rules.{rules_of, Keeps, KeepsAll, BreaksFirst, Breaks}
use Rattle.smi_audit_rules.specs.Judged.{IsBrokenAt}
use Rattle.smi_audit_rules.proofs.Kept.{keeps_in, keeps_out}

-- ---- rules

breaks_out : (format : Format) (d : Domain) (J : List Entry) (e : Entry) (rs : List Rule) (x : Rule) → BreaksFirst format d J e rs x → KeepsAll format d J e rs → ⊥
breaks_out format d J e [] x b k = b
breaks_out format d J e (r ∷ rs) x (inl b) k = b.1 k.0
breaks_out format d J e (r ∷ rs) x (inr b) k = breaks_out format d J e rs x b.1 k.1

-- an entry that breaks a rule may not follow
pub broken_is_illegal : (format : Format) (d : Domain) (J : List Entry) (e : Entry) (x : Rule) → Breaks format d J e x → IsLegalAt format d J e → ⊥
broken_is_illegal format d J e x b h = breaks_out format d J e (rules_of format e) x b (keeps_in format d J e h)

one_of : (format : Format) (d : Domain) (J : List Entry) (e : Entry) (rs : List Rule) (x y : Rule) → BreaksFirst format d J e rs x → BreaksFirst format d J e rs y → x ≡ y
one_of format d J e [] x y b c = absurd b
one_of format d J e (r ∷ rs) x y (inl b) (inl c) = b.0 ∙ sym c.0
one_of format d J e (r ∷ rs) x y (inl b) (inr c) = absurd (b.1 c.0)
one_of format d J e (r ∷ rs) x y (inr b) (inl c) = absurd (c.1 b.0)
one_of format d J e (r ∷ rs) x y (inr b) (inr c) = one_of format d J e rs x y b.1 c.1

-- it breaks one rule first
pub one_is_first : (format : Format) (d : Domain) (J : List Entry) (e : Entry) (x y : Rule) → Breaks format d J e x → Breaks format d J e y → x ≡ y
one_is_first format d J e x y b c = one_of format d J e (rules_of format e) x y b c

some_of : (format : Format) (d : Domain) (J : List Entry) (e : Entry) (rs : List Rule) → (KeepsAll format d J e rs → ⊥) → ((x : Rule) → BreaksFirst format d J e rs x → ⊥) → ⊥
some_of format d J e [] f g = f tt
some_of format d J e (r ∷ rs) f g =
    let no : Keeps format d J e r → ⊥ = λ k. some_of format d J e rs (λ ks. f (k, ks)) (λ x b. g x (inr (k, b))) in
    g r (inl (refl, no))

-- where it may not follow, it is not so that it breaks none
pub kept_or_broken : (format : Format) (d : Domain) (J : List Entry) (e : Entry) → (IsLegalAt format d J e → ⊥) → ((x : Rule) → Breaks format d J e x → ⊥) → ⊥
kept_or_broken format d J e f g = some_of format d J e (rules_of format e) (λ ks. f (keeps_out format d J e ks)) g

-- ---- lines

-- of two splits of one list one is the other, or continues behind the entry of the other
data Splits (p : List Entry) (e : Entry) (q : List Entry) (f : Entry) : Type 0 where
  same : p ≡ q → e ≡ f → Splits p e q f
  first : (more : List Entry) → q ≡ p ++ e ∷ more → Splits p e q f
  second : (more : List Entry) → p ≡ q ++ f ∷ more → Splits p e q f

split_more : (x : Entry) (p : List Entry) (e : Entry) (q : List Entry) (f : Entry) → Splits p e q f → Splits (x ∷ p) e (x ∷ q) f
split_more x p e q f (same h g) = same (ap (λ l. x ∷ l) h) g
split_more x p e q f (first more h) = first more (ap (λ l. x ∷ l) h)
split_more x p e q f (second more h) = second more (ap (λ l. x ∷ l) h)

same_first : (x y : Entry) (p q : List Entry) → x ∷ p ≡ y ∷ q → x ≡ y
same_first x y p q h = cc

same_rest : (x y : Entry) (p q : List Entry) → x ∷ p ≡ y ∷ q → p ≡ q
same_rest x y p q h = cc

splits : (p : List Entry) (e : Entry) (a : List Entry) (q : List Entry) (f : Entry) (b : List Entry) → p ++ e ∷ a ≡ q ++ f ∷ b → Splits p e q f
splits [] e a [] f b h = same refl (same_first e f a b h)
splits [] e a (y ∷ q) f b h = first q (ap (λ x. x ∷ q) (sym (same_first e y a (q ++ f ∷ b) h)))
splits (x ∷ p) e a [] f b h = second p (ap (λ y. y ∷ p) (same_first x f (p ++ e ∷ a) b h))
splits (x ∷ p) e a (y ∷ q) f b h =
    let x_is : x ≡ y = same_first x y (p ++ e ∷ a) (q ++ f ∷ b) h in
    subst (λ z. Splits (x ∷ p) e (z ∷ q) f) x_is (split_more x p e q f (splits p e a q f b (same_rest x y (p ++ e ∷ a) (q ++ f ∷ b) h)))

-- a legal journal does not continue behind an entry that breaks a rule
no_legal : (format : Format) (d : Domain) (p : List Entry) (e : Entry) (a : List Entry) (x : Rule) → Breaks format d p e x → IsLegal format d (p ++ e ∷ a) → ⊥
no_legal format d p e a x b h = broken_is_illegal format d p e x b (legal_front format d p (e ∷ a) h).1.0

-- no line of a legal journal breaks a rule
pub legal_is_unbroken : (format : Format) (d : Domain) (J : List Entry) (line : ℕ) (x : Rule) → IsLegal format d J → IsBrokenAt format d J line x → ⊥
legal_is_unbroken format d J line x h b = no_legal format d b.past b.entry b.rest x b.breaks (subst (IsLegal format d) b.split h)

same_place : (format : Format) (d : Domain) (line other : ℕ) (x y : Rule) (J K : List Entry) (b : IsBrokenAt format d J line x) (c : IsBrokenAt format d K other y) → Splits b.past b.entry c.past c.entry
    → (line ≡ other) × (x ≡ y)
same_place format d line other x y J K b c (same h g) = (
  b.number ∙ ap (λ (l : List Entry). length l + 2) h ∙ sym c.number,
  one_is_first format d c.past c.entry x y (subst (λ e. Breaks format d c.past e x) g (subst (λ p. Breaks format d p b.entry x) h b.breaks)) c.breaks,
)
same_place format d line other x y J K b c (first more h) = absurd (no_legal format d b.past b.entry more x b.breaks (subst (IsLegal format d) h c.legal))
same_place format d line other x y J K b c (second more h) = absurd (no_legal format d c.past c.entry more y c.breaks (subst (IsLegal format d) h b.legal))

-- one line is the first that breaks a rule, and one rule is first there
pub one_place : (format : Format) (d : Domain) (J : List Entry) (line other : ℕ) (x y : Rule) → IsBrokenAt format d J line x → IsBrokenAt format d J other y → (line ≡ other) × (x ≡ y)
one_place format d J line other x y b c =
    same_place format d line other x y J J b c (splits b.past b.entry b.rest c.past c.entry c.rest (sym b.split ∙ c.split))

legal_or_from : (format : Format) (d : Domain) (past es : List Entry) → IsLegal format d past → (IsLegal format d (past ++ es) → ⊥)
    → ((line : ℕ) (x : Rule) → IsBrokenAt format d (past ++ es) line x → ⊥) → ⊥
legal_or_from format d past [] h f g = f (subst (IsLegal format d) (sym (append-nil past)) h)
legal_or_from format d past (e ∷ es) h f g =
    let may : IsLegalAt format d past e → ⊥ = λ k. legal_or_from format d (past ++ e ∷ []) es (legal_more format d past e h k)
    (λ l. f (subst (IsLegal format d) (append_assoc past (e ∷ []) es) l))
    (λ line x b. g line x (subst (λ J. IsBrokenAt format d J line x) (append_assoc past (e ∷ []) es) b)) in
    kept_or_broken format d past e may
    (λ x b. g (length past + 2) x (record { past = past; entry = e; rest = es; split = refl; legal = h; breaks = b; number = refl }))

-- no journal neither is legal nor has a line that breaks a rule
pub legal_or_broken : (format : Format) (d : Domain) (J : List Entry) → (IsLegal format d J → ⊥) → ((line : ℕ) (x : Rule) → IsBrokenAt format d J line x → ⊥) → ⊥
legal_or_broken format d J f g = legal_or_from format d [] J tt f g
