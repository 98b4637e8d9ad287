-- Arguments that were read, in front of those that are still to be read.
use Rattle.std.proofs.Common.{◌≡◌, ℕ, false, List, [], ◌∷◌, ◌++◌, Option, Some, None}
use Rattle.std.proofs.Common.{refl, ap, sym, ◌∙◌, subst, append_assoc}
use Rattle.std.specs.Prelude.{IfSome}
use Rattle.sml_text.specs.Tokens.{Token}
use Rattle.sml_domain.specs.Completing.{Passed}
use Rattle.smi_lines.specs.Line.{lexemes, whole, name_in, sign_in, value_of_token, passed_by_tokens}
use Rattle.smi_lines.specs.Line.{arguments_in, with_passed, behind_argument, unless_last}

-- these in front of the others, where there are others
abbrev pub in_front : List Passed → Option (List Passed) → Option (List Passed)
in_front xs None = None
in_front xs (Some ys) = Some (xs ++ ys)

-- one argument more was read, and it is not the last
pub front_more : (all : Option (List Passed)) (xs : List Passed) (x : Passed) (now more : Option (List Passed)) → all ≡ in_front xs now → now ≡ with_passed (Some x) (unless_last false more) → all ≡ in_front (xs ++ x ∷ []) more
front_more all xs x now None h e = h ∙ ap (in_front xs) e
front_more all xs x now (Some ys) h e = h ∙ (ap (in_front xs) e ∙ ap (λ l. Some l) (sym (append_assoc xs (x ∷ []) ys)))

-- what holds of each that is there holds of this one
pub of_some : {X : Type 0} (P : X → Type 0) (o : Option X) (x : X) → o ≡ Some x → IfSome o P → P x
of_some P o x e h = subst (λ r. IfSome r P) e h

-- what has something behind it that may not be there is not an argument
pub none_follows : (ts us : List Token) (bad after : Option ℕ) (n e v s : Token) → ts ≡ n ∷ e ∷ v ∷ s ∷ us → bad ≡ after
    → ((more : Option (List Passed)) → whole (λ words. behind_argument (sign_in s.lexeme) words more) us after ≡ None)
    → whole arguments_in ts bad ≡ None
none_follows ts us (Some place) after n e v s are same none = refl
none_follows ts us None (Some place) n e v s are same none = absurd (cc same)
none_follows ts us None None n e v s are same none =
    ap (λ l. arguments_in (lexemes l)) are
    ∙ (ap (with_passed argument) (none (arguments_in (lexemes us))) ∙ alone argument)
  where
    argument : Option Passed
    argument = passed_by_tokens (name_in n.lexeme) (sign_in e.lexeme) (value_of_token v.lexeme)

    alone : (x : Option Passed) → with_passed x None ≡ None
    alone None = refl
    alone (Some x) = refl
