-- The numbers of kinds.
use Rattle.std.proofs.Common.{◌≡◌, IsTrue, ℕ, List, [], ◌∷◌, refl, true, nat_eq, get_or, sym, ap, ◌∙◌, arith}
use Rattle.std.proofs.lemmas.Bool.Decides.{nat_tests}
use Rattle.sml_tree.specs.contracts.token_kind.TokenKind.{the_type}
use Rattle.sml_tree.specs.declared.token_kind.TokenKind.{TokenKind}
use Rattle.sml_tree.specs.declared.token_kind.TokenKind.TheVariants.{Class, Object, ObjectSet, IsOfClass, State, Action, Parameters, IntKind, StringKind, Do, If, Then, Else, Endif, Set, MoveTo, TerminateAction, InState, NotInState, AllIn, AnyIn, And, Or, Not, Wait, Insert, Remove, In, From, Associated, InitialState, DeadState, Colon, Comma, Equals, OpenBracket, CloseBracket, OpenBrace, CloseBrace, Slash, Name, Int, Str, Stray}
use Rattle.sml_read_parts.specs.Machine.{code}
use denote.Enum.Declared.{tag_of}

-- all kinds, by their numbers
abbrev pub kinds : List TokenKind
kinds = Class ∷ Object ∷ ObjectSet ∷ IsOfClass ∷ State ∷ Action ∷ Parameters ∷ IntKind ∷ StringKind ∷ Do ∷ If ∷ Then ∷ Else ∷ Endif ∷ Set ∷ MoveTo ∷ TerminateAction ∷ InState ∷ NotInState ∷ AllIn ∷ AnyIn ∷ And ∷ Or ∷ Not ∷ Wait ∷ Insert ∷ Remove ∷ In ∷ From ∷ Associated ∷ InitialState ∷ DeadState ∷ Colon ∷ Comma ∷ Equals ∷ OpenBracket ∷ CloseBracket ∷ OpenBrace ∷ CloseBrace ∷ Slash ∷ Name ∷ Int ∷ Str ∷ Stray ∷ []

abbrev pub kind_at : ℕ → TokenKind
kind_at n = get_or kinds n Class

pub kind_at_code : (a : TokenKind) → kind_at (code a) ≡ a
kind_at_code Class = refl
kind_at_code _ = refl

-- kinds of one number are one
pub same_kind : (a b : TokenKind) → nat_eq (code a) (code b) ≡ true → a ≡ b
same_kind a b h = let e : code a ≡ code b = grind (arith, nat_tests) in sym (kind_at_code a) ∙ ap kind_at e ∙ kind_at_code b

pub same_code : (a b : TokenKind) → a ≡ b → nat_eq (code a) (code b) ≡ true
same_code a b e = let c : code a ≡ code b = ap code e in grind (arith, nat_tests)

-- the program's number of a kind is its own
tag : (a : TokenKind) → tag_of the_type a ≡ code a
tag Class = refl
tag _ = refl

pub same_tags : (a b : TokenKind) → nat_eq (tag_of the_type a) (tag_of the_type b) ≡ nat_eq (code a) (code b)
same_tags a b = rw (tag a, tag b) refl

-- kinds to which the program gives one number are one
pub one_kind : (a b : TokenKind) → IsTrue (nat_eq (tag_of the_type a) (tag_of the_type b)) → a ≡ b
one_kind a b h = same_kind a b (sym (same_tags a b) ∙ h)
