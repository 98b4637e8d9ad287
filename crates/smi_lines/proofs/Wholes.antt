-- Texts whose tokens are the whole, and texts with something bad in them.
use Rattle.std.proofs.Common.{◌≡◌, ◌≤◌, ◌↔◌, ℕ, nat_le, Bool, true, false, ◌&&◌, IsTrue, Option, Some, None}
use Rattle.std.proofs.Common.{List, [], ◌∷◌, ◌++◌, length, refl, ap, sym, ◌∙◌, arith}
use Rattle.std.specs.List.{list_all}
use Rattle.sml_text.specs.declared.source.Source.{Source}
use Rattle.sml_text.specs.Bytes.{is_ascii, no_line_feed}
use Rattle.sml_text.specs.Tokens.{Lexeme, Token, TokensOf}
use Rattle.sml_text.specs.Stream.{tokens_from, bad_from, TextEnds}
use Rattle.sml_text.proofs.Streams.{read_bad, one_reading}
use Rattle.smi_lines.specs.declared.line.TheConstants.{LONGEST_LINE}
use Rattle.smi_lines.specs.Line.{lexemes, whole, is_line}

-- two tests of each in one
all_both : (p q : ℕ → Bool) (xs : List ℕ) → list_all (λ x. p x && q x) xs ≡ (list_all p xs && list_all q xs)
all_both p q [] = refl
all_both p q (x ∷ xs) = go (p x) (q x) (list_all p xs) (list_all q xs) (all_both p q xs)
  where
    go : {all : Bool} (a b all_p all_q : Bool) → all ≡ (all_p && all_q)
        → ((a && b) && all) ≡ ((a && all_p) && (b && all_q))
    go false b all_p all_q e = refl
    go true true all_p all_q e = e
    go true false false all_q e = refl
    go true false true all_q e = refl

-- the bytes of what is short enough say whether it is a line
pub bytes_say : (line : List ℕ) → length line ≤ LONGEST_LINE
    → list_all (λ c. is_ascii c && no_line_feed c) line ≡ is_line line
bytes_say line short =
    all_both is_ascii no_line_feed line
    ∙ sym (ap (λ fits. fits && (list_all is_ascii line && list_all no_line_feed line)) fits)
  where
    fits : nat_le (length line) LONGEST_LINE ≡ true
    fits = grind arith

-- a text that has tokens has nothing bad
pub no_bad : (source : Source) (text : List ℕ) (ts : List Token)
    → TokensOf source text ts → bad_from source 0 text ≡ None
no_bad source text ts h = go (bad_from source 0 text) refl
  where
    go : (bad : Option ℕ) → bad_from source 0 text ≡ bad → bad ≡ None
    go None e = refl
    go (Some place) e = absurd (one_reading source text ts place h (read_bad source 0 text place e))

module _ {X : Type 0} where
  -- what is nothing of all tokens is nothing of these
  pub whole_none : (f : List Lexeme → Option X) (ts : List Token) (bad : Option ℕ)
      → ((words : List Lexeme) → f words ≡ None) → whole f ts bad ≡ None
  whole_none f ts None h = h (lexemes ts)
  whole_none f ts (Some place) h = refl

  -- what is the same of all tokens is the same of these
  pub whole_same : (f g : List Lexeme → Option X) (ts : List Token) (bad : Option ℕ)
      → ((words : List Lexeme) → f words ≡ g words) → whole f ts bad ≡ whole g ts bad
  whole_same f g ts None h = h (lexemes ts)
  whole_same f g ts (Some place) h = refl

  -- where a text continues behind these tokens, what takes no more of them gives nothing
  pub not_ended : (f : List Lexeme → Option X) (front ts : List Token) (bad : Option ℕ)
      (source : Source) (at : ℕ) (text : List ℕ) (end : Bool)
      → ((place : ℕ) → IsTrue end ↔ TextEnds source place text) → end ≡ false
      → ts ≡ front ++ tokens_from source at text → bad ≡ bad_from source at text
      → ((t : Token) (more : List Token) → f (lexemes (front ++ t ∷ more)) ≡ None) → None ≡ whole f ts bad
  not_ended f front ts (Some place) source at text end ends goes_on are same none = refl
  not_ended f front ts None source at text end ends goes_on are same none = go (tokens_from source at text) refl
    where
      go : (more : List Token) → tokens_from source at text ≡ more → None ≡ f (lexemes ts)
      go [] e = absurd (cc (sym goes_on ∙ (ends at).1 (e, sym same)))
      go (t ∷ more) e = sym (ap (λ l. f (lexemes l)) (are ∙ ap (λ l. front ++ l) e) ∙ none t more)
