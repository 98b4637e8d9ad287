-- What a text reads as, token by token, from its end to its front.
use Rattle.std.proofs.Common.{◌≡◌, ℕ, ◌+◌, Bool, true, false, List, [], ◌∷◌, ◌++◌, length, refl, ap, sym, subst, append_assoc, Some, None}
use Rattle.sml_text.specs.declared.source.Source.TheVariants.{Domain}
use Rattle.sml_text.specs.Bytes.{is_ascii, is_blank}
use Rattle.sml_text.specs.Tokens.{Lexeme, Token, with_token, Each, LexemeStands, blank, TokensAt, ends, goes_on}
use Rattle.sml_tree.specs.declared.token_kind.TokenKind.{TokenKind}
use Rattle.sml_tree.specs.Piece.{Piece, pieces, piece_kind, is_slash}

-- a token without its place
pub record Mould : Type 0 where
  pub kind : TokenKind
  pub lexeme : Lexeme

abbrev pub mould : TokenKind → Lexeme → Mould
mould k l = record { kind = k; lexeme = l }

abbrev pub moulds : List Piece → List Mould
moulds [] = []
moulds (t ∷ ts) = mould t.kind t.lexeme ∷ moulds ts

-- the text is of ASCII and has these tokens, at any place where it begins, behind a slash or not
pub record Lexes (slash : Bool) (text : List ℕ) (ms : List Mould) : Type 0 where
  pub ascii : Each is_ascii text
  pub tokens : (at : ℕ) → (ts : List Token) × TokensAt Domain at text ts × (moulds (pieces slash ts) ≡ ms)

pub each_append : (p : ℕ → Bool) (xs ys : List ℕ) → Each p xs → Each p ys → Each p (xs ++ ys)
each_append p [] ys h k = k
each_append p (x ∷ xs) ys h k = (h.0, each_append p xs ys h.1 k)

pub lexes_none : (slash : Bool) → Lexes slash [] []
lexes_none slash = record { ascii = tt; tokens = λ at. ([], ends at, refl) }

-- a token in front
pub lexes_token : (slash : Bool) (bytes rest : List ℕ) (l : Lexeme) (ms : List Mould) → LexemeStands Domain bytes rest (Some l) → Each is_ascii bytes
    → Lexes (is_slash l) rest ms → Lexes slash (bytes ++ rest) (mould (piece_kind slash l) l ∷ ms)
lexes_token slash bytes rest l ms s a h = record {
  ascii = each_append is_ascii bytes rest a h.ascii;
  tokens = λ at.
      let x = h.tokens (at + length bytes) in
      (with_token at (Some l) x.0, goes_on at bytes rest (Some l) x.0 s x.1, ap (λ (l' : List Mould). mould (piece_kind slash l) l ∷ l') x.2);
}

-- a blank in front
pub lexes_blank : (slash : Bool) (c : ℕ) (rest : List ℕ) (ms : List Mould) → is_blank c ≡ true → is_ascii c ≡ true → Lexes slash rest ms → Lexes slash (c ∷ rest) ms
lexes_blank slash c rest ms e a h = record {
  ascii = (a, h.ascii);
  tokens = λ at.
      let x = h.tokens (at + 1) in
      (x.0, goes_on at (c ∷ []) rest None x.0 (blank c rest e) x.1, x.2);
}

-- The text, with any text of that end behind it, has these tokens in front of those behind it.
pub record Spelt (slash : Bool) (E : List ℕ → Type 0) (text : List ℕ) (ms : List Mould) : Type 0 where
  pub whole : (more : List ℕ) (ns : List Mould) → E more → Lexes false more ns → Lexes slash (text ++ more) (ms ++ ns)

pub spelt_none : (E : List ℕ → Type 0) → Spelt false E [] []
spelt_none E = record { whole = λ more ns e h. h }

pub spelt_both : (slash : Bool) (E F : List ℕ → Type 0) (a b : List ℕ) (ms ns : List Mould) → Spelt slash E a ms → Spelt false F b ns
    → ((more : List ℕ) → F more → E (b ++ more)) → Spelt slash F (a ++ b) (ms ++ ns)
spelt_both slash E F a b ms ns x y clear = record {
  whole = λ more ls f h.
      let Q : List ℕ → List Mould → Type 0 = λ t l. Lexes slash t l in
      subst (λ t. Q t ((ms ++ ns) ++ ls)) (sym (append_assoc a b more)) (subst (λ l. Q (a ++ (b ++ more)) l) (sym (append_assoc ms ns ls)) (x.whole (b ++ more) (ns ++ ls) (clear more f) (y.whole more ls f h)));
}
