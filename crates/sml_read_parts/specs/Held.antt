-- What a token in memory is to the grammar.
use Rattle.std.specs.Prelude.{◌≡◌, Bool}
use Rattle.sml_text.specs.Views.{lexeme_of, IsLexeme}
use Rattle.sml_text.specs.declared.tokens.Token.{Token as Read}
use Rattle.sml_tree.specs.declared.token_kind.TokenKind.{TokenKind}
use Rattle.sml_tree.specs.Piece.{piece_kind}

-- a token of this kind, behind a slash or not
pub record IsHeld (k : TokenKind) (t : Read) : Type 0 where
  pub slash : Bool
  pub kind : k ≡ piece_kind slash (lexeme_of t.lexeme)
  pub bytes : IsLexeme t.lexeme
