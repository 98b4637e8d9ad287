-- The tokens of a domain text as the grammar sees them.
use Rattle.std.specs.Prelude.{ℕ, ℤ, pos, Bool, true, false, List, [], ◌∷◌, ◌++◌, codes, nat_eq, if◌then◌else◌}
use Rattle.std.specs.List.{list_any}
use Rattle.std.specs.Cmp.Lexicographic.{pointwise}
use Rattle.sml_text.specs.Tokens.{Lexeme, Word, Int, Str, Sign, Session, Token}
use Rattle.sml_text.specs.declared.source.Sign.{Sign as SignKind}
use Rattle.sml_text.specs.declared.source.Sign.TheVariants as sign
use Rattle.sml_tree.specs.declared.token_kind.TokenKind.{TokenKind}
use Rattle.sml_tree.specs.declared.token_kind.TokenKind.TheVariants as kind

-- a token with its kind
pub record Piece : Type 0 where
  pub kind : TokenKind
  pub lexeme : Lexeme
  pub at : ℕ

-- a word in upper case, and its kind
pub record Reserved : Type 0 where
  pub word : List ℕ
  pub kind : TokenKind

-- a row of a table of words
abbrev pub reads : List ℕ → TokenKind → Reserved
reads word kind = record { word = word; kind = kind }

-- the reserved words
abbrev pub reserved : List Reserved
reserved =
    reads (codes "CLASS") kind.Class
    ∷ reads (codes "OBJECT") kind.Object
    ∷ reads (codes "OBJECTSET") kind.ObjectSet
    ∷ reads (codes "IS_OF_CLASS") kind.IsOfClass
    ∷ reads (codes "STATE") kind.State
    ∷ reads (codes "ACTION") kind.Action
    ∷ reads (codes "PARAMETERS") kind.Parameters
    ∷ reads (codes "INT") kind.IntKind
    ∷ reads (codes "STRING") kind.StringKind
    ∷ reads (codes "DO") kind.Do
    ∷ reads (codes "IF") kind.If
    ∷ reads (codes "THEN") kind.Then
    ∷ reads (codes "ELSE") kind.Else
    ∷ reads (codes "ENDIF") kind.Endif
    ∷ reads (codes "SET") kind.Set
    ∷ reads (codes "MOVE_TO") kind.MoveTo
    ∷ reads (codes "TERMINATE_ACTION") kind.TerminateAction
    ∷ reads (codes "IN_STATE") kind.InState
    ∷ reads (codes "NOT_IN_STATE") kind.NotInState
    ∷ reads (codes "ALL_IN") kind.AllIn
    ∷ reads (codes "ANY_IN") kind.AnyIn
    ∷ reads (codes "AND") kind.And
    ∷ reads (codes "OR") kind.Or
    ∷ reads (codes "NOT") kind.Not
    ∷ reads (codes "WAIT") kind.Wait
    ∷ reads (codes "INSERT") kind.Insert
    ∷ reads (codes "REMOVE") kind.Remove
    ∷ reads (codes "IN") kind.In
    ∷ reads (codes "FROM") kind.From
    ∷ []

-- the words that count only behind a slash
abbrev pub mark_words : List Reserved
mark_words =
    reads (codes "ASSOCIATED") kind.Associated
    ∷ reads (codes "INITIAL_STATE") kind.InitialState
    ∷ reads (codes "DEAD_STATE") kind.DeadState
    ∷ []

-- the kind of a word by a table; a word of no row is a name
abbrev pub kind_in : List Reserved → List ℕ → TokenKind
kind_in [] word = kind.Name
kind_in (row ∷ rows) word = if pointwise nat_eq word row.word then row.kind else kind_in rows word

-- whether a row is of a word
abbrev pub is_row : List ℕ → Reserved → Bool
is_row word row = pointwise nat_eq word row.word

-- whether a word is reserved
abbrev pub is_reserved : List ℕ → Bool
is_reserved word = list_any (is_row word) reserved

-- the kind of a word, behind a slash or not
abbrev pub word_kind : Bool → List ℕ → TokenKind
word_kind slash word = kind_in (if slash then mark_words ++ reserved else reserved) word

-- the kind of a sign
abbrev pub sign_kind : SignKind → TokenKind
sign_kind sign.Colon = kind.Colon
sign_kind sign.Comma = kind.Comma
sign_kind sign.Equals = kind.Equals
sign_kind sign.OpenBracket = kind.OpenBracket
sign_kind sign.CloseBracket = kind.CloseBracket
sign_kind sign.OpenBrace = kind.OpenBrace
sign_kind sign.CloseBrace = kind.CloseBrace
sign_kind sign.Slash = kind.Slash

-- the kind of a token, behind a slash or not
abbrev pub piece_kind : Bool → Lexeme → TokenKind
piece_kind slash (Word word) = word_kind slash word
piece_kind slash (Int n) = kind.Int
piece_kind slash (Str bytes) = kind.Str
piece_kind slash (Sign s) = sign_kind s
piece_kind slash (Session k) = kind.Stray

-- whether a token is a slash
abbrev pub is_slash : Lexeme → Bool
is_slash (Sign sign.Slash) = true
is_slash _ = false

-- a token with its kind, behind a slash or not
abbrev pub piece_of : Bool → Token → Piece
piece_of slash t = record { kind = piece_kind slash t.lexeme; lexeme = t.lexeme; at = t.at }

-- tokens with their kinds, the first of them behind a slash or not
abbrev pub pieces : Bool → List Token → List Piece
pieces slash [] = []
pieces slash (t ∷ ts) = piece_of slash t ∷ pieces (is_slash t.lexeme) ts

-- the tokens of a text with their kinds
abbrev pub marked_words : List Token → List Piece
marked_words ts = pieces false ts

-- the word of a piece, as a name
abbrev pub word_of : Lexeme → List ℕ
word_of (Word word) = word
word_of _ = []

-- the number of a piece
abbrev pub int_of : Lexeme → ℤ
int_of (Int n) = n
int_of _ = pos 0

-- the bytes of a piece that is a string
abbrev pub bytes_of : Lexeme → List ℕ
bytes_of (Str bytes) = bytes
bytes_of _ = []
