-- What a reading answers.
use Rattle.std.specs.Prelude.{◌≡◌, ◌⊎◌, ◌≤◌, ◌<◌, ℕ, nat_lt, List, length, position, Option, Some, None, Result, Ok, Err}
use Rattle.sml_text.specs.declared.source.Source.TheVariants.{Domain}
use Rattle.sml_text.specs.Tokens.{Token, TokensOf, BadTokenOf}
use Rattle.sml_tree.specs.Syntax.{ItemData}
use Rattle.sml_tree.specs.Piece.{marked_words}
use Rattle.sml_tree.specs.Derive.{IsFile}
use Rattle.sml_read.specs.Faults.{FileFault}
use Rattle.sml_read_parts.specs.declared.fault.Fault.{Fault}
use Rattle.sml_read_parts.specs.declared.fault.Fault.TheVariants as fault
use Rattle.sml_read_parts.specs.declared.fault.Stop.{Stop}
use Rattle.sml_read_parts.specs.declared.fault.Stop.TheVariants as stop
use Rattle.sml_read.specs.declared.error.ReadError.{ReadError}
use Rattle.sml_read.specs.declared.error.ReadErrorKind.{ReadErrorKind}
use Rattle.sml_read.specs.declared.error.ReadErrorKind.TheVariants.{TooLong, NotAscii, BadToken, Unexpected, TooDeep, TooMany, Memory}
use Rattle.sml_read.specs.declared.reading.TheConstants.{MAX_TEXT}

-- a refusal
abbrev pub read_refusal : ReadErrorKind → ℕ → ReadError
read_refusal kind offset = record { kind = kind; offset = offset }

-- the text is within its limit
abbrev pub IsShort : List ℕ → Type 0
IsShort text = length text ≤ MAX_TEXT

-- the place of the first byte above 0x7F
abbrev pub first_foreign : List ℕ → Option ℕ
first_foreign text = position (λ b. nat_lt 127 b) text

-- the text is within its limit, of ASCII, and has tokens
abbrev pub HasTokens : List ℕ → Type 0
HasTokens text = IsShort text × (first_foreign text ≡ None) × ((ts : List Token) × TokensOf Domain text ts)

-- the file that a text says, in the whole grammar and within all limits
abbrev pub IsFileOf : List ℕ → List ItemData → Type 0
IsFileOf text file = IsShort text × (first_foreign text ≡ None)
    × ((ts : List Token) × TokensOf Domain text ts × IsFile (marked_words ts) file)

-- the tokens of a text have this first fault
abbrev pub FaultOfText : List ℕ → Fault → Type 0
FaultOfText text f = IsShort text × (first_foreign text ≡ None)
    × ((ts : List Token) × TokensOf Domain text ts × FileFault (marked_words ts) f)

-- why a text is refused so
abbrev pub Cause : List ℕ → ReadErrorKind → ℕ → Type 0
Cause text TooLong at = (MAX_TEXT < length text) × (at ≡ MAX_TEXT)
Cause text NotAscii at = IsShort text × (first_foreign text ≡ Some at)
Cause text BadToken at = IsShort text × (first_foreign text ≡ None) × BadTokenOf Domain text at
Cause text Unexpected at = FaultOfText text (fault.Unexpected at) ⊎ (FaultOfText text fault.Ends × (at ≡ length text))
Cause text TooDeep at = FaultOfText text (fault.TooDeep at)
Cause text TooMany at = FaultOfText text (fault.TooMany at)
Cause text Memory at = HasTokens text × (at ≡ 0)

-- the file was read, or memory ran out
abbrev pub ReadsFile : {X : Type 0} → (X → List ItemData) → Result X ReadError → List ItemData → Type 0
ReadsFile content (Ok x) file = content x ≡ file
ReadsFile content (Err e) file = e ≡ read_refusal Memory 0

-- the error for a stop in a text of `size` bytes
abbrev pub error_of : Stop → ℕ → ReadError
error_of stop.Memory size = read_refusal Memory 0
error_of (stop.Fault (fault.Unexpected at)) size = read_refusal Unexpected at
error_of (stop.Fault (fault.TooDeep at)) size = read_refusal TooDeep at
error_of (stop.Fault (fault.TooMany at)) size = read_refusal TooMany at
error_of (stop.Fault fault.Ends) size = read_refusal Unexpected size

-- a text says at most one file
abbrev pub OneFile : Type 0
OneFile = (text : List ℕ) (file other : List ItemData) → IsFileOf text file → IsFileOf text other → file ≡ other

-- a text that says a file has no fault
abbrev pub NoFault : Type 0
NoFault = (text : List ℕ) (file : List ItemData) (f : Fault) → IsFileOf text file → FaultOfText text f → ⊥

-- a text has at most one first fault
abbrev pub OneFault : Type 0
OneFault = (text : List ℕ) (f other : Fault) → FaultOfText text f → FaultOfText text other → f ≡ other
