-- The numbers and names of refusals.
use Rattle.std.specs.Prelude.{ℕ, List, ◌++◌, codes}
use Rattle.std.specs.Fmt.{decimal}
use Rattle.sml_read.specs.declared.error.ReadError.{ReadError}
use Rattle.sml_read.specs.declared.error.ReadErrorKind.{ReadErrorKind}
use Rattle.sml_read.specs.declared.error.ReadErrorKind.TheVariants.{TooLong, NotAscii, BadToken, Unexpected, TooDeep, TooMany, Memory}

-- the number of a kind
abbrev pub read_kind_number : ReadErrorKind → ℕ
read_kind_number TooLong = 1
read_kind_number NotAscii = 2
read_kind_number BadToken = 3
read_kind_number Unexpected = 4
read_kind_number TooDeep = 5
read_kind_number TooMany = 6
read_kind_number Memory = 7

-- the name of a kind
abbrev pub read_kind_name : ReadErrorKind → List ℕ
read_kind_name TooLong = codes "TooLong"
read_kind_name NotAscii = codes "NotAscii"
read_kind_name BadToken = codes "BadToken"
read_kind_name Unexpected = codes "Unexpected"
read_kind_name TooDeep = codes "TooDeep"
read_kind_name TooMany = codes "TooMany"
read_kind_name Memory = codes "Memory"

-- a refusal in words
abbrev pub read_error_text : ReadError → List ℕ
read_error_text e = read_kind_name e.kind ++ codes " at " ++ decimal e.offset
