-- The laws of printing and reading.
use Rattle.std.specs.Prelude.{◌≡◌, ◌↔◌, ◌≤◌, ℕ, List}
use Rattle.std.specs.List.{AllByRecursion}
use Rattle.sml_tree.specs.Syntax.{ItemData}
use Rattle.sml_tree.specs.Inside.{conditions}
use Rattle.sml_tree.specs.Brackets.{open_depth}
use Rattle.sml_tree.specs.Limits.{IsWithinLimits}
use Rattle.sml_print.specs.Items.{file_text}
use Rattle.sml_read.specs.Promise.{IsShort, IsFileOf}
use Rattle.sml_round_trip.specs.Writable.{IsWritable}
use Rattle.sml_tree.specs.declared.limits.TheConstants.{MAX_OPEN}

-- the canonical text of each condition has at most sixteen open brackets and `not`s
abbrev pub HasFewBrackets : List ItemData → Type 0
HasFewBrackets file = AllByRecursion (λ c. open_depth c ≤ MAX_OPEN) (conditions file)

-- the canonical text of a tree says that tree exactly if what the tree holds can be written and is within the limits
abbrev pub SaidByItsText : Type 0
SaidByItsText = (file : List ItemData) → IsFileOf (file_text file) file ↔
    (IsWritable file × IsWithinLimits file × HasFewBrackets file × IsShort (file_text file))

-- the canonical text of a file says the file and nothing else, if it is within the limit of texts
abbrev pub RoundTrip : Type 0
RoundTrip = (text : List ℕ) (file : List ItemData) → IsFileOf text file → IsShort (file_text file)
    → IsFileOf (file_text file) file × ((other : List ItemData) → IsFileOf (file_text file) other → file ≡ other)

-- the names, ints and strings of a file that was read are those of tokens
abbrev pub ReadFilesAreWritable : Type 0
ReadFilesAreWritable = (text : List ℕ) (file : List ItemData) → IsFileOf text file → IsWritable file
