-- What is reported about a domain file.
use Rattle.std.specs.Prelude.{◌≡◌, ◌≢◌, ◌⊎◌, ℕ, List, ◌++◌, Some, codes}
use Rattle.std.specs.Fmt.{decimal}
use Rattle.sml_tree.specs.Syntax.{ItemData}
use Rattle.sml_read.specs.Promise.{IsFileOf, Cause}
use Rattle.sml_read.specs.Refusal as read
use Rattle.sml_read.specs.declared.error.ReadErrorKind.TheVariants as kind
use Rattle.sml_check_faults.specs.Lookup.{first_item}
use Rattle.sml_check_faults.specs.Kinds.{all_faults, IsWellFormed}
use Rattle.sml_check_faults.specs.KindText as faults
use Rattle.smirun_commands.specs.declared.judgement.FileOutcome.{FileOutcome}
use Rattle.smirun_commands.specs.declared.judgement.FileOutcome.TheVariants.{Good, Unreadable, Read, Check}

-- the words that follow the name of the file
abbrev pub judgement_text : FileOutcome → List ℕ
judgement_text Good = codes "ok"
judgement_text Unreadable = codes "unreadable"
judgement_text (Read e) =
    codes "read " ++ decimal (read.read_kind_number e.kind) ++ codes " " ++ read.read_kind_name e.kind
    ++ codes " at " ++ decimal e.offset
judgement_text (Check e) =
    codes "check " ++ decimal (faults.check_kind_number e.kind) ++ codes " " ++ faults.check_kind_name e.kind
    ++ codes " " ++ e.name

-- the exit status
abbrev pub judgement_status : FileOutcome → ℕ
judgement_status Good = 0
judgement_status Unreadable = 1
judgement_status (Read e) = 1
judgement_status (Check e) = 1

-- a text is judged so. Out of memory, which any text with tokens could meet, is never what is reported
abbrev pub TextIsJudged : List ℕ → FileOutcome → Type 0
TextIsJudged text Good = (file : List ItemData) × IsFileOf text file × IsWellFormed file
TextIsJudged text Unreadable = ⊥
TextIsJudged text (Read e) = (e.kind ≢ kind.Memory) × Cause text e.kind e.offset
TextIsJudged text (Check e) =
    (file : List ItemData) × IsFileOf text file × (Some (e.kind, e.name) ≡ first_item (all_faults file))

-- a file is judged so
abbrev pub IsJudgedFile : List ItemData → FileOutcome → Type 0
IsJudgedFile file Good = IsWellFormed file
IsJudgedFile file Unreadable = ⊥
IsJudgedFile file (Read e) = ⊥
IsJudgedFile file (Check e) = Some (e.kind, e.name) ≡ first_item (all_faults file)

-- what is reported about a path: that there is nothing to read, or what is reported about some text
abbrev pub PathIsTold : FileOutcome → Type 0
PathIsTold j = (j ≡ Unreadable) ⊎ ((text : List ℕ) × TextIsJudged text j)
