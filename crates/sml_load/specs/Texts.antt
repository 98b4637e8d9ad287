-- The domains of texts, and why a text has no domain.
use Rattle.std.specs.Prelude.{◌≡◌, ◌⊎◌, ℕ, List, Some}
use Rattle.sml_tree.specs.Syntax.{ItemData}
use Rattle.sml_read.specs.Promise.{Cause, IsFileOf}
use Rattle.sml_check_faults.specs.declared.kind.CheckError.{CheckError}
use Rattle.sml_check_faults.specs.KindText.{memory_error}
use Rattle.sml_check_faults.specs.Kinds.{IsWellFormed, all_faults}
use Rattle.sml_check_faults.specs.Lookup.{first_item}
use Rattle.sml_domain.specs.Domain.{Domain}
use Rattle.sml_check_build.specs.FileDomain.{IsDomainOf}
use Rattle.sml_load.specs.declared.domain_of_text.TextFault.{TextFault}
use Rattle.sml_load.specs.declared.domain_of_text.TextFault.TheVariants.{Read, Check, Memory}

-- the text says a well-formed file, and this is its domain
abbrev pub IsDomainOfText : List ℕ → Domain → Type 0
IsDomainOfText text d = (file : List ItemData) × IsFileOf text file × IsWellFormed file × IsDomainOf file d

-- this is a file's first fault, or there was no memory to look for it
abbrev pub IsFaultOfFile : List ItemData → CheckError → Type 0
IsFaultOfFile file e = (e ≡ memory_error) ⊎ (Some (e.kind, e.name) ≡ first_item (all_faults file))

-- the text is refused for this where it is read, or where its file is checked
abbrev pub IsFaultOfText : List ℕ → TextFault → Type 0
IsFaultOfText text (Read e) = Cause text e.kind e.offset
IsFaultOfText text (Check e) = (file : List ItemData) × IsFileOf text file × IsFaultOfFile file e
IsFaultOfText text Memory = Unit
