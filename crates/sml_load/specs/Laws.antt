-- The laws of files that were read.
use Rattle.std.specs.Prelude.{ℕ, List}
use Rattle.sml_tree.specs.Syntax.{ItemData}
use Rattle.sml_read.specs.Promise.{IsFileOf}
use Rattle.sml_check_build.specs.Texts.{HasTexts}

-- each string of a file that was read has the bytes of one
abbrev pub ReadFilesHaveTexts : Type 0
ReadFilesHaveTexts = (text : List ℕ) (file : List ItemData) → IsFileOf text file → HasTexts file
