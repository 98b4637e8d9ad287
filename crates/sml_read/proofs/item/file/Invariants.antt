use Rattle.std.proofs.Common.{◌≤◌, ◌++◌, length, map}
use Rattle.sml_tree.specs.Content.{item_content}
use Rattle.sml_tree.specs.Form.{File}
use Rattle.sml_read_parts.specs.Counts.{file_part, CountsAreWithin}
use Rattle.sml_read_parts.specs.Reads.{LeadsOn}
use Rattle.sml_read.proofs.item.file.Given as goal

-- what was read is before what is left
abbrev pub invariant-more : goal.invariant-more
invariant-more g l =
    (length l.reader ≤ length l.fn.reader) × CountsAreWithin l.counts × LeadsOn (File 0 0 0) (file_part l.counts) (λ v. map item_content l.items.items ++ v) l.fn.reader l.reader

abbrev pub decreases-more : goal.decreases-more
decreases-more g l = length l.reader
