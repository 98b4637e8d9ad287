-- The items of a file that were read.
use Rattle.std.specs.Prelude.{◌≤◌}
use Rattle.sml_tree.specs.Form.{Part, File}
use Rattle.sml_read_parts.specs.declared.object.Counts.{Counts}
use Rattle.sml_tree.specs.declared.limits.TheConstants.{MAX_CLASSES, MAX_OBJECTS, MAX_SETS}

-- the rest of a file that has these counts of items before it
abbrev pub file_part : Counts → Part
file_part c = File c.classes c.objects c.sets

-- no sort has more items than it may
abbrev pub CountsAreWithin : Counts → Type 0
CountsAreWithin c = (c.classes ≤ MAX_CLASSES) × (c.objects ≤ MAX_OBJECTS) × (c.sets ≤ MAX_SETS)
