-- Lists that are shared only if they have items.
use Rattle.std.specs.Prelude.{Option, None, Some, List, []}

-- the items of what is shared, or the empty list if nothing is
abbrev pub shared_items : {A B : Type 0} (shared : Option A) (items : A → List B) → List B
shared_items None items = []
shared_items (Some a) items = items a
