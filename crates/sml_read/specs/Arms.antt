-- The two blocks of an `if` that were read.
use Rattle.std.specs.Prelude.{◌≤◌, ℕ, List, [], ◌∷◌, length, map, Result, Ok, Err}
use Rattle.sml_tree.specs.Piece.{Piece}
use Rattle.sml_tree.specs.Syntax.{CondData, choose}
use Rattle.sml_tree.specs.Form.{P, Form, Arms as Armed, Branch, Arm, Two, Value, part, gives, ◌>>=◌}
use Rattle.sml_tree.specs.Content.{instr_content, block_of}
use Rattle.sml_tree.specs.declared.block.Block.{Block}
use Rattle.sml_read.specs.declared.arms.Arms.{Arms}
use Rattle.sml_read_parts.specs.declared.fault.Stop.{Stop}
use Rattle.sml_read_parts.specs.Reads.{Stops}
use Rattle.sml_read_parts.specs.Trails.{Trail}

-- what the two blocks say
abbrev pub arms_content : {A : Type 0} → Arms A → Two
arms_content a =
    record { yes_part = map instr_content a.yes.instrs.items; no_part = map instr_content a.no.instrs.items }

-- two blocks
abbrev pub arms_of : {A : Type 0} → Block A → Block A → Arms A
arms_of yes' no' = record { yes = yes'; no = no' }

-- the rest of an `if` behind its condition
abbrev pub armed : (depth : ℕ) → CondData → Form (Value (Branch depth)) (P Armed ∷ [])
armed depth c = part (Arm depth) >>= (λ arms. gives (choose c (block_of arms.yes_part) (block_of arms.no_part)))

-- what is read of an `if` before its blocks, inside any number of others
abbrev pub ReadsAskedFor : {X : Type 0} → (X → CondData) → List Piece → List Piece → Result X Stop → Type 0
ReadsAskedFor view old new (Ok x) =
    (length new ≤ length old) × ((depth : ℕ) → Trail (Branch depth) (P Armed ∷ []) (armed depth (view x)) old new)
ReadsAskedFor view old new (Err e) = (depth : ℕ) → Stops (Branch depth) old e
