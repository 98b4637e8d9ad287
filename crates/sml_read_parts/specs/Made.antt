-- What is made in memory.
use Rattle.std.specs.Prelude.{◌≡◌, Option, Some, Result, Ok, Err}
use Rattle.sml_read_parts.specs.declared.fault.Stop.{Stop}
use Rattle.sml_read_parts.specs.declared.fault.Stop.TheVariants as stop

-- something was made, of which this holds, unless memory ran out
abbrev pub OrMemory : {X : Type 0} → Result X Stop → (X → Type 0) → Type 0
OrMemory (Ok x) Q = Q x
OrMemory (Err e) Q = e ≡ stop.Memory

-- what was read, as something that may be missing
abbrev pub found_of : {X : Type 0} → Result X Stop → Result (Option X) Stop
found_of (Ok x) = Ok (Some x)
found_of (Err e) = Err e

-- of what was read something was made, of which this holds, unless memory ran out
abbrev pub MadeOf : {X Y : Type 0} → Result X Stop → Result Y Stop → (X → Y → Type 0) → Type 0
MadeOf (Ok x) made Q = OrMemory made (Q x)
MadeOf (Err e) made Q = made ≡ Err e

-- of what was read something was made, of which this holds
abbrev pub OfRead : {X Y : Type 0} → Result X Stop → Result Y Stop → (X → Y → Type 0) → Type 0
OfRead (Ok x) (Ok y) Q = Q x y
OfRead (Ok x) (Err e) Q = ⊥
OfRead (Err e) made Q = made ≡ Err e
