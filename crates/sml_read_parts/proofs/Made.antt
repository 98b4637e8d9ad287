-- What was read of what something was made of.
use Rattle.std.proofs.Common.{◌≡◌, List, Result, Ok, Err, refl}
use Rattle.sml_tree.specs.Piece.{Piece}
use Rattle.sml_tree.specs.Form.{Part, Value}
use Rattle.sml_read_parts.specs.declared.fault.Stop.{Stop}
use Rattle.sml_read_parts.specs.declared.fault.Stop.TheVariants as stop
use Rattle.sml_read_parts.specs.Made.{MadeOf}
use Rattle.sml_read_parts.specs.Reads.{Reads, ReadsFront, Stops}

-- a list was made longer by something that was read
pub grown : {X Y : Type 0} (r : Result X Stop) (made : Result Y Stop) (y : Y) (Q R : X → Y → Type 0) → made ≡ Ok y → MadeOf r made Q → MadeOf r made R → (x : X) × (r ≡ Ok x) × Q x y × R x y
grown (Ok x) made y Q R got a b = (x, refl, rw got at a, rw got at b)
grown (Err e) made y Q R got a b = absurd (cc (got, a))

-- where nothing was made of it, memory ran out or it is refused
pub not_made_of : {X Y : Type 0} (Q : X → Y → Type 0) (n : Part) (view : X → Value n) (r : Result X Stop) (made : Result Y Stop) (e : Stop) (old new : List Piece) → made ≡ Err e → MadeOf r made Q → Reads n view old new r → Stops n old e
not_made_of Q n view r (Ok y) e old new none is a = absurd (cc none)
not_made_of Q n view (Ok x) (Err s) e old new none is a = let same : e ≡ stop.Memory = cc (none, is) in rw same tt
not_made_of Q n view (Err s') (Err s) e old new none is a = let same : e ≡ s' = cc (none, is) in rw same a

-- the same of the front of a list
pub no_front_made : {X Y : Type 0} (Q : X → Y → Type 0) (n next : Part) (front : X → Value next → Value n) (r : Result X Stop) (made : Result Y Stop) (e : Stop) (old new : List Piece) → made ≡ Err e → MadeOf r made Q → ReadsFront n next front old new r
    → Stops n old e
no_front_made Q n next front r (Ok y) e old new none is a = absurd (cc none)
no_front_made Q n next front (Ok x) (Err s) e old new none is a = let same : e ≡ stop.Memory = cc (none, is) in rw same tt
no_front_made Q n next front (Err s') (Err s) e old new none is a = let same : e ≡ s' = cc (none, is) in rw same a
