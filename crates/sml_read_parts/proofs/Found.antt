-- What is found where something was read.
use Rattle.std.proofs.Common.{◌≡◌, Option, List, Result, Ok, Err, OnOk}
use Rattle.sml_tree.specs.Piece.{Piece}
use Rattle.sml_tree.specs.Form as of
use Rattle.sml_tree.specs.Form.{Value}
use Rattle.sml_read_parts.specs.declared.fault.Stop.{Stop}
use Rattle.sml_read_parts.specs.Reads.{ReadsNext, ReadsFront}
use Rattle.sml_read_parts.specs.Made.{found_of}

-- what was found is the front of a list
pub found_front : {X : Type 0} (n next : of.Part) (front : X → Value next → Value n) (none : Value n) (read : Result X Stop) (r : Result (Option X) Stop) (old new : List Piece)
    → r ≡ found_of read → ReadsFront n next front old new read → ReadsNext n next front none old new r
found_front n next front none (Ok x) r old new e h = rw e h
found_front n next front none (Err s) r old new e h = rw e h

-- what holds where something was read holds where it was found
pub found_room : {X : Type 0} (read : Result X Stop) (r : Result (Option X) Stop) (R : Type 0) → r ≡ found_of read → OnOk read R → OnOk r R
found_room (Ok x) r R e h = rw e h
found_room (Err s) r R e h = rw e tt
