-- What is read of the marks of a class or a state.
use Rattle.std.proofs.Common.{Bool, true, false, List, refl, ap, length, Result, Ok, Err, arith}
use Rattle.sml_tree.specs.declared.token_kind.TokenKind.TheVariants.{Associated, InitialState, DeadState}
use Rattle.sml_tree.specs.Piece.{Piece}
use Rattle.sml_tree.specs.Form as of
use Rattle.sml_read_parts.specs.declared.fault.Stop.{Stop}
use Rattle.sml_read_parts.specs.declared.fault.Stop.TheVariants as stop
use Rattle.sml_read_parts.specs.Reads.{Reads}
use Rattle.sml_read_parts.specs.Stands.{ReadsMark}
use Rattle.sml_read_parts.proofs.Behind.{lacking}

-- a class may be associated
pub class_mark : (r : Result Bool Stop) (old new : List Piece) → ReadsMark Associated old new r → Reads of.ClassMark (λ b. b) old new r
class_mark (Ok true) old new h = (omega (arith, ap length h.1.1, ap length h.2.1), λ g more k. rw (h.1.1, h.2.1) (rw (h.1.2, h.2.2) refl))
class_mark (Ok false) old new h = (omega (arith, ap length h.0), rw h.0 (lacking of.ClassMark _ false old refl refl h.1))
class_mark (Err stop.Memory) old new h = tt
class_mark (Err (stop.Fault f)) old new h = λ g more k. rw (h.2.1, h.2.2) (h.3 g _ _ _)

-- a state may be initial
pub initial_mark : (r : Result Bool Stop) (old new : List Piece) → ReadsMark InitialState old new r → Reads of.InitialMark (λ b. b) old new r
initial_mark (Ok true) old new h = (omega (arith, ap length h.1.1, ap length h.2.1), λ g more k. rw (h.1.1, h.2.1) (rw (h.1.2, h.2.2) refl))
initial_mark (Ok false) old new h = (omega (arith, ap length h.0), rw h.0 (lacking of.InitialMark _ false old refl refl h.1))
initial_mark (Err stop.Memory) old new h = tt
initial_mark (Err (stop.Fault f)) old new h = λ g more k. rw (h.2.1, h.2.2) (h.3 g _ _ _)

-- a state may be dead
pub dead_mark : (r : Result Bool Stop) (old new : List Piece) → ReadsMark DeadState old new r → Reads of.DeadMark (λ b. b) old new r
dead_mark (Ok true) old new h = (omega (arith, ap length h.1.1, ap length h.2.1), λ g more k. rw (h.1.1, h.2.1) (rw (h.1.2, h.2.2) refl))
dead_mark (Ok false) old new h = (omega (arith, ap length h.0), rw h.0 (lacking of.DeadMark _ false old refl refl h.1))
dead_mark (Err stop.Memory) old new h = tt
dead_mark (Err (stop.Fault f)) old new h = λ g more k. rw (h.2.1, h.2.2) (h.3 g _ _ _)
