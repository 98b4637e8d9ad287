-- What is read of a parameter.
use Rattle.std.proofs.Common.{◌≡◌, ℕ, Option, None, option_map, List, refl, ap, ◌∙◌, length, arith, Result, Ok, Err}
use Rattle.sml_tree.specs.declared.file.Kind.{Kind}
use Rattle.sml_tree.specs.declared.token_kind.TokenKind.TheVariants.{Name, Equals}
use Rattle.sml_tree.specs.Piece.{Piece}
use Rattle.sml_tree.specs.Syntax.{LiteralData}
use Rattle.sml_tree.specs.Grammar.{name}
use Rattle.sml_tree.specs.Form.{Sort, Literal, Default, ClassParam, ActionParam}
use Rattle.sml_read_parts.specs.declared.fault.Stop.{Stop}
use Rattle.sml_read_parts.specs.declared.fault.Stop.TheVariants as stop
use Rattle.sml_read_parts.specs.Made.{found_of}
use Rattle.sml_read_parts.specs.Reads.{Reads, Stops, ReadsToken}
use Rattle.sml_read_parts.specs.Stands.{TokenIsTaken, Lacks}
use Rattle.sml_read_parts.proofs.Behind.{lacking}
use Rattle.sml_read_parts.proofs.Heads.{Read}
use Rattle.sml_read_parts.proofs.Sorts.{class_param_run, action_param_run}
use Rattle.sml_read_parts.proofs.Steps.{Taken}

pub class_kind_err : (before : ℕ) (old : List Piece) (e : Stop) → Stops (Sort before) old e → Stops (ClassParam before) old e
class_kind_err before old stop.Memory a = tt
class_kind_err before old (stop.Fault f) a = λ g more k. class_param_run before g more k old ∙ a g _ _

pub class_name_err : (before : ℕ) (old u new : List Piece) (kind : Kind) (e : Stop) → Read (Sort before) kind old u → ReadsToken Name u new (Err e) → Stops (ClassParam before) old e
class_name_err before old u new kind stop.Memory a none = tt
class_name_err before old u new kind (stop.Fault f) a none = λ g more k. class_param_run before g more k old ∙ a.1 g _ _ ∙ none g _ _ _

pub class_sign_err : (before : ℕ) (old u v new : List Piece) (kind : Kind) (t : Piece) (e : Stop) → Read (Sort before) kind old u → Taken Name t u v → ReadsToken Equals v new (Err e)
    → Stops (ClassParam before) old e
class_sign_err before old u v new kind t stop.Memory a named none = tt
class_sign_err before old u v new kind t (stop.Fault f) a named none = λ g more k. class_param_run before g more k old ∙ a.1 g _ _ ∙ rw named.0 (rw named.1 (none g _ _ _))

pub class_value_err : (before : ℕ) (old u v x : List Piece) (kind : Kind) (t s : Piece) (e : Stop) → Read (Sort before) kind old u → Taken Name t u v → Taken Equals s v x → Stops Literal x e
    → Stops (ClassParam before) old e
class_value_err before old u v x kind t s stop.Memory a named equals b = tt
class_value_err before old u v x kind t s (stop.Fault f) a named equals b =
    λ g more k. class_param_run before g more k old ∙ a.1 g _ _ ∙ rw (named.0, equals.0) (rw (named.1, equals.1) (b g _ _))

pub class_param_ok : (before : ℕ) (old u v x new : List Piece) (kind : Kind) (t s : Piece) (w : List ℕ) (value : LiteralData)
    → Read (Sort before) kind old u → Taken Name t u v → w ≡ name t → Taken Equals s v x → Read Literal value x new → Read (ClassParam before) (record { kind = kind; name = w; value = value }) old new
class_param_ok before old u v x new kind t s w value a named is equals b = (
  omega (arith, a.0, ap length named.0, ap length equals.0, b.0),
  λ g more k. class_param_run before g more k old ∙ a.1 g _ _ ∙ rw (named.0, equals.0, is) (rw (named.1, equals.1) (b.1 g _ _)),
)

pub action_kind_err : (before : ℕ) (old : List Piece) (e : Stop) → Stops (Sort before) old e → Stops (ActionParam before) old e
action_kind_err before old stop.Memory a = tt
action_kind_err before old (stop.Fault f) a = λ g more k. action_param_run before g more k old ∙ a g _ _

pub action_name_err : (before : ℕ) (old u new : List Piece) (kind : Kind) (e : Stop) → Read (Sort before) kind old u → ReadsToken Name u new (Err e) → Stops (ActionParam before) old e
action_name_err before old u new kind stop.Memory a none = tt
action_name_err before old u new kind (stop.Fault f) a none = λ g more k. action_param_run before g more k old ∙ a.1 g _ _ ∙ none g _ _ _

pub action_value_err : (before : ℕ) (old u v : List Piece) (kind : Kind) (t : Piece) (e : Stop) → Read (Sort before) kind old u → Taken Name t u v → Stops Default v e → Stops (ActionParam before) old e
action_value_err before old u v kind t stop.Memory a named b = tt
action_value_err before old u v kind t (stop.Fault f) a named b = λ g more k. action_param_run before g more k old ∙ a.1 g _ _ ∙ rw named.0 (rw named.1 (b g _ _))

pub action_param_ok : (before : ℕ) (old u v new : List Piece) (kind : Kind) (t : Piece) (w : List ℕ) (default : Option LiteralData)
    → Read (Sort before) kind old u → Taken Name t u v → w ≡ name t → Read Default default v new → Read (ActionParam before) (record { kind = kind; name = w; default = default }) old new
action_param_ok before old u v new kind t w default a named is b = (
  omega (arith, a.0, ap length named.0, b.0),
  λ g more k. action_param_run before g more k old ∙ a.1 g _ _ ∙ rw (named.0, is) (rw named.1 (b.1 g _ _)),
)

-- no value is passed where none is
pub default_none : (old new : List Piece) → new ≡ old → Lacks Equals old → Read Default None old new
default_none old new same lacks = (omega (arith, ap length same), rw same (lacking Default _ None old refl refl lacks))

-- the value behind its sign
pub default_read : {X : Type 0} (view : X → LiteralData) (read : Result X Stop) (r : Result (Option X) Stop) (old mid new : List Piece) → r ≡ found_of read → TokenIsTaken Equals old mid → Reads Literal view mid new read
    → Reads Default (λ o. option_map view o) old new r
default_read view (Ok x) r old mid new e sign a = rw e (omega (arith, ap length sign.1, a.0), λ g more k. rw (sign.1, sign.2) (a.1 g _ _))
default_read view (Err stop.Memory) r old mid new e sign a = rw e tt
default_read view (Err (stop.Fault f)) r old mid new e sign a = rw e (λ g more k. rw (sign.1, sign.2) (a g _ _))
