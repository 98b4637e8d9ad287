-- What is read of an argument.
use Rattle.std.proofs.Common.{◌≡◌, ℕ, true, List, [], ◌∷◌, refl, ap, ◌∙◌, length, nat_lt, arith, Err}
use Rattle.sml_tree.specs.declared.token_kind.TokenKind.TheVariants.{Name, Equals}
use Rattle.sml_tree.specs.Piece.{Piece}
use Rattle.sml_tree.specs.Syntax.{ArgData}
use Rattle.sml_tree.specs.Grammar.{way, most, name}
use Rattle.sml_tree.specs.Form.{B, P, Form, Args, Arg, Passed, Value, Many, needs, gives, word, part, ◌>>=◌, ◌>>◌}
use Rattle.sml_read_parts.specs.declared.fault.Stop.{Stop}
use Rattle.sml_read_parts.specs.declared.fault.Stop.TheVariants as stop
use Rattle.sml_read_parts.specs.Reads.{Stops, ReadsToken}
use Rattle.sml_read_parts.specs.Stands.{ReadsLimited}
use Rattle.sml_read_parts.specs.Trails.{Trail}
use Rattle.sml_read_parts.proofs.Heads.{Read}
use Rattle.sml_read_parts.proofs.Steps.{Taken}
use Rattle.sml_read_parts.proofs.Trails.{only_way, token_read}
use Rattle.sml_tree.specs.declared.limits.TheConstants.{MAX_ARGUMENTS}

-- what is behind the name
abbrev rest : (before : ℕ) → Piece → Form (Value (Passed before)) (B Equals ∷ P Args ∷ [])
rest before t = do
  word Equals
  value ← part Arg
  gives (record { name = name t; value = value })

begun : (before : ℕ) (old : List Piece) → Trail (Passed before) (B Name ∷ B Equals ∷ P Args ∷ []) (needs Name (most MAX_ARGUMENTS before Many) (rest before)) old old
begun before old = only_way (Passed before) (way Name (most MAX_ARGUMENTS before Many) (rest before)) refl refl old

-- the name was read
named : (before : ℕ) (old new : List Piece) (t : Piece) → nat_lt before MAX_ARGUMENTS ≡ true → Taken Name t old new → Trail (Passed before) (B Equals ∷ P Args ∷ []) (rest before t) old new
named before old new t room taken = token_read (Passed before) Name (most MAX_ARGUMENTS before Many) (B Equals ∷ P Args ∷ []) (rest before) t old old new (begun before old) (rw room refl) taken

-- no name is there, or one too many
pub passed_name_err : (before : ℕ) (old new : List Piece) (e : Stop) → ReadsLimited MAX_ARGUMENTS before old new (Err e) → Stops (Passed before) old e
passed_name_err before old new stop.Memory none = absurd none
passed_name_err before old new (stop.Fault f) none = λ g more k. begun before old g more k ∙ none g _ _

pub passed_sign_err : (before : ℕ) (old u new : List Piece) (t : Piece) (e : Stop) → nat_lt before MAX_ARGUMENTS ≡ true → Taken Name t old u → ReadsToken Equals u new (Err e) → Stops (Passed before) old e
passed_sign_err before old u new t stop.Memory room taken none = tt
passed_sign_err before old u new t (stop.Fault f) room taken none = λ g more k. named before old u t room taken g more k ∙ none g _ _ _

pub passed_value_err : (before : ℕ) (old u v : List Piece) (t s : Piece) (e : Stop) → nat_lt before MAX_ARGUMENTS ≡ true → Taken Name t old u → Taken Equals s u v → Stops Arg v e → Stops (Passed before) old e
passed_value_err before old u v t s stop.Memory room taken equals a = tt
passed_value_err before old u v t s (stop.Fault f) room taken equals a = λ g more k. named before old u t room taken g more k ∙ rw equals.0 (rw equals.1 (a g _ _))

pub passed_ok : (before : ℕ) (old u v new : List Piece) (t s : Piece) (w : List ℕ) (value : ArgData) → nat_lt before MAX_ARGUMENTS ≡ true → Taken Name t old u → Taken Equals s u v → w ≡ name t → Read Arg value v new
    → Read (Passed before) (record { name = w; value = value }) old new
passed_ok before old u v new t s w value room taken equals is a = (
  omega (arith, ap length taken.0, ap length equals.0, a.0),
  λ g more k. named before old u t room taken g more k ∙ rw (equals.0, is) (rw equals.1 (a.1 g _ _)),
)
