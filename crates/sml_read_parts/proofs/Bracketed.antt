-- The first things of lists.
use Rattle.std.proofs.Common.{◌≡◌, ℕ, refl, List, [], ◌∷◌, Err}
use Rattle.sml_tree.specs.declared.token_kind.TokenKind.TheVariants.{OpenBracket, CloseBracket, Parameters, Colon, Name}
use Rattle.sml_tree.specs.Piece.{Piece}
use Rattle.sml_tree.specs.Syntax.{PassedData, ActionParamData, ClassParamData}
use Rattle.sml_tree.specs.Form.{Passed, ArgList, MorePassedArg, ActionParam, ActionParamList, MoreActionParam, ClassParam, ClassParamList, MoreClassParam, Members, MoreMember, Names, MoreName, P, MoreNames, Fine, part, gives, ◌>>=◌}
use Rattle.sml_tree.specs.Grammar.{way, name}
use Rattle.sml_read_parts.specs.declared.fault.Stop.{Stop}
use Rattle.sml_read_parts.specs.Reads.{Passes, LeadsOn, Stops, ReadsToken}
use Rattle.sml_read_parts.specs.Lists.{LeadsToClosed}
use Rattle.sml_read_parts.proofs.Steps.{Taken}
use Rattle.sml_read_parts.proofs.Trails.{only_way, token_refused}

-- the first of the arguments
pub args_begun : (t : Piece) (old u new : List Piece) (x : PassedData) → old ≡ t ∷ u → t.kind ≡ OpenBracket → Passes (Passed 0) x u new
    → LeadsToClosed ArgList (MorePassedArg 1) CloseBracket (λ v. x ∷ v) old new
args_begun t old u new x e kind passes g more k = rw (e, kind) (passes g _ _)

-- the first of an action's parameters
pub action_params_begun : (t : Piece) (old u new : List Piece) (x : ActionParamData) → old ≡ t ∷ u → t.kind ≡ OpenBracket → Passes (ActionParam 0) x u new
    → LeadsToClosed ActionParamList (MoreActionParam 1) CloseBracket (λ v. x ∷ v) old new
action_params_begun t old u new x e kind passes g more k = rw (e, kind) (passes g _ _)

-- the first of a class's parameters
pub class_params_begun : (t a : Piece) (old u v new : List Piece) (x : ClassParamData) → old ≡ t ∷ u → t.kind ≡ Parameters → Taken Colon a u v → Passes (ClassParam 0) x v new
    → LeadsOn ClassParamList (MoreClassParam 1) (λ w. x ∷ w) old new
class_params_begun t a old u v new x e kind colon passes g more k = rw (e, colon.0, kind) (rw colon.1 (passes g _ _))

-- the first member of a set
pub members_begun : (t : Piece) (old new : List Piece) (w : List ℕ) → old ≡ t ∷ new → t.kind ≡ Name → w ≡ name t → LeadsOn Members (MoreMember 1) (λ v. w ∷ v) old new
members_begun t old new w e kind is g more k = rw (e, kind, is) refl

-- the first state of a list
pub names_begun : (t : Piece) (old new : List Piece) (w : List ℕ) → old ≡ t ∷ new → t.kind ≡ Name → w ≡ name t → LeadsOn Names (MoreName 1) (λ v. w ∷ v) old new
names_begun t old new w e kind is g more k = rw (e, kind, is) refl

-- no name is there
pub names_err : (old new : List Piece) (e : Stop) → ReadsToken Name old new (Err e) → Stops Names old e
names_err old new e none =
    let rest = λ (t : Piece). part (MoreName 1) >>= (λ others. gives (name t ∷ others)) in
    token_refused Names Name Fine (P MoreNames ∷ []) rest old old new e (only_way Names (way Name Fine rest) refl refl old) none
