-- A parameter is read as its kind, and then the rest.
use Rattle.std.proofs.Common.{◌≡◌, ℕ, List, [], ◌∷◌, refl, ap, length, nat_lt, true, false, arith}
use Rattle.sml_tree.specs.declared.token_kind.TokenKind.{TokenKind}
use Rattle.sml_tree.specs.declared.token_kind.TokenKind.TheVariants.{Class, IntKind, StringKind}
use Rattle.sml_tree.specs.Piece.{Piece}
use Rattle.sml_tree.specs.Form as of
use Rattle.sml_tree.specs.Form.{Bone, B, P, Form, Part, Value, calls, family, ◌>>=◌}
use Rattle.sml_tree.specs.Grammar.{rules, class_param, action_param}
use Rattle.sml_tree.specs.declared.file.Kind.{Kind}
use Rattle.sml_tree.specs.declared.file.Kind.TheVariants.{Int, Str}
use Rattle.sml_read_parts.specs.declared.fault.Fault.TheVariants.{TooMany}
use Rattle.sml_read_parts.specs.Asks.{word_of_kind}
use Rattle.sml_read_parts.specs.Reads.{Refuses, SeesKind}
use Rattle.sml_read_parts.proofs.Heads.{Read}
use Rattle.sml_read_parts.proofs.Steps.{seen}
use Rattle.sml_tree.specs.declared.limits.TheConstants.{MAX_PARAMETERS}
use Rattle.sml_read_parts.specs.Machine.{chosen, TokenMove, Stuck, take_rule, or_else, run}

-- what a token does to a part that may not be left out
abbrev moved : (n g : Part) (more : List Bone) → (Value n → Form (Value g) more) → Piece → TokenKind → TokenMove g
moved n g more k t c = or_else (chosen (rules n) c) (take_rule n g more k t) Stuck

class_param_moved : (n : ℕ) (g : Part) (more : List Bone) (k : Value (of.ClassParam n) → Form (Value g) more) (t : Piece) (c : TokenKind)
    → moved (of.ClassParam n) g more k t c ≡ moved (of.Sort n) g _ (λ sort. class_param sort >>= k) t c
class_param_moved n g more k t Class = refl
class_param_moved n g more k t _ = refl

action_param_moved : (n : ℕ) (g : Part) (more : List Bone) (k : Value (of.ActionParam n) → Form (Value g) more) (t : Piece) (c : TokenKind)
    → moved (of.ActionParam n) g more k t c ≡ moved (of.Sort n) g _ (λ sort. action_param sort >>= k) t c
action_param_moved n g more k t Class = refl
action_param_moved n g more k t _ = refl

pub class_param_run : (n : ℕ) (g : Part) (more : List Bone) (k : Value (of.ClassParam n) → Form (Value g) more) (ts : List Piece)
    → run g (P of.ClassParams ∷ more) (calls (of.ClassParam n) k) ts ≡ run g _ (calls (of.Sort n) (λ sort. class_param sort >>= k)) ts
class_param_run n g more k [] = refl
class_param_run n g more k (t ∷ ts) = rw (class_param_moved n g more k t t.kind) refl

pub action_param_run : (n : ℕ) (g : Part) (more : List Bone) (k : Value (of.ActionParam n) → Form (Value g) more) (ts : List Piece)
    → run g (P of.ActionParams ∷ more) (calls (of.ActionParam n) k) ts ≡ run g _ (calls (of.Sort n) (λ sort. action_param sort >>= k)) ts
action_param_run n g more k [] = refl
action_param_run n g more k (t ∷ ts) = rw (action_param_moved n g more k t t.kind) refl

-- a parameter too many
pub sort_full : (kind : Kind) (n : ℕ) (t : Piece) (old new : List Piece) → old ≡ t ∷ new → SeesKind (word_of_kind kind) old → nat_lt n MAX_PARAMETERS ≡ false → Refuses (of.Sort n) old (TooMany t.at)
sort_full Int n t old new e sees full = let kind = seen IntKind t old new e sees in λ g more k. rw (e, kind, full) refl
sort_full Str n t old new e sees full = let kind = seen StringKind t old new e sees in λ g more k. rw (e, kind, full) refl

-- the kind of a parameter
pub sort_read : (kind : Kind) (n : ℕ) (t : Piece) (old new : List Piece) → old ≡ t ∷ new → SeesKind (word_of_kind kind) old → nat_lt n MAX_PARAMETERS ≡ true → Read (of.Sort n) kind old new
sort_read Int n t old new e sees room = let kind = seen IntKind t old new e sees in (omega (arith, ap length e), λ g more k. rw (e, kind, room) refl)
sort_read Str n t old new e sees room = let kind = seen StringKind t old new e sees in (omega (arith, ap length e), λ g more k. rw (e, kind, room) refl)
