-- What the grammar derives from the tokens of a text can be written again.
use Rattle.std.proofs.Common.{ℕ, List, [], ◌∷◌, IfSome, arith}
use Rattle.std.specs.List.{AllByRecursion}
use Rattle.sml_tree.specs.declared.token_kind.TokenKind.TheVariants.{Name, Equals}
use Rattle.sml_tree.specs.Content.{block_of}
use Rattle.sml_tree.specs.Syntax.{ItemData}
use Rattle.sml_tree.specs.Form as of
use Rattle.sml_tree.specs.Form.{B, P, part, Part, Value}
use Rattle.sml_tree.specs.Grammar.{unit_rules, conj_rules, kind_rules, class_param, action_param}
use Rattle.sml_tree.specs.Piece.{Piece}
use Rattle.sml_tree.specs.Derive.{fine, IsFile}
use Rattle.sml_tree.proofs.Marks.{◌⨾◌}
use Rattle.sml_round_trip.specs.Writable.{IsWritableName, IsLiteral, IsArg, IsPassed, IsWaited, AreNamed, IsWritableCond, IsWritableInstr, IsWritableBlock, IsClassParam, IsActionParam, IsWritableAction, IsWritableState, IsWritable}
use Rattle.sml_round_trip.proofs.Real.{IsReal, name_real, int_real, bytes_real}
use Rattle.sml_round_trip.proofs.Held.{Holding, EachHolds, free_holding, begun_holding, AllReal, part_held}

abbrev pub Writable : (n : Part) → Value n → Type 0
Writable (of.File classes objects sets) v = IsWritable v
Writable of.ClassParamList v = AllByRecursion IsClassParam v
Writable (of.ClassParam n) v = IsClassParam v
Writable (of.MoreClassParam n) v = AllByRecursion IsClassParam v
Writable of.Literal v = IsLiteral v
Writable (of.State n) v = AllByRecursion IsWritableState v
Writable (of.Action n) v = AllByRecursion IsWritableAction v
Writable of.ActionParamList v = AllByRecursion IsActionParam v
Writable (of.ActionParam n) v = IsActionParam v
Writable (of.MoreActionParam n) v = AllByRecursion IsActionParam v
Writable of.Default v = IfSome v IsLiteral
Writable (of.Block depth) v = IsWritableBlock (block_of v)
Writable of.ArgList v = AllByRecursion IsPassed v
Writable (of.Passed n) v = IsPassed v
Writable (of.MorePassedArg n) v = AllByRecursion IsPassed v
Writable (of.Waited n) v = IsWaited v
Writable (of.MoreWaited n) v = AllByRecursion IsWaited v
Writable of.Arg v = IsArg v
Writable (of.Branch depth) v = IsWritableInstr v
Writable (of.Arm depth) v = IsWritableBlock (block_of v.yes_part) × IsWritableBlock (block_of v.no_part)
Writable (of.Else depth) v = IsWritableBlock (block_of v)
Writable (of.Cond depth n) v = IsWritableCond v.formula
Writable (of.Conj depth n) v = IsWritableCond v.formula
Writable (of.Unit' depth n) v = IsWritableCond v.formula
Writable (of.MoreAnd depth n left) v = IsWritableCond left → IsWritableCond v.formula
Writable (of.MoreOr depth n left) v = IsWritableCond left → IsWritableCond v.formula
Writable of.StateList v = AreNamed v
Writable of.Names v = AreNamed v
Writable (of.MoreName n) v = AllByRecursion IsWritableName v
Writable of.Members v = AllByRecursion IsWritableName v
Writable (of.MoreMember n) v = AllByRecursion IsWritableName v
Writable _ v = Unit {0}

sorts : (n : ℕ) → EachHolds Writable (of.Sort n) (kind_rules n)
sorts n = (λ _ _ _. tt, (λ _ _ _. tt, tt))

units : (d n : ℕ) → EachHolds Writable (of.Unit' d n) (unit_rules d n)
units d n =
    (λ _ _ _ w x. x)
    ⨾ (λ _ _ _ w x _ _ _. x)
    ⨾ (λ t e r s _ l y. (name_real t e r, y))
    ⨾ (λ _ _ _ t e r s _ l y. (name_real t e r, y))
    ⨾ (λ _ _ _ t e r s _ l y. (name_real t e r, y))
    ⨾ tt

conjs : (d n : ℕ) → EachHolds Writable (of.Conj d n) (conj_rules d n)
conjs d n =
    begun_holding Writable (of.Unit' d n) (of.Conj d n) (P of.MoreAnds ∷ []) (λ u. part (of.MoreAnd d u.count u.formula)) (unit_rules d n) (units d n)
    (λ w x v y. y x)

all_writable : (n : Part) → Holding Writable n
all_writable (of.File classes objects sets) = (
  tt,
  (λ _ _ _ _ _ _ t e r a _ ps p ss x file y. ((name_real t e r, p, x), y))
      ⨾ (λ _ _ _ _ _ _ t e r _ _ _ u i q file y. ((name_real t e r, name_real u i q), y))
      ⨾ (λ _ _ _ _ _ _ t e r _ _ _ ms x _ _ _ file y. ((name_real t e r, x), y))
      ⨾ tt,
)
all_writable of.ClassParamList = (tt, (λ _ _ _ _ _ _ first x others y. (x, y), tt))
all_writable (of.ClassParam n) = (
  tt,
  begun_holding Writable (of.Sort n) (of.ClassParam n) (B Name ∷ B Equals ∷ P of.Literals ∷ []) class_param (kind_rules n) (sorts n) (λ w _ t e r _ _ _ l x. (name_real t e r, x)),
)
all_writable (of.MoreClassParam n) = (tt, (λ _ _ _ first x others y. (x, y), tt))
all_writable of.Literal = (tt, (λ t e r. int_real t e r, (λ t e r. bytes_real t e r, tt)))
all_writable (of.State n) = (tt, (λ _ _ _ _ _ _ t e r marks _ actions x others y. ((name_real t e r, x), y), tt))
all_writable (of.Action n) = (tt, (λ _ _ _ _ _ _ t e r params p body x others y. ((name_real t e r, p, x), y), tt))
all_writable of.ActionParamList = (tt, (λ _ _ _ first x others y _ _ _. (x, y), tt))
all_writable (of.ActionParam n) = (
  tt,
  begun_holding Writable (of.Sort n) (of.ActionParam n) (B Name ∷ P of.Defaults ∷ []) action_param (kind_rules n) (sorts n) (λ w _ t e r l x. (name_real t e r, x)),
)
all_writable (of.MoreActionParam n) = (tt, (λ _ _ _ first x others y. (x, y), tt))
all_writable of.Default = (tt, (λ _ _ _ l x. x, tt))
all_writable (of.Block d) = (
  tt,
  (λ _ _ _ t e r args x every _ u i q block y. ((name_real t e r, x, name_real u i q), y))
      ⨾ (λ _ _ _ branch x block y. (x, y))
      ⨾ (λ _ _ _ t e r _ _ _ value x block y. ((name_real t e r, x), y))
      ⨾ (λ _ _ _ t e r block y. (name_real t e r, y))
      ⨾ (λ _ _ _ _ _ _ _ _ _ _ _ _ t e r block y. (name_real t e r, y))
      ⨾ (λ _ _ _ _ _ _ first x others y _ _ _ block z. ((omega arith, (x, y)), z))
      ⨾ (λ _ _ _ t e r _ _ _ u i q block y. ((name_real t e r, name_real u i q), y))
      ⨾ (λ _ _ _ t e r _ _ _ u i q block y. ((name_real t e r, name_real u i q), y))
      ⨾ tt,
)
all_writable of.ArgList = (tt, (λ _ _ _ first x others y _ _ _. (x, y), tt))
all_writable (of.Passed n) = (tt, (λ t e r _ _ _ value x. (name_real t e r, x), tt))
all_writable (of.MorePassedArg n) = (tt, (λ _ _ _ first x others y. (x, y), tt))
all_writable (of.Waited n) = (tt, (λ t e r. name_real t e r, (λ _ _ _ t e r. name_real t e r, tt)))
all_writable (of.MoreWaited n) = (tt, (λ _ _ _ first x others y. (x, y), tt))
all_writable of.Arg = (tt, (λ t e r. int_real t e r) ⨾ (λ t e r. bytes_real t e r) ⨾ (λ t e r. name_real t e r) ⨾ tt)
all_writable (of.Branch d) = (tt, (λ _ _ _ c x _ _ _ arms y. (x, y.0, y.1), tt))
all_writable (of.Arm d) = (tt, (λ _ _ _ first x second y _ _ _. (x, y), tt))
all_writable (of.Else d) = (tt, (λ _ _ _ block x. x, tt))
all_writable (of.Cond d n) = (
  tt,
  begun_holding Writable (of.Conj d n) (of.Cond d n) (P of.MoreOrs ∷ []) (λ u. part (of.MoreOr d u.count u.formula)) (conj_rules d n) (conjs d n) (λ w x v y. y x),
)
all_writable (of.Conj d n) = (tt, conjs d n)
all_writable (of.Unit' d n) = (tt, units d n)
all_writable (of.MoreAnd d n left) = (λ h. h, (λ _ _ _ w x v y h. y (h, x), tt))
all_writable (of.MoreOr d n left) = (λ h. h, (λ _ _ _ w x v y h. y (h, x), tt))
all_writable of.StateList = (tt, (λ t e r. (omega arith, (name_real t e r, tt)), (λ _ _ _ list x _ _ _. x, tt)))
all_writable of.Names = (tt, (λ t e r others x. (omega arith, (name_real t e r, x)), tt))
all_writable (of.MoreName n) = (tt, (λ _ _ _ t e r others x. (name_real t e r, x), tt))
all_writable of.Members = (tt, (λ t e r others x. (name_real t e r, x), tt))
all_writable (of.MoreMember n) = (tt, (λ _ _ _ t e r others x. (name_real t e r, x), tt))
all_writable n = free_holding Writable n (λ v. tt)

fine_real : (ts : List Piece) → AllByRecursion IsReal ts → AllReal (fine ts)
fine_real [] h = tt
fine_real (t ∷ ts) h = (h.0, fine_real ts h.1)

pub file_writable : (ts : List Piece) (file : List ItemData) → AllByRecursion IsReal ts → IsFile ts file → IsWritable file
file_writable ts file real d = part_held Writable all_writable (of.File 0 0 0) (fine ts) file d (fine_real ts real)
