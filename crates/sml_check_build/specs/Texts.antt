-- The strings that a file writes out.
use Rattle.std.specs.Prelude.{◌≡◌, ℕ, List, Some}
use Rattle.std.specs.List.{Contains}
use Rattle.sml_tree.specs.Syntax.{LiteralData, ArgData, lit, param, ItemData, class, ClassData, ActionData, ClassParamData, ActionParamData, PassedData, SendData}
use Rattle.sml_check_faults.specs.Sites.{asks, sets}
use Rattle.sml_check_faults.specs.Inside.{HasAction, HasSite}
use Rattle.sml_check_build.specs.Placed.{IsWritten}

-- a value of an argument or a `set`, if it is written out
abbrev pub ArgWritten : ArgData → Type 0
ArgWritten (lit l) = IsWritten l
ArgWritten (param n) = Unit {0}

-- each string of a file has the bytes of one
pub record HasTexts (file : List ItemData) : Type 0 where
  pub values : (c : ClassData) → Contains file (class c) → (p : ClassParamData) → Contains c.params p →
      IsWritten p.value
  pub defaults : (c : ClassData) (a : ActionData) → HasAction file c a → (p : ActionParamData) → Contains a.params p →
      (l : LiteralData) → p.default ≡ Some l → IsWritten l
  pub arguments : (c : ClassData) (a : ActionData) (s : SendData) → HasSite file c a (asks s) → (q : PassedData) →
      Contains s.args q → ArgWritten q.value
  pub given : (c : ClassData) (a : ActionData) (n : List ℕ) (v : ArgData) → HasSite file c a (sets n v) → ArgWritten v
