-- What was told last to each of those who ask for requests that are made once.
use Rattle.std.specs.Prelude.{◌≡◌, ◌<◌, ◌==◌, ◌⊎◌, ◌++◌, ℕ, Bool, List, [], ◌∷◌, Option, Some, None, nat_le, length, if◌then◌else◌, slice_set}
use Rattle.sml_text.specs.Lines.{Outputs}
use Rattle.std.specs.Cmp.Lexicographic.{pointwise}
use Rattle.std.specs.Prelude.{nat_eq}
use Rattle.smi_live_once.specs.declared.table.Verdict.{Verdict}
use Rattle.smi_live_once.specs.declared.table.Verdict.TheVariants.{New, Again, Old, TooMany}
use Rattle.smi_live_once.specs.declared.table.TheConstants.{MOST_NAMES}
use Rattle.smi_live_once.specs.Forms.{IsMarked, IsUnmarked}

-- the last number of a name, and what was told
pub record OnceTold : Type 0 where
  pub name : List ℕ
  pub number : ℕ
  pub answer : List ℕ

-- what was told last to each name, in the order in which they first asked
pub record OnceTable : Type 0 where
  pub told : List OnceTold

-- whether two texts are one
abbrev pub same_bytes : List ℕ → List ℕ → Bool
same_bytes x y = pointwise nat_eq x y

-- what was told last to a name
abbrev pub told_to : List OnceTold → List ℕ → Option OnceTold
told_to [] name = None
told_to (t ∷ ts) name = if same_bytes t.name name then Some t else told_to ts name

-- this is the last that was told to its name
abbrev pub with_last_told : List OnceTold → OnceTold → List OnceTold
with_last_told [] x = x ∷ []
with_last_told (t ∷ ts) x = if same_bytes t.name x.name then x ∷ ts else t ∷ with_last_told ts x

-- so it is put at a place: in the place of what was told to its name, or after all others
abbrev pub IsPutAt : List OnceTold → OnceTold → ℕ → List OnceTold → Type 0
IsPutAt ts x p ts2 = ((p < length ts) × (ts2 ≡ slice_set ts p x)) ⊎ ((p ≡ length ts) × (ts2 ≡ ts ++ x ∷ []))

-- what is to be done about a number of a name to which that was told last, among so many names
abbrev pub verdict_on : Option OnceTold → ℕ → ℕ → Verdict
verdict_on None count number = if nat_le MOST_NAMES count then TooMany else New
verdict_on (Some t) count number =
    if nat_eq number t.number then Again else if nat_le number t.number then Old else New

-- what is to be done about a number of a name
abbrev pub verdict_in : List OnceTold → List ℕ → ℕ → Verdict
verdict_in ts name number = verdict_on (told_to ts name) (length ts) number

-- a line of a log wrote this, and what was told to whom is then another: what a line with a mark writes is told to its
-- name, whose number is new. Any other line changes nothing
abbrev pub NotesTold : List OnceTold → List ℕ → List ℕ → List OnceTold → Type 0
NotesTold ts line out ts2 =
    ((name : List ℕ) × (number : ℕ) × IsMarked line name number × (verdict_in ts name number ≡ New)
    × (ts2 ≡ with_last_told ts (record { name = name; number = number; answer = out })))
    ⊎ (IsUnmarked line × (ts2 ≡ ts))
