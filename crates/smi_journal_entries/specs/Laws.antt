-- The laws of journals and of arguments.
use Rattle.std.specs.Prelude.{◌≡◌, ◌<◌, ℕ, Bool, List, [], ◌∷◌, ◌++◌, Some, All, length, map, false, true}
use Rattle.sml_domain.specs.declared.value.Value.{Value}
use Rattle.sml_domain.specs.Lookups.{members_at}
use Rattle.sml_domain.specs.Names.{AreDistinct}
use Rattle.sml_domain.specs.Program.{Operand, Argument}
use Rattle.sml_domain.specs.Domain.{Domain, Param}
use Rattle.sml_domain.specs.Sound.{ParamFits, name_of_param, IsSound}
use Rattle.sml_domain.specs.Completing.{Passed, complete}
use Rattle.sml_domain.specs.Fits.{ArgumentsFit, name_of_argument}
use Rattle.sml_domain.specs.Laws.{passed_as, KeepsKinds}
use Rattle.smi_journal_entries.specs.declared.entry.Entry.{Entry}
use Rattle.smi_journal_entries.specs.Fits.{are_values_of}
use Rattle.smi_journal_entries.specs.BadArguments.{are_bad}
use Rattle.smi_journal_entries.specs.Sets.{Sets, unchanged, members_in, with_change, sets_next, sets_after, AreOf}
use Rattle.smi_journal_entries.specs.Words as says

-- what one more entry does to each word of a journal
pub record OneMore (J : List Entry) (e : Entry) : Type 0 where
  pub all : says.all_starts (J ++ e ∷ []) ≡ says.all_starts J ++ says.any_start e
  pub starts : (o : ℕ) → says.starts_at o (J ++ e ∷ []) ≡ says.starts_at o J ++ says.start_in o e
  pub posts : (a b : ℕ) → says.posts_between a b (J ++ e ∷ []) ≡ says.posts_between a b J ++ says.post_in a b e
  pub opened : (o : ℕ) → says.open_at o (J ++ e ∷ []) ≡ says.open_next o (says.open_at o J) e
  pub state : (o first dead : ℕ) → says.state_after o first dead (J ++ e ∷ [])
      ≡ says.state_next o dead (says.state_after o first dead J) e
  pub sets : (d : Domain) → sets_after d (J ++ e ∷ []) ≡ sets_next d (sets_after d J) e
  pub shown : (d : Domain) (o : ℕ) → says.shown_of d o (J ++ e ∷ []) ≡ says.shown_next o (sets_after d J)
      (says.shown_of d o J) e
  pub waits : (o : ℕ) → says.waits_at o (J ++ e ∷ []) ≡ says.waits_next o (says.waits_at o J) e
  pub killed : (o : ℕ) → says.killed_at o (J ++ e ∷ []) ≡ says.killed_next o (length J) (says.killed_at o J) e

-- complete arguments are values of their parameters
abbrev pub CompleteFits : Type 0
CompleteFits = (params : List Param) (passed : List Passed) (args : List Value) → All ParamFits params
    → AreDistinct (map name_of_param params) → are_bad params passed ≡ false → map Some args ≡ complete params passed
    → are_values_of params args ≡ true

-- arguments that fit parameters, no two of them of one name, are complete once they have their values
abbrev pub FittingIsGood : Type 0
FittingIsGood = (own given params : List Param) (args : List Argument) (value : Operand → Value)
    → KeepsKinds own given value → AreDistinct (map name_of_argument args) → ArgumentsFit own given args params
    → are_bad params (map (passed_as value) args) ≡ false

-- before any change the members of each set are the declared ones
abbrev pub BeginDeclared : Type 0
BeginDeclared = (d : Domain) (set : ℕ) → members_in d (unchanged d) set ≡ members_at d set

-- and each set has objects of its domain, none of them twice
abbrev pub BeginOf : Type 0
BeginOf = (d : Domain) → IsSound d → AreOf d (unchanged d)

-- it does so after a change by an object of the domain
abbrev pub ChangesAreOf : Type 0
ChangesAreOf = (d : Domain) (sets : Sets) (add : Bool) (o set : ℕ) → o < length d.objects → AreOf d sets →
    AreOf d (with_change d sets add o set)
