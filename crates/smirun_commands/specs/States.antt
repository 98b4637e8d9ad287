-- What is told of how all stood behind the first lines of a journal.
use Rattle.std.specs.Prelude.{◌≡◌, ◌⊎◌, ◌==◌, ℕ, Bool, List, [], ◌∷◌, ◌++◌, Option, codes, filter, length}
use Rattle.sml_text.specs.Written.{Wrote}
use Rattle.sml_domain.specs.Domain.{Domain}
use Rattle.smi_audit_rules.specs.declared.rule.Rule.{Rule}
use Rattle.smi_audit.specs.declared.judgement.Judgement.TheVariants.{Illegal}
use Rattle.smi_audit.specs.Audit.{Judges}
use Rattle.smi_audit.specs.JudgementText.{ruling_text}
use Rattle.smi_audit.specs.Pasts.{IsPastOf}
use Rattle.smi_audit.specs.Views.{PastView}
use Rattle.show_states.specs.StandingText.{TellsStanding}

-- how all stood behind a legal journal was written
pub record WritesStanding (d : Domain) (bytes : List ℕ) (old new : Option (List ℕ)) : Type 0 where
  pub past : PastView
  pub is_past : IsPastOf d bytes past
  pub text : List ℕ
  pub tells : TellsStanding past.format d past.books.journal text
  pub wrote : Wrote old new text

-- that a journal is not legal was written, with its first broken line and the first rule broken there
pub record WritesIllegal (d : Domain) (bytes : List ℕ) (old new : Option (List ℕ)) : Type 0 where
  pub line : ℕ
  pub rule : Rule
  pub judged : Judges d bytes (Illegal line rule)
  pub wrote : Wrote old new (ruling_text (Illegal line rule) ++ codes "\n")

-- how all stood was written, with status 0, or that the journal is not legal, with status 4
abbrev pub WritesStates : Domain → List ℕ → ℕ → Option (List ℕ) → Option (List ℕ) → Type 0
WritesStates d bytes status old new =
    ((status ≡ 0) × WritesStanding d bytes old new) ⊎ ((status ≡ 4) × WritesIllegal d bytes old new)

-- whether a byte ends a line
abbrev pub ends_line : ℕ → Bool
ends_line b = b == 10

-- how many lines end in a text
abbrev pub ended_lines : List ℕ → ℕ
ended_lines text = length (filter ends_line text)

-- a prefix of a text is its first lines, this many
pub record AreFirstLines (text : List ℕ) (count : ℕ) (front : List ℕ) : Type 0 where
  pub rest : List ℕ
  pub split : text ≡ front ++ rest
  pub lines : ended_lines front ≡ count
  pub before : List ℕ
  pub ends : front ≡ before ++ 10 ∷ []
