-- How a log begins: as the text of its domain declares it, or, where it follows another log, as its front says.
use Rattle.std.specs.Prelude.{◌≡◌, ◌++◌, ℕ, Bool, true, false, List, [], Option, Some, None, if◌then◌else◌, nat_eq}
use Rattle.std.specs.List.{starts_with}
use Rattle.sml_domain.specs.Domain.{Domain}
use Rattle.sml_load.specs.Texts.{IsDomainOfText}
use Rattle.sml_outset.specs.Standing.{StandsAs}
use Rattle.smi_carried.specs.Carried.{OnceView}
use Rattle.smi_log_front.specs.declared.first_line.LogVersion.{LogVersion}
use Rattle.smi_log_front.specs.declared.first_line.LogVersion.TheVariants.{One, Two}
use Rattle.smi_log_front.specs.Front.{FrontView}
use Rattle.smi_log_front.specs.FrontText.{front_text, log_words}
use Rattle.smi_log_front.specs.Suits.{FrontIsHeld, FrontSuits}

-- of which version a log is, by how it begins
abbrev pub version_of_log : List ℕ → LogVersion
version_of_log log = if starts_with nat_eq log (log_words Two) then Two else One

-- a front that suits the domain stands in front of a log
pub record HasFront (d : Domain) (f : FrontView) (log : List ℕ) : Type 0 where
  pub suits : FrontSuits d f
  pub held : FrontIsHeld f
  pub rest : List ℕ
  pub says : log ≡ front_text d f ++ rest

-- of which version a log with a front is, and one that has none
abbrev pub version_with : Option FrontView → LogVersion
version_with None = One
version_with (Some f) = Two

-- the domain of a text as a log begins it: as declared, or as the front of the log says
abbrev pub IsBegunBy : List ℕ → List ℕ → Option FrontView → Domain → Type 0
IsBegunBy text log None e = IsDomainOfText text e
IsBegunBy text log (Some f) e = (d : Domain) × IsDomainOfText text d × HasFront d f log × StandsAs d f.outset e

-- the names that go along into a log
abbrev pub names_before : Option FrontView → List OnceView
names_before None = []
names_before (Some f) = f.carried.names

-- how a log begins: with a front exactly where its version says so, with this domain, and with these names
pub record LogBegins (text log : List ℕ) (version : LogVersion) (d : Domain) (names : List OnceView) : Type 0 where
  pub front : Option FrontView
  pub with_front : version ≡ version_with front
  pub of_log : version ≡ version_of_log log
  pub begun : IsBegunBy text log front d
  pub carried : names ≡ names_before front
