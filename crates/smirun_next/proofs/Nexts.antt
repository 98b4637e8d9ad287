-- What is said of the log that follows one.
use Rattle.std.proofs.Common.{◌≡◌, ◌∙◌, sym, subst, ℕ, List, Option, Some, None}
use Rattle.std.specs.Prelude.{IfNone}
use Rattle.sml_domain.specs.Domain.{Domain}
use Rattle.smi_carried.specs.declared.carried.CarriedCounts.{CarriedCounts}
use Rattle.smi_log_front.specs.declared.first_line.LogVersion.{LogVersion}
use Rattle.smi_log_front.specs.declared.first_line.LogVersion.TheVariants.{Two}
use Rattle.smi_log_front.specs.Front.{FrontView}
use Rattle.smi_log_begin.specs.Begins.{HasFront, version_of_log}
use Rattle.smirun_next.specs.NextLogs.{AreCountsBefore, AreCountsBy}

-- the counts of a front are those before the log that it stands in front of
pub counts_of_front : (d : Domain) (log : List ℕ) (v : LogVersion) (counts : List CarriedCounts) (f : FrontView) →
    v ≡ version_of_log log → v ≡ Two → HasFront d f log → counts ≡ f.carried.counts → AreCountsBefore d log counts
counts_of_front d log v counts f of two has same = subst (AreCountsBy d log counts) (sym two ∙ of) (f, has, same)

-- what follows where there is none
pub none_by : {A : Type 0} (P Q : Type 0) → (P → Q) → (o : Option A) → IfNone o P → IfNone o Q
none_by P Q f None h = f h
none_by P Q f (Some x) h = tt

-- where there is none
pub none_there : {A : Type 0} (o : Option A) (P : Type 0) → o ≡ None → IfNone o P → P
none_there o P is h = subst (λ x. IfNone x P) is h
