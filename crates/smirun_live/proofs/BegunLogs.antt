-- With what a log begins, and the manager that continues it.
use Rattle.std.proofs.Common.{◌≡◌, ◌∙◌, sym, ap, refl, subst, ℕ, List, [], Option, Some, None}
use Rattle.sml_domain.specs.Domain.{Domain}
use Rattle.sml_load.specs.Texts.{IsDomainOfText}
use Rattle.smi_world.specs.World.{Setup}
use Rattle.smi_core.specs.Machines.{CoreView}
use Rattle.smi_carried.specs.Carried.{CarriedView, OnceView}
use Rattle.smi_log_front.specs.Front.{FrontView}
use Rattle.smi_log_front.specs.declared.first_line.LogVersion.{LogVersion}
use Rattle.smi_log_front.specs.declared.first_line.LogVersion.TheVariants.{One, Two}
use Rattle.smi_live_carried.specs.Recalling.{recalled_table}
use Rattle.smi_live_once.specs.Making.{Keeper}
use Rattle.smi_log_begin.specs.Begins.{IsBegunBy, version_of_log}
use Rattle.smirun_live.specs.Continuing.{BeginsLog, ContinuesLog, ContinuesWith}
use Rattle.smirun_live.specs.FirstLine.{IsHeadOf}

-- a log that follows no other begins as the text declares
pub begins_first : (text log : List ℕ) (capacity : ℕ) (declared d : Domain) (names : List OnceView) (head first : List ℕ) (v : LogVersion) →
    v ≡ version_of_log log → v ≡ One → IsDomainOfText text declared → d ≡ declared → names ≡ [] → IsHeadOf text One capacity head → first ≡ head →
    BeginsLog text log capacity d names first
begins_first text log capacity declared d names head first v of one is same none said copied = record {
  version = One;
  begins = record {
    front = None;
    with_front = refl;
    of_log = sym one ∙ of;
    begun = subst (IsDomainOfText text) (sym same) is;
    carried = none;
  };
  head = subst (IsHeadOf text One capacity) (sym copied) said;
}

-- one that follows another begins as its front says
pub begins_next : (text log : List ℕ) (capacity : ℕ) (d : Domain) (carried : CarriedView) (first : List ℕ) (v : LogVersion) (f : FrontView) →
    v ≡ version_of_log log → v ≡ Two → IsBegunBy text log (Some f) d → carried ≡ f.carried → IsHeadOf text Two capacity first →
    BeginsLog text log capacity d carried.names first
begins_next text log capacity d carried first v f of two begun same said = record {
  version = Two;
  begins = record {
    front = Some f;
    with_front = refl;
    of_log = sym two ∙ of;
    begun = begun;
    carried = ap (λ (c : CarriedView). c.names) same;
  };
  head = said;
}

-- a manager of what a log begins with, after its lines
pub continues_log : (text log : List ℕ) (capacity : ℕ) (d : Domain) (names : List OnceView) (first : List ℕ) (m : Setup) (k : Keeper CoreView) →
    BeginsLog text log capacity d names first → m.domain ≡ d → m.capacity ≡ capacity → ContinuesWith m (recalled_table names) first log k →
    ContinuesLog text log m k
continues_log text log capacity d names first m k begun same room after = record {
  names = names;
  first = first;
  begun = subst (λ c. BeginsLog text log c m.domain names first) (sym room) (subst (λ e. BeginsLog text log capacity e names first) (sym same) begun);
  after = after;
}
