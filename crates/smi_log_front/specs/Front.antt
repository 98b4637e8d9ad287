-- The front of a log of version 2.
use Rattle.std.specs.Prelude.{ℕ, List}
use Rattle.sml_outset.specs.Outset.{Outset}
use Rattle.smi_carried.specs.Carried.{CarriedView}
use Rattle.smi_log_front.specs.declared.front.FrontKill.{FrontKill}

-- of which domain the log is and with which room, how all stands, what goes along, which objects are dead, and after
-- which log it comes
pub record FrontView : Type 0 where
  pub domain_sum : List ℕ
  pub capacity : ℕ
  pub outset : Outset
  pub carried : CarriedView
  pub kills : List FrontKill
  pub log_sum : List ℕ
