use Rattle.std.proofs.Common.{◌≡◌, take}
use Rattle.smi_live_carried.specs.Recalling.{recalled_from}
use Rattle.smi_log_begin.proofs.recalling.recall_all.Given as goal

-- the names before were told
abbrev pub invariant-loop-once : goal.invariant-loop-once
invariant-loop-once g l =
    l.manager ≡ record l.fn.manager { told = recalled_from l.fn.manager.told (take l.once-index l.names) }
