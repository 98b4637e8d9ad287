-- What workers have in hand.
use Rattle.std.specs.Prelude.{◌≡◌, ◌<◌, ℕ, length, Option, Some, None}
use Rattle.sml_domain.specs.Domain.{Domain}
use Rattle.smi_interp.specs.Task.{TaskView}
use Rattle.smi_board.specs.declared.resuming.Work.{Work}
use Rattle.smi_board.specs.declared.resuming.Work.TheVariants.{Resume, Start}
use Rattle.smi_run_shared.specs.declared.job.Job.{Job}
use Rattle.smi_run_shared.specs.declared.job.Job.TheVariants.{Move, Perform, Again, Rest, Memory}

-- a task of an object of a domain
abbrev pub IsTaskIn : Domain → TaskView → Type 0
IsTaskIn d t = (t.domain ≡ d) × (t.turn.object < length d.objects)

-- a job at an object of a domain
abbrev pub IsJobIn : Domain → Job → Type 0
IsJobIn d (Move t) = IsTaskIn d t
IsJobIn d (Perform o s) = o < length d.objects
IsJobIn d Again = Unit {0}
IsJobIn d Rest = Unit {0}
IsJobIn d Memory = Unit {0}

-- the object at which work is a start
abbrev pub object_started : Work → Option ℕ
object_started (Start o) = Some o
object_started (Resume t) = None
