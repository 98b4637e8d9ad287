-- For whom the open action of an object waits.
use Rattle.std.specs.Prelude.{◌≡◌, ◌⊎◌, ℕ, true, false, List, []}
use Rattle.sml_domain.specs.Lookups.{associated_at}
use Rattle.sml_domain.specs.Program.{Program}
use Rattle.smi_journal_entries.specs.Sets.{sets_after}
use Rattle.smi_journal_entries.specs.Words.{is_open}
use Rattle.smi_meaning.specs.Environment.{Env}
use Rattle.smi_meaning.specs.Params.{env_of}
use Rattle.smi_meaning.specs.Steps.{Leads}
use Rattle.smi_interp.specs.Ahead.{names_ahead}
use Rattle.smi_interp.specs.Expanded.{objects_by_names}
use Rattle.smi_board.specs.Awaiting.{in_the_way}
use Rattle.smi_world.specs.World.{Setup, World, moves_of}
use Rattle.smi_world.specs.Moves.{Runs}

-- the moves of the open action lead to what is left of it; the next `if` or `wait` there, before which `set`s alone may
-- come, names these objects, by the members that sets have now, and they are not clear
pub record OpenWaitsFor (m : Setup) (w : World) (o : ℕ) (objects : List ℕ) : Type 0 where
  pub logical : associated_at m.domain o ≡ false
  pub action : Runs m.domain w.journal o
  pub left : Program
  pub env : Env
  pub leads : Leads m.domain action.run.program (env_of action.own action.run) (moves_of o w) left env
  pub are : objects
      ≡ in_the_way w.journal o (objects_by_names m.domain (sets_after m.domain w.journal) (names_ahead left))

-- no action is open at an object, or a device performs it
abbrev pub RunsNoAction : Setup → World → ℕ → Type 0
RunsNoAction m w o = (is_open o w.journal ≡ false) ⊎ (associated_at m.domain o ≡ true)

-- an object waits for these others, each once: where it runs no action, for none
abbrev pub WaitsForAt : Setup → World → ℕ → List ℕ → Type 0
WaitsForAt m w o objects = OpenWaitsFor m w o objects ⊎ (RunsNoAction m w o × (objects ≡ []))
