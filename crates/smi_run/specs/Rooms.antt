-- What a run returns.
use Rattle.std.specs.Prelude.{◌≡◌, ◌⊎◌, List, [], length}
use Rattle.smi_run_runtime.specs.Sessions.{SessionBook}

-- of a run without a report either the sessions are returned as they were, none of which has left, or as many that have
-- left
abbrev pub ComeBack : List SessionBook → List SessionBook → List SessionBook → Type 0
ComeBack sessions back closed =
    ((back ≡ sessions) × (closed ≡ [])) ⊎ ((back ≡ []) × (length closed ≡ length sessions))
