-- Tables by the numbers of objects, in which each look-up costs the same.
use Rattle.std.specs.Prelude.{◌≡◌, ◌<◌, ℕ, Bool, false, List, Option, None, get_or, length, nat_eq}
use Rattle.std.specs.List.{list_any}
use Rattle.smi_log_front.specs.declared.front.FrontKill.{FrontKill}
use Rattle.smi_front_moved.specs.Moving.{MovingView, front_killer}

-- for each object a mark, whether it is among these
pub record AreMarkedOf (n : ℕ) (objects : List ℕ) (marks : List Bool) : Type 0 where
  pub count : length marks ≡ n
  pub each : (o : ℕ) → o < n → get_or marks o false ≡ list_any (nat_eq o) objects

-- for each object the session that kills it again by these kills, if one does
pub record AreKillers (n : ℕ) (kills : List FrontKill) (killers : List (Option ℕ)) : Type 0 where
  pub count : length killers ≡ n
  pub each : (p : ℕ) → p < n → get_or killers p None ≡ front_killer kills p

-- so it is with the objects of the old domain and the kills of its front
abbrev pub AreKillersOf : MovingView → List (Option ℕ) → Type 0
AreKillersOf m killers = AreKillers (length m.old.objects) m.front.kills killers
