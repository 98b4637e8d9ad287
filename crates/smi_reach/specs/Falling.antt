-- Whether a block comes to its end, and the states in which it ends otherwise.
use Rattle.std.specs.Prelude.{ℕ, Bool, true, false, ◌&&◌, ◌||◌, List, [], ◌∷◌, ◌++◌, if◌then◌else◌}
use Rattle.sml_domain.specs.Program.{Program, Nothing, SetThen, SendThen, SendNoneThen, IfThen, EndIn, TerminateIn, WaitThen, ChangeThen}

-- whether some way through a block comes to its end: through an `if` by one of its branches
abbrev pub falls_through : Program → Bool
falls_through Nothing = true
falls_through (EndIn s) = false
falls_through (TerminateIn s) = false
falls_through (SetThen p x rest) = falls_through rest
falls_through (SendThen target a args rest) = falls_through rest
falls_through (SendNoneThen set rest) = falls_through rest
falls_through (IfThen f p q rest) = (falls_through p || falls_through q) && falls_through rest
falls_through (WaitThen names rest) = falls_through rest
falls_through (ChangeThen add member set rest) = falls_through rest

-- the states in which ways through a block end
-- what follows an `if` counts only if one of its branches comes to its end
abbrev pub ends_of : Program → List ℕ
ends_of Nothing = []
ends_of (EndIn s) = s ∷ []
ends_of (TerminateIn s) = s ∷ []
ends_of (SetThen p x rest) = ends_of rest
ends_of (SendThen target a args rest) = ends_of rest
ends_of (SendNoneThen set rest) = ends_of rest
ends_of (IfThen f p q rest) =
    (if falls_through p || falls_through q then ends_of rest else []) ++ (ends_of p ++ ends_of q)
ends_of (WaitThen names rest) = ends_of rest
ends_of (ChangeThen add member set rest) = ends_of rest
