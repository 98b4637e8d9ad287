-- Tables of causes for which something is refused, in their order.
use Rattle.std.specs.Prelude.{Bool, false, ◌&&◌, ◌||◌, not, List, [], ◌∷◌, Option, find}

-- the first cause that stands. Out of memory is not a cause that stands
abbrev pub first_standing : {E : Type 0} → (E → Bool) → List E → Option E
first_standing stands order = find stands order

-- whether out of memory is among the causes, and no cause before it stands
abbrev pub reaches_memory : {E : Type 0} → (E → Bool) → (E → Bool) → List E → Bool
reaches_memory is_memory stands [] = false
reaches_memory is_memory stands (e ∷ more) = is_memory e || (not (stands e) && reaches_memory is_memory stands more)
