-- An example: tests of a lamp, of its set, and of a set without members.
use Rattle.std.specs.Prelude.{ℕ, ◌==◌, Bool, true, false, List, [], ◌∷◌, Option, Some, None, codes, if◌then◌else◌}
use Rattle.sml_tree.specs.declared.cond.Scope.{Scope}
use Rattle.sml_tree.specs.declared.cond.Scope.TheVariants.{One, All, Any}
use Rattle.sml_tree.specs.Syntax.{ItemData, class, object, group, StateData, CondData, both, either, neither, test}
use Rattle.sml_domain.specs.Names.{same_name}

-- a state without actions
abbrev pub lamp_state : List ℕ → StateData
lamp_state name = record { name = name; initial = false; dead = false; actions = [] }

-- the lamp L, which is on or off, the set of it, and an empty one
abbrev pub file : List ItemData
file =
    class (record {
      name = codes "LAMP";
      associated = false;
      params = [];
      states =
          lamp_state (codes "ON") ∷ lamp_state (codes "OFF") ∷ [];
    })
    ∷ object (record { name = codes "L"; class = codes "LAMP" })
    ∷ group (record { name = codes "LAMPS"; members = codes "L" ∷ [] })
    ∷ group (record { name = codes "NONE"; members = [] })
    ∷ []

-- what was read of the lamp: OFF
abbrev pub lamp_off : List ℕ → Option (List ℕ)
lamp_off x = if same_name x (codes "L") then Some (codes "OFF") else None

-- the same by numbers
abbrev pub second : ℕ → Option ℕ
second o = if o == 0 then Some 1 else None

-- the members of the sets by their numbers
abbrev pub members : ℕ → List ℕ
members set = if set == 0 then 0 ∷ [] else []

-- a test
abbrev pub asking : Scope → List ℕ → Bool → List (List ℕ) → CondData
asking scope name negated states = test (record { scope = scope; name = name; negated = negated; states = states })

-- two states, of which nobody declares the first
abbrev pub states : List (List ℕ)
states = codes "BROKEN" ∷ codes "OFF" ∷ []

-- conditions that are true where the lamp is off
abbrev pub true_of_off : List CondData
true_of_off =
    asking One (codes "L") false states
    ∷ asking One (codes "L") true (codes "ON" ∷ [])
    ∷ asking All (codes "LAMPS") false states
    ∷ asking Any (codes "LAMPS") true (codes "ON" ∷ codes "BROKEN" ∷ [])
    ∷ asking All (codes "NONE") false (codes "BROKEN" ∷ [])
    ∷ asking All (codes "NONE") true (codes "BROKEN" ∷ [])
    ∷ either (asking One (codes "L") false (codes "ON" ∷ [])) (neither (asking Any (codes "NONE") true states))
    ∷ []

-- conditions that are not
abbrev pub false_of_off : List CondData
false_of_off =
    asking One (codes "L") false (codes "ON" ∷ codes "BROKEN" ∷ [])
    ∷ asking One (codes "L") true states
    ∷ asking All (codes "LAMPS") true states
    ∷ asking Any (codes "LAMPS") false (codes "BROKEN" ∷ [])
    ∷ asking Any (codes "NONE") false (codes "BROKEN" ∷ [])
    ∷ asking Any (codes "NONE") true (codes "BROKEN" ∷ [])
    ∷ both (asking One (codes "L") false states) (neither (asking All (codes "NONE") false states))
    ∷ []
