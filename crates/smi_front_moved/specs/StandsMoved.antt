-- How objects stand in the new domain.
use Rattle.std.specs.Prelude.{ℕ, List, [], Option, None, Some, find, is_some, length, map, option_map, slice_get, unwrap_or, if◌then◌else◌}
use Rattle.std.specs.List.{range_with_len}
use Rattle.std.specs.Option.{option_and_then, option_map_or}
use Rattle.sml_tree.specs.declared.file.Kind.{Kind}
use Rattle.sml_tree.specs.Kinds.{same_kind}
use Rattle.sml_domain.specs.declared.value.Value.{Value}
use Rattle.sml_domain.specs.Completing.{value_or}
use Rattle.sml_domain.specs.Domain.{Param}
use Rattle.sml_domain.specs.Fits.{names_param}
use Rattle.sml_domain.specs.Lookups.{class_params_at}
use Rattle.sml_outset.specs.Outset.{Stand}
use Rattle.smi_front_moved.specs.Others.{declared_dead, declared_state, state_as}
use Rattle.smi_front_moved.specs.Moving.{MovingView, goes_on_from, front_killer}

-- the state of a stand
abbrev pub stood_in : Stand → ℕ
stood_in x = x.state

-- its parameters
abbrev pub params_of_stand : Stand → List Param
params_of_stand x = x.params

-- the state of the new domain's object that has the name of the state in which one of the old domain stands
abbrev pub state_on : MovingView → ℕ → ℕ → Option ℕ
state_on m o p =
    option_and_then (state_as m.old m.new o) (option_map stood_in (slice_get m.front.outset.stands p))

-- the state in which an object goes on: one that is killed again in its dead state, whatever that is called
abbrev pub state_going_on : MovingView → ℕ → ℕ → Option ℕ
state_going_on m o p =
    if is_some (front_killer m.front.kills p) then Some (declared_dead m.new o) else state_on m o p

-- the state of an object of the new domain: that in which it goes on, or its declared one
abbrev pub state_moved : MovingView → ℕ → ℕ
state_moved m o = unwrap_or (option_and_then (state_going_on m o) (goes_on_from m o)) (declared_state m.new o)

-- the value of a parameter, if it is one of the kind
abbrev pub value_of_kind : Kind → Param → Option Value
value_of_kind kind given = if same_kind given.kind kind then given.value else None

-- the value of the one of these that has the name of a parameter, if it has its kind
abbrev pub value_among : List Param → Param → Option Value
value_among given p = option_and_then (value_of_kind p.kind) (find (names_param p.name) given)

-- a parameter with its value among these, or else with its declared one
abbrev pub param_moved : List Param → Param → Param
param_moved given p = record { name = p.name; kind = p.kind; value = value_or (value_among given p) p.value }

-- the parameters that an object of the new domain had, if it goes on
abbrev pub params_before : MovingView → ℕ → List Param
params_before m o =
    option_map_or params_of_stand (option_and_then (slice_get m.front.outset.stands) (goes_on_from m o)) []

-- how an object of the new domain stands
abbrev pub stand_moved : MovingView → ℕ → Stand
stand_moved m o = record {
  state = state_moved m o;
  params = map (param_moved (params_before m o)) (class_params_at m.new o);
}

-- how all do
abbrev pub stands_moved : MovingView → List Stand
stands_moved m = map (stand_moved m) (range_with_len 0 (length m.new.objects))
