use Rattle.std.proofs.Common.{◌≡◌, ℕ, List, map, take, nat_eq, option_map}
use Rattle.std.specs.Cmp.Lexicographic.{pointwise}
use Rattle.indexmap.specs.IndexMap.{get}
use Rattle.sml_tree.specs.Content.{action_content}
use Rattle.sml_check_faults.specs.Lookup.{is_action_named}
use Rattle.sml_check_faults.specs.Tables.{first_or_else, in_state, place_of}
use Rattle.sml_check_faults.proofs.actions.note_actions.Given as goal

abbrev pub invariant-loop-i : goal.invariant-loop-i
invariant-loop-i g l = (q : List ℕ) → get (pointwise nat_eq) l.table q ≡ first_or_else (get (pointwise nat_eq) l.initial.table q) (option_map (in_state l.state) (place_of (is_action_named q) (map action_content (take l.i l.actions))))
