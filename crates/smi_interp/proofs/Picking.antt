-- What is left once the last readings have picked.
use Rattle.std.proofs.Common.{◌≡◌, ◌-◌, true, List, [], ◌∷◌, ◌++◌, length, subst, sym}
use Rattle.std.specs.List.{slice_get}
use Rattle.std.specs.Arc.{arc_value}
use Rattle.sml_domain.specs.Program.{Nothing}
use Rattle.smi_meaning.specs.Steps.{with_rest}
use Rattle.smi_journal_entries.specs.Sets.{members_in}
use Rattle.smi_interp.specs.declared.cursor.Place.{Place}
use Rattle.smi_interp.specs.declared.run.Run.{Run}
use Rattle.smi_interp.specs.declared.turn.Move.TheVariants as made
use Rattle.smi_interp.specs.Expanded.{objects_by_names}
use Rattle.smi_interp.specs.Turn.{readings_of}
use Rattle.smi_interp.specs.Cursor.{left_in, left_of, later_of, Follows, Picks, PicksLast}
use Rattle.smi_interp.specs.Task.{HasLeft, body, env_before, env_now}
use Rattle.smi_interp.specs.Run.{RunIsSound, task_of, here}
use Rattle.smi_interp.proofs.Places.{later_more}
use Rattle.smi_interp.proofs.Going.{last_made, read_leads}

-- the branch that they pick, and then what is after the `if`
pub branch_left : (r : Run) (branch next : Place) (later : List Place) → RunIsSound r → r.has_read ≡ true
    → PicksLast (arc_value r.domain) (slice_get r.turn.moves.items (length r.turn.moves.items - 1)) (here r) (left_in (arc_value r.domain) branch)
    → Follows (here r) (left_in (arc_value r.domain) next) → later ≡ r.later.items ++ next ∷ []
    → HasLeft (task_of r) (left_of (arc_value r.domain) branch later)
branch_left r branch next later s read last follows more =
    let d = arc_value r.domain in
    let t = task_of r in
    let p = s.picks read in
    let k = later_of d r.later.items Nothing in
    let picked : Picks (members_in d p.sets) (here r) p.readings.items (left_in d branch) =
    last_made d (here r) (left_in d branch) p.front r.turn.moves.items (made.Saw p.readings p.sets) p.moves last in
    let picks : Picks (members_in d p.sets) (here r) (readings_of (objects_by_names d p.sets p.names) p.states) (left_in d branch) =
    subst (λ rs. Picks (members_in d p.sets) (here r) rs (left_in d branch)) p.are picked in
    subst (λ ps. HasLeft t (left_of d branch ps)) (sym more)
    (subst (λ b. HasLeft t (with_rest (left_in d branch) b)) (sym (later_more d r.later.items next Nothing))
    (read_leads d (body t) (env_before t) p.front r.turn.moves.items (here r) (left_in d next) (left_in d branch) k (env_now t) p.sets p.names p.readings p.states
    p.leads p.moves p.are p.each p.asks follows picks))
