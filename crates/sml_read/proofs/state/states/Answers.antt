use Rattle.std.proofs.Common.{[], ◌∷◌, ◌++◌, ◌+◌, map, vec_len, refl, arith}
use Rattle.std.proofs.lemmas.List.{append-nil}
use Rattle.sml_tree.specs.Content.{state_content}
use Rattle.sml_tree.specs.Form.{State}
use Rattle.sml_read_parts.proofs.Lists.{read_more, read_end, read_err, pushed}
use Rattle.sml_read_parts.proofs.Behind.{lacking}
use Rattle.sml_read_parts.proofs.Made.{grown, no_front_made}
use Rattle.sml_read_parts.proofs.Stopped.{handed}
use Rattle.sml_read.proofs.state.states.Goals as goal

-- one more was read
pub more-preserved : goal.more-preserved
more-preserved g c =
    let item = c.state-state in
    let made = grown item.result c.appended.result c.in_ok-states-2.states _ _ c.in_ok-states-2.was c.appended.ensures.items c.appended.ensures.len in
    let next = rw (c.len.ensures, made.1) at item.ensures.next in
    let room = rw made.1 at item.ensures.room in (
      omega (arith, next.0, c.more.invariant.0),
      omega (arith, c.len.ensures, made.3, room),
      rw made.3 (read_more (State 0) (State (vec_len c.more.states)) (State (vec_len c.more.states + 1)) (λ v. map state_content c.more.states.items ++ v) (λ v. state_content made.0 ∷ v) (λ v. map state_content c.in_ok-states-2.states.items ++ v)
          c.args.reader.now c.more.reader item.new.reader c.more.invariant.2 next.1
          (pushed state_content c.more.states.items c.in_ok-states-2.states.items made.0 made.2)),
    )

-- nothing more is there
pub returns : goal.returns
returns g c = (
  c.more.invariant.0,
  read_end (State 0) (State (vec_len c.more.states)) (λ v. map state_content c.more.states.items ++ v) [] (map state_content c.more.states.items) c.args.reader.now c.more.reader c.more.reader
      c.more.invariant.2 (lacking (State (vec_len c.more.states)) _ [] c.more.reader refl refl c.more-test.ensures) (append-nil (map state_content c.more.states.items)),
)

-- the next is refused
pub returns-in_err-states-2 : goal.returns-in_err-states-2
returns-in_err-states-2 g c =
    let item = c.state-state in
    let e = c.in_err-states-2.field-0.0 in
    rw (handed _ e c.from_residual-in_err-states-2.ensures.1)
    (read_err (State 0) (State (vec_len c.more.states)) (λ v. map state_content c.more.states.items ++ v) c.args.reader.now c.more.reader e c.more.invariant.2
    (no_front_made _ (State (vec_len c.more.states)) (State (vec_len c.more.states + 1)) (λ x v. state_content x ∷ v) item.result c.appended.result e c.more.reader item.new.reader c.in_err-states-2.was c.appended.ensures.items (rw c.len.ensures at item.ensures.next)))
