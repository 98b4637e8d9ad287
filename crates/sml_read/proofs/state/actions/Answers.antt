use Rattle.std.proofs.Common.{[], ◌∷◌, ◌++◌, ◌+◌, map, vec_len, refl, arith}
use Rattle.std.proofs.lemmas.List.{append-nil}
use Rattle.sml_tree.specs.Content.{action_content}
use Rattle.sml_tree.specs.Form.{Action}
use Rattle.sml_read_parts.proofs.Lists.{read_more, read_end, read_err, pushed}
use Rattle.sml_read_parts.proofs.Behind.{lacking}
use Rattle.sml_read_parts.proofs.Made.{grown, no_front_made}
use Rattle.sml_read_parts.proofs.Stopped.{handed}
use Rattle.sml_read.proofs.state.actions.Goals as goal

-- one more was read
pub more-preserved : goal.more-preserved
more-preserved g c =
    let item = c.action-action in
    let made = grown item.result c.appended.result c.in_ok-actions-2.actions _ _ c.in_ok-actions-2.was c.appended.ensures.items c.appended.ensures.len in
    let next = rw (c.len.ensures, made.1) at item.ensures.next in
    let room = rw made.1 at item.ensures.room in (
      omega (arith, next.0, c.more.invariant.0),
      omega (arith, c.len.ensures, made.3, room),
      rw made.3 (read_more (Action 0) (Action (vec_len c.more.actions)) (Action (vec_len c.more.actions + 1)) (λ v. map action_content c.more.actions.items ++ v) (λ v. action_content made.0 ∷ v) (λ v. map action_content c.in_ok-actions-2.actions.items ++ v)
          c.args.reader.now c.more.reader item.new.reader c.more.invariant.2 next.1
          (pushed action_content c.more.actions.items c.in_ok-actions-2.actions.items made.0 made.2)),
    )

-- nothing more is there
pub returns : goal.returns
returns g c = (
  c.more.invariant.0,
  read_end (Action 0) (Action (vec_len c.more.actions)) (λ v. map action_content c.more.actions.items ++ v) [] (map action_content c.more.actions.items) c.args.reader.now c.more.reader c.more.reader
      c.more.invariant.2 (lacking (Action (vec_len c.more.actions)) _ [] c.more.reader refl refl c.more-test.ensures) (append-nil (map action_content c.more.actions.items)),
)

-- the next is refused
pub returns-in_err-actions-2 : goal.returns-in_err-actions-2
returns-in_err-actions-2 g c =
    let item = c.action-action in
    let e = c.in_err-actions-2.field-0.0 in
    rw (handed _ e c.from_residual-in_err-actions-2.ensures.1)
    (read_err (Action 0) (Action (vec_len c.more.actions)) (λ v. map action_content c.more.actions.items ++ v) c.args.reader.now c.more.reader e c.more.invariant.2
    (no_front_made _ (Action (vec_len c.more.actions)) (Action (vec_len c.more.actions + 1)) (λ x v. action_content x ∷ v) item.result c.appended.result e c.more.reader item.new.reader c.in_err-actions-2.was c.appended.ensures.items (rw c.len.ensures at item.ensures.next)))
