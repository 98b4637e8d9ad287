use Rattle.std.proofs.Common.{[], ◌∷◌, ◌++◌, ◌+◌, map, vec_len, length, ap, refl, arith}
use Rattle.std.proofs.lemmas.List.{append-nil}
use Rattle.sml_tree.specs.declared.token_kind.TokenKind.TheVariants.{CloseBracket}
use Rattle.sml_tree.specs.Content.{action_param_content}
use Rattle.sml_tree.specs.Form.{ActionParamList, MoreActionParam, ActionParam}
use Rattle.sml_read_parts.proofs.Lists.{read_more_to, pushed}
use Rattle.sml_read_parts.proofs.Behind.{lacking, list_closed, read_refused_to, action_param_more, action_param_refused}
use Rattle.sml_read_parts.proofs.Bracketed.{action_params_begun}
use Rattle.sml_read_parts.proofs.Made.{grown, not_made_of}
use Rattle.sml_read_parts.proofs.Stopped.{handed}
use Rattle.sml_read_parts.proofs.reader.Reader.action_params.Goals as goal

-- the first was read
pub more-init : goal.more-init
more-init g c =
    let bracket = c.if-not-skip.ensures in
    let made = c.in_ok-params.ensures in (
      omega (arith, ap length bracket.1, c.in_ok-first.ensures.read.0),
      omega (arith, made.len),
      rw (made.items, made.len) (action_params_begun bracket.0 c.args.self.now c.skip.new.self c.action_param.new.self (action_param_content c.in_ok-first.first) bracket.1 bracket.2 c.in_ok-first.ensures.read.1),
    )

-- one more was read
pub more-preserved : goal.more-preserved
more-preserved g c =
    let comma = c.more-test.ensures in
    let item = c.action_param-action_param in
    let made = grown item.result c.appended.result c.in_ok-params-2.params _ _ c.in_ok-params-2.was c.appended.ensures.items c.appended.ensures.len in
    let read = rw (c.len.ensures, made.1) at item.ensures.read in
    let room = rw made.1 at item.ensures.room in (
      omega (arith, ap length comma.1, read.0, c.more.invariant.0),
      omega (arith, c.len.ensures, made.3, room),
      rw made.3 (read_more_to ActionParamList (MoreActionParam (vec_len c.more.params)) (MoreActionParam (vec_len c.more.params + 1)) CloseBracket (λ v. map action_param_content c.more.params.items ++ v) (λ v. action_param_content made.0 ∷ v)
          (λ v. map action_param_content c.in_ok-params-2.params.items ++ v) c.args.self.now c.more.self item.new.self c.more.invariant.2
          (action_param_more (vec_len c.more.params) (action_param_content made.0) c.more.self c.skip-in-more.new.self item.new.self comma read.1)
          (pushed action_param_content c.more.params.items c.in_ok-params-2.params.items made.0 made.2)),
    )

-- nothing more is there, except the bracket
pub returns : goal.returns
returns g c =
    let none = c.more-test.ensures in
    list_closed ActionParamList (MoreActionParam (vec_len c.more.params)) CloseBracket (λ v. map action_param_content v.items) (λ v. map action_param_content c.more.params.items ++ v) [] c.more.params c.closed.result c.args.self.now c.more.self c.closed.new.self
    c.more.invariant.0 c.more.invariant.2 (lacking (MoreActionParam (vec_len c.more.params)) _ [] c.more.self refl refl none.1) (append-nil (map action_param_content c.more.params.items)) (rw none.0 at c.closed.ensures)

-- the next is refused
pub returns-in_err-params-2 : goal.returns-in_err-params-2
returns-in_err-params-2 g c =
    let item = c.action_param-action_param in
    let e = c.in_err-params-2.field-0.0 in
    let refused = not_made_of _ (ActionParam (vec_len c.more.params)) action_param_content item.result c.appended.result e c.skip-in-more.new.self item.new.self c.in_err-params-2.was c.appended.ensures.items (rw c.len.ensures at item.ensures.read) in
    rw (handed _ e c.from_residual-in_err-params-2.ensures.1)
    (read_refused_to ActionParamList (MoreActionParam (vec_len c.more.params)) CloseBracket (λ v. map action_param_content c.more.params.items ++ v) c.args.self.now c.more.self e c.more.invariant.2
    (action_param_refused (vec_len c.more.params) c.more.self c.skip-in-more.new.self e c.more-test.ensures refused))
