use Rattle.std.proofs.Common.{[], ◌∷◌, ◌++◌, ◌+◌, map, vec_len, length, ap, refl, arith}
use Rattle.std.proofs.lemmas.List.{append-nil}
use Rattle.sml_tree.specs.Content.{class_param_content}
use Rattle.sml_tree.specs.Form.{ClassParamList, MoreClassParam, ClassParam}
use Rattle.sml_read_parts.proofs.Lists.{read_more, read_end, read_err, pushed}
use Rattle.sml_read_parts.proofs.Behind.{lacking, class_param_more, class_param_refused}
use Rattle.sml_read_parts.proofs.Bracketed.{class_params_begun}
use Rattle.sml_read_parts.proofs.Made.{grown, not_made_of}
use Rattle.sml_read_parts.proofs.Stopped.{handed}
use Rattle.sml_read_parts.proofs.reader.Reader.class_params.Goals as goal

-- the first was read
pub more-init : goal.more-init
more-init g c =
    let word = c.if-not-skip.ensures in
    let made = c.in_ok-params.ensures in (
      omega (arith, ap length word.1, ap length c.in_ok-sign.ensures.read.1, c.in_ok-first.ensures.read.0),
      omega (arith, made.len),
      rw (made.items, made.len) (class_params_begun word.0 c.in_ok-sign.ensures.read.0 c.args.self.now c.skip.new.self c.sign.new.self c.class_param.new.self (class_param_content c.in_ok-first.first) word.1 word.2 (c.in_ok-sign.ensures.read.1, c.in_ok-sign.ensures.read.2) c.in_ok-first.ensures.read.1),
    )

-- one more was read
pub more-preserved : goal.more-preserved
more-preserved g c =
    let comma = c.more-test.ensures in
    let item = c.class_param-class_param in
    let made = grown item.result c.appended.result c.in_ok-params-2.params _ _ c.in_ok-params-2.was c.appended.ensures.items c.appended.ensures.len in
    let read = rw (c.len.ensures, made.1) at item.ensures.read in
    let room = rw made.1 at item.ensures.room in (
      omega (arith, ap length comma.1, read.0, c.more.invariant.0),
      omega (arith, c.len.ensures, made.3, room),
      rw made.3 (read_more ClassParamList (MoreClassParam (vec_len c.more.params)) (MoreClassParam (vec_len c.more.params + 1)) (λ v. map class_param_content c.more.params.items ++ v) (λ v. class_param_content made.0 ∷ v)
          (λ v. map class_param_content c.in_ok-params-2.params.items ++ v) c.args.self.now c.more.self item.new.self c.more.invariant.2
          (class_param_more (vec_len c.more.params) (class_param_content made.0) c.more.self c.skip-in-more.new.self item.new.self comma read.1)
          (pushed class_param_content c.more.params.items c.in_ok-params-2.params.items made.0 made.2)),
    )

-- nothing more is there
pub returns : goal.returns
returns g c =
    let none = c.more-test.ensures in (
      omega (arith, ap length none.0, c.more.invariant.0),
      rw none.0 (read_end ClassParamList (MoreClassParam (vec_len c.more.params)) (λ v. map class_param_content c.more.params.items ++ v) [] (map class_param_content c.more.params.items) c.args.self.now c.more.self c.more.self
          c.more.invariant.2 (lacking (MoreClassParam (vec_len c.more.params)) _ [] c.more.self refl refl none.1) (append-nil (map class_param_content c.more.params.items))),
    )

-- the next parameter is refused
pub returns-in_err-params-2 : goal.returns-in_err-params-2
returns-in_err-params-2 g c =
    let item = c.class_param-class_param in
    let e = c.in_err-params-2.field-0.0 in
    let refused = not_made_of _ (ClassParam (vec_len c.more.params)) class_param_content item.result c.appended.result e c.skip-in-more.new.self item.new.self c.in_err-params-2.was c.appended.ensures.items (rw c.len.ensures at item.ensures.read) in
    rw (handed _ e c.from_residual-in_err-params-2.ensures.1)
    (read_err ClassParamList (MoreClassParam (vec_len c.more.params)) (λ v. map class_param_content c.more.params.items ++ v) c.args.self.now c.more.self e c.more.invariant.2
    (class_param_refused (vec_len c.more.params) c.more.self c.skip-in-more.new.self e c.more-test.ensures refused))
