use Rattle.std.proofs.Common.{[], ◌∷◌, ◌++◌, ◌+◌, map, vec_len, length, ap, refl, arith}
use Rattle.std.proofs.lemmas.List.{append-nil}
use Rattle.sml_tree.specs.declared.token_kind.TokenKind.TheVariants.{CloseBracket}
use Rattle.sml_tree.specs.Content.{passed_content}
use Rattle.sml_tree.specs.Form.{ArgList, MorePassedArg, Passed}
use Rattle.sml_read_parts.proofs.Lists.{read_more_to, pushed}
use Rattle.sml_read_parts.proofs.Behind.{lacking, list_closed, read_refused_to, passed_more, passed_refused}
use Rattle.sml_read_parts.proofs.Bracketed.{args_begun}
use Rattle.sml_read_parts.proofs.Made.{grown, not_made_of}
use Rattle.sml_read_parts.proofs.Stopped.{handed}
use Rattle.sml_read_parts.proofs.reader.Reader.args.Goals as goal

-- the first was read
pub more-init : goal.more-init
more-init g c =
    let bracket = c.if-not-skip.ensures in
    let made = c.in_ok-args.ensures in (
      omega (arith, ap length bracket.1, c.in_ok-first.ensures.read.0),
      omega (arith, made.len),
      rw (made.items, made.len) (args_begun bracket.0 c.args.self.now c.skip.new.self c.passed.new.self (passed_content c.in_ok-first.first) bracket.1 bracket.2 c.in_ok-first.ensures.read.1),
    )

-- one more was read
pub more-preserved : goal.more-preserved
more-preserved g c =
    let comma = c.more-test.ensures in
    let item = c.passed-passed in
    let made = grown item.result c.appended.result c.in_ok-args-2.args _ _ c.in_ok-args-2.was c.appended.ensures.items c.appended.ensures.len in
    let read = rw (c.len.ensures, made.1) at item.ensures.read in
    let room = rw made.1 at item.ensures.room in (
      omega (arith, ap length comma.1, read.0, c.more.invariant.0),
      omega (arith, c.len.ensures, made.3, room),
      rw made.3 (read_more_to ArgList (MorePassedArg (vec_len c.more.args)) (MorePassedArg (vec_len c.more.args + 1)) CloseBracket (λ v. map passed_content c.more.args.items ++ v) (λ v. passed_content made.0 ∷ v)
          (λ v. map passed_content c.in_ok-args-2.args.items ++ v) c.args.self.now c.more.self item.new.self c.more.invariant.2
          (passed_more (vec_len c.more.args) (passed_content made.0) c.more.self c.skip-in-more.new.self item.new.self comma read.1)
          (pushed passed_content c.more.args.items c.in_ok-args-2.args.items made.0 made.2)),
    )

-- nothing more is there, except the bracket
pub returns : goal.returns
returns g c =
    let none = c.more-test.ensures in
    list_closed ArgList (MorePassedArg (vec_len c.more.args)) CloseBracket (λ v. map passed_content v.items) (λ v. map passed_content c.more.args.items ++ v) [] c.more.args c.closed.result c.args.self.now c.more.self c.closed.new.self
    c.more.invariant.0 c.more.invariant.2 (lacking (MorePassedArg (vec_len c.more.args)) _ [] c.more.self refl refl none.1) (append-nil (map passed_content c.more.args.items)) (rw none.0 at c.closed.ensures)

-- the next is refused
pub returns-in_err-args-2 : goal.returns-in_err-args-2
returns-in_err-args-2 g c =
    let item = c.passed-passed in
    let e = c.in_err-args-2.field-0.0 in
    let refused = not_made_of _ (Passed (vec_len c.more.args)) passed_content item.result c.appended.result e c.skip-in-more.new.self item.new.self c.in_err-args-2.was c.appended.ensures.items (rw c.len.ensures at item.ensures.read) in
    rw (handed _ e c.from_residual-in_err-args-2.ensures.1)
    (read_refused_to ArgList (MorePassedArg (vec_len c.more.args)) CloseBracket (λ v. map passed_content c.more.args.items ++ v) c.args.self.now c.more.self e c.more.invariant.2
    (passed_refused (vec_len c.more.args) c.more.self c.skip-in-more.new.self e c.more-test.ensures refused))
