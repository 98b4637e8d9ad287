use Rattle.std.proofs.Common.{List, [], Err, map, vec_len, length, ap, refl, subst, arith}
use Rattle.sml_tree.specs.declared.token_kind.TokenKind.TheVariants.{CloseBracket}
use Rattle.sml_tree.specs.Piece.{Piece}
use Rattle.sml_tree.specs.Content.{waited_content}
use Rattle.sml_tree.specs.Form.{Waited, MoreWaited}
use Rattle.sml_read_parts.specs.Reads.{ReadsToken}
use Rattle.sml_read_parts.proofs.Lists.{pushed}
use Rattle.sml_read_parts.proofs.Behind.{lacking, waited_more, waited_refused}
use Rattle.sml_read_parts.proofs.Made.{grown, not_made_of}
use Rattle.sml_read_parts.proofs.Stopped.{handed}
use Rattle.sml_read_parts.proofs.Waiting.{waits_begun, waits_more, waits_refused, waits_open}
use Rattle.sml_read_parts.proofs.reader.Reader.waiting.Goals as goal

-- the first was read
pub more-init : goal.more-init
more-init g c =
    let bracket = c.in_ok-sign.ensures.read in
    let made = c.in_ok-waited.ensures in (
      omega (arith, ap length c.take.ensures, ap length bracket.1, c.in_ok-first.ensures.read.0),
      omega (arith, made.len),
      rw (made.items, made.len) (waits_begun c.args.depth c.take.result bracket.0 (waited_content c.in_ok-first.first) c.args.self.now c.take.new.self c.sign.new.self c.waited.new.self c.take.ensures c.requires
          (bracket.1, bracket.2) c.in_ok-first.ensures.read.1),
    )

-- one more was read
pub more-preserved : goal.more-preserved
more-preserved g c =
    let comma = c.more-test.ensures in
    let item = c.waited-next in
    let made = grown item.result c.appended.result c.in_ok-waited-2.waited _ _ c.in_ok-waited-2.was c.appended.ensures.items c.appended.ensures.len in
    let read = rw (c.len.ensures, made.1) at item.ensures.read in
    let room = rw made.1 at item.ensures.room in (
      omega (arith, ap length comma.1, read.0, c.more.invariant.0),
      omega (arith, c.len.ensures, made.3, room),
      rw made.3 (waits_more c.args.depth (vec_len c.more.waited) (map waited_content c.more.waited.items) (map waited_content c.in_ok-waited-2.waited.items) (waited_content made.0)
          c.args.self.now c.more.self item.new.self c.more.invariant.2
          (waited_more (vec_len c.more.waited) (waited_content made.0) c.more.self c.skip.new.self item.new.self comma read.1)
          (pushed waited_content c.more.waited.items c.in_ok-waited-2.waited.items made.0 made.2)),
    )

-- the next is refused
pub returns-in_err-waited-2 : goal.returns-in_err-waited-2
returns-in_err-waited-2 g c =
    let item = c.waited-next in
    let e = c.in_err-waited-2.field-0.0 in
    let refused = not_made_of _ (Waited (vec_len c.more.waited)) waited_content item.result c.appended.result e c.skip.new.self item.new.self c.in_err-waited-2.was c.appended.ensures.items
    (rw c.len.ensures at item.ensures.read) in
    rw (handed _ e c.from_residual-in_err-waited-2.ensures.1)
    (waits_refused c.args.depth (vec_len c.more.waited) (map waited_content c.more.waited.items) c.args.self.now c.more.self e c.more.invariant.2
    (waited_refused (vec_len c.more.waited) c.more.self c.skip.new.self e c.more-test.ensures refused))

-- neither a comma nor the bracket is there
pub returns-in_err-waited-3 : goal.returns-in_err-waited-3
returns-in_err-waited-3 g c =
    let none = c.more-test.ensures in
    let e = c.in_err-waited-3.field-0.0 in
    rw (handed _ e c.from_residual-in_err-waited-3.ensures.1)
    (waits_open c.args.depth (vec_len c.more.waited) (map waited_content c.more.waited.items) c.args.self.now c.more.self c.closed.new.self e c.more.invariant.2
    (lacking (MoreWaited (vec_len c.more.waited)) _ [] c.more.self refl refl none.1) (subst (λ (l : List Piece). ReadsToken CloseBracket l c.closed.new.self (Err e)) none.0 c.in_err-waited-3.ensures))
