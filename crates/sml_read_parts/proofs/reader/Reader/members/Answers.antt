use Rattle.std.proofs.Common.{ℕ, [], ◌∷◌, ◌++◌, ◌+◌, vec_len, length, ap, refl, subst, arith}
use Rattle.std.proofs.lemmas.Bool.{lt-ltb}
use Rattle.std.proofs.lemmas.List.{append-nil}
use Rattle.sml_tree.specs.declared.token_kind.TokenKind.TheVariants.{Name}
use Rattle.sml_tree.specs.Form.{Members, MoreMember}
use Rattle.sml_read_parts.specs.Stands.{ReadsLimited}
use Rattle.sml_read_parts.proofs.Lists.{read_more, read_end, read_err, pushed_plain}
use Rattle.sml_read_parts.proofs.Behind.{lacking, member_more, member_not_made}
use Rattle.sml_read_parts.proofs.Bracketed.{members_begun}
use Rattle.sml_read_parts.proofs.Steps.{seen}
use Rattle.sml_read_parts.proofs.Made.{grown}
use Rattle.sml_read_parts.proofs.Stopped.{handed}
use Rattle.sml_read_parts.proofs.reader.Reader.members.Goals as goal
use Rattle.sml_tree.specs.declared.limits.TheConstants.{MAX_MEMBERS}

-- the first was read
pub more-init : goal.more-init
more-init g c =
    let made = c.in_ok-members.ensures in
    (omega (arith, ap length c.take.ensures), omega (arith, made.len), rw (made.items, made.len) (members_begun c.take.result c.args.self.now c.take.new.self c.name.result c.take.ensures (seen Name c.take.result c.args.self.now c.take.new.self c.take.ensures c.if-not-stands.ensures) c.name.ensures))

-- one more was read
pub more-preserved : goal.more-preserved
more-preserved g c =
    let comma = c.more-test.ensures in
    let item = c.limited-member in
    let made = grown item.result c.appended.result c.in_ok-members-2.members _ _ c.in_ok-members-2.was c.appended.ensures.items c.appended.ensures.len in
    let room = rw (c.len.ensures, made.1) at item.ensures.room in
    let read = rw made.1 at item.ensures.read in (
      omega (arith, ap length comma.1, ap length read.1, c.more.invariant.0),
      omega (arith, made.3, room),
      rw made.3 (read_more Members (MoreMember (vec_len c.more.members)) (MoreMember (vec_len c.more.members + 1)) (λ v. c.more.members.items ++ v) (λ v. made.0 ∷ v)
          (λ v. c.in_ok-members-2.members.items ++ v) c.args.self.now c.more.self item.new.self c.more.invariant.2
          (member_more (vec_len c.more.members) made.0 c.more.self c.skip.new.self item.new.self comma (lt-ltb (vec_len c.more.members) MAX_MEMBERS room) read)
          (pushed_plain c.more.members.items c.in_ok-members-2.members.items made.0 made.2)),
    )

-- nothing more is there
pub returns : goal.returns
returns g c =
    let none = c.more-test.ensures in (
      omega (arith, ap length none.0, c.more.invariant.0),
      rw none.0 (read_end Members (MoreMember (vec_len c.more.members)) (λ v. c.more.members.items ++ v) [] c.more.members.items c.args.self.now c.more.self c.more.self
          c.more.invariant.2 (lacking (MoreMember (vec_len c.more.members)) _ [] c.more.self refl refl none.1) (append-nil c.more.members.items)),
    )

-- the next name is refused
pub returns-in_err-members-2 : goal.returns-in_err-members-2
returns-in_err-members-2 g c =
    let item = c.limited-member in
    let e = c.in_err-members-2.field-0.0 in
    rw (handed _ e c.from_residual-in_err-members-2.ensures.1)
    (read_err Members (MoreMember (vec_len c.more.members)) (λ v. c.more.members.items ++ v) c.args.self.now c.more.self e c.more.invariant.2
    (member_not_made _ (vec_len c.more.members) item.result c.appended.result c.more.self c.skip.new.self item.new.self e c.in_err-members-2.was c.appended.ensures.items c.more-test.ensures
    (subst (λ (n : ℕ). ReadsLimited MAX_MEMBERS n c.skip.new.self item.new.self item.result) c.len.ensures item.ensures.read)))
