use Rattle.std.proofs.Common.{ℕ, [], ◌∷◌, ◌++◌, ◌+◌, vec_len, length, ap, refl, subst, arith}
use Rattle.std.proofs.lemmas.Bool.{lt-ltb}
use Rattle.std.proofs.lemmas.List.{append-nil}
use Rattle.sml_tree.specs.Form.{Names, MoreName}
use Rattle.sml_read_parts.specs.Stands.{ReadsLimited}
use Rattle.sml_read_parts.proofs.Lists.{read_more, read_end, read_err, pushed_plain}
use Rattle.sml_read_parts.proofs.Behind.{lacking, name_more, name_not_made}
use Rattle.sml_read_parts.proofs.Bracketed.{names_begun, names_err}
use Rattle.sml_read_parts.proofs.Made.{grown}
use Rattle.sml_read_parts.proofs.Stopped.{handed}
use Rattle.sml_read_parts.proofs.reader.Reader.names.Goals as goal
use Rattle.sml_tree.specs.declared.limits.TheConstants.{MAX_NAMES}

-- the first was read
pub more-init : goal.more-init
more-init g c =
    let made = c.in_ok-names.ensures in
    (omega (arith, ap length c.in_ok-first.ensures.0), omega (arith, made.len), rw (made.items, made.len) (names_begun c.in_ok-first.first c.args.self.now c.expect.new.self c.name.result c.in_ok-first.ensures.0 c.in_ok-first.ensures.1 c.name.ensures))

-- one more was read
pub more-preserved : goal.more-preserved
more-preserved g c =
    let comma = c.more-test.ensures in
    let item = c.limited-state in
    let made = grown item.result c.appended.result c.in_ok-names-2.names _ _ c.in_ok-names-2.was c.appended.ensures.items c.appended.ensures.len in
    let room = rw (c.len.ensures, made.1) at item.ensures.room in
    let read = rw made.1 at item.ensures.read in (
      omega (arith, ap length comma.1, ap length read.1, c.more.invariant.0),
      omega (arith, made.3, room),
      rw made.3 (read_more Names (MoreName (vec_len c.more.names)) (MoreName (vec_len c.more.names + 1)) (λ v. c.more.names.items ++ v) (λ v. made.0 ∷ v)
          (λ v. c.in_ok-names-2.names.items ++ v) c.args.self.now c.more.self item.new.self c.more.invariant.2
          (name_more (vec_len c.more.names) made.0 c.more.self c.skip.new.self item.new.self comma (lt-ltb (vec_len c.more.names) MAX_NAMES room) read)
          (pushed_plain c.more.names.items c.in_ok-names-2.names.items made.0 made.2)),
    )

-- nothing more is there
pub returns : goal.returns
returns g c =
    let none = c.more-test.ensures in (
      omega (arith, ap length none.0, c.more.invariant.0),
      rw none.0 (read_end Names (MoreName (vec_len c.more.names)) (λ v. c.more.names.items ++ v) [] c.more.names.items c.args.self.now c.more.self c.more.self
          c.more.invariant.2 (lacking (MoreName (vec_len c.more.names)) _ [] c.more.self refl refl none.1) (append-nil c.more.names.items)),
    )

-- the next name is refused
pub returns-in_err-names-2 : goal.returns-in_err-names-2
returns-in_err-names-2 g c =
    let item = c.limited-state in
    let e = c.in_err-names-2.field-0.0 in
    rw (handed _ e c.from_residual-in_err-names-2.ensures.1)
    (read_err Names (MoreName (vec_len c.more.names)) (λ v. c.more.names.items ++ v) c.args.self.now c.more.self e c.more.invariant.2
    (name_not_made _ (vec_len c.more.names) item.result c.appended.result c.more.self c.skip.new.self item.new.self e c.in_err-names-2.was c.appended.ensures.items c.more-test.ensures
    (subst (λ (n : ℕ). ReadsLimited MAX_NAMES n c.skip.new.self item.new.self item.result) c.len.ensures item.ensures.read)))

-- no name is there
pub returns-in_err-first : goal.returns-in_err-first
returns-in_err-first g c = rw (handed _ c.in_err-first.field-0.0 c.from_residual.ensures.1) (names_err c.args.self.now c.expect.new.self c.in_err-first.field-0.0 c.in_err-first.ensures)
