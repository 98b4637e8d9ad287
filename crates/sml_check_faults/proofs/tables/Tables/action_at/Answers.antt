use Rattle.std.proofs.Common.{◌∙◌, sym, ap, map, length, refl, Some, arith}
use Rattle.std.proofs.lemmas.Bool.{ltb-true}
use Rattle.std.proofs.lemmas.Option.{slice_get_read, slice_get_past}
use Rattle.std.specs.List.{slice_get}
use Rattle.sml_tree.specs.Content.{file_content, class_content, state_content}
use Rattle.sml_check_faults.specs.Tables.{action_place}
use Rattle.sml_check_faults.proofs.ActionPlaces.{declared_at, undeclared_at}
use Rattle.sml_check_faults.proofs.tables.Tables.action_at.Goals as goal

pub action_by-requires : goal.action_by-requires
action_by-requires g c = λ q.
    let tables = c.args.self.now.actions.items in
    let k = c.args.place in
    declared_at (file_content c.args.self.now.file.now) tables k (Some c.in-Some-get.table.now) (class_content c.in-Some.class.now) q c.args.self.now.declared
    (ap (λ ts. slice_get ts k) (sym c.deref.ensures.value) ∙ slice_get_read c.deref.result.now (length c.deref.result.now) k c.in-Some-get.table.now refl (ltb-true k (length c.deref.result.now) (sym c.in-Some-get.ensures.lookup.0)) c.in-Some-get.ensures.lookup.1)
    (c.in-Some.ensures) ∙ ap (λ ys. action_place q (map state_content ys)) (sym c.deref-in-Some-get.ensures.value)

pub returns-in-None-get : goal.returns-in-None-get
returns-in-None-get g c =
    let tables = c.args.self.now.actions.items in
    let k = c.args.place in
    undeclared_at (file_content c.args.self.now.file.now) tables k (class_content c.in-Some.class.now) c.args.name.now c.args.self.now.declared
    (ap (λ ts. slice_get ts k) (sym c.deref.ensures.value) ∙ slice_get_past c.deref.result.now k (omega (arith, c.in-None-get.ensures.lookup))) c.in-Some.ensures
