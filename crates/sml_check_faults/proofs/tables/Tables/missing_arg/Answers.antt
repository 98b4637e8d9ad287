use Rattle.std.proofs.Common.{flat_map, map, refl}
use Rattle.sml_tree.specs.Content.{file_content, passed_content}
use Rattle.sml_check_faults.specs.Lookup.{first_item}
use Rattle.sml_check_faults.specs.Faults.{missing_at}
use Rattle.sml_check_faults.proofs.Rests.{first_here, first_next, first-append, rest_end}
use Rattle.sml_check_faults.proofs.tables.Tables.missing_arg.Goals as goal

pub returns-in-Some : goal.returns-in-Some
returns-in-Some g c =
    let f = missing_at (file_content c.args.self.now.file.now) c.args.called.now (map passed_content c.args.args.now) in
    first_here (λ ys. first_item (flat_map f ys)) c.args.objects.now c.args.objects.now c.loop-object.object-index _ c.object-item.result (first_item (f c.object-item.result))
    c.loop-object.invariant refl c.loop-object-test.true c.object-item.is (λ zs. first-append (f c.object-item.result) (flat_map f zs)) c.in-Some.name c.in-Some.ensures

pub loop-object-preserved : goal.loop-object-preserved
loop-object-preserved g c =
    let f = missing_at (file_content c.args.self.now.file.now) c.args.called.now (map passed_content c.args.args.now) in
    first_next (λ ys. first_item (flat_map f ys)) c.args.objects.now c.args.objects.now c.loop-object.object-index _ c.object-item.result (first_item (f c.object-item.result))
    c.loop-object.invariant refl c.loop-object-test.true c.object-item.is (λ zs. first-append (f c.object-item.result) (flat_map f zs)) c.in_default.ensures

pub returns : goal.returns
returns g c = rest_end c.loop-object.invariant c.loop-object-test.false
