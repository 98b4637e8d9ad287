use Rattle.std.proofs.Common.{get_or, flat_map, refl}
use Rattle.std.proofs.lemmas.List.{get_or_default}
use Rattle.sml_tree.specs.Content.{file_content}
use Rattle.sml_check_faults.specs.Lookup.{first_item}
use Rattle.sml_check_faults.specs.Kinds.{with_kind}
use Rattle.sml_check_faults.specs.declared.kind.CheckKind.TheVariants.{Duplicate}
use Rattle.sml_check_faults.proofs.Rests.{first_here, first-append, rest_end}
use Rattle.sml_check.proofs.faults.kinds_fault.Goals as goal

pub returns-in-Some : goal.returns-in-Some
returns-in-Some g c =
    let f = with_kind (file_content c.args.tables.now.file.now) in
    let kinds = c.args.kinds.now in
    let x = get_or kinds c.loop-kind.kind-index Duplicate in
    first_here (λ ys. first_item (flat_map f ys)) kinds kinds c.loop-kind.kind-index _ x (first_item (f x)) c.loop-kind.invariant refl c.loop-kind-test.true
    (get_or_default kinds c.loop-kind.kind-index Duplicate x c.loop-kind-test.true) (λ zs. first-append (f x) (flat_map f zs)) c.in-Some.fault c.in-Some.ensures

pub returns : goal.returns
returns g c = rest_end c.loop-kind.invariant c.loop-kind-test.false
