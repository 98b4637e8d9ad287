use Rattle.std.proofs.Common.{map, refl}
use Rattle.sml_check_build.specs.Numbers.{number}
use Rattle.sml_check_build.specs.Placed.{NameHasNumber}
use Rattle.sml_check_build.proofs.Elements.{all_at}
use Rattle.sml_check_build.proofs.Gathered.{pushed, gathered_all}
use Rattle.sml_check_build.proofs.items.numbers.Goals as goal

pub object-requires : goal.object-requires
object-requires c = all_at (NameHasNumber c.args.names.now.objects) c.args.objects.now c.args.objects.now
    c.loop-object.object-index c.object-item.result c.requires refl c.loop-object-test.true c.object-item.is

pub loop-object-preserved : goal.loop-object-preserved
loop-object-preserved c =
    pushed (number c.args.names.now.objects) c.loop-object.made.items c.push.new.self.items c.args.objects.now
    c.args.objects.now c.loop-object.object-index _ c.object-item.result c.object.result
    c.loop-object.invariant refl c.loop-object-test.true c.object-item.is c.in_ok-push.ensures.items c.object.ensures

pub returns : goal.returns
returns c =
    gathered_all (map (number c.args.names.now.objects)) c.loop-object.made.items c.args.objects.now
    c.loop-object.object-index _ c.loop-object.invariant
    c.loop-object-test.false refl
