use Rattle.std.proofs.Common.{map}
use Rattle.sml_check_build.specs.Numbers.{number}
use Rattle.sml_check_build.proofs.Gathered.{Gathers}
use Rattle.sml_check_build.proofs.items.numbers.Given as goal

abbrev pub invariant-loop-object : goal.invariant-loop-object
invariant-loop-object l = Gathers (map (number l.names.objects)) l.made.items l.objects l.object-index
    (map (number l.names.objects) l.objects)
