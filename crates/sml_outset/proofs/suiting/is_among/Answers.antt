-- What `contains` finds is an element.
use Rattle.std.proofs.lemmas.Bool.{eqb-true, eq-eqb}
use Rattle.std.proofs.Common.{eqb}
use Rattle.std.proofs.lemmas.List.Elements.{contains_decides, Decides-contains}
use Rattle.sml_outset.proofs.suiting.is_among.Goals as goal

pub returns : goal.returns
returns c =
    let some = c.args.some.now in
    Decides-contains some c.args.object c.contains.result (contains_decides eqb (λ a b. (eqb-true a b, eq-eqb a b)) some c.args.object c.contains.result c.contains.ensures.cases)
