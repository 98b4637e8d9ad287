use Rattle.std.proofs.Common.{◌≡◌, ◌∙◌, ap, rules}
use Rattle.std.specs.List.{position}
use Rattle.sml_domain.specs.Names.{same_name}
use Rattle.sml_domain.specs.Domain.{Domain}
use Rattle.sml_domain.specs.Lookups.{name_of_object, object_named}
use Rattle.sml_domain.proofs.Finds.{position_map}
use Rattle.sml_domain.proofs.domain.Domain.object.Goals as goal

pub returns-clause-is : goal.returns-clause-is
returns-clause-is c =
    let name = c.args.name.now in
    let found : position (same_name name) c.self.inside.object_names ≡ object_named c.args.self.now name =
    ap (position (same_name name)) c.self.invariant.names
    ∙ position_map name_of_object (same_name name) c.self.inside.objects.items
    ∙ ap (λ (d : Domain). object_named d name) c.self.view_is in
    let is : c.number_of.result ≡ object_named c.args.self.now name = c.number_of.ensures.is ∙ found in
    search (rules, is)
