use Rattle.std.proofs.Common.{◌∙◌, [], ◌∷◌, ◌++◌, map, ap}
use Rattle.std.proofs.lemmas.List.{map-append}
use Rattle.sml_domain.specs.Domain.{block_items}
use Rattle.sml_check_build.proofs.blocks.Blocks.put.Goals as goal

pub returns-clause-added : goal.returns-clause-added
returns-clause-added c =
    ap (map block_items) c.in_ok-push.ensures.items ∙ map-append block_items c.self.inside.blocks.items (c.args.block ∷ []) ∙ ap (λ bs. bs ++ block_items c.args.block ∷ []) c.self.view_is
