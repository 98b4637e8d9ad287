use Rattle.std.proofs.Common.{◌∙◌, sym, ap, flat_map, []}
use Rattle.sml_tree.specs.Content.{file_content, class_content, action_content}
use Rattle.sml_check_faults.specs.Lookup.{first_item}
use Rattle.sml_check_faults.specs.Sites.{block_sites}
use Rattle.sml_check_faults.specs.Kinds.{action_head, site_faults}
use Rattle.sml_check_faults.specs.Tables.{first_or_else}
use Rattle.sml_check_faults.proofs.Rests.{first-append}
use Rattle.sml_check_faults.proofs.FaultKinds.{no_places}
use Rattle.sml_check_faults.proofs.tables.Tables.action_fault.Goals as goal

pub returns-else-stands_in_blocks : goal.returns-else-stands_in_blocks
returns-else-stands_in_blocks g c =
    let file = file_content c.args.self.now.file.now in
    let k = class_content c.args.class.now in
    let a = action_content c.args.action.now in
    let sites = block_sites a.body in
    ap (λ o. first_or_else o (first_item [])) c.in-None.ensures
    ∙ ap (λ ns. first_or_else (first_item (action_head c.args.kind k a)) (first_item ns)) (sym (no_places c.args.kind file k a sites c.if-stands_in_blocks.ensures))
    ∙ sym (first-append (action_head c.args.kind k a) (flat_map (site_faults c.args.kind file k a) sites))
