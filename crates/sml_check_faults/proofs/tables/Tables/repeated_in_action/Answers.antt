use Rattle.std.proofs.Common.{[], ◌∙◌, sym, ap, flat_map, map}
use Rattle.sml_tree.specs.Content.{action_content, action_param_content, class_content, file_content}
use Rattle.sml_check_faults.specs.Lookup.{first_item}
use Rattle.sml_check_faults.specs.Sites.{block_sites}
use Rattle.sml_check_faults.specs.Repeats.{each_after, repeated_action_param, repeated_site}
use Rattle.sml_check_faults.specs.Tables.{first_or_else}
use Rattle.sml_check_faults.proofs.Rests.{first-append}
use Rattle.sml_check_faults.proofs.BlockRests.{same_sites}
use Rattle.sml_check_faults.proofs.tables.Tables.repeated_in_action.Goals as goal

pub returns-in-None : goal.returns-in-None
returns-in-None g c =
    let k = class_content c.args.class.now in
    let a = action_content c.args.action.now in
    let sites = block_sites a.body in
    c.block_fault.ensures ∙ ap first_item (same_sites (file_content c.args.self.now.file.now) k a sites)
    ∙ ap (λ o. first_or_else o (first_item (flat_map repeated_site sites))) c.in-None.ensures
    ∙ ap (λ ps. first_or_else (first_item (each_after (repeated_action_param k) [] (map action_param_content ps))) (first_item (flat_map repeated_site sites))) c.deref.ensures.value
    ∙ sym (first-append (each_after (repeated_action_param k) [] a.params) (flat_map repeated_site sites))
