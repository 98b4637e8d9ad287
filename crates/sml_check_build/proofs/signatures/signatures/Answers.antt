use Rattle.std.proofs.Common.{◌∙◌, ap, []}
use Rattle.sml_tree.specs.Content.{class_content}
use Rattle.sml_check_faults.specs.Lookup.{actions}
use Rattle.sml_check_build.specs.Signed.{Signed, with_actions}
use Rattle.sml_check_build.proofs.Signing.{class_signed}
use Rattle.sml_check_build.proofs.signatures.signatures.Goals as goal

pub returns : goal.returns
returns g c =
    let n = c.args.names.now in
    let class = class_content c.args.class.now in
    let new : Signed = record { declared = c.new.result; rows = c.new-2.result.items } in
    ap (λ (s : Signed). s.rows)
    (c.made.view_is ∙ c.in_ok-add_states.ensures ∙ ap (λ ns. with_actions n (record { declared = ns; rows = c.new-2.result.items }) (actions class)) c.new.ensures
    ∙ ap (λ rs. with_actions n (record { declared = []; rows = rs }) (actions class)) c.new-2.ensures.items) ∙ class_signed n class
