use Rattle.std.proofs.Common.{◌∙◌, sym, ap, not, option_map, Some}
use Rattle.sml_tree.specs.Content.{literal_content}
use Rattle.sml_check_faults.specs.Faults.{literal_kind, kinds_differ}
use Rattle.sml_check_faults.proofs.heads.is_default_mismatched.Goals as goal
use Rattle.sml_tree.specs.Kinds.{same_kind}

pub returns-in-Some : goal.returns-in-Some
returns-in-Some g c =
    let kind = c.args.param.now.kind in
    ap not (c.same_kind.ensures ∙ ap (same_kind kind) c.kind_of.ensures)
    ∙ sym (ap (λ d. kinds_differ (Some kind) (option_map literal_kind (option_map literal_content d))) c.in-Some.is)

pub returns-in-None : goal.returns-in-None
returns-in-None g c = sym (ap (λ d. kinds_differ (Some c.args.param.now.kind) (option_map literal_kind (option_map literal_content d))) c.in-None.is)
