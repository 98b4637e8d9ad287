use Rattle.std.proofs.Common.{◌∙◌, ap, sym, map}
use Rattle.std.proofs.lemmas.List.{take_all}
use Rattle.std.proofs.lemmas.Simd.{map-map}
use Rattle.sml_tree.specs.Content.{item_content}
use Rattle.sml_check_faults.specs.Tables.{declared_members}
use Rattle.sml_check_faults.proofs.Noted.{lists_pushed}
use Rattle.sml_check_faults.proofs.may.all_members.Goals as goal

pub loop-item-preserved : goal.loop-item-preserved
loop-item-preserved g c =
    lists_pushed (λ x. declared_members (item_content x)) c.args.items.now c.loop-item.item-index c.item-item.result
    c.loop-item.may.items _ c.in_ok-members_of.field-0 c.loop-item-test.true c.item-item.is
    c.loop-item.invariant c.in_ok-push.ensures.items c.in_ok-members_of.ensures

pub returns : goal.returns
returns g c =
    c.loop-item.invariant
    ∙ ap (map (λ x. declared_members (item_content x))) (take_all c.loop-item.item-index c.args.items.now
    c.loop-item-test.false)
    ∙ sym (map-map declared_members item_content c.args.items.now)
