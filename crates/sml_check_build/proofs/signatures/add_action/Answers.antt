use Rattle.std.proofs.Common.{◌≡◌, ◌∙◌, sym, ap, subst, [], ◌∷◌, ◌++◌, is_some}
use Rattle.sml_tree.specs.Content.{action_content}
use Rattle.sml_check_build.specs.Signed as signed
use Rattle.sml_check_build.proofs.Signing.{stays, comes}
use Rattle.sml_check_build.proofs.signatures.add_action.Goals as goal

pub returns-in_ok-add : goal.returns-in_ok-add
returns-in_ok-add g c =
    let n = c.args.names.now in
    let a = action_content c.args.action.now in
    let was = c.made.inside in
    subst (λ s. record { declared = c.add.new.self; rows = c.push.new.self.items } ≡ signed.with_action n s a) c.made.view_is
    (comes n (record { declared = was.declared; rows = was.rows.items }) a c.add.new.self c.push.new.self.items (sym (ap is_some c.number_of.ensures.is) ∙ c.if-is_none.ensures) c.in_ok-add.ensures.added
    (c.in_ok-push.ensures.items ∙ ap (λ y. was.rows.items ++ y ∷ []) c.in_ok-signature.ensures))

pub returns-else-is_none : goal.returns-else-is_none
returns-else-is_none g c =
    let n = c.args.names.now in
    let a = action_content c.args.action.now in
    let was = c.made.inside in
    subst (λ s. s ≡ signed.with_action n s a) c.made.view_is
    (stays n (record { declared = was.declared; rows = was.rows.items }) a (sym (ap is_some c.number_of.ensures.is) ∙ c.if-is_none.ensures))
