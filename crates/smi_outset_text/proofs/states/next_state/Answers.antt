-- The rows of the object's class are all its states.
use Rattle.std.proofs.Common.{◌≡◌, ◌∙◌, get_or, ap, option_map, subst}
use Rattle.sml_domain.specs.Domain.{Class}
use Rattle.smi_outset_text.specs.Reading.{StateIsFound}
use Rattle.smi_outset_text.proofs.Rows.{found_reads}
use Rattle.smi_outset_text.proofs.states.next_state.Goals as goal

pub returns : goal.returns
returns c =
    let d = c.args.domain.now in
    let class = c.index-classes-get.result in
    let found = option_map (λ x. (x.0, x.1.now)) c.state_among.result in
    let is : class ≡ get_or d.classes c.class_of.result class =
    c.index-classes-get.is ∙ ap (λ l. get_or l c.get.result class) c.classes.ensures ∙ ap (λ k. get_or d.classes k class) c.get.ensures in
    let rows : c.rows.result.now ≡ class.states = c.rows.ensures ∙ ap (λ (k : Class). k.states) c.class.view_is in
    found_reads d c.args.o c.class_of.result c.args.text.now class found
    (subst (λ xs. StateIsFound d c.args.o c.args.text.now xs found) rows c.state_among.ensures) c.class_of.ensures.is c.class_of.ensures.within is
