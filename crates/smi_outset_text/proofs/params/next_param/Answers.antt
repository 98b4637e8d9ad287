use Rattle.std.proofs.Common.{None, ap, subst}
use Rattle.sml_domain.specs.Domain.{Param}
use Rattle.smi_outset_text.specs.Reading.{ReadsValue}
use Rattle.smi_outset_text.proofs.Valued.{no_feed, no_value}
use Rattle.smi_outset_text.proofs.params.next_param.Goals as goal

pub returns-in_default-split_line : goal.returns-in_default-split_line
returns-in_default-split_line c =
    no_feed c.args.domain.now c.args.o c.args.param.now c.args.text.now c.in-Some.more.now c.in-Some.ensures
    c.in_default-split_line.ensures.none

pub returns-in-None : goal.returns-in-None
returns-in-None c =
    let digits = c.in-Some-split_line.digits.now in
    let none : ReadsValue c.args.param.now.kind digits None
    = subst (λ k. ReadsValue k digits None) (ap (λ (p : Param). p.kind) c.param.view_is) (rw c.in-None.is at c.in_ok-value.ensures) in
    no_value c.args.domain.now c.args.o c.args.param.now c.args.text.now c.in-Some.more.now c.in-Some.ensures digits
    c.in-Some-split_line.more.now c.in-Some-split_line.ensures.some.0 c.in-Some-split_line.ensures.some.1 none
