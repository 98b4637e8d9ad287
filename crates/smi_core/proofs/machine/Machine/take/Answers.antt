-- What stood at its place.
use Rattle.std.proofs.Common.{◌<◌, length, ap, subst, sym}
use Rattle.smi_core.proofs.Taking.{takes, takes_some, takes_then}
use Rattle.smi_core.proofs.machine.Machine.take.Goals as goal

pub returns-then-is_some : goal.returns-then-is_some
returns-then-is_some c = takes_some _ _ _ _ _ _ _ c.let_go.ensures.task c.let_go.ensures.none c.requires.within c.requires.have c.get.ensures c.index.ensures c.if-is_some.ensures

pub returns : goal.returns
returns c =
    let domain = ap (λ m. m.domain) c.resume.ensures.setup in
    takes_then _ _ _ _ _ _ _ _ (record { world = c.resume.ensures.world; setup = c.resume.ensures.setup })
    (takes _ _ _ _ _ c.let_go-2.ensures.task c.let_go-2.ensures.none (subst (λ d. c.args.o < length d.objects) (sym domain) c.requires.within) c.resume.ensures.have (λ e. c.resume.ensures.none c.args.o))
