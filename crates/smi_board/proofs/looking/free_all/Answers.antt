-- One less is listed.
use Rattle.std.proofs.Common.{◌<◌, subst, sym}
use Rattle.smi_board.proofs.Freeing.{listed_count, one_less}
use Rattle.smi_board.proofs.looking.free_all.Goals as goal

pub loop-o-smaller : goal.loop-o-smaller
loop-o-smaller c =
    subst (λ hs. listed_count hs < listed_count c.loop-o.holders) (sym c.in-Some.ensures.free)
    (one_less c.loop-o.holders c.in-Some.o c.args.x c.in-Some.ensures.held)
