-- An instruction names blocks before its own.
use Rattle.std.proofs.Common.{sym, subst}
use Rattle.sml_domain.specs.Places.{NamesBefore, instrs_at}
use Rattle.sml_domain.specs.Trees.{instruction}
use Rattle.sml_domain.proofs.Blocks.{before_of_sound}
use Rattle.smi_reach.proofs.Tables.{names_at}
use Rattle.smi_reach.proofs.ways.way_of.Goals as goal

pub take_instr-requires : goal.take_instr-requires
take_instr-requires c =
    let d = c.args.domain.now in
    subst (λ n. NamesBefore n (instruction c.in-Some.instr.now)) (sym c.requires.count)
    (names_at c.args.block (instrs_at d.blocks c.args.block) _ (instruction c.in-Some.instr.now) (before_of_sound d c.args.block c.objects-objects.ensures.sound)
    (sym c.in-Some.ensures.is))
