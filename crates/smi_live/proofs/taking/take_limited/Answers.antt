use Rattle.smi_live.proofs.Cases.{on_ok, on_ok_both}
use Rattle.smi_live.proofs.Taken.{kept_limits, unkept_limits}
use Rattle.smi_live.proofs.taking.take_limited.Goals as goal

pub returns-in-None-clause-takes : goal.returns-in-None-clause-takes
returns-in-None-clause-takes g c =
    on_ok c.take_kept.result c.take_kept.ensures.keeps (λ k.
    kept_limits c.args.room c.args.keeper.now.core c.args.read.now c.args.taken.text.now k.0 c.line_of-line.result.now c.take_kept.new.made.kept.items c.take_kept.new.made.text.items c.requires.reads k.1 c.line_of-line.ensures k.2 c.in-None.ensures.none)

pub returns-in-Some-clause-takes : goal.returns-in-Some-clause-takes
returns-in-Some-clause-takes g c =
    on_ok_both c.tell_unkept.result c.tell_unkept.ensures.kept c.tell_unkept.ensures.text (λ e t.
    unkept_limits c.args.room c.args.keeper.now.core c.args.read.now c.args.taken.text.now c.line_of-line.result.now c.tell_unkept.new.made.kept.items c.tell_unkept.new.made.text.items c.requires.reads c.line_of-line.ensures c.in-Some.ensures.some e t)
