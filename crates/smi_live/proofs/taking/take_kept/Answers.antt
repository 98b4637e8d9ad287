use Rattle.smi_live.proofs.Cases.{on_ok, on_ok_both}
use Rattle.smi_live.proofs.Taken.{plain_does}
use Rattle.smi_live.proofs.taking.take_kept.Goals as goal

pub returns-in-Ok-clause-made : goal.returns-in-Ok-clause-made
returns-in-Ok-clause-made g c =
    on_ok_both c.end_line.result c.end_line.ensures.kept c.end_line.ensures.text (λ e t.
    plain_does c.args.keeper.now c.take_read.new.keeper c.args.taken.text.now c.args.read.now c.take_read.new.made.kept.items c.take_read.new.made.text.items _ _ c.requires.unmarked c.requires.reads c.in-Ok.ensures.makes c.in-Ok.ensures.stands c.take_read.ensures.told e t)

pub returns-in-Ok-clause-keeps : goal.returns-in-Ok-clause-keeps
returns-in-Ok-clause-keeps g c = on_ok c.end_line.result c.end_line.ensures.kept (λ e. (c.take_read.new.made.kept.items, c.in-Ok.ensures.stands, e))
