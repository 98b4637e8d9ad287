-- The rows are sound, and stand as the outset says.
use Rattle.std.proofs.Common.{sym, subst}
use Rattle.sml_outset.specs.Standing.{StandsAs}
use Rattle.sml_outset.proofs.Sounds.{same_object_names, standing_is_sound, standing_stands}
use Rattle.sml_outset.proofs.begun.standing.Goals as goal

pub with_rows-requires-clause-names : goal.with_rows-requires-clause-names
with_rows-requires-clause-names c =
    same_object_names c.args.domain c.args.outset.now c.args.rows.objects.items c.args.rows.classes.items c.args.rows.groups.items c.requires.rows

pub with_rows-requires-clause-sound : goal.with_rows-requires-clause-sound
with_rows-requires-clause-sound c =
    standing_is_sound c.args.domain c.args.outset.now c.args.rows.objects.items c.args.rows.classes.items c.args.rows.groups.items c.objects.ensures.sound c.requires.suits c.requires.rows

pub returns : goal.returns
returns c =
    subst (StandsAs c.args.domain c.args.outset.now) (sym c.with_rows.ensures)
    (standing_stands c.args.domain c.args.outset.now c.args.rows.objects.items c.args.rows.classes.items c.args.rows.groups.items c.objects.ensures.sound c.requires.suits c.requires.rows)
