use Rattle.std.proofs.Common.{◌∙◌}
use Rattle.sml_check_build.proofs.Apart.{distinct_same}
use Rattle.sml_check_build.proofs.names.top_names.Goals as goal

pub returns-clause-classes : goal.returns-clause-classes
returns-clause-classes g c = c.in_ok-classes.ensures ∙ distinct_same _ c.requires.classes

pub returns-clause-objects : goal.returns-clause-objects
returns-clause-objects g c = c.in_ok-objects.ensures ∙ distinct_same _ c.requires.objects

pub returns-clause-groups : goal.returns-clause-groups
returns-clause-groups g c = c.in_ok-groups.ensures ∙ distinct_same _ c.requires.groups
