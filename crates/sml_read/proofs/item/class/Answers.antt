use Rattle.sml_read_parts.proofs.Heads.{class_head_err, class_ok, class_mark_err, class_params_err, class_states_err}
use Rattle.sml_read_parts.proofs.Stopped.{handed}
use Rattle.sml_read.proofs.item.class.Goals as goal

pub returns-in_err-name-clause-next : goal.returns-in_err-name-clause-next
returns-in_err-name-clause-next g c =
    rw (handed _ c.in_err-name.field-0.0 c.from_residual.ensures.1)
    (class_head_err c.args.counts.now.classes c.args.counts.now.objects c.args.counts.now.sets c.args.reader.now c.head.new.self c.in_err-name.field-0.0 c.requires.at_class c.in_err-name.ensures.read)

pub returns-in_err-associated-clause-next : goal.returns-in_err-associated-clause-next
returns-in_err-associated-clause-next g c =
    rw (handed _ c.in_err-associated.field-0.0 c.from_residual-in_err-associated.ensures.1)
    (class_mark_err c.args.counts.now.classes c.args.counts.now.objects c.args.counts.now.sets c.args.reader.now c.head.new.self c.in_ok-name.name c.in_err-associated.field-0.0 c.requires.at_class c.in_ok-name.ensures.read c.in_err-associated.ensures)

pub returns-in_err-params-clause-next : goal.returns-in_err-params-clause-next
returns-in_err-params-clause-next g c =
    rw (handed _ c.in_err-params.field-0.0 c.from_residual-in_err-params.ensures.1)
    (class_params_err c.args.counts.now.classes c.args.counts.now.objects c.args.counts.now.sets c.args.reader.now c.head.new.self c.associated.new.self c.in_ok-name.name _ c.in_err-params.field-0.0 c.requires.at_class c.in_ok-name.ensures.read c.in_ok-associated.ensures c.in_err-params.ensures)

pub returns-in_err-states-clause-next : goal.returns-in_err-states-clause-next
returns-in_err-states-clause-next g c =
    rw (handed _ c.in_err-states.field-0.0 c.from_residual-in_err-states.ensures.1)
    (class_states_err c.args.counts.now.classes c.args.counts.now.objects c.args.counts.now.sets c.args.reader.now c.head.new.self c.associated.new.self c.class_params.new.self c.in_ok-name.name _ _ c.in_err-states.field-0.0 c.requires.at_class c.in_ok-name.ensures.read c.in_ok-associated.ensures c.in_ok-params.ensures c.in_err-states.ensures)

pub returns-clause-next : goal.returns-clause-next
returns-clause-next g c =
    class_ok c.args.counts.now.classes c.args.counts.now.objects c.args.counts.now.sets c.args.reader.now c.head.new.self c.associated.new.self c.class_params.new.self c.states.new.reader c.in_ok-name.name _ _ _ c.requires.at_class c.in_ok-name.ensures.read c.in_ok-associated.ensures c.in_ok-params.ensures c.in_ok-states.ensures
