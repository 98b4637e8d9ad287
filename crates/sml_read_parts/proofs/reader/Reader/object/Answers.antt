use Rattle.sml_read_parts.proofs.Heads.{object_head_err, object_ok, object_word_err, object_class_err}
use Rattle.sml_read_parts.proofs.Stopped.{handed}
use Rattle.sml_read_parts.proofs.reader.Reader.object.Goals as goal

pub returns-in_err-name-clause-next : goal.returns-in_err-name-clause-next
returns-in_err-name-clause-next g c =
    rw (handed _ c.in_err-name.field-0.0 c.from_residual.ensures.1)
    (object_head_err c.args.counts.now.classes c.args.counts.now.objects c.args.counts.now.sets c.args.self.now c.head.new.self c.in_err-name.field-0.0 c.requires.at_object c.in_err-name.ensures.read)

pub returns-in_err-sign-clause-next : goal.returns-in_err-sign-clause-next
returns-in_err-sign-clause-next g c =
    rw (handed _ c.in_err-sign.field-0.0 c.from_residual-in_err-sign.ensures.1)
    (object_word_err c.args.counts.now.classes c.args.counts.now.objects c.args.counts.now.sets c.args.self.now c.head.new.self c.sign.new.self c.in_ok-name.name c.in_err-sign.field-0.0 c.requires.at_object c.in_ok-name.ensures.read c.in_err-sign.ensures.none)

pub returns-in_err-class-clause-next : goal.returns-in_err-class-clause-next
returns-in_err-class-clause-next g c =
    rw (handed _ c.in_err-class.field-0.0 c.from_residual-in_err-class.ensures.1)
    (object_class_err c.args.counts.now.classes c.args.counts.now.objects c.args.counts.now.sets c.args.self.now c.head.new.self c.sign.new.self c.named.new.self c.in_ok-name.name c.in_ok-sign.ensures.read.0 c.in_err-class.field-0.0 c.requires.at_object c.in_ok-name.ensures.read (c.in_ok-sign.ensures.read.1, c.in_ok-sign.ensures.read.2) c.in_err-class.ensures.none)

pub returns-clause-next : goal.returns-clause-next
returns-clause-next g c =
    object_ok c.args.counts.now.classes c.args.counts.now.objects c.args.counts.now.sets c.args.self.now c.head.new.self c.sign.new.self c.named.new.self c.in_ok-name.name c.in_ok-class.class c.in_ok-sign.ensures.read.0 c.in_ok-class.ensures.read.0 c.requires.at_object c.in_ok-name.ensures.read (c.in_ok-sign.ensures.read.1, c.in_ok-sign.ensures.read.2) (c.in_ok-class.ensures.read.1, c.in_ok-class.ensures.read.2) c.in_ok-class.ensures.read.3
