use Rattle.sml_text.specs.declared.source.Source.TheVariants.{Domain}
use Rattle.sml_read.proofs.Only.{one_file, no_fault}
use Rattle.sml_read.proofs.Refused.{one_fault}
use Rattle.sml_read.proofs.laws.laws_of_files.Goals as goal

pub returns-clause-one_file : goal.returns-clause-one_file
returns-clause-one_file c text file other a b =
    one_file a.2.0 b.2.0 file other (c.laws_of_tokens.ensures.one_tokens Domain text a.2.0 b.2.0 a.2.1 b.2.1) a.2.2 b.2.2

pub returns-clause-no_fault : goal.returns-clause-no_fault
returns-clause-no_fault c text file f a b =
    no_fault a.2.0 b.2.0 file f (c.laws_of_tokens.ensures.one_tokens Domain text a.2.0 b.2.0 a.2.1 b.2.1) a.2.2 b.2.2

pub returns-clause-one_fault : goal.returns-clause-one_fault
returns-clause-one_fault c text f other a b =
    one_fault a.2.0 b.2.0 f other (c.laws_of_tokens.ensures.one_tokens Domain text a.2.0 b.2.0 a.2.1 b.2.1) a.2.2 b.2.2
