use Rattle.std.proofs.Common.{subst, Err}
use Rattle.std.specs.Str.Parse.{ParsesSigned}
use mir.Syntax.{w64}
use Rattle.smi_outset_text.proofs.Spelled.{other_int, unparsed}
use Rattle.smi_outset_text.proofs.values.int_in.Goals as goal

pub returns-in_default-parse-clause-none : goal.returns-in_default-parse-clause-none
returns-in_default-parse-clause-none c =
    let e = c.in_default-parse.field-0 in
    unparsed c.args.text.now e
    (subst (λ l. ParsesSigned w64 10 l (Err e)) c.in-Ok.ensures.cases.0 c.in_default-parse.ensures.value.0)

pub returns-else-is_text_of-clause-none : goal.returns-else-is_text_of-clause-none
returns-else-is_text_of-clause-none c =
    other_int c.args.text.now c.parse.result c.in-Ok-parse.int c.in-Ok-parse.is
    (subst (λ l. ParsesSigned w64 10 l c.parse.result) c.in-Ok.ensures.cases.0 c.parse.ensures.value.0)
    (c.is_text_of.ensures.no c.if-is_text_of.false)
