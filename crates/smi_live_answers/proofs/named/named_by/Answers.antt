use Rattle.std.proofs.Common.{IfNone, List, Option, subst, ℕ}
use Rattle.smi_live_answers.specs.Naming.{AnswersObject}
use Rattle.smi_live_answers.proofs.OneName.{none_named, plain_is}
use Rattle.smi_live_answers.proofs.named.named_by.Goals as goal

pub returns-in-Ok-None-clause-none : goal.returns-in-Ok-None-clause-none
returns-in-Ok-None-clause-none c =
    let text = c.args.line.now in
    let plain = c.in_ok-plain.plain.items in
    let parts = c.args.parts.now in
    let none = subst (λ (o : Option (List ℕ)). IfNone o ((x : List ℕ) → AnswersObject c.deref.result.now x → ⊥)) c.in-Ok-None.field-0-is c.in-Ok-None.ensures.none in
    none_named text plain (plain_is text plain parts.front.now parts.comment.now c.in_ok-plain.ensures c.requires.front c.requires.comment)
    (subst (λ l. (x : List ℕ) → AnswersObject l x → ⊥) c.deref.ensures.value none)
