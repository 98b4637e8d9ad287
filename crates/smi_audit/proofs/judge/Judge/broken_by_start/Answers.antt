-- What an operator asked for is tested last.
use Rattle.std.proofs.Common.{◌≡◌, ◌∙◌, false, length, sym, ap, subst}
use Rattle.smi_journal_entries.specs.declared.entry.Sender.TheVariants.{Operator}
use Rattle.smi_journal_entries.specs.declared.entry.Entry.TheVariants.{Start}
use Rattle.smi_journal_entries.specs.Requests.{from_sender}
use Rattle.smi_journal_entries.specs.Words.{is_killed, is_open, starts_at}
use Rattle.smi_meaning.specs.Legal.{MayFollow}
use Rattle.smi_audit_rules.specs.declared.rule.Rule.TheVariants as rule
use Rattle.smi_audit.specs.Judges.{BreaksOwn}
use Rattle.smi_audit.proofs.Broken.{start_bad, start_good, failed, passed}
use Rattle.smi_audit.proofs.judge.Judge.broken_by_start.Goals as goal

pub returns-then-not-are_arguments : goal.returns-then-not-are_arguments
returns-then-not-are_arguments c =
    let j = c.args.self.now in
    let d = j.books.domain in
    let J = j.books.journal in
    let k = c.in-Operator.field-0 in
    let alive : is_killed c.args.o J ≡ false = sym c.is_killed.ensures ∙ c.if-is_killed.false in
    let closed : is_open c.args.o J ≡ false = sym c.is_open.ensures ∙ c.if-is_open.false in
    let number : c.args.number ≡ length (from_sender (Operator k) (starts_at c.args.o J)) =
    c.if-number-started.false ∙ c.started.ensures
    ∙ ap (λ s. length (from_sender s (starts_at c.args.o J))) c.in-Operator.is in
    subst (λ s. BreaksOwn j.format d J (Start c.args.o s c.args.number c.args.action c.args.args.now)
    rule.BadRequest) (sym c.in-Operator.is)
    (start_bad j.format d J c.args.o c.args.number c.args.action k c.args.args.now alive closed number
    (failed d _ c.args.o c.args.action c.args.args.now _ c.are_arguments.result c.domain.ensures
    c.values.ensures c.are_arguments.ensures c.if-not-are_arguments.true))

pub returns-else-not-are_arguments : goal.returns-else-not-are_arguments
returns-else-not-are_arguments c =
    let j = c.args.self.now in
    let d = j.books.domain in
    let J = j.books.journal in
    let k = c.in-Operator.field-0 in
    let alive : is_killed c.args.o J ≡ false = sym c.is_killed.ensures ∙ c.if-is_killed.false in
    let closed : is_open c.args.o J ≡ false = sym c.is_open.ensures ∙ c.if-is_open.false in
    let number : c.args.number ≡ length (from_sender (Operator k) (starts_at c.args.o J)) =
    c.if-number-started.false ∙ c.started.ensures
    ∙ ap (λ s. length (from_sender s (starts_at c.args.o J))) c.in-Operator.is in
    subst (λ s. MayFollow j.format d J (Start c.args.o s c.args.number c.args.action c.args.args.now))
    (sym c.in-Operator.is)
    (start_good j.format d J c.args.o c.args.number c.args.action k c.args.args.now alive closed number
    (passed d _ c.args.o c.args.action c.args.args.now _ c.are_arguments.result c.domain.ensures
    c.values.ensures c.are_arguments.ensures c.if-not-are_arguments.false))
