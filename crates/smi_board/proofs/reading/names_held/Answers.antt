-- One name after another.
use Rattle.std.proofs.Common.{◌≡◌, ◌∙◌, get_or, ap, sym, true}
use Rattle.sml_domain.specs.Asking.{asked_of}
use Rattle.smi_journal_entries.specs.Sets.{members_in, sets_after}
use Rattle.sml_domain.specs.Trees.{asked}
use Rattle.smi_meaning.specs.EntryLaws.{are_clear}
use Rattle.smi_interp.specs.Expanded.{objects_by_names}
use Rattle.smi_board.proofs.Looks.{holder_of_names, clear_of_none}
use Rattle.smi_board.proofs.Named.{clear_all, clear_on, next_there, others_there}
use Rattle.smi_board.proofs.reading.names_held.Goals as goal

pub held_by-holder-requires-clause-there : goal.held_by-holder-requires-clause-there
held_by-holder-requires-clause-there c =
    let d = c.args.ledger.now.domain in
    let sets = sets_after d c.args.ledger.now.journal in
    let names = c.list-list.result.now in
    let i = c.loop-name.name-index in
    let x = c.name-item.result in
    let is : c.objects_of.result.now ≡ asked_of (members_in d sets) (asked (get_or names i x)) =
    c.objects_of.ensures ∙ ap (λ z. asked_of (members_in c.domain.result.now z) (asked x)) c.sets.ensures.is ∙ ap (λ y. asked_of (members_in y sets) (asked x)) c.domain.ensures.is ∙ ap (λ y. asked_of (members_in d sets) (asked y)) c.name-item.is in
    next_there d sets names i x c.objects_of.result.now c.loop-name-test.true is c.loop-name.invariant.there

pub returns-then-is_some-clause-held : goal.returns-then-is_some-clause-held
returns-then-is_some-clause-held c =
    let d = c.args.ledger.now.domain in
    let sets = sets_after d c.args.ledger.now.journal in
    let J = c.args.ledger.now.journal in
    let o = c.args.o in
    let names = c.list-list.result.now in
    let i = c.loop-name.name-index in
    let x = c.name-item.result in
    let is : c.objects_of.result.now ≡ asked_of (members_in d sets) (asked (get_or names i x)) =
    c.objects_of.ensures ∙ ap (λ z. asked_of (members_in c.domain.result.now z) (asked x)) c.sets.ensures.is ∙ ap (λ y. asked_of (members_in y sets) (asked x)) c.domain.ensures.is ∙ ap (λ y. asked_of (members_in d sets) (asked y)) c.name-item.is in
    holder_of_names d sets J o names i x c.objects_of.result.now c.args.names.now c.held_by-holder.result c.loop-name-test.true is c.list-list.ensures c.held_by-holder.ensures.held

pub loop-name-preserved : goal.loop-name-preserved
loop-name-preserved c =
    let d = c.args.ledger.now.domain in
    let sets = sets_after d c.args.ledger.now.journal in
    let J = c.args.ledger.now.journal in
    let o = c.args.o in
    let names = c.list-list.result.now in
    let i = c.loop-name.name-index in
    let x = c.name-item.result in
    let is : c.objects_of.result.now ≡ asked_of (members_in d sets) (asked (get_or names i x)) =
    c.objects_of.ensures ∙ ap (λ z. asked_of (members_in c.domain.result.now z) (asked x)) c.sets.ensures.is ∙ ap (λ y. asked_of (members_in y sets) (asked x)) c.domain.ensures.is ∙ ap (λ y. asked_of (members_in d sets) (asked y)) c.name-item.is in
    let clear : are_clear J o c.objects_of.result.now ≡ true = clear_of_none J o c.objects_of.result.now c.held_by-holder.result (sym c.is_some.ensures ∙ c.if-is_some.false) c.held_by-holder.ensures.clear in
    record {
      clear = clear_on d sets J o names i x c.objects_of.result.now c.loop-name-test.true is clear ∙ c.loop-name.invariant.clear;
      there = others_there d sets names i x c.loop-name-test.true c.loop-name.invariant.there;
    }

pub returns-clause-clear : goal.returns-clause-clear
returns-clause-clear c =
    let d = c.args.ledger.now.domain in
    let sets = sets_after d c.args.ledger.now.journal in
    let J = c.args.ledger.now.journal in
    let o = c.args.o in
    let names = c.list-list.result.now in
    ap (λ ns. are_clear J o (objects_by_names d sets ns)) (sym c.list-list.ensures) ∙ clear_all d sets J o names c.loop-name.name-index c.loop-name-test.false c.loop-name.invariant.clear
