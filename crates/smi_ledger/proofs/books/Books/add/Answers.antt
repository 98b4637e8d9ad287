-- An entry is booked with its slot.
use Rattle.std.specs.Arc.{arc_value}
use Rattle.std.proofs.Common.{◌≡◌, ◌∙◌, ◌<◌, Some, sym, ap, refl, arith}
use Rattle.std.specs.Prelude.{option_map}
use Rattle.sml_domain.specs.Lookups.{class_at, dead_state}
use Rattle.smi_journal_entries.specs.Journals.{most_entries}
use Rattle.smi_journal_entries.specs.Sets.{sets_next}
use Rattle.smi_ledger.specs.Books.{changed_or}
use Rattle.smi_ledger.proofs.First.{dead_is}
use Rattle.smi_ledger.proofs.Booked.{ready, ready_takes, ready_left, entered}
use Rattle.smi_ledger.proofs.books.Books.add.Goals as goal

pub take-requires-clause-fits : goal.take-requires-clause-fits
take-requires-clause-fits c =
    let i = c.self.inside in
    let r = ready (arc_value i.domain) i.entries.items i.count i.last i.slots.items i.members c.args.self.now
    c.args.entry.now _ _ _ _ _ _ c.self.invariant c.self.view_is c.requires.known
    c.object_of-o.ensures c.get.ensures c.get-2.ensures c.index_mut.ensures.value c.hold.ensures.same
    c.index_mut-2.ensures.value in
    let few : i.count < most_entries = omega (arith, c.in-Some.ensures) in
    ready_takes _ _ _ _ _ _ _ _ _ _ r c.self.view_is c.requires.once few

pub invariant_of-self-in_err-take : goal.invariant_of-self-in_err-take
invariant_of-self-in_err-take c =
    let i = c.self.inside in
    let r = ready (arc_value i.domain) i.entries.items i.count i.last i.slots.items i.members c.args.self.now
    c.args.entry.now _ _ _ _ _ _ c.self.invariant c.self.view_is c.requires.known
    c.object_of-o.ensures c.get.ensures c.get-2.ensures c.index_mut.ensures.value c.hold.ensures.same
    c.index_mut-2.ensures.value in
    ready_left _ _ _ _ _ _ _ _ _ _ r c.in_err-take.ensures.err

pub invariant_of-self-in-Some-changed : goal.invariant_of-self-in-Some-changed
invariant_of-self-in-Some-changed c =
    let i = c.self.inside in
    let d = arc_value i.domain in
    let r = ready (arc_value i.domain) i.entries.items i.count i.last i.slots.items i.members c.args.self.now
    c.args.entry.now _ _ _ _ _ _ c.self.invariant c.self.view_is c.requires.known
    c.object_of-o.ensures c.get.ensures c.get-2.ensures c.index_mut.ensures.value c.hold.ensures.same
    c.index_mut-2.ensures.value in
    let of_class : Some c.dead-dead.result ≡ option_map dead_state (class_at d c.object_of-o.result) =
    c.dead-dead.ensures.is ∙ ap (λ x. option_map dead_state (class_at x c.object_of-o.result)) c.deref.ensures in
    let changed : changed_or c.in_ok-changed.changed i.members ≡ sets_next d i.members c.args.entry.now =
    c.in_ok-changed.ensures ∙ ap (λ x. sets_next x i.members c.args.entry.now) c.deref-2.ensures in
    entered d _ _ _ _ _ _ _ _ _ _ _ _ _ _ _ r c.and-self-inside.ensures c.in-Some.ensures.1 c.object_of-o.ensures
    (ap (λ m. changed_or m i.members) (sym c.in-Some-changed.is) ∙ changed)
    (dead_is d c.object_of-o.result c.dead-dead.result of_class) refl c.in_ok-take.ensures.ok

pub invariant_of-self-in-None : goal.invariant_of-self-in-None
invariant_of-self-in-None c =
    let i = c.self.inside in
    let d = arc_value i.domain in
    let r = ready (arc_value i.domain) i.entries.items i.count i.last i.slots.items i.members c.args.self.now
    c.args.entry.now _ _ _ _ _ _ c.self.invariant c.self.view_is c.requires.known
    c.object_of-o.ensures c.get.ensures c.get-2.ensures c.index_mut.ensures.value c.hold.ensures.same
    c.index_mut-2.ensures.value in
    let of_class : Some c.dead-dead.result ≡ option_map dead_state (class_at d c.object_of-o.result) =
    c.dead-dead.ensures.is ∙ ap (λ x. option_map dead_state (class_at x c.object_of-o.result)) c.deref.ensures in
    let changed : changed_or c.in_ok-changed.changed i.members ≡ sets_next d i.members c.args.entry.now =
    c.in_ok-changed.ensures ∙ ap (λ x. sets_next x i.members c.args.entry.now) c.deref-2.ensures in
    entered d _ _ _ _ _ _ _ _ _ _ _ _ _ _ _ r c.and-self-inside.ensures c.in-Some.ensures.1 c.object_of-o.ensures
    (ap (λ m. changed_or m i.members) (sym c.in-None.is) ∙ changed)
    (dead_is d c.object_of-o.result c.dead-dead.result of_class) refl c.in_ok-take.ensures.ok
