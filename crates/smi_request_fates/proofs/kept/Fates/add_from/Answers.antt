use Rattle.std.proofs.Common.{◌≡◌, ◌<◌, ◌≤◌, ◌+◌, ◌∙◌, sym, ap, refl, subst, arith, ℕ, ◌∷◌, ◌++◌, [], List, length, map, take, length-take-le, take_all}
use Rattle.std.proofs.lemmas.List.{take_more}
use Rattle.std.proofs.lemmas.List.Elements.{All-get_or}
use Rattle.smi_journal_entries.specs.Journals.{most_entries}
use Rattle.smi_journal_entries.specs.declared.entry.Entry.{Entry}
use Rattle.smi_journal_entries.specs.Words.{object_of}
use Rattle.smi_request_fates.specs.Kept.{IsOfCounted, FatesTell, watched_request}
use Rattle.smi_request_fates.proofs.Keeping.{counts_have_room}
use Rattle.smi_request_fates.proofs.kept.Fates.add_from.Goals as goal

below : (i n l : ℕ) → i < n → n ≡ l → i < l
below i n l p e = omega (arith, p, e)

few : (k i n : ℕ) → k ≡ i → i < n → n ≤ most_entries → k < most_entries
few k i n e p q = omega (arith, e, p, q)

reached : (i n l : ℕ) → n ≤ i → n ≡ l → l ≤ i
reached i n l p e = omega (arith, p, e)

less : (i l : ℕ) → i < l → i ≤ l
less i l p = omega (arith, p)

pub loop-place-init : goal.loop-place-init
loop-place-init c = (c.requires.told, refl, refl, refl)

pub add-requires-clause-known : goal.add-requires-clause-known
add-requires-clause-known c =
    let e = c.index-entries-place.result in
    let n = length c.args.self.now.counts in
    let J = c.args.entries.now in
    let here = below c.loop-place.place c.count_of-place-end.result (length J) c.loop-place-test.true c.count_of-place-end.ensures.is in
    let known = All-get_or (IsOfCounted n) J c.loop-place.place e here c.requires.known in
    subst (λ m. object_of e < m) (sym c.loop-place.invariant.1) (subst (λ (x : Entry). object_of x < n) (sym c.index-entries-place.is) known)

pub add-requires-clause-room : goal.add-requires-clause-room
add-requires-clause-room c =
    let J = c.args.entries.now in
    let i = c.loop-place.place in
    let count = c.count_of-place-end.result in
    let here = below i count (length J) c.loop-place-test.true c.count_of-place-end.ensures.is in
    let size = length-take-le i J (less i (length J) here) in
    counts_have_room c.args.domain.now (take i J) c.loop-place.self (object_of c.index-entries-place.result) c.loop-place.invariant.0
    (few (length (take i J)) i count size c.loop-place-test.true c.count_of-place-end.ensures.few)

pub loop-place-preserved : goal.loop-place-preserved
loop-place-preserved c =
    let d = c.args.domain.now in
    let J = c.args.entries.now in
    let i = c.loop-place.place in
    let e = c.index-entries-place.result in
    let here = below i c.count_of-place-end.result (length J) c.loop-place-test.true c.count_of-place-end.ensures.is in
    let more : take (i + 1) J ≡ take i J ++ e ∷ [] = take_more J i e here ∙ ap (λ x. take i J ++ x ∷ []) (sym c.index-entries-place.is) in (
      subst (λ (l : List Entry). FatesTell d l c.add.new.self) (sym more) (c.add.ensures.tells d (take i J) c.loop-place.invariant.0),
      c.add.ensures.count ∙ c.loop-place.invariant.1,
      c.add.ensures.requests ∙ c.loop-place.invariant.2,
      c.add.ensures.room_stays ∙ c.loop-place.invariant.3,
    )

pub returns-clause-tells : goal.returns-clause-tells
returns-clause-tells c =
    let J = c.args.entries.now in
    let i = c.loop-place.place in
    let all : take i J ≡ J = take_all i J (reached i c.count_of-place-end.result (length J) c.loop-place-test.false c.count_of-place-end.ensures.is) in
    subst (λ (l : List Entry). FatesTell c.args.domain.now l c.loop-place.self) all c.loop-place.invariant.0
