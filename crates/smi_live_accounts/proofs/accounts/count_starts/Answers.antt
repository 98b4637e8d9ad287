use Rattle.std.proofs.Common.{◌≡◌, ◌∙◌, ap, arith, sym, ◌+◌, ◌<◌, ◌≤◌, ◌^◌, ℕ, ◌++◌, ◌∷◌, [], List, length, slice_index_or, take, length-take-le, take_all}
use Rattle.std.proofs.lemmas.List.{take_more}
use Rattle.smi_journal_entries.specs.declared.entry.Entry.{Entry}
use Rattle.smi_journal_entries.specs.Words.{all_starts, any_start}
use Rattle.smi_live_accounts.proofs.Counting.{starts_few, starts_next}
use Rattle.smi_live_accounts.proofs.accounts.count_starts.Goals as goal

below : (i n l : ℕ) → i < n → n ≡ l → i < l
below i n l p e = omega (arith, p, e)

less : (i l : ℕ) → i < l → i + 1 ≤ l
less i l p = omega (arith, p)

reached : (i n l : ℕ) → n ≤ i → n ≡ l → l ≤ i
reached i n l p e = omega (arith, p, e)

-- with one entry more
next : (J : List Entry) (i n k : ℕ) (e : Entry) → i < length J → e ≡ slice_index_or J i e → n ≡ length (all_starts (take i J)) → k ≡ length (any_start e) → n + k ≡ length (all_starts (take (i + 1) J))
next J i n k e here is before one =
    let more : take (i + 1) J ≡ take i J ++ e ∷ [] = take_more J i e here ∙ ap (λ x. take i J ++ x ∷ []) (sym is) in
    starts_next J i n k e more before (sym one)

pub loop-place-init : goal.loop-place-init
loop-place-init c = c.requires.before

pub overflow_add-starts : goal.overflow_add-starts
overflow_add-starts c =
    let J = c.args.entries.now in
    let i = c.loop-place.place in
    let here = below i c.count_of-place-end.result (length J) c.loop-place-test.true c.count_of-place-end.ensures.is in
    let sum = next J i c.loop-place.starts c.starts_of-starts.result c.index-entries-place.result here c.index-entries-place.is c.loop-place.invariant c.starts_of-starts.ensures in
    let size = length-take-le (i + 1) J (less i (length J) here) in
    omega (arith, sum, starts_few (take (i + 1) J), size, c.loop-place-test.true, c.count_of-place-end.ensures.few)

pub loop-place-preserved : goal.loop-place-preserved
loop-place-preserved c =
    let J = c.args.entries.now in
    let i = c.loop-place.place in
    let here = below i c.count_of-place-end.result (length J) c.loop-place-test.true c.count_of-place-end.ensures.is in
    next J i c.loop-place.starts c.starts_of-starts.result c.index-entries-place.result here c.index-entries-place.is c.loop-place.invariant c.starts_of-starts.ensures

pub returns : goal.returns
returns c =
    let J = c.args.entries.now in
    let i = c.loop-place.place in
    let all : take i J ≡ J = take_all i J (reached i c.count_of-place-end.result (length J) c.loop-place-test.false c.count_of-place-end.ensures.is) in
    c.loop-place.invariant ∙ ap (λ (l : List Entry). length (all_starts l)) all
