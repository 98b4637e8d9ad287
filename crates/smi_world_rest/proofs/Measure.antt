-- How many own steps an object can still make without a start.
use Rattle.std.proofs.Common.{◌≡◌, ◌≤◌, ◌+◌, ◌*◌, ◌-◌, max, ℕ, Bool, true, false, length, ap, sym, subst, arith}
use Rattle.smi_journal_entries.specs.Words.{is_open, waits_at}
use Rattle.smi_world.specs.World.{Setup, World, moves_of}
use Rattle.smi_world_rest.proofs.Totals.{total}

-- none where no action is open. Else, of n moves after k, two for each that is left, and one that ends the action; but
-- one less where it waits to make a move
abbrev pub still_to_go : ℕ → Bool → Bool → ℕ → ℕ
still_to_go n false waits k = 0
still_to_go n true false k = 2 * (n - k) + 1
still_to_go n true true k = max (2 * (n - k)) 1

-- so of an object in a world, and of all objects together
abbrev pub to_go : ℕ → World → ℕ → ℕ
to_go n w o = still_to_go n (is_open o w.journal) (waits_at o w.journal) (length (moves_of o w))

abbrev pub all_to_go : Setup → ℕ → World → ℕ
all_to_go m n w = total (to_go n w) (length m.domain.objects)

-- ---- numbers

most_after_start : (n : ℕ) (opened waits : Bool) (k : ℕ) → still_to_go n opened waits k ≤ 2 * n + 1
most_after_start n false waits k = omega arith
most_after_start n true false k = omega arith
most_after_start n true true k = omega arith

less_by_move : (n : ℕ) (opened waits waited : Bool) (k : ℕ) → k + 1 ≤ n
    → still_to_go n opened waits (k + 1) + 1 ≤ still_to_go n true waited k
less_by_move n false waits false k h = omega arith
less_by_move n false waits true k h = omega arith
less_by_move n true false false k h = omega arith
less_by_move n true false true k h = omega arith
less_by_move n true true false k h = omega arith
less_by_move n true true true k h = omega arith

less_by_wait : (n : ℕ) (opened : Bool) (k : ℕ) → k + 1 ≤ n
    → still_to_go n opened true k + 1 ≤ still_to_go n true false k
less_by_wait n false k h = omega arith
less_by_wait n true k h = omega arith

some_while_open : (n : ℕ) (waits : Bool) (k : ℕ) → 1 ≤ still_to_go n true waits k
some_while_open n false k = omega arith
some_while_open n true k = omega arith

-- ---- worlds

-- a start pays for what its action does
pub few_to_go : (n : ℕ) (w : World) (o : ℕ) → to_go n w o ≤ 2 * n + 1
few_to_go n w o = most_after_start n (is_open o w.journal) (waits_at o w.journal) (length (moves_of o w))

-- a move takes one away at least
pub move_takes : (n : ℕ) (w w2 : World) (o : ℕ) → is_open o w.journal ≡ true → length (moves_of o w) + 1 ≤ n
    → length (moves_of o w2) ≡ length (moves_of o w) + 1 → to_go n w2 o + 1 ≤ to_go n w o
move_takes n w w2 o opened few more =
    let waits = waits_at o w.journal in
    let k = length (moves_of o w) in
    let less = less_by_move n (is_open o w2.journal) (waits_at o w2.journal) waits k few in
    subst (λ x. still_to_go n (is_open o w2.journal) (waits_at o w2.journal) x + 1 ≤ to_go n w o) (sym more)
    (subst (λ b. still_to_go n (is_open o w2.journal) (waits_at o w2.journal) (k + 1) + 1 ≤ still_to_go n b waits k)
    (sym opened) less)

-- so does one that begins to wait before a move
pub wait_takes : (n : ℕ) (w w2 : World) (o : ℕ) → is_open o w.journal ≡ true → waits_at o w.journal ≡ false
    → waits_at o w2.journal ≡ true → length (moves_of o w) + 1 ≤ n → length (moves_of o w2) ≡ length (moves_of o w)
    → to_go n w2 o + 1 ≤ to_go n w o
wait_takes n w w2 o opened first waits few same =
    let k = length (moves_of o w) in
    let less = less_by_wait n (is_open o w2.journal) k few in
    subst (λ x. still_to_go n (is_open o w2.journal) (waits_at o w2.journal) x + 1 ≤ to_go n w o) (sym same)
    (subst (λ b. still_to_go n (is_open o w2.journal) b k + 1 ≤ to_go n w o) (sym waits)
    (subst (λ b. still_to_go n (is_open o w2.journal) true k + 1 ≤ still_to_go n (is_open o w.journal) b k) (sym first)
    (subst (λ b. still_to_go n (is_open o w2.journal) true k + 1 ≤ still_to_go n b false k) (sym opened) less)))

-- none are left where nothing is open
pub none_closed : (n : ℕ) (w : World) (o : ℕ) → is_open o w.journal ≡ false → to_go n w o ≡ 0
none_closed n w o closed = ap (λ b. still_to_go n b (waits_at o w.journal) (length (moves_of o w))) closed

-- and one at least where something is
pub some_open : (n : ℕ) (w : World) (o : ℕ) → is_open o w.journal ≡ true → 1 ≤ to_go n w o
some_open n w o opened =
    subst (λ b. 1 ≤ still_to_go n b (waits_at o w.journal) (length (moves_of o w))) (sym opened)
    (some_while_open n (waits_at o w.journal) (length (moves_of o w)))
