-- Each go that changes something leaves its object fewer steps.
use Rattle.std.proofs.Common.{◌≡◌, ◌<◌, ◌≤◌, ◌+◌, ℕ, true, [], ◌∷◌, length, Ok, refl, ap, sym, subst, ◌∙◌, arith, inl}
use Rattle.std.proofs.Common.{inr, length-append}
use Rattle.std.proofs.lemmas.Bool.{eq-eqb}
use Rattle.smi_journal_entries.specs.declared.entry.ActionEnd.TheVariants.{State}
use Rattle.smi_journal_entries.specs.declared.entry.Entry.TheVariants.{Wait, Seen, End}
use Rattle.smi_journal_entries.specs.Words.{is_open, state_of, change_entry}
use Rattle.smi_meaning.specs.Meaning.{Move, state_left}
use Rattle.smi_world.specs.declared.step.Answer.{Answer}
use Rattle.smi_world.specs.World.{Setup, World, list_at, moves_of, noted, moved, turned}
use Rattle.smi_world.specs.Moves.{Runs, MayMove, ActionGoesOn}
use Rattle.smi_world.proofs.Lists.{put_there}
use Rattle.smi_world_rest.specs.OwnSteps.{change_of, AreMovesWithin}
use Rattle.smi_world_rest.proofs.Counting.{change_most}
use Rattle.smi_world_rest.proofs.Measure.{to_go, move_takes, wait_takes, none_closed, some_open}
use Rattle.smi_world_rest.proofs.Ways.{one_more_move, runs_open}
use Rattle.smi_world_rest.proofs.Written.{waits_after, closed_by_end, only_posted}

is_running : (m : Setup) (w : World) (o : ℕ) → Runs m.domain w.journal o → is_open o w.journal ≡ true
is_running m w o r = runs_open m.domain w.journal o r.run r.runs

-- what takes one away at least, pays for a step
takes : (n : ℕ) (w mid w2 : World) (o : ℕ) (a : Answer) → w2 ≡ mid → to_go n mid o + 1 ≤ to_go n w o
    → change_of (Ok a) + to_go n w2 o ≤ to_go n w o
takes n w mid w2 o a after less =
    let one = change_most (Ok a) in
    let same = ap (λ (z : World). to_go n z o) after in
    omega (arith, one, same, less)

-- so does a move, where no moves were made before it
move_pays : (m : Setup) (n : ℕ) (w mid : World) (o : ℕ) (x : Move) → AreMovesWithin m.domain n → o < length w.moves
    → MayMove m w o x → mid.moves ≡ w.moves → to_go n (moved mid o x) o + 1 ≤ to_go n w o
move_pays m n w mid o x few within next same =
    let there = subst (λ l. o < length l) (sym same) within in
    let put = put_there mid.moves o o x there true (eq-eqb o o refl) in
    let more : length (moves_of o (moved mid o x)) ≡ length (moves_of o w) + 1 =
    ap (λ l. length l) put ∙ (length-append (moves_of o mid) (x ∷ []) ∙ ap (λ l. length (list_at l o) + 1) same) in
    move_takes n w (moved mid o x) o (is_running m w o next.action) (one_more_move m n w o x few next) more

pub go_pays : (m : Setup) (n : ℕ) (w w2 : World) (o : ℕ) (a : Answer) → AreMovesWithin m.domain n → o < length w.moves
    → ActionGoesOn m w o a w2 → change_of (Ok a) + to_go n w2 o ≤ to_go n w o
go_pays m n w w2 o a few within (inl g) = takes n w _ w2 o a g.after (move_pays m n w w o _ few within g.next refl)
go_pays m n w w2 o a few within (inr (inl g)) =
    takes n w _ w2 o a g.after
    (move_pays m n w g.mid o _ few within g.next (only_posted m w g.mid o g.to g.posts g.posted).moves)
go_pays m n w w2 o a few within (inr (inr (inl g))) =
    takes n w _ w2 o a g.after (move_pays m n w (noted w (Seen o g.readings)) o _ few within g.next refl)
go_pays m n w w2 o a few within (inr (inr (inr (inl g)))) =
    let next = g.held.next in
    let mid = noted w (Wait o) in
    let left = one_more_move m n w o _ few next in
    takes n w mid w2 o a g.after
    (wait_takes n w mid o (is_running m w o next.action) g.first (waits_after o w.journal) left refl)
go_pays m n w w2 o a few within (inr (inr (inr (inr (inl g))))) =
    let still = ap (λ (z : Answer). change_of (Ok z)) g.answer in
    let same = ap (λ (z : World). to_go n z o) g.after in
    omega (arith, still, same)
go_pays m n w w2 o a few within (inr (inr (inr (inr (inr (inl g)))))) =
    let e = State (state_left (state_of m.domain o w.journal) g.outcome) in
    let none = none_closed n (turned w o (End o e)) o (closed_by_end o w.journal e) in
    let one = some_open n w o (is_running m w o g.action) in
    takes n w (turned w o (End o e)) w2 o a g.after (omega (arith, none, one))
go_pays m n w w2 o a few within (inr (inr (inr (inr (inr (inr g)))))) =
    let mid = noted w (change_entry o g.add g.member g.set) in
    takes n w _ w2 o a g.after (move_pays m n w mid o _ few within g.next refl)
