use Rattle.std.proofs.Common.{◌≡◌, ◌∙◌, ◌+◌, ◌++◌, ◌∷◌, [], sym, ap, arith, cond, take, drop, get_or}
use Rattle.std.proofs.lemmas.Bool.Decides.{nat_tests}
use Rattle.std.proofs.lemmas.List.{take_more, take-append-drop}
use Rattle.std.proofs.lemmas.List.Filters.{length-filter_more}
use Rattle.smirun_commands.specs.States.{ended_lines, ends_line}
use Rattle.smirun_commands.proofs.states.first_lines.Goals as goal

-- the lines up to the line feed that was found
pub returns-then-ended-count-clause-some : goal.returns-then-ended-count-clause-some
returns-then-ended-count-clause-some c =
    let xs = c.args.text.now in
    let i = c.loop-place.place in
    let within = c.loop-place-test.true in
    let front = c.split_at.ensures.front in
    let ten : get_or xs i 0 ≡ 10 = grind (arith, nat_tests) in
    let one : ended_lines (take (i + 1) xs) ≡ ended_lines (take i xs) + 1 =
    length-filter_more ends_line xs i 0 within ∙ ap (λ b. ended_lines (take i xs) + cond (ends_line b) 1 0) ten in
    let all : ended_lines (take (i + 1) xs) ≡ c.args.count =
    omega (arith, one, c.loop-place.invariant.is, c.if-ended-count.true) in
    record {
      rest = drop (i + 1) xs;
      split = sym (take-append-drop (i + 1) xs) ∙ ap (λ l. l ++ drop (i + 1) xs) (sym front);
      lines = ap ended_lines front ∙ all;
      before = take i xs;
      ends = front ∙ take_more xs i 0 within ∙ ap (λ b. take i xs ++ b ∷ []) ten;
    }
