use Rattle.std.proofs.Common.{◌≡◌, ◌≤◌, length, take}
use Rattle.smi_live_answers.specs.EndWords.{ends_off, in_word}
use Rattle.smi_live_answers.proofs.words.start_of_word.Given as goal

abbrev pub invariant-loop-start : goal.invariant-loop-start
invariant-loop-start l = (l.start ≤ length l.text) × (ends_off in_word l.text ≡ ends_off in_word (take l.start l.text))

abbrev pub decreases-loop-start : goal.decreases-loop-start
decreases-loop-start l = l.start
