use Rattle.std.proofs.Common.{◌≡◌, ◌≤◌, length, take}
use Rattle.sml_text.specs.Bytes.{is_blank as blank}
use Rattle.smi_live_answers.specs.EndWords.{ends_off}
use Rattle.smi_live_answers.proofs.words.end_of_words.Given as goal

abbrev pub invariant-loop-end : goal.invariant-loop-end
invariant-loop-end l = (l.end ≤ length l.text) × (ends_off blank l.text ≡ ends_off blank (take l.end l.text))

abbrev pub decreases-loop-end : goal.decreases-loop-end
decreases-loop-end l = l.end
