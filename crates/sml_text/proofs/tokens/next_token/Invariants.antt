use Rattle.std.proofs.Common.{◌≡◌, ◌≤◌, ◌+◌, ◌-◌, length, drop}
use Rattle.sml_text.specs.Stream.{tokens_from, bad_from}
use Rattle.sml_text.proofs.tokens.next_token.Given as goal

abbrev pub invariant-skip : goal.invariant-skip
invariant-skip l =
    (tokens_from l.fn.source l.fn.at l.fn.text ≡ tokens_from l.fn.source l.at l.rest)
    × (l.at + length l.rest ≡ l.fn.at + length l.fn.text) × (length l.rest ≤ length l.fn.text)
    × (l.rest ≡ drop (l.at - l.fn.at) l.fn.text)
    × (bad_from l.fn.source l.fn.at l.fn.text ≡ bad_from l.fn.source l.at l.rest)

abbrev pub decreases-skip : goal.decreases-skip
decreases-skip l = length l.rest
