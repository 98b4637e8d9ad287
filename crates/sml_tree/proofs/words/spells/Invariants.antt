use Rattle.std.proofs.Common.{◌≡◌, drop, nat_eq}
use Rattle.std.specs.Cmp.Lexicographic.{pointwise}
use Rattle.sml_tree.specs.Word.{upper}
use Rattle.sml_tree.proofs.words.spells.Given as goal

-- the bytes before this one are the same
abbrev pub invariant-loop-i : goal.invariant-loop-i
invariant-loop-i l = pointwise nat_eq (upper l.word) l.upper_word ≡ pointwise nat_eq (upper (drop l.i l.word)) (drop l.i l.upper_word)
