-- How many of the entries of a journal are starts.
use Rattle.std.proofs.Common.{◌≡◌, ◌∙◌, sym, ap, ◌≤◌, ◌+◌, arith, ℕ, List, [], ◌∷◌, ◌++◌, length, length-append, take}
use Rattle.std.specs.List.{flat_map}
use Rattle.std.proofs.lemmas.List.Concat.{flat_map-cons}
use Rattle.smi_journal_entries.specs.declared.entry.Entry.{Entry}
use Rattle.smi_journal_entries.specs.declared.entry.Entry.TheVariants.{Start, Post, Wait, Seen, End, Kill, Insert, Remove, NoMember}
use Rattle.smi_journal_entries.specs.Words.{all_starts, any_start}
use Rattle.smi_journal_entries.proofs.OneMore.{all_more}

any_one : (e : Entry) → length (any_start e) ≤ 1
any_one (Start x s n a args) = omega arith
any_one (Post x t v a args) = omega arith
any_one (Wait x) = omega arith
any_one (Seen x rs) = omega arith
any_one (End x r) = omega arith
any_one (Kill x c) = omega arith
any_one (Insert x u set) = omega arith
any_one (Remove x u set) = omega arith
any_one (NoMember x set) = omega arith

-- there are no more starts than entries
pub starts_few : (J : List Entry) → length (all_starts J) ≤ length J
starts_few [] = omega arith
starts_few (e ∷ es) =
    let one : length (all_starts (e ∷ es)) ≡ length (any_start e) + length (all_starts es) = ap length (flat_map-cons any_start e es) ∙ length-append (any_start e) (all_starts es) in
    omega (arith, one, any_one e, starts_few es)

-- with one entry more there are those that it is
pub starts_next : (J : List Entry) (i n k : ℕ) (e : Entry) → take (i + 1) J ≡ take i J ++ e ∷ [] → n ≡ length (all_starts (take i J)) → length (any_start e) ≡ k → n + k ≡ length (all_starts (take (i + 1) J))
starts_next J i n k e more before one =
    let all : length (all_starts (take (i + 1) J)) ≡ length (all_starts (take i J)) + length (any_start e) = ap (λ l. length (all_starts l)) more ∙ ap length (all_more (take i J) e) ∙ length-append (all_starts (take i J)) (any_start e) in
    omega (arith, all, before, one)
