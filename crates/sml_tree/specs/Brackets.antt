-- How many brackets and `not`s are open at once in the canonical text of a condition.
use Rattle.std.specs.Prelude.{ℕ, ◌+◌, max, Bool, true, false, if◌then◌else◌}
use Rattle.sml_tree.specs.Syntax.{CondData, both, either, neither, test}

-- an `or`
abbrev pub is_or : CondData → Bool
is_or (both l r) = false
is_or (either l r) = true
is_or (neither c) = false
is_or (test x) = false

-- an `and` or an `or`
abbrev pub is_chain : CondData → Bool
is_chain (both l r) = true
is_chain (either l r) = true
is_chain (neither c) = false
is_chain (test x) = false

-- one more if there are brackets round it
abbrev pub in_brackets : Bool → ℕ → ℕ
in_brackets there n = if there then n + 1 else n

-- The most that are open at once. Brackets are round an `or` that is an operand of `and`, round an `and` that is its
-- right operand, round an `or` that is the right operand of `or`, round both under `not`, and nowhere else.
abbrev pub open_depth : CondData → ℕ
open_depth (both l r) = max (in_brackets (is_or l) (open_depth l)) (in_brackets (is_chain r) (open_depth r))
open_depth (either l r) = max (open_depth l) (in_brackets (is_or r) (open_depth r))
open_depth (neither c) = in_brackets (is_chain c) (open_depth c) + 1
open_depth (test x) = 0
