-- How deep a block nests, from one instruction on.
use Rattle.std.proofs.Common.{◌≡◌, ◌∙◌, sym, ap, ℕ, suc, ◌<◌, ◌≤◌, ◌+◌, max, min, List, length, get_or, map, drop, arith, drop-cons, add-one}
use Rattle.std.specs.Ordering.{ord_max, nat_cmp}
use Rattle.std.proofs.lemmas.Bool.Decides.{nat_tests}
use Rattle.std.proofs.lemmas.List.{drop_all}
use Rattle.sml_tree.specs.Syntax.{InstrData, block_depth, instr_depth}
use Rattle.sml_tree.specs.Content.{block_of}

ord_max_is : (x y : ℕ) → ord_max nat_cmp x y ≡ max x y
ord_max_is x y = grind (arith, nat_tests)

module _ {X : Type 0} (f : X → InstrData) where
  -- how deep the instructions from one on nest
  abbrev pub depth_from : List X → ℕ → ℕ
  depth_from items k = block_depth (block_of (map f (drop k items)))

  pub depth_from-more : (items : List X) (k : ℕ) (x : X) → k < length items → x ≡ get_or items k x →
      depth_from items k ≡ max (instr_depth (f x)) (depth_from items (k + 1))
  depth_from-more items k x within is =
      ap (λ l. block_depth (block_of (map f l))) (drop-cons items k x within)
      ∙ ap (λ y. max (instr_depth (f y)) (depth_from items (suc k))) (sym is)
      ∙ ap (λ n. max (instr_depth (f x)) (depth_from items n)) (sym (add-one k))

  pub depth_from-all : (items : List X) (k : ℕ) → length items ≤ k → depth_from items k ≡ 0
  depth_from-all items k over = ap (λ l. block_depth (block_of (map f l))) (drop_all k items over)

-- one instruction more
pub deepest_more : (m d e x y z most total : ℕ) → e ≡ ord_max nat_cmp m d → d ≡ min x most → z ≡ max x y → max m (min z most) ≡ total → max e (min y most) ≡ total
deepest_more m d e x y z most total is_max is_min both so_far =
    let bigger : e ≡ max m d = is_max ∙ ord_max_is m d in omega arith
