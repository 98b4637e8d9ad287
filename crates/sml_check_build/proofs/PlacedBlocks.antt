-- A block whose places have numbers for their names.
use Rattle.std.proofs.Common.{ℕ, Bool, true, false, List, [], ◌++◌, map, All, if◌then◌else◌}
use Rattle.std.specs.List.{Contains}
use Rattle.std.proofs.lemmas.List.Elements.{Contains-append_left, Contains-append_right}
use Rattle.sml_tree.specs.Syntax.{CondData, both, either, neither, test, WaitedData, InstrData, send, choose, assign, move_to, terminate, wait_for, insert_in, remove_from, BlockData, done, step, ClassData, ActionData}
use Rattle.sml_tree.specs.declared.cond.Scope.TheVariants.{One, All as AllOf}
use Rattle.sml_check_faults.specs.Sites.{Site, asks, tests, sets, ends, changes, waited_site, cond_sites, instr_sites, block_sites}
use Rattle.sml_check_faults.proofs.Pairs.{contains_here}
use Rattle.sml_check_build.specs.Numbers.{Names, place}
use Rattle.sml_check_build.specs.Programs.{class_place}
use Rattle.sml_check_build.proofs.Numbered.{all_from, contains_map}
use Rattle.sml_check_build.specs.Placed.{IsThere, NameHasNumber, ValuePlaced, TargetPlaced, WaitedPlaced, AskedPlaced, CondPlaced, RequestPlaced, InstrPlaced, BlockPlaced}

-- a place of a block whose names have numbers
abbrev pub SitePlaced : Names → ClassData → ActionData → Site → Type 0
SitePlaced n c a (asks s) = RequestPlaced n c a s (place n.actions s.action)
SitePlaced n c a (tests t) = AskedPlaced n t.scope t.name
SitePlaced n c a (sets x v) = IsThere (class_place c x) × ValuePlaced c a v
SitePlaced n c a (ends s) = NameHasNumber n.states s
SitePlaced n c a (changes add m s) = NameHasNumber n.objects m × NameHasNumber n.groups s

-- so are some places
abbrev pub SitesPlaced : Names → ClassData → ActionData → List Site → Type 0
SitesPlaced n c a sites = (s : Site) → Contains sites s → SitePlaced n c a s

module _ (n : Names) (c : ClassData) (a : ActionData) where
  left : (xs ys : List Site) → SitesPlaced n c a (xs ++ ys) → SitesPlaced n c a xs
  left xs ys each s at = each s (Contains-append_left xs ys s at)

  right : (xs ys : List Site) → SitesPlaced n c a (xs ++ ys) → SitesPlaced n c a ys
  right xs ys each s at = each s (Contains-append_right xs ys s at)

  cond_placed : (f : CondData) → SitesPlaced n c a (cond_sites f) → CondPlaced n f
  cond_placed (both f g) each = (cond_placed f (left (cond_sites f) (cond_sites g) each), cond_placed g (right (cond_sites f) (cond_sites g) each))
  cond_placed (either f g) each = (cond_placed f (left (cond_sites f) (cond_sites g) each), cond_placed g (right (cond_sites f) (cond_sites g) each))
  cond_placed (neither f) each = cond_placed f each
  cond_placed (test t) each = each (tests t) (contains_here (tests t) [])

  target_placed : (all : Bool) (x : List ℕ) → AskedPlaced n (if all then AllOf else One) x → TargetPlaced n all x
  target_placed true x h = h
  target_placed false x h = h

  waits_placed : (ws : List WaitedData) → SitesPlaced n c a (map waited_site ws) → All (WaitedPlaced n) ws
  waits_placed ws each = all_from (WaitedPlaced n) ws (λ w w_at. target_placed w.all w.name (each (waited_site w) (contains_map waited_site ws w w_at)))

  mutual
    instr_placed : (i : InstrData) → SitesPlaced n c a (instr_sites i) → InstrPlaced n c a i
    instr_placed (send s) each = each (asks s) (contains_here (asks s) [])
    instr_placed (choose f p q) each =
        let blocks = right (cond_sites f) (block_sites p ++ block_sites q) each in
        (cond_placed f (left (cond_sites f) (block_sites p ++ block_sites q) each), (block_placed p (left (block_sites p) (block_sites q) blocks), block_placed q (right (block_sites p) (block_sites q) blocks)))
    instr_placed (assign x v) each = each (sets x v) (contains_here (sets x v) [])
    instr_placed (move_to s) each = each (ends s) (contains_here (ends s) [])
    instr_placed (terminate s) each = each (ends s) (contains_here (ends s) [])
    instr_placed (wait_for ws) each = waits_placed ws each
    instr_placed (insert_in m s) each = each (changes true m s) (contains_here (changes true m s) [])
    instr_placed (remove_from m s) each = each (changes false m s) (contains_here (changes false m s) [])

    pub block_placed : (b : BlockData) → SitesPlaced n c a (block_sites b) → BlockPlaced n c a b
    block_placed done each = tt
    block_placed (step i rest) each = (instr_placed i (left (instr_sites i) (block_sites rest) each), block_placed rest (right (instr_sites i) (block_sites rest) each))
