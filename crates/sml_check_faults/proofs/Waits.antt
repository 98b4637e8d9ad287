-- What a `wait` waits for, as tests about no states.
use Rattle.std.proofs.Common.{◌≡◌, ◌∙◌, ap, refl, Bool, true, false, List, [], ◌∷◌, ◌++◌, ◌||◌, map, flat_map, if◌then◌else◌}
use Rattle.std.specs.List.{list_any}
use Rattle.sml_tree.specs.declared.cond.Scope.TheVariants.{One, All}
use Rattle.sml_tree.specs.Syntax.{WaitedData, ItemData, ClassData, ActionData}
use Rattle.sml_check_faults.specs.declared.kind.CheckKind.{CheckKind}
use Rattle.sml_check_faults.specs.Sites.{waited_site}
use Rattle.sml_check_faults.specs.Lookup.{first_item, objects_meant, of_set}
use Rattle.sml_check_faults.specs.Kinds.{test_faults, site_faults}
use Rattle.sml_check_faults.specs.InBlocks.{is_faulty_test, is_faulty_site}

-- a name behind `all_in` is a set's
waits_for_set : (all : Bool) → all ≡ of_set (if all then All else One)
waits_for_set true = refl
waits_for_set false = refl

module _ (file : List ItemData) (c : ClassData) (a : ActionData) where
  -- the faults of a kind
  waited_faults : (k : CheckKind) (ws : List WaitedData) → flat_map (λ w. test_faults k file c w.all w.name []) ws ≡ flat_map (site_faults k file c a) (map waited_site ws)
  waited_faults k [] = refl
  waited_faults k (w ∷ ws) =
      ap (λ ns. ns ++ flat_map (λ w. test_faults k file c w.all w.name []) ws) (ap (λ b. test_faults k file c b w.name []) (waits_for_set w.all))
      ∙ ap (λ ns. site_faults k file c a (waited_site w) ++ ns) (waited_faults k ws)

  pub waited_first : (k : CheckKind) (ws : List WaitedData) → first_item (flat_map (λ w. test_faults k file c w.all w.name []) ws) ≡ first_item (flat_map (site_faults k file c a) (map waited_site ws))
  waited_first k ws = ap first_item (waited_faults k ws)

  -- whether there is one at fault
  pub waited_any : (ws : List WaitedData) → list_any (λ w. is_faulty_test file c w.all w.name [] (objects_meant file w.all w.name)) ws ≡ list_any (is_faulty_site file c a) (map waited_site ws)
  waited_any [] = refl
  waited_any (w ∷ ws) =
      ap (λ b. b || list_any (λ w. is_faulty_test file c w.all w.name [] (objects_meant file w.all w.name)) ws) (ap (λ b. is_faulty_test file c b w.name [] (objects_meant file b w.name)) (waits_for_set w.all))
      ∙ ap (λ b. is_faulty_site file c a (waited_site w) || b) (waited_any ws)
