-- The domain of a file as it is laid out: what it says, and where its blocks are.
use Rattle.std.proofs.Common.{◌≡◌, ◌∙◌, sym, ap, refl, subst, ℕ, ◌+◌, ◌≤◌, List, [], ◌++◌, length, map, append-nil, arith}
use Rattle.std.specs.List.{sum_by}
use Rattle.sml_tree.specs.Syntax.{ItemData}
use Rattle.sml_domain.specs.Program.{Instruction}
use Rattle.sml_domain.specs.Domain.{Domain, Object, Class, Group}
use Rattle.sml_domain.specs.Trees.{trees_from, trees_of}
use Rattle.sml_check_build.specs.Numbers.{Names, names_of, classes_in, objects_in, groups_in}
use Rattle.sml_check_build.specs.Grown.{ClassThere}
use Rattle.sml_check_build.specs.Rows.{class_row, class_shown, object_row, group_row}
use Rattle.sml_check_build.specs.Layout.{blocks_of_class, blocks_from, class_blocks, rows_from, class_laid, classes_laid, file_blocks}
use Rattle.sml_check_build.specs.FileDomain.{IsDomainOf, AreInPlace, domain_of}
use Rattle.sml_check_build.proofs.Layouts.{class_long, class_ordered, class_there, class_says, length-from, ordered_from, there_from, shown_from}

module _ (file : List ItemData) where
  abbrev n : Names
  n = names_of file

  says : map (class_shown (trees_of (file_blocks n (classes_in file)))) (classes_laid n (classes_in file)) ≡ map (class_row n) (classes_in file)
  says =
      let cs = classes_in file in
      sym (ap (λ bs. map (class_shown (trees_from [] bs)) (classes_laid n cs)) (append-nil (file_blocks n cs)))
      ∙ shown_from (class_blocks n) blocks_of_class (class_long n) (class_laid n) class_shown (class_row n) (λ known c more. class_says n c known more) [] cs []

  pub is_domain_of : (d : Domain) → d ≡ domain_of file → IsDomainOf file d
  is_domain_of d e = subst (IsDomainOf file) (sym e) (record { laid = refl; objects = refl; classes = says; groups = refl; states = refl; actions = refl })

  pub is_in_place : (d : Domain) → d ≡ domain_of file → AreInPlace d
  is_in_place d e =
      let cs = classes_in file in
      let m = length (file_blocks n cs) in
      let le : 0 + sum_by blocks_of_class cs ≤ m = omega (arith, length-from (class_blocks n) blocks_of_class (class_long n) 0 cs) in
      subst AreInPlace (sym e) (record {
        ordered = ordered_from (class_blocks n) blocks_of_class (class_long n) (λ k c. class_ordered n c k) 0 cs;
        there = there_from (class_blocks n) blocks_of_class (class_long n) (class_laid n) (ClassThere m) m (λ k c. class_there n c m k) 0 cs le;
      })

abbrev made : List Object → List Class → List Group → List (List ℕ) → List (List ℕ) → List (List Instruction) → Domain
made os cs gs ss actions bs = record { objects = os; classes = cs; groups = gs; states = ss; actions = actions; blocks = bs }

-- what is laid out behind no blocks is the domain of the file
pub laid_file : (file : List ItemData) (d : Domain) (names : Names) (was : List (List Instruction)) → names ≡ names_of file → was ≡ [] → d.objects ≡ map (object_row names) (objects_in file)
    → d.classes ≡ rows_from (class_laid names) blocks_of_class (length was) (classes_in file) → d.groups
    ≡ map (group_row file names) (groups_in file) → d.states ≡ names.states → d.actions ≡ names.actions
    → d.blocks ≡ was ++ blocks_from (class_blocks names) blocks_of_class (length was) (classes_in file) → d ≡ domain_of file
laid_file file d names was named none objects classes groups states actions blocks =
    let t : Domain = domain_of file in
    let cs = classes_in file in
    ap (λ x. made x d.classes d.groups d.states d.actions d.blocks) (objects ∙ ap (λ m. map (object_row m) (objects_in file)) named)
    ∙ ap (λ x. made t.objects x d.groups d.states d.actions d.blocks) (classes ∙ ap (λ (w : List (List Instruction)). rows_from (class_laid names) blocks_of_class (length w) cs) none ∙ ap (λ m. classes_laid m cs) named)
    ∙ ap (λ x. made t.objects t.classes x d.states d.actions d.blocks) (groups
    ∙ ap (λ m. map (group_row file m) (groups_in file)) named)
    ∙ ap (λ x. made t.objects t.classes t.groups x d.actions d.blocks) (states ∙ ap (λ (m : Names). m.states) named)
    ∙ ap (λ x. made t.objects t.classes t.groups t.states x d.blocks) (actions ∙ ap (λ (m : Names). m.actions) named)
    ∙ ap (λ x. made t.objects t.classes t.groups t.states t.actions x) (blocks ∙ ap (λ w. w ++ blocks_from (class_blocks names) blocks_of_class (length w) cs) none ∙ ap (λ m. file_blocks m cs) named)
