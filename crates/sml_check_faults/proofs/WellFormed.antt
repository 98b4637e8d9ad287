-- What is not among the faults of a well-formed file.
use Rattle.std.proofs.Common.{◌≡◌, refl, Bool, true, false, not, List, [], ◌∷◌, map, flat_map}
use Rattle.std.specs.List.{Contains}
use Rattle.sml_tree.specs.Syntax.{ItemData, class, ClassData, ActionData}
use Rattle.sml_check_faults.specs.declared.kind.CheckKind.{CheckKind}
use Rattle.sml_check_faults.specs.Sites.{Site, block_sites}
use Rattle.sml_check_faults.specs.Lookup.{actions}
use Rattle.sml_check_faults.specs.Kinds.{site_faults, action_head, action_faults, class_head, class_faults, item_faults, faults_of, kinds, with_kind, IsWellFormed}
use Rattle.sml_check_faults.specs.Inside.{HasAction, HasSite}
use Rattle.sml_check_faults.proofs.Pairs.{left_nil, right_nil, flat_nil}

map_nil : {X Y : Type 0} (f : X → Y) (xs : List X) → map f xs ≡ [] → xs ≡ []
map_nil f [] h = refl
map_nil f (x ∷ xs) h = cc

pub no_fault : (file : List ItemData) → IsWellFormed file → (kind : CheckKind) → Contains kinds kind → faults_of kind file ≡ []
no_fault file ok kind at = map_nil (λ n. (kind, n)) (faults_of kind file) (flat_nil (with_kind file) kinds kind at ok)

pub not_not : (b : Bool) → not b ≡ false → b ≡ true
not_not true e = refl
not_not false e = cc

module _ (kind : CheckKind) (file : List ItemData) (none : flat_map (item_faults kind file) file ≡ []) where
  pub at_class : (c : ClassData) → Contains file (class c) → class_faults kind file c ≡ []
  at_class c at = flat_nil (item_faults kind file) file (class c) at none

  pub at_head : (c : ClassData) → Contains file (class c) → class_head kind c ≡ []
  at_head c at = left_nil (class_head kind c) (flat_map (action_faults kind file c) (actions c)) (at_class c at)

  pub at_action : (c : ClassData) (a : ActionData) → HasAction file c a → action_faults kind file c a ≡ []
  at_action c a at = flat_nil (action_faults kind file c) (actions c) a at.action_in (right_nil (class_head kind c) (flat_map (action_faults kind file c) (actions c)) (at_class c at.class_in))

  pub at_action_head : (c : ClassData) (a : ActionData) → HasAction file c a → action_head kind c a ≡ []
  at_action_head c a at = left_nil (action_head kind c a) (flat_map (site_faults kind file c a) (block_sites a.body)) (at_action c a at)

  pub at_site : (c : ClassData) (a : ActionData) (site : Site) → HasSite file c a site → site_faults kind file c a site ≡ []
  at_site c a site at =
      flat_nil (site_faults kind file c a) (block_sites a.body) site at.site_in
      (right_nil (action_head kind c a) (flat_map (site_faults kind file c a) (block_sites a.body)) (at_action c a (record { class_in = at.class_in; action_in = at.action_in })))
