-- A file has no faults of a kind where none of its parts has.
use Rattle.std.proofs.Common.{◌≡◌, Bool, List, [], flat_map}
use Rattle.std.specs.List.{Contains}
use Rattle.sml_tree.specs.Syntax.{ArgData, TestData, ItemData, class, object, group, ClassData, ObjectData, GroupData, ActionData, SendData}
use Rattle.std.specs.Prelude.{ℕ}
use Rattle.sml_check_faults.specs.declared.kind.CheckKind.{CheckKind}
use Rattle.sml_check_faults.specs.Sites.{Site, asks, tests, sets, ends, changes, block_sites}
use Rattle.sml_check_faults.specs.Lookup.{actions}
use Rattle.sml_check_faults.specs.Kinds.{site_faults, action_head, action_faults, class_head, object_faults, group_faults, item_faults}
use Rattle.sml_check_faults.specs.Inside.{HasAction, HasSite}
use Rattle.sml_check_faults.proofs.Pairs.{both_nil, flat_none}

-- no part has a fault of this kind
pub record Parts (kind : CheckKind) (file : List ItemData) : Type 0 where
  pub at_class : (c : ClassData) → Contains file (class c) → class_head kind c ≡ []
  pub at_action : (c : ClassData) (a : ActionData) → HasAction file c a → action_head kind c a ≡ []
  pub at_send : (c : ClassData) (a : ActionData) (s : SendData) → HasSite file c a (asks s) → site_faults kind file c a (asks s) ≡ []
  pub at_test : (c : ClassData) (a : ActionData) (t : TestData) → HasSite file c a (tests t) → site_faults kind file c a (tests t) ≡ []
  pub at_set : (c : ClassData) (a : ActionData) (n : List ℕ) (v : ArgData) → HasSite file c a (sets n v) → site_faults kind file c a (sets n v) ≡ []
  pub at_end : (c : ClassData) (a : ActionData) (n : List ℕ) → HasSite file c a (ends n) → site_faults kind file c a (ends n) ≡ []
  pub at_change : (c : ClassData) (a : ActionData) (add : Bool) (m s : List ℕ) → HasSite file c a (changes add m s)
      → site_faults kind file c a (changes add m s) ≡ []
  pub at_object : (o : ObjectData) → Contains file (object o) → object_faults kind file o ≡ []
  pub at_group : (g : GroupData) → Contains file (group g) → group_faults kind file g ≡ []

module _ (kind : CheckKind) (file : List ItemData) (p : Parts kind file) where
  at_site : (c : ClassData) (a : ActionData) (site : Site) → HasSite file c a site → site_faults kind file c a site ≡ []
  at_site c a (asks s) at = p.at_send c a s at
  at_site c a (tests t) at = p.at_test c a t at
  at_site c a (sets n v) at = p.at_set c a n v at
  at_site c a (ends n) at = p.at_end c a n at
  at_site c a (changes add m s) at = p.at_change c a add m s at

  in_action : (c : ClassData) (a : ActionData) → HasAction file c a → action_faults kind file c a ≡ []
  in_action c a at =
      both_nil (action_head kind c a) (flat_map (site_faults kind file c a) (block_sites a.body)) (p.at_action c a at)
      (flat_none (site_faults kind file c a) (block_sites a.body) (λ site here. at_site c a site (record { class_in = at.class_in; action_in = at.action_in; site_in = here })))

  at_item : (x : ItemData) → Contains file x → item_faults kind file x ≡ []
  at_item (class c) at =
      both_nil (class_head kind c) (flat_map (action_faults kind file c) (actions c)) (p.at_class c at)
      (flat_none (action_faults kind file c) (actions c) (λ a here. in_action c a (record { class_in = at; action_in = here })))
  at_item (object o) at = p.at_object o at
  at_item (group g) at = p.at_group g at

  pub no_part : flat_map (item_faults kind file) file ≡ []
  no_part = flat_none (item_faults kind file) file at_item
