-- A file of items whose strings have the bytes of one.
use Rattle.std.proofs.Common.{subst, List}
use Rattle.std.specs.Prelude.{IfSome}
use Rattle.std.specs.List.{Contains, AllByRecursion}
use Rattle.std.proofs.lemmas.List.Elements.{All-contains, All-from_recursion}
use Rattle.sml_tree.specs.Syntax.{ItemData, class, ClassData, ActionData}
use Rattle.sml_check_faults.specs.Lookup.{actions}
use Rattle.sml_check_faults.specs.Sites.{Site, asks, sets, block_sites}
use Rattle.sml_check_build.specs.Placed.{IsWritten, ParamWritten, DefaultWritten}
use Rattle.sml_check_build.specs.Texts.{HasTexts}
use Rattle.sml_check_build.specs.Written.{PassedWritten, SiteWritten, ActionWritten, ClassWritten, ItemWritten}

at_one : {X : Type 0} (P : X → Type 0) (xs : List X) (x : X) → AllByRecursion P xs → Contains xs x → P x
at_one P xs x all at = All-contains P xs x (All-from_recursion P xs all) at

pub has_texts : (file : List ItemData) → AllByRecursion ItemWritten file → HasTexts file
has_texts file all = record {
  values = λ c at p p_at. at_one ParamWritten c.params p (class_at c at).0 p_at;
  defaults = λ c a has p p_at l e. subst (λ o. IfSome o IsWritten) e (at_one DefaultWritten a.params p (action_at c a has.class_in has.action_in).0 p_at);
  arguments = λ c a s has q q_at. at_one PassedWritten s.args q (site_at c a (asks s) has.class_in has.action_in has.site_in) q_at;
  given = λ c a n v has. site_at c a (sets n v) has.class_in has.action_in has.site_in;
}
  where
    class_at : (c : ClassData) → Contains file (class c) → ClassWritten c
    class_at c at = at_one ItemWritten file (class c) all at

    action_at : (c : ClassData) (a : ActionData) → Contains file (class c) → Contains (actions c) a → ActionWritten a
    action_at c a at a_at = at_one ActionWritten (actions c) a (class_at c at).1 a_at

    site_at : (c : ClassData) (a : ActionData) (site : Site) → Contains file (class c) → Contains (actions c) a → Contains (block_sites a.body) site → SiteWritten site
    site_at c a site at a_at s_at = at_one SiteWritten (block_sites a.body) site (action_at c a at a_at).1 s_at
