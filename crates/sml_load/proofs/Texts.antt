-- The strings of a file whose text can be read have the bytes of strings.
use Rattle.std.proofs.Common.{◌≡◌, subst, List, Option, Some}
use Rattle.std.specs.Prelude.{IfSome}
use Rattle.std.specs.List.{Contains}
use Rattle.sml_tree.specs.Syntax.{LiteralData, int, str, ArgData, lit, param, ItemData, class, ClassData, ActionData}
use Rattle.sml_check_faults.specs.Sites.{Site, asks, sets, block_sites}
use Rattle.sml_check_faults.specs.Lookup.{actions_of}
use Rattle.sml_check_faults.specs.Inside.{HasAction, HasSite}
use Rattle.sml_check_faults.proofs.Pairs.{contains_one}
use Rattle.sml_round_trip.specs.Writable.{IsLiteral, IsArg, IsPassed, IsClassParam, IsActionParam, IsWritableAction, IsWritableState, IsWritableClass, IsWritableItem, IsWritable}
use Rattle.sml_check_build.specs.Placed.{IsWritten}
use Rattle.sml_check_build.specs.Texts.{ArgWritten, HasTexts}
use Rattle.sml_load.proofs.Sites.{all_in, IsWritableSite, block_writable}

literal_written : (l : LiteralData) → IsLiteral l → IsWritten l
literal_written (int n) h = tt
literal_written (str bytes) h = record { fits = h.0; short = h.1 }

arg_written : (v : ArgData) → IsArg v → ArgWritten v
arg_written (lit l) h = literal_written l h
arg_written (param n) h = tt

default_written : (o : Option LiteralData) (l : LiteralData) → IfSome o IsLiteral → o ≡ Some l → IsWritten l
default_written o l h is = literal_written l (subst (λ d. IfSome d IsLiteral) is h)

module _ (file : List ItemData) (h : IsWritable file) where
  class_writable : (c : ClassData) → Contains file (class c) → IsWritableClass c
  class_writable c at = all_in IsWritableItem file (class c) h at

  action_writable : (c : ClassData) (a : ActionData) → HasAction file c a → IsWritableAction a
  action_writable c a has =
      let state = contains_one actions_of c.states a has.action_in in
      all_in IsWritableAction state.0.actions a (all_in IsWritableState c.states state.0 (class_writable c has.class_in).2 state.1).1 state.2

  site_writable : (c : ClassData) (a : ActionData) (site : Site) → HasSite file c a site → IsWritableSite site
  site_writable c a site at =
      let action = action_writable c a (record { class_in = at.class_in; action_in = at.action_in }) in
      all_in IsWritableSite (block_sites a.body) site (block_writable a.body action.2) at.site_in

  pub has_texts : HasTexts file
  has_texts = record {
    values = λ c at p in_it. literal_written p.value (all_in IsClassParam c.params p (class_writable c at).1 in_it).1;
    defaults = λ c a has p in_it l is. default_written p.default l (all_in IsActionParam a.params p (action_writable c a has).1 in_it).1 is;
    arguments = λ c a s at q in_it. arg_written q.value (all_in IsPassed s.args q (site_writable c a (asks s) at).1 in_it).1;
    given = λ c a n v at. arg_written v (site_writable c a (sets n v) at).1;
  }
