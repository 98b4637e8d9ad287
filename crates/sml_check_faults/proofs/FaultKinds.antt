-- The kinds whose faults stand at single items.
use Rattle.std.proofs.Common.{◌≡◌, ◌∙◌, refl, ap, ℕ, false, List, [], ◌∷◌, ◌++◌, flat_map}
use Rattle.sml_tree.specs.Syntax.{ItemData, ClassData, ActionData}
use Rattle.sml_check_faults.specs.Kinds.{faults_of, item_faults, site_faults, stands_in_blocks}
use Rattle.sml_check_faults.specs.Sites.{Site, asks, tests, sets, ends, changes}
use Rattle.sml_check_faults.specs.declared.kind.CheckKind.{CheckKind}
use Rattle.sml_check_faults.specs.declared.kind.CheckKind.TheVariants.{Duplicate, NoState, TwoInitial, TwoDead, UnknownClass, UnknownObject, UnknownSet, UnknownState, UnknownAction, UnknownParam, KindMismatch, MissingArg, ParamsDiffer, SelfInCondition, AssociatedBody, Memory}

pub single : (kind : CheckKind) (file : List ItemData) → (kind ≡ Duplicate → ⊥) → (kind ≡ ParamsDiffer → ⊥) → faults_of kind file ≡ flat_map (item_faults kind file) file
single Duplicate file other another = absurd (other refl)
single NoState file other another = refl
single TwoInitial file other another = refl
single TwoDead file other another = refl
single UnknownClass file other another = refl
single UnknownObject file other another = refl
single UnknownSet file other another = refl
single UnknownState file other another = refl
single UnknownAction file other another = refl
single UnknownParam file other another = refl
single KindMismatch file other another = refl
single MissingArg file other another = refl
single ParamsDiffer file other another = absurd (another refl)
single SelfInCondition file other another = refl
single AssociatedBody file other another = refl
single Memory file other another = refl

-- a kind that has no faults in blocks has none at any of their places
no_place : (kind : CheckKind) (file : List ItemData) (c : ClassData) (a : ActionData) (s : Site) → false ≡ stands_in_blocks kind → site_faults kind file c a s ≡ []
no_place NoState file c a (asks s) out = refl
no_place NoState file c a (tests t) out = refl
no_place NoState file c a (sets n v) out = refl
no_place NoState file c a (ends s) out = refl
no_place NoState file c a (changes add member set) out = refl
no_place TwoInitial file c a (asks s) out = refl
no_place TwoInitial file c a (tests t) out = refl
no_place TwoInitial file c a (sets n v) out = refl
no_place TwoInitial file c a (ends s) out = refl
no_place TwoInitial file c a (changes add member set) out = refl
no_place TwoDead file c a (asks s) out = refl
no_place TwoDead file c a (tests t) out = refl
no_place TwoDead file c a (sets n v) out = refl
no_place TwoDead file c a (ends s) out = refl
no_place TwoDead file c a (changes add member set) out = refl
no_place UnknownClass file c a (asks s) out = refl
no_place UnknownClass file c a (tests t) out = refl
no_place UnknownClass file c a (sets n v) out = refl
no_place UnknownClass file c a (ends s) out = refl
no_place UnknownClass file c a (changes add member set) out = refl
no_place ParamsDiffer file c a (asks s) out = refl
no_place ParamsDiffer file c a (tests t) out = refl
no_place ParamsDiffer file c a (sets n v) out = refl
no_place ParamsDiffer file c a (ends s) out = refl
no_place ParamsDiffer file c a (changes add member set) out = refl
no_place AssociatedBody file c a (asks s) out = refl
no_place AssociatedBody file c a (tests t) out = refl
no_place AssociatedBody file c a (sets n v) out = refl
no_place AssociatedBody file c a (ends s) out = refl
no_place AssociatedBody file c a (changes add member set) out = refl
no_place Memory file c a (asks s) out = refl
no_place Memory file c a (tests t) out = refl
no_place Memory file c a (sets n v) out = refl
no_place Memory file c a (ends s) out = refl
no_place Memory file c a (changes add member set) out = refl
no_place Duplicate file c a s out = cc
no_place UnknownObject file c a s out = cc
no_place UnknownSet file c a s out = cc
no_place UnknownState file c a s out = cc
no_place UnknownAction file c a s out = cc
no_place UnknownParam file c a s out = cc
no_place KindMismatch file c a s out = cc
no_place MissingArg file c a s out = cc
no_place SelfInCondition file c a s out = cc

all_nil : {X : Type 0} (f : X → List (List ℕ)) (xs : List X) → ((x : X) → f x ≡ []) → flat_map f xs ≡ []
all_nil f [] none = refl
all_nil f (x ∷ xs) none = ap (λ ys. ys ++ flat_map f xs) (none x) ∙ all_nil f xs none

-- nor in any list of them
pub no_places : (kind : CheckKind) (file : List ItemData) (c : ClassData) (a : ActionData) (sites : List Site) → false ≡ stands_in_blocks kind → flat_map (site_faults kind file c a) sites ≡ []
no_places kind file c a sites out = all_nil (site_faults kind file c a) sites (λ s. no_place kind file c a s out)
