-- What a name is found to stand for.
use Rattle.std.proofs.Common.{◌≡◌, ◌∙◌, sym, ap, subst, refl, ℕ, zero, suc, Bool, true, false, ◌&&◌, ◌⊎◌, inl, inr, List, [], ◌∷◌, ◌++◌, Option, Some, None, is_some, cond, arith}
use Rattle.std.specs.List.{Contains, find}
use Rattle.std.proofs.lemmas.Option.{none-some, same_Some}
use Rattle.sml_tree.specs.Syntax.{ItemData, class, object, group, ClassData, ObjectData, GroupData}
use Rattle.sml_check_faults.specs.Sites.{changes}
use Rattle.sml_check_faults.specs.Lookup.{named, where_so, file_class_named, file_object_named, group_named, class_of, class_of_object, objects_meant, has_object, sites_in, inserted_at, inserted_in, may_have}
use Rattle.sml_check_faults.specs.Tables.{class_item, object_item, group_item}
use Rattle.sml_check_faults.specs.Inside.{StandsBefore, IsInserted, SpeaksOf, IsOfClass, DeclaresClass, DeclaresObject, DeclaresSet}
use Rattle.sml_check_faults.specs.PairLaws.{AreDifferent}
use Rattle.sml_check_faults.proofs.Pairs.{split, stands, not_named, same_names, named_same, contains_here, contains_next, contains_all, found_any, any_at}
use Rattle.sml_check_faults.proofs.Inserted.{all_kept, all_added, old_or_added, site_there, inserted_by}

-- ---- the first of some things that is seen in a way and passes a test

abbrev seen : {X : Type 0} → (X → Bool) → Option X → Option X → Option X
seen p None o = o
seen p (Some y) o = cond (p y) (Some y) o

abbrev pick : {A X : Type 0} → (A → Option X) → (X → Bool) → List A → Option X
pick view p [] = None
pick view p (x ∷ xs) = seen p (view x) (pick view p xs)

-- it is there, and passes
record Picked {A X : Type 0} (view : A → Option X) (p : X → Bool) (xs : List A) (y : X) : Type 0 where
  pub item : A
  pub at : Contains xs item
  pub is : view item ≡ Some y
  pub passes : p y ≡ true

picked : {A X : Type 0} (view : A → Option X) (p : X → Bool) (xs : List A) (y : X) → pick view p xs ≡ Some y → Picked view p xs y
picked view p [] y e = absurd (none-some y e)
picked {A} {X} view p (x ∷ xs) y e = by (view x) refl (picked view p xs y) e
  where
    later : Picked view p xs y → Picked view p (x ∷ xs) y
    later f = record { item = f.item; at = contains_next x xs f.item f.at; is = f.is; passes = f.passes }

    here : (z : X) (b : Bool) → view x ≡ Some z → p z ≡ b → (pick view p xs ≡ Some y → Picked view p xs y) → cond b (Some z) (pick view p xs) ≡ Some y → Picked view p (x ∷ xs) y
    here z true is passes next f =
        let same = same_Some z y f in record { item = x; at = contains_here x xs; is = is ∙ f; passes = sym (ap p same) ∙ passes }
    here z false is passes next f = later (next f)

    by : (o : Option X) → view x ≡ o → (pick view p xs ≡ Some y → Picked view p xs y) → seen p o (pick view p xs) ≡ Some y → Picked view p (x ∷ xs) y
    by None is next f = later (next f)
    by (Some z) is next f = here z (p z) is refl next f

past : {A X : Type 0} (view : A → Option X) (p : X → Bool) (bs xs : List A) → ((x : A) (y : X) → Contains bs x → view x ≡ Some y → p y ≡ false) → pick view p (bs ++ xs) ≡ pick view p xs
past view p [] xs none = refl
past {A} {X} view p (b ∷ bs) xs none =
    by (view b) refl ∙ past view p bs xs (λ x y at. none x y (contains_next b bs x at))
  where
    skipped : (y : X) (c : Bool) (o : Option X) → p y ≡ c → c ≡ false → cond c (Some y) o ≡ o
    skipped y true o is e = cc
    skipped y false o is e = refl

    by : (o : Option X) → view b ≡ o → seen p o (pick view p (bs ++ xs)) ≡ pick view p (bs ++ xs)
    by None is = refl
    by (Some y) is = skipped y (p y) (pick view p (bs ++ xs)) refl (none b y (contains_here b bs) is)

-- what is there and passes is found, where nothing before it passes
picks : {A X : Type 0} (view : A → Option X) (p : X → Bool) (xs : List A) (x : A) (y : X) → Contains xs x → view x ≡ Some y → p y ≡ true
    → ((w : A) (z : X) → StandsBefore w x xs → view w ≡ Some z → p z ≡ false) → pick view p xs ≡ Some y
picks view p xs x y at is passes none =
    let s = split xs x at in
    ap (pick view p) s.is ∙ past view p s.before (x ∷ s.after) (λ w z before. none w z (stands xs x s w before)) ∙ ap (λ o. seen p o (pick view p s.after)) is
    ∙ ap (λ b. cond b (Some y) (pick view p s.after)) passes

-- ---- classes, objects and sets

class_pick : (file : List ItemData) (n : List ℕ) → file_class_named file n ≡ pick class_item (λ (c : ClassData). named n c.name) file
class_pick [] n = refl
class_pick (class c ∷ items) n = ap (cond (named n c.name) (Some c)) (class_pick items n)
class_pick (object o ∷ items) n = class_pick items n
class_pick (group g ∷ items) n = class_pick items n

object_pick : (file : List ItemData) (n : List ℕ) → file_object_named file n ≡ pick object_item (λ (o : ObjectData). named n o.name) file
object_pick [] n = refl
object_pick (class c ∷ items) n = object_pick items n
object_pick (object o ∷ items) n = ap (cond (named n o.name) (Some o)) (object_pick items n)
object_pick (group g ∷ items) n = object_pick items n

group_pick : (file : List ItemData) (n : List ℕ) → group_named file n ≡ pick group_item (λ (g : GroupData). named n g.name) file
group_pick [] n = refl
group_pick (class c ∷ items) n = group_pick items n
group_pick (object o ∷ items) n = group_pick items n
group_pick (group g ∷ items) n = ap (cond (named n g.name) (Some g)) (group_pick items n)

is_that_class : (x : ItemData) (c : ClassData) → class_item x ≡ Some c → x ≡ class c
is_that_class (class d) c e = ap class (same_Some d c e)
is_that_class (object o) c e = absurd (none-some c e)
is_that_class (group g) c e = absurd (none-some c e)

is_that_object : (x : ItemData) (o : ObjectData) → object_item x ≡ Some o → x ≡ object o
is_that_object (class c) o e = absurd (none-some o e)
is_that_object (object p) o e = ap object (same_Some p o e)
is_that_object (group g) o e = absurd (none-some o e)

is_that_group : (x : ItemData) (g : GroupData) → group_item x ≡ Some g → x ≡ group g
is_that_group (class c) g e = absurd (none-some g e)
is_that_group (object o) g e = absurd (none-some g e)
is_that_group (group h) g e = ap group (same_Some h g e)

some_of : {X : Type 0} (o : Option X) → is_some o ≡ true → (x : X) × (o ≡ Some x)
some_of None e = absurd (by e)
  where
    by : false ≡ true → ⊥
    by f = cc
some_of (Some x) e = (x, refl)

module _ (file : List ItemData) (n : List ℕ) where
  class_found : (c : ClassData) → file_class_named file n ≡ Some c → Contains file (class c) × (c.name ≡ n)
  class_found c e =
      let at = picked class_item (λ (d : ClassData). named n d.name) file c (sym (class_pick file n) ∙ e) in
      (subst (Contains file) (is_that_class at.item c at.is) at.at, sym (same_names n c.name at.passes))

  pub object_found : (o : ObjectData) → file_object_named file n ≡ Some o → Contains file (object o) × (o.name ≡ n)
  object_found o e =
      let at = picked object_item (λ (p : ObjectData). named n p.name) file o (sym (object_pick file n) ∙ e) in
      (subst (Contains file) (is_that_object at.item o at.is) at.at, sym (same_names n o.name at.passes))

  group_found : (g : GroupData) → group_named file n ≡ Some g → Contains file (group g) × (g.name ≡ n)
  group_found g e =
      let at = picked group_item (λ (h : GroupData). named n h.name) file g (sym (group_pick file n) ∙ e) in
      (subst (Contains file) (is_that_group at.item g at.is) at.at, sym (same_names n g.name at.passes))

  pub class_there : is_some (file_class_named file n) ≡ true → DeclaresClass file n
  class_there e = let one = some_of (file_class_named file n) e in let its = class_found one.0 one.1 in (one.0, its.0, its.1)

  pub object_there : is_some (file_object_named file n) ≡ true → DeclaresObject file n
  object_there e = let one = some_of (file_object_named file n) e in let its = object_found one.0 one.1 in (one.0, its.0, its.1)

  pub group_there : is_some (group_named file n) ≡ true → DeclaresSet file n
  group_there e = let one = some_of (group_named file n) e in let its = group_found one.0 one.1 in (one.0, its.0, its.1)

module _ (file : List ItemData) (d : AreDifferent file) (n : List ℕ) where
  pub class_is : (c : ClassData) → Contains file (class c) → c.name ≡ n → file_class_named file n ≡ Some c
  class_is c at is =
      class_pick file n
      ∙ picks class_item (λ (b : ClassData). named n b.name) file (class c) c at refl (named_same n c.name (sym is))
      (λ w b before e. not_named b.name n (λ same. d.classes b c (subst (λ x. StandsBefore x (class c) file) (is_that_class w b e) before) (same ∙ sym is)))

  pub object_is : (o : ObjectData) → Contains file (object o) → o.name ≡ n → file_object_named file n ≡ Some o
  object_is o at is =
      object_pick file n
      ∙ picks object_item (λ (p : ObjectData). named n p.name) file (object o) o at refl (named_same n o.name (sym is))
      (λ w p before e. not_named p.name n (λ same. d.objects p o (subst (λ x. StandsBefore x (object o) file) (is_that_object w p e) before) (same ∙ sym is)))

  pub group_is : (g : GroupData) → Contains file (group g) → g.name ≡ n → group_named file n ≡ Some g
  group_is g at is =
      group_pick file n
      ∙ picks group_item (λ (h : GroupData). named n h.name) file (group g) g at refl (named_same n g.name (sym is))
      (λ w h before e. not_named h.name n (λ same. d.sets h g (subst (λ x. StandsBefore x (group g) file) (is_that_group w h e) before) (same ∙ sym is)))

-- ---- what a name speaks of

-- an object that is inserted is found among those that are
inserted_there : (file : List ItemData) (d : AreDifferent file) (name n : List ℕ) → IsInserted file name n
    → Contains (inserted_in file name) n
inserted_there file d name n it =
    let o = it.declared in
    let known : has_object file n ≡ true = ap (λ r. is_some r) (object_is file d n o.0 o.1 o.2) in
    let so : (has_object file n && named name name) ≡ true = ap (λ b. b && named name name) known
    ∙ named_same name name refl in
    contains_all (inserted_at file name) (sites_in file) (changes true n name) n
    (site_there file it.own_class it.own_action (changes true n name) it.site)
    (subst (λ b. Contains (where_so b n) n) (sym so) (contains_here n []))

module _ (file : List ItemData) (d : AreDifferent file) where
  pub meant : (set : Bool) (name n : List ℕ) → SpeaksOf file set name n → Contains (objects_meant file set name) n
  meant false name n is = subst (λ m. Contains (m ∷ []) n) is (contains_here n [])
  meant true name n of_set =
      subst (λ o. Contains (may_have file name o) n) (sym (group_is file d name of_set.0 of_set.1 of_set.2))
      (by of_set.3)
    where
      by : Contains of_set.0.members n ⊎ IsInserted file name n → Contains (may_have file name (Some of_set.0)) n
      by (inl member) = all_kept of_set.0.members (inserted_in file name) n member
      by (inr inserted) = all_added of_set.0.members (inserted_in file name) n (inserted_there file d name n inserted)

  pub object_of_class : (n : List ℕ) (c : ClassData) (at : IsOfClass file n c) → file_object_named file n ≡ Some at.declared
  object_of_class n c at = object_is file d n at.declared at.object_in at.object_name

  pub class_of_is : (n : List ℕ) (c : ClassData) → IsOfClass file n c → class_of file n ≡ Some c
  class_of_is n c at = ap (class_of_object file) (object_of_class n c at) ∙ class_is file d at.declared.class c at.class_in at.class_name

only_one : {X : Type 0} (x y : X) → Contains (x ∷ []) y → y ≡ x
only_one x y (zero, within, is) = sym is
only_one x y (suc k, within, is) = absurd (omega (within, arith))

pub spoken : (file : List ItemData) (set : Bool) (name n : List ℕ) → Contains (objects_meant file set name) n → SpeaksOf file set name n
spoken file false name n at = only_one name n at
spoken file true name n at = by (group_named file name) refl at
  where
    either : (g : GroupData) → Contains g.members n ⊎ Contains (inserted_in file name) n → Contains g.members n
        ⊎ IsInserted file name n
    either g (inl member) = inl member
    either g (inr inserted) =
        let its = inserted_by file name n inserted in
        let at = its.0 in inr (record {
          own_class = at.0;
          own_action = at.1;
          site = at.2;
          declared =
              object_there file n its.1;
        })

    by : (g : Option GroupData) → group_named file name ≡ g → Contains (may_have file name g) n
        → SpeaksOf file true name n
    by None is in_it = absurd (omega (in_it.1, arith))
    by (Some g) is in_it = let one = group_found file name g is in
        (g, one.0, one.1, either g (old_or_added g.members (inserted_in file name) n in_it))

pub of_class : (file : List ItemData) (n : List ℕ) (c : ClassData) → class_of file n ≡ Some c → IsOfClass file n c
of_class file n c e = by (file_object_named file n) refl e
  where
    by : (o : Option ObjectData) → file_object_named file n ≡ o → class_of_object file o ≡ Some c → IsOfClass file n c
    by None is f = absurd (none-some c f)
    by (Some o) is f =
        let one = object_found file n o is in
        let its = class_found file o.class c f in record { declared = o; object_in = one.0; object_name = one.1; class_in = its.0; class_name = its.1 }

-- ---- the first that passes a test

find_pick : {X : Type 0} (p : X → Bool) (xs : List X) → find p xs ≡ pick (λ (x : X). Some x) p xs
find_pick p [] = refl
find_pick p (x ∷ xs) = ap (cond (p x) (Some x)) (find_pick p xs)

-- something that is found
pub record Found {X : Type 0} (p : X → Bool) (xs : List X) : Type 0 where
  pub item : X
  pub is : find p xs ≡ Some item
  pub at : Contains xs item
  pub passes : p item ≡ true

pub found_is : {X : Type 0} (p : X → Bool) (xs : List X) (x : X) → find p xs ≡ Some x → Contains xs x × (p x ≡ true)
found_is p xs x e =
    let one = picked (λ y. Some y) p xs x (sym (find_pick p xs) ∙ e) in (subst (Contains xs) (same_Some one.item x one.is) one.at, one.passes)

pub found : {X : Type 0} (p : X → Bool) (xs : List X) → is_some (find p xs) ≡ true → Found p xs
found p xs e =
    let some = some_of (find p xs) e in
    let its = found_is p xs some.0 some.1 in record { item = some.0; is = some.1; at = its.0; passes = its.1 }

-- what passes is found, where nothing before it passes
pub finds : {X : Type 0} (p : X → Bool) (xs : List X) (x : X) → Contains xs x → p x ≡ true → ((y : X) → StandsBefore y x xs → p y ≡ false) → find p xs ≡ Some x
finds p xs x at passes none = find_pick p xs ∙ picks (λ y. Some y) p xs x x at refl passes (λ w z before e. sym (ap p (same_Some w z e)) ∙ none w before)

pub found_there : {X : Type 0} (p : X → Bool) (xs : List X) (x : X) → Contains xs x → p x ≡ true → Found p xs
found_there p xs x at passes = found p xs (found_any p xs ∙ any_at p xs x at passes)
