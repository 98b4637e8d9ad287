-- Two domains of one file are one; what is found in lists that are mapped.
use Rattle.std.proofs.Common.{◌≡◌, ◌∙◌, sym, ap, refl, ℕ, zero, suc, ◌+◌, Bool, cond, List, [], ◌∷◌, map, Option, None, Some, is_some, option_map}
use Rattle.std.specs.Prelude.{find, slice_get}
use Rattle.std.specs.List.{position, position_from}
use Rattle.std.specs.Option.{option_and_then}
use Rattle.std.proofs.lemmas.Iterator.Adapters.{position_from-zero}
use Rattle.sml_domain.specs.Trees.{trees_of}
use Rattle.sml_domain.specs.Domain.{Domain, Class}
use Rattle.sml_domain.specs.Lookups as says
use Rattle.sml_check_build.specs.Rows.{ClassRow, class_shown}
use Rattle.sml_check_build.specs.Laws.{FilesHaveOneDomain}

-- ---- of lists

position_from_map : {X Y : Type 0} (f : X → Y) (p : Y → Bool) (i : ℕ) (xs : List X) → position_from p i (map f xs) ≡ position_from (λ x. p (f x)) i xs
position_from_map f p i [] = refl
position_from_map f p i (x ∷ xs) = ap (cond (p (f x)) (Some i)) (position_from_map f p (i + 1) xs)

pub position_map : {X Y : Type 0} (f : X → Y) (p : Y → Bool) (xs : List X) → position p (map f xs) ≡ position (λ x. p (f x)) xs
position_map f p xs = position_from-zero p (map f xs) ∙ position_from_map f p 0 xs ∙ sym (position_from-zero (λ x. p (f x)) xs)

pub got_map : {X Y : Type 0} (f : X → Y) (xs : List X) (k : ℕ) → slice_get (map f xs) k ≡ option_map f (slice_get xs k)
got_map f [] k = refl
got_map f (x ∷ xs) zero = refl
got_map f (x ∷ xs) (suc k) = got_map f xs k

there_map : {X Y : Type 0} (f : X → Y) (xs : List X) (i : Option ℕ) → option_map f (option_and_then (slice_get xs) i) ≡ option_and_then (slice_get (map f xs)) i
there_map f xs None = refl
there_map f xs (Some k) = sym (got_map f xs k)

pub some_map : {X Y : Type 0} (f : X → Y) (o : Option X) → is_some (option_map f o) ≡ is_some o
some_map f None = refl
some_map f (Some x) = refl

-- the parameters of an action, by what is shown of its class
pub params_by : (d : Domain) (a : ℕ) (o : Option Class) → option_and_then (says.signature_in a) o ≡ option_and_then (λ (r : ClassRow). find (says.is_signature a) r.signatures) (option_map (class_shown (trees_of d.blocks)) o)
params_by d a None = refl
params_by d a (Some x) = refl

-- ---- of domains

pub files_have_one_domain : FilesHaveOneDomain
files_have_one_domain file d e is also = is.laid ∙ sym also.laid
