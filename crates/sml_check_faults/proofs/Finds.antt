-- What is found in lists that follow one another.
use Rattle.std.proofs.Common.{◌≡◌, refl, Bool, true, false, List, [], ◌∷◌, ◌++◌, Option, Some, cond}
use Rattle.std.specs.List.{find}
use Rattle.sml_check_faults.specs.Tables.{first_or_else}

parted : {X : Type 0} (b : Bool) (x : X) (whole rest more : Option X) → whole ≡ first_or_else rest more → cond b (Some x) whole ≡ first_or_else (cond b (Some x) rest) more
parted true x whole rest more is = refl
parted false x whole rest more is = is

pub find_parts : {X : Type 0} (p : X → Bool) (xs ys : List X) → find p (xs ++ ys) ≡ first_or_else (find p xs) (find p ys)
find_parts p [] ys = refl
find_parts p (x ∷ xs) ys = parted (p x) x (find p (xs ++ ys)) (find p xs) (find p ys) (find_parts p xs ys)
