-- What is found in lists of lists.
use Rattle.std.proofs.Common.{◌≡◌, refl, Bool, true, false, List, [], ◌∷◌, ◌++◌, Some, cond}
use Rattle.std.specs.Prelude.{find}
use Rattle.sml_check_faults.specs.Tables.{first_or_else}

found_at : {X : Type 0} (p : X → Bool) (x : X) (xs ys : List X) (b : Bool) → find p (xs ++ ys) ≡ first_or_else (find p xs) (find p ys) →
    cond b (Some x) (find p (xs ++ ys)) ≡ first_or_else (cond b (Some x) (find p xs)) (find p ys)
found_at p x xs ys true h = refl
found_at p x xs ys false h = h

pub find-append : {X : Type 0} (p : X → Bool) (xs ys : List X) → find p (xs ++ ys) ≡ first_or_else (find p xs) (find p ys)
find-append p [] ys = refl
find-append p (x ∷ xs) ys = found_at p x xs ys (p x) (find-append p xs ys)

pub ruleset founds = (find-append)
