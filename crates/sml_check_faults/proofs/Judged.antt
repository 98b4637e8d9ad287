-- Answers that follow from others.
use Rattle.std.specs.Prelude.{◌≡◌, refl, List, [], ◌∷◌, None, Result, Ok, Err, OnOk, IfErr}
use Rattle.sml_check_faults.specs.Lookup.{first_item}

pub on_ok : {X E : Type 0} (P Q : Type 0) (r : Result X E) → (P → Q) → OnOk r P → OnOk r Q
on_ok P Q (Ok x) f h = f h
on_ok P Q (Err e) f h = tt

pub if_err : {X E : Type 0} (P Q : E → Type 0) (r : Result X E) → ((e : E) → P e → Q e) → IfErr r P → IfErr r Q
if_err P Q (Ok x) f h = tt
if_err P Q (Err e) f h = f e h

pub none_nil : {X : Type 0} (xs : List X) → None ≡ first_item xs → xs ≡ []
none_nil [] e = refl
none_nil (x ∷ xs) e = cc
