-- Each object is called by some name.
use Rattle.std.proofs.Common.{◌≡◌, ap, ◌<◌, ◌≤◌, ◌⊎◌, ℕ, List, Some, length, arith, inl, inr, option_map}
use Rattle.std.specs.List.{slice_get}
use Rattle.std.proofs.lemmas.Option.{slice_get_cases}
use Rattle.sml_domain.specs.Domain.{Domain}
use Rattle.sml_domain.specs.Laws.{ObjectHasName}
use Rattle.sml_domain.specs.Lookups.{name_of_object}
use Rattle.sml_domain.specs.Sound.{IsSound}
use Rattle.smi_core.specs.Stepping.{IsCalled}

not_past : {A : Type 0} (n i : ℕ) → i < n → n ≤ i → A
not_past n i lt le = absurd (omega (arith, lt, le))

some_of : {X P Q : Type 0} (xs : List X) (i : ℕ) → (P → (x : X) × (slice_get xs i ≡ Some x)) → (Q → length xs ≤ i) → i < length xs → P ⊎ Q → (x : X) × (slice_get xs i ≡ Some x)
some_of xs i has past lt (inl p) = has p
some_of xs i has past lt (inr q) = not_past (length xs) i lt (past q)

some_at : {X : Type 0} (xs : List X) (i : ℕ) → i < length xs → (x : X) × (slice_get xs i ≡ Some x)
some_at xs i lt = some_of xs i (λ p. (p.0, p.2)) (λ q. q.0) lt (slice_get_cases xs i).1

pub called : ObjectHasName → (d : Domain) (o : ℕ) → IsSound d → o < length d.objects → IsCalled d o
called law d o sound lt =
    let x = some_at d.objects o lt in
    (name_of_object x.0, (law d o (name_of_object x.0) sound).0 (ap (option_map name_of_object) x.1))
