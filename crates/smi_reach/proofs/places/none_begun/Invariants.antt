-- None of those so far is begun.
use Rattle.std.proofs.Common.{◌≡◌, ℕ, length}
use Rattle.smi_reach.specs.Reach.{IsBlockBegun}
use Rattle.smi_reach.proofs.places.none_begun.Given as goal

abbrev pub invariant-loop : goal.invariant-loop
invariant-loop l = record {
  none : (b : ℕ) → IsBlockBegun l.begun.items b → ⊥;
  count : length l.begun.items ≡ l.counter;
}
