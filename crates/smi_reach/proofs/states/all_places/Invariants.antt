-- The places so far.
use Rattle.std.proofs.Common.{◌<◌, ℕ, All, Contains}
use Rattle.smi_reach.proofs.states.all_places.Given as goal

abbrev pub invariant-loop-i : goal.invariant-loop-i
invariant-loop-i l = record {
  all : (k : ℕ) → k < l.i → Contains l.places.items k;
  within : All (λ k. k < l.i) l.places.items;
}
