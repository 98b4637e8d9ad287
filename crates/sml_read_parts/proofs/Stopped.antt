-- A stop that is passed on as it is.
use Rattle.std.proofs.Common.{◌≡◌, Result, Ok, Err, ap}
use Rattle.std.specs.Result.{IsErrAnd}
use Rattle.sml_read_parts.specs.declared.fault.Stop.{Stop}

pub handed : {X : Type 0} (r : Result X Stop) (e : Stop) → IsErrAnd r (λ y. y ≡ e) → r ≡ Err e
handed (Ok x) e h = absurd h
handed (Err y) e h = ap Err h
