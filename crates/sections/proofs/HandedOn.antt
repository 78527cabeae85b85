-- What `?` hands on is the error that it met:
--   handed-on    so a promise at what is returned is one at that error
use Rattle.std.proofs.Common.{◌≡◌, ap}
use Rattle.std.specs.declared.result.Result.{Result}
use Rattle.std.specs.declared.result.Result.TheVariants.{Ok, Err}
use Rattle.std.specs.Result.{IsErrAnd}

pub handed-on : {T E : Type 0} {r : Result T E} {e : E} → IsErrAnd r (λ y. y ≡ e) → r ≡ Err e
handed-on {r = Ok y} h = absurd h
handed-on {r = Err y} h = ap (λ x. Err x) h
