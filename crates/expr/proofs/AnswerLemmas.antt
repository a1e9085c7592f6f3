-- What an exact value says of every value that may stand for results out of range.
use Rattle.std.proofs.Common.{◌≡◌, List, Some, ap, unwrap_or}
use Rattle.values.specs.Datum.{Datum, null}
use Rattle.expr.specs.Term.{Term}
use Rattle.expr.specs.Meaning.{eval, exact}
use Rattle.expr.proofs.StandLemmas.{stands_for_all}

pub for_every : (t : Term) (row : List Datum) (v : Datum) → exact t row ≡ Some v → (w : Datum) → eval w t row ≡ v
for_every t row v h = λ w. ap (λ m. unwrap_or m null) (stands_for_all w t row v h)
