use Rattle.std.proofs.Common.{map, subst, sym}
use Rattle.schema_keys.specs.Names.{IsNameAt}
use Rattle.schema.proofs.indexes.places.indexed.Goals as goal

pub returns-in_err-place-clause-none : goal.returns-in_err-place-clause-none
returns-in_err-place-clause-none c =
    rw c.from_residual.ensures
    (λ column is. c.in_err-place.ensures.none column.place
    (subst (λ name. IsNameAt (map (λ c. c.name) c.args.columns.now) name column.place) (sym c.as_str.ensures.value) is.place_is))
