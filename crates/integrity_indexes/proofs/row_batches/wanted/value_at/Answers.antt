use Rattle.std.proofs.Common.{arith}
use Rattle.values.specs.Datum.{datum_of_ref}
use Rattle.integrity_indexes.proofs.lemmas.index_batches.KeyLemmas.{if_some}
use Rattle.integrity_indexes.proofs.lemmas.row_batches.CodeLemmas.{long_row, value_here, value_past}
use Rattle.integrity_indexes.proofs.row_batches.wanted.value_at.Goals as goal

pub returns-then-place-columns-clause-found : goal.returns-then-place-columns-clause-found
returns-then-place-columns-clause-found c = if_some c.value.result
    (λ value told row is. let t = told row is in (value_here row c.args.place (datum_of_ref value) t.0, t.1))
    c.value.ensures.found

pub returns-else-place-columns-clause-found : goal.returns-else-place-columns-clause-found
returns-else-place-columns-clause-found c = λ row is. (
  value_past row c.args.place (let long = long_row c.args.reader.now row is in omega (arith, long, c.requires, c.if-place-columns.false)),
  is,
)
