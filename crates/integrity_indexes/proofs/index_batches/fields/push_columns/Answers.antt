use Rattle.std.proofs.Common.{arith, true}
use Rattle.values.specs.Datum.{datum_of_ref}
use Rattle.integrity_indexes.proofs.lemmas.index_batches.ColumnLemmas.{all_pushed, ends, none_pushed, one_pushed}
use Rattle.integrity_indexes.proofs.index_batches.fields.push_columns.Goals as goal

pub returns-in_default-clause-none : goal.returns-in_default-clause-none
returns-in_default-clause-none c = λ no values is. absurd (c.in_default.ensures.none values is)

pub loop-column-init : goal.loop-column-init
loop-column-init c = λ values is. none_pushed values c.in-Some.fields c.args.code.now.items ((c.in-Some.ensures.found values).1 is)

pub returns-in_default-read-clause-none : goal.returns-in_default-read-clause-none
returns-in_default-read-clause-none c = λ no values is.
    let here = c.loop-column.invariant values is in
    let past = ends values c.loop-column._column c.loop-column.fields c.args.code.now.items c.loop-column.code.items here c.in_default-read.ensures.none in
    omega (arith, past, c.loop-column-test.true)

pub loop-column-preserved : goal.loop-column-preserved
loop-column-preserved c = λ values is.
    let here = c.loop-column.invariant values is in
    one_pushed values c.loop-column._column c.loop-column.fields c.args.code.now.items c.loop-column.code.items here
    (datum_of_ref c.in-Some-read.value) c.read.new.self c.push_value.new.code.items c.in-Some-read.ensures.more c.in-Some-read.ensures.found
    c.in_ok-push_value.ensures.code c.in_ok-push_value.ensures.held

pub returns-clause-code : goal.returns-clause-code
returns-clause-code c = λ yes values is.
    let here = c.loop-column.invariant values is in
    all_pushed values c.loop-column._column c.args.columns c.loop-column.fields c.args.code.now.items c.loop-column.code.items here (omega arith)
