use Rattle.std.proofs.Common.{map}
use Rattle.std.proofs.lemmas.Result.{err_from_is_err_and}
use Rattle.semantics_names.specs.Statement.{queried}
use Rattle.resolver.proofs.lemmas.statement_names.ItemLemmas.{goes_on, is_refused}
use Rattle.resolver.specs.statement_names.Whole.{items_by}
use Rattle.resolver.specs.statement_names.WithView.{with_data}
use Rattle.sql_reader_grammar.specs.statement_trees.StatementView.{item_of}
use Rattle.resolver.proofs.statement_names.items.with_items.Goals as goal

pub returns-in_err-all : goal.returns-in_err-all
returns-in_err-all c =
    let p = err_from_is_err_and c.from_residual.result c.from_residual.ensures.1 in
    rw (p.1, p.2) (is_refused (queried c.args.depth) item_of c.args.items.now c.loop-item.item-index c.item-item.result (with_data c.loop-item.all)
    (items_by (queried c.args.depth) (with_data c.args.with) (map item_of c.args.items.now)) c.loop-item-test.true c.item-item.is c.loop-item.invariant
    c.in_err-all.field-0.0 c.in_err-all.ensures)

pub loop-item-preserved : goal.loop-item-preserved
loop-item-preserved c =
    goes_on (queried c.args.depth) item_of c.args.items.now c.loop-item.item-index c.item-item.result (with_data c.loop-item.all)
    (items_by (queried c.args.depth) (with_data c.args.with) (map item_of c.args.items.now)) c.loop-item-test.true c.item-item.is c.loop-item.invariant
    (with_data c.in_ok-all.all) c.in_ok-all.ensures
