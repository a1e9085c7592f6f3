use Rattle.std.proofs.Common.{Ok, map, string_bytes, ap, sym, ◌∙◌}
use Rattle.std.proofs.lemmas.Result.{err_from_is_err_and}
use Rattle.semantics_names.specs.Statement.{queried}
use Rattle.resolver_sources.specs.source_names.GivenView.{queried_of}
use Rattle.resolver.proofs.lemmas.statement_names.ItemLemmas.{columns_refused, columns_taken}
use Rattle.resolver.specs.statement_names.WithView.{with_data}
use Rattle.sql_reader_grammar.specs.statement_trees.StatementView.{item_of}
use Rattle.resolver.proofs.statement_names.items.next_item.Goals as goal

pub returns-in_err-columns : goal.returns-in_err-columns
returns-in_err-columns c =
    let p = err_from_is_err_and c.from_residual-in_err-columns.result c.from_residual-in_err-columns.ensures.1 in
    rw (p.1, p.2) (columns_refused (queried c.args.depth) (with_data c.args.with) (item_of c.args.item.now) (queried_of c.in_ok-query.query)
    (rw c.as_slice.ensures.value at c.in_ok-query.ensures) c.in_err-columns.field-0.0
    (rw (c.as_slice-2.ensures.value, c.as_slice-3.ensures.value) at c.in_err-columns.ensures))

pub returns : goal.returns
returns c =
    columns_taken (queried c.args.depth) (with_data c.args.with) (item_of c.args.item.now) (queried_of c.in_ok-query.query)
    (rw c.as_slice.ensures.value at c.in_ok-query.ensures) (map (λ n. string_bytes n) c.in_ok-columns.columns.items)
    (rw (c.as_slice-2.ensures.value, c.as_slice-3.ensures.value) at c.in_ok-columns.ensures)
    ∙ ap Ok (sym c.in_ok-with_item.ensures)
