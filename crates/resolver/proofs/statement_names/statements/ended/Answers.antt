use Rattle.std.proofs.Common.{Ok, map, ap, sym, ◌∙◌}
use Rattle.std.proofs.lemmas.Result.{err_from_is_err_and}
use Rattle.resolver_bodies.specs.BodyView.{body_of}
use Rattle.resolver_sources.specs.source_names.GivenView.{queried_of}
use Rattle.resolver.proofs.lemmas.statement_names.StatementLemmas.{slice_refused, slice_taken}
use Rattle.sql_reader_grammar.specs.statement_trees.StatementView.{statement_of}
use Rattle.resolver.proofs.statement_names.statements.ended.Goals as goal

pub returns-in_err-slice : goal.returns-in_err-slice
returns-in_err-slice c =
    let p = err_from_is_err_and c.from_residual.result c.from_residual.ensures.1 in
    rw (p.1, p.2) (slice_refused (statement_of c.args.statement.now) (map body_of c.args.written.items) (queried_of c.args.query)
    c.in_err-slice.field-0.0 c.in_err-slice.ensures)

pub returns : goal.returns
returns c =
    slice_taken (statement_of c.args.statement.now) (map body_of c.args.written.items) (queried_of c.args.query)
    c.in_ok-slice.slice c.in_ok-slice.ensures
    ∙ ap Ok (sym c.in_ok-sliced.ensures)
