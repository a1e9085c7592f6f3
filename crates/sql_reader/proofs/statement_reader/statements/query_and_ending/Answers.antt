use Rattle.std.proofs.lemmas.Result.{err_from_is_err_and}
use Rattle.sql_reader_exprs.specs.clause_reader.Seen.{seen}
use Rattle.sql_reader_grammar.specs.Reading.{both, limit, order}
use Rattle.sql_reader_grammar.specs.phrases.Texts.{lexemes_of}
use Rattle.sql_reader.proofs.lemmas.statement_reader.ErrLemmas.{second_err}
use Rattle.sql_reader_grammar.specs.statement_trees.TreeView.{query_of}
use Rattle.sql_reader_exprs.specs.window_reader.Setting.{at, inner_at}
use Rattle.sql_reader.proofs.statement_reader.statements.query_and_ending.Goals as goal

pub returns-in_err-ending : goal.returns-in_err-ending
returns-in_err-ending g c =
    let t = g.I.Inner.setting c.args.inner.now in
    let p = err_from_is_err_and c.from_residual-in_err-ending.result c.from_residual-in_err-ending.ensures.1 in
    rw (p.1, p.2) (second_err ((inner_at t).query (lexemes_of c.args.tokens.now)) (λ ts. both (at order t ts) limit)
    (seen query_of c.in_ok-query.query) c.in_err-ending.field-0.0 c.in_ok-query.ensures.value c.in_err-ending.ensures)
