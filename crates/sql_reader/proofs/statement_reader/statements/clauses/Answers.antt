use Rattle.std.proofs.Common.{sym}
use Rattle.std.proofs.lemmas.Result.{err_from_is_err_and}
use Rattle.sql_reader_exprs.specs.clause_reader.Seen.{seen}
use Rattle.sql_reader_grammar.specs.Reading.{both, clauses, items, limit, order}
use Rattle.sql_reader_grammar.proofs.lemmas.phrases.OutcomeLemmas.{fails_along}
use Rattle.sql_reader_grammar.specs.phrases.Texts.{lexemes_of}
use Rattle.sql_reader.proofs.lemmas.statement_reader.ErrLemmas.{second_err}
use Rattle.sql_reader.proofs.lemmas.statement_reader.Outermost.{clauses_are}
use Rattle.sql_reader.specs.statement_reader.Parts.{items_of, levels_at}
use Rattle.sql_reader_exprs.specs.window_reader.Setting.{at, inner_at}
use Rattle.sql_reader.proofs.statement_reader.statements.clauses.Goals as goal

pub returns-in_err-body : goal.returns-in_err-body
returns-in_err-body g c =
    let t = g.I.Inner.setting c.args.inner.now in
    let ts = lexemes_of c.args.tokens.now in
    let p = err_from_is_err_and c.from_residual-in_err-body.result c.from_residual-in_err-body.ensures.1 in
    rw (p.1, p.2) (fails_along c.in_err-body.field-0.0
    (both (items t.source (levels_at t) ts) (λ ts. both ((inner_at t).query ts) (λ ts. both (at order t ts) limit)))
    (clauses t.source (levels_at t) ts) (sym (clauses_are t ts c.requires.outermost))
    (second_err (items t.source (levels_at t) ts) (λ ts. both ((inner_at t).query ts) (λ ts. both (at order t ts) limit))
    (seen items_of c.in_ok-items.items) c.in_err-body.field-0.0 c.in_ok-items.ensures c.in_err-body.ensures))
