use Rattle.std.proofs.Common.{subst, sym}
use Rattle.std.proofs.lemmas.Result.{err_from_is_err_and}
use Rattle.sql_reader_exprs.specs.clause_reader.Seen.{seen}
use Rattle.sql_reader_grammar.specs.phrases.Outcomes.{Fails, needed}
use Rattle.sql_reader_grammar.specs.phrases.Texts.{lexemes_of}
use Rattle.sql_reader_grammar.specs.statement_trees.TreeView.{query_of}
use Rattle.sql_reader.proofs.lemmas.source_reader.SourceLemmas.{not_closed}
use Rattle.sql_reader.proofs.source_reader.source_lists.source.Goals as goal

pub returns-in_err-rest-clause-value : goal.returns-in_err-rest-clause-value
returns-in_err-rest-clause-value g c =
    let p = err_from_is_err_and c.from_residual-in_err-rest.result c.from_residual-in_err-rest.ensures.1 in
    rw (p.1, p.2)
    (not_closed (g.I.Inner.setting c.args.inner.now) (lexemes_of c.args.tokens.now) (lexemes_of c.in-Some.rest.now)
    (seen query_of c.in_ok-query.query) c.in_err-rest.field-0.0 (sym c.in-Some.ensures.found) c.in_ok-query.ensures.value
    (subst (λ o. Fails c.in_err-rest.field-0.0 (needed o)) c.after_sign-2.ensures.found c.in_err-rest.ensures))
