use Rattle.std.proofs.Common.{subst}
use Rattle.std.proofs.lemmas.Result.{err_from_is_err_and}
use Rattle.sql_reader_exprs.specs.clause_reader.Seen.{seen}
use Rattle.sql_reader_grammar.specs.phrases.Outcomes.{Fails, needed}
use Rattle.sql_reader_grammar.specs.phrases.Steps.{after_close}
use Rattle.sql_reader_grammar.specs.phrases.Texts.{lexemes_of}
use Rattle.sql_reader_grammar.specs.statement_trees.TreeView.{expr_of, query_of}
use Rattle.sql_reader_syntax.specs.ExprTree.{ExprTree}
use Rattle.sql_reader_exprs.specs.window_reader.Setting.{inner_at}
use Rattle.sql_reader_exprs.proofs.lemmas.expr_reader.ClosedLemmas.{closed_err}
use Rattle.sql_reader_exprs.proofs.expr_reader.joints.members.Goals as goal

pub returns-in_err-rest-in-Query-clause-value : goal.returns-in_err-rest-in-Query-clause-value
returns-in_err-rest-in-Query-clause-value g c =
    let t = g.I.Inner.setting c.args.inner.now in
    let p = err_from_is_err_and c.from_residual-in_err-rest-in-Query.result c.from_residual-in_err-rest-in-Query.ensures.1 in
    rw (p.1, p.2, ← c.membership_at.ensures, c.in-Query.is)
    (closed_err (λ query. ExprTree.InQuery c.args.negated (expr_of c.args.left.tree) query) after_close ((inner_at t).query (lexemes_of c.args.tokens.now))
    (seen query_of c.in_ok-query-in-Query.query) c.in_err-rest-in-Query.field-0.0 c.in_ok-query-in-Query.ensures.value
    (subst (λ o. Fails c.in_err-rest-in-Query.field-0.0 (needed o)) c.after_sign.ensures.found c.in_err-rest-in-Query.ensures))
