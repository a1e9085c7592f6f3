use Rattle.std.proofs.Common.{◌≡◌, map, rules, string_bytes, subst, sym}
use Rattle.semantics_names.specs.Sources.{joined_on}
use Rattle.resolver_terms.specs.Outcome.{Gives}
use Rattle.resolver_sources.specs.source_names.GivenView.{condition_of}
use Rattle.sql_reader_grammar.specs.statement_trees.TreeView.{on_of}
use Rattle.sql_reader_grammar.specs.declared.statement_trees.expressions.Expr.TheFolds.{fold-roll-JoinCondition, fold_out-JoinCondition}
use Rattle.sql_reader_grammar.specs.declared.statement_trees.expressions.Expr.TheViews.{the_lemmas}
use Rattle.sql_reader_syntax.specs.ExprTree.{OnTree}
use Rattle.resolver_sources.proofs.source_names.conditions.joined_on.Goals as goal

pub returns-in-Using : goal.returns-in-Using
returns-in-Using g c =
    let answers = g.I.InnerQueries.answers c.args.inner.now in
    let tree : on_of c.args.condition.now ≡ OnTree.Using (map (λ n. string_bytes n) c.in-Using.names.items) =
    search (rules, the_lemmas, fold-roll-JoinCondition, fold_out-JoinCondition) in
    subst (λ t. Gives condition_of c.equal_names.result (joined_on answers t c.args.left c.args.right)) (sym tree)
    (rw c.deref.ensures.value at (c.equal_names.ensures answers))
