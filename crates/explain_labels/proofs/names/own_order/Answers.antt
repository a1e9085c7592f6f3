use Rattle.std.proofs.Common.{◌≡◌, ◌==◌, ◌∙◌, false, length, map, rules, sym}
use Rattle.std.proofs.lemmas.List.{length-map}
use Rattle.sql_reader_grammar.specs.Reading.{terms_of}
use Rattle.sql_reader_grammar.specs.declared.statement_trees.expressions.Expr.TheFolds.{fold_out-Query}
use Rattle.sql_reader_grammar.specs.declared.statement_trees.expressions.Expr.TheViews.{the_lemmas}
use Rattle.sql_reader_grammar.specs.declared.statement_trees.queries.Query.{out-Query}
use Rattle.sql_reader_grammar.specs.statement_trees.TreeView.{arranged_of, compounds_of, core_of, query_of as tree_of, term_of}
use Rattle.sql_reader_syntax.specs.ExprTree.{QueryTree}
use Rattle.explain_labels.proofs.LabelLemmas.{order_of_joined}
use Rattle.explain_labels.proofs.names.own_order.Goals as goal

pub returns-else-is_empty : goal.returns-else-is_empty
returns-else-is_empty c =
    let query = out-Query c.args.query.now in
    let order = terms_of (map term_of c.args.order.now) in
    let arms = map arranged_of query.others.items in
    let tree : tree_of c.args.query.now ≡ compounds_of (QueryTree.Core (core_of query.first)) arms = search (rules, the_lemmas, fold_out-Query) in
    let some : (length arms == 0) ≡ false =
    rw (length-map query.others.items, ← c.as_slice.ensures.value) (sym c.is_empty.ensures ∙ c.if-is_empty.false) in
    rw tree (order_of_joined (QueryTree.Core (core_of query.first)) arms order some)
