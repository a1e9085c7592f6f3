use Rattle.std.proofs.Common.{◌≡◌, ◌++◌, map, option_map, append_assoc, rules, sym, ap, ◌∙◌}
use Rattle.resolver_exprs.specs.expression_parts.Found.{found_in}
use Rattle.sql_reader_grammar.specs.Reading.{definitions_of, results_of, terms_of}
use Rattle.semantics_names.specs.Parts as spec
use Rattle.sql_reader_syntax.specs.ExprView.{maybe_of}
use Rattle.sql_reader_grammar.specs.statement_trees.TreeView.{core_of, definition_of, expr_of, maybe_from, result_of, sources_of, term_of}
use Rattle.sql_reader_grammar.specs.declared.statement_trees.expressions.Expr.TheFolds.{fold-roll-SelectCore, fold_out-SelectCore}
use Rattle.sql_reader_grammar.specs.declared.statement_trees.expressions.Expr.TheViews.{the_lemmas}
use Rattle.sql_reader_grammar.specs.declared.statement_trees.queries.SelectCore.{out-SelectCore}
use Rattle.sql_reader_syntax.specs.ExprTree.{trees_of}
use Rattle.resolver_exprs.proofs.expression_parts.clauses.core_parts.Goals as goal

pub returns : goal.returns
returns c =
    let core = out-SelectCore c.args.core.now in
    let before = spec.results_parts (results_of (map result_of core.columns.items)) ++ spec.from_parts (maybe_from (option_map sources_of core.sources))
    ++ spec.maybe_parts (maybe_of (option_map expr_of core.condition)) ++ spec.all_parts (trees_of (map expr_of core.groups.items)) in
    let having = spec.maybe_parts (maybe_of (option_map expr_of core.having)) in
    let windows = spec.definitions_parts (definitions_of (map definition_of core.windows.items)) in
    let order = spec.terms_parts (terms_of (map term_of c.args.order.now)) in
    let first : found_in c.first_parts.new.found ≡ before = search rules in
    let last : found_in c.last_parts.new.found ≡ found_in c.first_parts.new.found ++ (having ++ windows ++ order) = search rules in
    let all : spec.core_parts (core_of c.args.core.now) (terms_of (map term_of c.args.order.now)) ≡ before ++ having ++ windows ++ order =
    search (rules, the_lemmas, fold-roll-SelectCore, fold_out-SelectCore) in
    last ∙ ap (λ found. found ++ (having ++ windows ++ order)) first ∙ sym (append_assoc before (having ++ windows) order)
    ∙ ap (λ parts. parts ++ order) (sym (append_assoc before having windows)) ∙ sym all
