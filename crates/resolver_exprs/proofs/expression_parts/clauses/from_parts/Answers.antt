use Rattle.std.proofs.Common.{◌≡◌, ◌++◌, OnOk, map, option_map, rules, subst, sym, ap, ◌∙◌}
use Rattle.resolver_exprs.proofs.lemmas.expression_parts.FromLemmas.{from_parts_are}
use Rattle.resolver_exprs.specs.expression_parts.Found.{found_in}
use Rattle.semantics_names.specs.Parts as spec
use Rattle.sql_reader_grammar.specs.statement_trees.TreeView.{joined_all, joined_of, maybe_from, source_of, sources_of}
use Rattle.sql_reader_grammar.specs.declared.statement_trees.expressions.Expr.TheFolds.{fold-roll-Sources, fold_out-Sources}
use Rattle.sql_reader_grammar.specs.declared.statement_trees.expressions.Expr.TheViews.{the_lemmas}
use Rattle.sql_reader_grammar.specs.declared.statement_trees.queries.Sources.{out-Sources}
use Rattle.sql_reader_syntax.specs.ExprTree.{FromTree}
use Rattle.resolver_exprs.proofs.expression_parts.clauses.from_parts.Goals as goal

pub returns-in-Some : goal.returns-in-Some
returns-in-Some c =
    let first = source_of (out-Sources c.in-Some.from).first in
    let tree : maybe_from (option_map sources_of c.args.from.now) ≡ joined_all (FromTree.First first) (map joined_of c.as_slice.result.now) =
    search (rules, the_lemmas, fold-roll-Sources, fold_out-Sources) in
    let are : spec.from_parts (maybe_from (option_map sources_of c.args.from.now)) ≡ _ =
    ap spec.from_parts tree ∙ from_parts_are (FromTree.First first) (map joined_of c.as_slice.result.now) in
    subst (λ parts. OnOk c.joined_parts.result (found_in c.joined_parts.new.found ≡ found_in c.args.found.now ++ parts)) (sym are) c.joined_parts.ensures
