use Rattle.std.proofs.Common.{◌≡◌, ◌∙◌, ◌∷◌, ◌-◌, [], ap, map, option_map, refl, rules, sym}
use Rattle.std.proofs.lemmas.List.{take_all}
use Rattle.std.specs.List.{filter_map}
use Rattle.sql_reader_grammar.specs.Reading.{definitions_of, results_of, terms_of}
use Rattle.sql_reader_grammar.specs.declared.statement_trees.expressions.Expr.TheFolds.{fold-roll-SelectCore, fold_out-Query, fold_out-SelectCore, fold_out-Sources}
use Rattle.sql_reader_grammar.specs.declared.statement_trees.expressions.Expr.TheViews as written
use Rattle.sql_reader_grammar.specs.declared.statement_trees.queries.Query.{out-Query}
use Rattle.sql_reader_grammar.specs.declared.statement_trees.queries.SelectCore.{out-SelectCore}
use Rattle.sql_reader_grammar.specs.declared.statement_trees.queries.Sources.{out-Sources}
use Rattle.sql_reader_grammar.specs.statement_trees.TreeView.{arranged_of, compounds_of, core_of, definition_of, expr_of, joined_all, joined_of, maybe_from, query_of as tree_of, result_of, source_of, sources_of, term_of}
use Rattle.sql_reader_syntax.specs.ExprTree.{CoreTree, FromTree, QueryTree, trees_of}
use Rattle.sql_reader_syntax.specs.ExprView.{maybe_of}
use Rattle.semantics_names.specs.Parts.{inner_tree}
use Rattle.explain_labels.specs.Labels as spec
use Rattle.explain_labels.specs.Labels.{labelled_inside}
use Rattle.explain_labels.specs.View.{label_of, names_seen, query_of, select_of}
use Rattle.explain_labels.specs.declared.labels.SourceLabel.TheFolds.{fold-roll-QueryLabels, fold-roll-SelectLabels}
use Rattle.explain_labels.specs.declared.labels.SourceLabel.TheViews as made
use Rattle.explain_labels.proofs.LabelLemmas.{from_labels_are, labelled_deeper, parts_more, query_labels_are}
use Rattle.explain_labels.proofs.selects.+labels.Goals as goal

pub sources_labels-returns : goal.sources_labels-returns
sources_labels-returns t c =
    let seen = names_seen c.args.seen.items.now in
    let inside = labelled_inside c.args.seen.depth seen in
    let from = out-Sources c.args.from.now in
    let first = FromTree.First (source_of from.first) in
    let tree : sources_of c.args.from.now ≡ joined_all first (map joined_of from.others.items) =
    search (rules, written.the_lemmas, fold_out-Sources) in
    let pushed : map label_of c.push.new.self.items ≡ spec.source_label seen inside (source_of from.first) ∷ [] =
    rw (c.in_ok-push.ensures.items, c.new-labels.ensures.items) (ap (λ l. l ∷ []) c.in_ok-source_label.ensures) in
    c.in_ok-add_joined.ensures
    ∙ rw (pushed, c.as_slice.ensures.value, tree, from_labels_are seen inside first (map joined_of from.others.items)) refl

pub inner_labels-loop-part-preserved : goal.inner_labels-loop-part-preserved
inner_labels-loop-part-preserved t c =
    let seen = names_seen c.args.seen.items.now in
    c.in_ok-add_inside.ensures
    ∙ rw c.loop-part.invariant
    (parts_more (λ part. expr_of part.now) (λ tree. labelled_inside c.args.seen.depth seen (spec.query_in tree)) c.deref-part-items.result.now
    c.loop-part.part-index c.part-item.result c.loop-part-test.true c.part-item.is)

pub inner_labels-returns : goal.inner_labels-returns
inner_labels-returns t c =
    let parts = c.deref-part-items.result.now in
    c.loop-part.invariant
    ∙ rw (take_all c.loop-part.part-index parts c.loop-part-test.false, c.deref-part-items.ensures.value)
    (ap (λ found. map (λ tree. labelled_inside c.args.seen.depth (names_seen c.args.seen.items.now) (spec.query_in tree)) (filter_map inner_tree found)) c.in_ok-parts.ensures)

pub query_labels-returns : goal.query_labels-returns
query_labels-returns t c =
    let seen = names_seen c.args.seen.items.now in
    let inside = labelled_inside (c.args.seen.depth - 1) seen in
    let query = out-Query c.args.query.now in
    let order = terms_of (map term_of c.args.order.now) in
    let arms = map arranged_of query.others.items in
    let tree : tree_of c.args.query.now ≡ compounds_of (QueryTree.Core (core_of query.first)) arms =
    search (rules, written.the_lemmas, fold_out-Query) in
    let whole : query_of (made.roll-QueryLabels (record { selects = c.add_arms.new.labels })) ≡ spec.selects_of (map select_of c.add_arms.new.labels.items) =
    search (rules, made.the_lemmas, fold-roll-QueryLabels) in
    let first : select_of c.in_ok-first.first ≡ spec.core_labels seen inside (core_of query.first) (spec.own_order (tree_of c.args.query.now) order) =
    c.in_ok-first.ensures ∙ ap (spec.core_labels seen inside (core_of query.first)) c.own_order.ensures in
    let pushed : map select_of c.push.new.self.items
    ≡ spec.core_labels seen inside (core_of query.first) (spec.own_order (tree_of c.args.query.now) order) ∷ [] =
    rw (c.in_ok-push.ensures.items, c.new-selects.ensures.items) (ap (λ s. s ∷ []) first) in
    let all : map select_of c.add_arms.new.labels.items ≡ spec.query_labels seen inside (tree_of c.args.query.now) order =
    c.in_ok-add_arms.ensures
    ∙ rw (pushed, c.as_slice.ensures.value, tree) (sym (query_labels_are seen inside (core_of query.first) arms order)) in
    whole ∙ ap spec.selects_of all ∙ sym (labelled_deeper c.args.seen.depth seen (tree_of c.args.query.now) order c.if-seen-eq0.false)

pub select_labels-returns : goal.select_labels-returns
select_labels-returns t c =
    let core = out-SelectCore c.args.core.now in
    let tree : core_of c.args.core.now
    ≡ CoreTree.Select core.distinct (results_of (map result_of core.columns.items)) (maybe_from (option_map sources_of core.sources))
    (maybe_of (option_map expr_of core.condition)) (trees_of (map expr_of core.groups.items)) (maybe_of (option_map expr_of core.having))
    (definitions_of (map definition_of core.windows.items)) =
    search (rules, written.the_lemmas, fold-roll-SelectCore, fold_out-SelectCore) in
    let whole : select_of (made.roll-SelectLabels (record { sources = c.in_ok-sources.sources; inner = c.in_ok-inner.inner }))
    ≡ spec.select (spec.labels_of (map label_of c.in_ok-sources.sources.items)) (spec.inner_of (map query_of c.in_ok-inner.inner.items)) =
    search (rules, made.the_lemmas, fold-roll-SelectLabels) in
    whole ∙ rw (c.in_ok-sources.ensures, c.in_ok-inner.ensures, tree) refl
