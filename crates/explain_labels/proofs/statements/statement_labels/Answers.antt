use Rattle.std.proofs.Common.{◌≡◌, ◌∙◌, ◌+◌, ◌∷◌, ◌++◌, [], ap, append-nil, append_assoc, drop, map, sym, take}
use Rattle.std.proofs.lemmas.List.{drop_all, map-append}
use Rattle.sql_reader_grammar.specs.Reading.{terms_of}
use Rattle.sql_reader_grammar.specs.statement_trees.StatementView.{item_of, statement_of}
use Rattle.sql_reader_grammar.specs.statement_trees.TreeView.{query_of as tree_of, term_of}
use Rattle.semantics_names.specs.Statement.{max_levels}
use Rattle.explain_labels.specs.Labels as spec
use Rattle.explain_labels.specs.View.{item_labels_of, names_seen, query_of}
use Rattle.explain_labels.proofs.LabelLemmas.{items_more}
use Rattle.explain_labels.proofs.statements.statement_labels.Goals as goal

pub loop-at-preserved : goal.loop-at-preserved
loop-at-preserved c =
    let written = c.as_slice-written.result.now in
    let at = c.loop-at.at in
    let before = map item_labels_of c.loop-at.items.items in
    let after = spec.items_after (names_seen (take (at + 1) written)) (map item_of (drop (at + 1) written)) in
    rw (c.in_ok-push.ensures.items, map-append item_labels_of c.loop-at.items.items (c.in_ok-item_labels.field-0 ∷ []))
    (append_assoc before (item_labels_of c.in_ok-item_labels.field-0 ∷ []) after
    ∙ ap (λ one. before ++ one ∷ after) c.in_ok-item_labels.ensures
    ∙ ap (λ rest. before ++ rest) (sym (items_more written at c.index-written-at.result c.loop-at-test.true c.index-written-at.is))
    ∙ c.loop-at.invariant)

pub returns : goal.returns
returns c =
    let written = c.as_slice-written.result.now in
    let at = c.loop-at.at in
    let labels = map item_labels_of c.loop-at.items.items in
    let none : labels ++ spec.items_after (names_seen (take at written)) (map item_of (drop at written)) ≡ labels =
    ap (λ rest. labels ++ spec.items_after (names_seen (take at written)) (map item_of rest)) (drop_all at written c.loop-at-test.false) ∙ append-nil labels in
    let items : labels ≡ spec.items_after [] (statement_of c.args.statement.now).items =
    sym none ∙ c.loop-at.invariant ∙ ap (λ items. spec.items_after [] (map item_of items)) c.as_slice-written.ensures.value in
    let query : query_of c.in_ok-query.query
    ≡ spec.labelled max_levels (names_seen written) (tree_of c.args.statement.now.query) (terms_of (map term_of c.as_slice.result.now)) = c.in_ok-query.ensures in
    λ i. record {
      items = items i;
      query = (query ∙ ap (λ items. spec.labelled max_levels (names_seen items) (tree_of c.args.statement.now.query) (terms_of (map term_of c.as_slice.result.now))) c.as_slice-written.ensures.value
          ∙ ap (λ order. spec.labelled max_levels (names_seen c.args.statement.now.items.items) (tree_of c.args.statement.now.query) (terms_of (map term_of order))) c.as_slice.ensures.value) i;
    }
