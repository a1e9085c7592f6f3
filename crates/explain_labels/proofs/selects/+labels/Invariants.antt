-- Each goes down to queries that are in one query fewer, or to a part.
use Rattle.std.proofs.Common.{◌≡◌, ◌+◌, ◌*◌, ◌++◌, map, take}
use Rattle.std.specs.List.{filter_map}
use Rattle.sql_reader_grammar.specs.statement_trees.TreeView.{arranged_of, expr_of, joined_of}
use Rattle.sql_reader_syntax.specs.ExprTree.{TermTrees}
use Rattle.semantics_names.specs.Parts.{inner_tree}
use Rattle.explain_labels.specs.Labels as spec
use Rattle.explain_labels.specs.Labels.{labelled_inside}
use Rattle.explain_labels.specs.View.{label_of, names_seen, query_of, select_of}
use Rattle.explain_labels.proofs.selects.+labels.Given as goal

abbrev pub decreases-query_labels : goal.decreases-query_labels
decreases-query_labels l = 8 * l.seen.depth

abbrev pub decreases-source_label : goal.decreases-source_label
decreases-source_label l = 8 * l.seen.depth + 1

abbrev pub decreases-add_joined : goal.decreases-add_joined
decreases-add_joined l = 8 * l.seen.depth + 2

abbrev pub decreases-sources_labels : goal.decreases-sources_labels
decreases-sources_labels l = 8 * l.seen.depth + 3

abbrev pub decreases-from_labels : goal.decreases-from_labels
decreases-from_labels l = 8 * l.seen.depth + 4

abbrev pub decreases-add_inside : goal.decreases-add_inside
decreases-add_inside l = 8 * l.seen.depth + 1

abbrev pub decreases-inner_labels : goal.decreases-inner_labels
decreases-inner_labels l = 8 * l.seen.depth + 2

abbrev pub decreases-select_labels : goal.decreases-select_labels
decreases-select_labels l = 8 * l.seen.depth + 5

abbrev pub decreases-add_arms : goal.decreases-add_arms
decreases-add_arms l = 8 * l.seen.depth + 6

abbrev pub invariant-add_joined-loop-next : goal.invariant-add_joined-loop-next
invariant-add_joined-loop-next l =
    map label_of l.labels.items
    ≡ map label_of l.initial.labels.items
    ++ map (λ j. spec.source_label (names_seen l.seen.items.now) (labelled_inside l.seen.depth (names_seen l.seen.items.now)) j.1.0) (map joined_of (take l.next-index l.others))

abbrev pub invariant-inner_labels-loop-part : goal.invariant-inner_labels-loop-part
invariant-inner_labels-loop-part l =
    map query_of l.labels.items
    ≡ map (λ tree. labelled_inside l.seen.depth (names_seen l.seen.items.now) (spec.query_in tree))
    (filter_map inner_tree (map (λ part. expr_of part.now) (take l.part-index l.part-items)))

abbrev pub invariant-add_arms-loop-arm : goal.invariant-add_arms-loop-arm
invariant-add_arms-loop-arm l =
    map select_of l.labels.items
    ≡ map select_of l.initial.labels.items
    ++ map (λ c. spec.core_labels (names_seen l.seen.items.now) (labelled_inside l.seen.depth (names_seen l.seen.items.now)) c.1 TermTrees.No_term)
    (map arranged_of (take l.arm-index l.arms))
