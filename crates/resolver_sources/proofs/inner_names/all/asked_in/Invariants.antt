-- Those so far, before those of what is left, are those of all.
use Rattle.std.proofs.Common.{◌≡◌, ◌++◌, drop, map}
use Rattle.std.specs.List.{filter_map}
use Rattle.resolver_sources.specs.inner_names.InnerView.{asked_of}
use Rattle.semantics_names.specs.Parts.{inner_tree}
use Rattle.sql_reader_grammar.specs.statement_trees.TreeView.{expr_of}
use Rattle.resolver_sources.proofs.inner_names.all.asked_in.Given as goal

abbrev pub invariant-loop-part : goal.invariant-loop-part
invariant-loop-part l =
    map asked_of l.found.items ++ filter_map inner_tree (map (λ e. expr_of e.now) (drop l.part-index l.parts))
    ≡ filter_map inner_tree (map (λ e. expr_of e.now) l.parts)
