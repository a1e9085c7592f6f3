-- The sources so far, before those that are left, come to those of all.
use Rattle.std.proofs.Common.{◌≡◌, Ok, drop, map}
use Rattle.resolver_sources.specs.from_names.Resolved.{joined_to}
use Rattle.resolver_sources.specs.from_names.Steps.{stepped}
use Rattle.resolver_sources.specs.source_names.GivenView.{known_of, sources_of}
use Rattle.sql_reader_grammar.specs.statement_trees.TreeView.{joined_of}
use Rattle.resolver_sources.proofs.from_names.froms.all_joined.Given as goal

abbrev pub invariant-loop-next : goal.invariant-loop-next
invariant-loop-next g l =
    let step = joined_to (g.I.InnerQueries.answers l.inner) (map known_of l.known) (g.Q.Queries.meaning l.queries) in
    stepped step (Ok (sources_of l.fn.left)) (map joined_of l.others)
    ≡ stepped step (Ok (sources_of l.all)) (map joined_of (drop l.next-index l.others))
