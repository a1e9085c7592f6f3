-- The SELECTs so far, before those that are left, come to all of them.
use Rattle.std.proofs.Common.{◌≡◌, Ok, drop, map}
use Rattle.resolver_sources.specs.from_names.Steps.{stepped}
use Rattle.resolver.specs.query_names.Compounds.{joined_to}
use Rattle.resolver_sources.specs.source_names.GivenView.{known_of, queried_of}
use Rattle.sql_reader_grammar.specs.statement_trees.TreeView.{arranged_of}
use Rattle.resolver.proofs.query_names.compounds.all_joined.Given as goal

abbrev pub invariant-loop-next : goal.invariant-loop-next
invariant-loop-next g l =
    let step = joined_to (map known_of l.known) (g.Q.Queries.meaning l.queries) in
    stepped step (Ok (queried_of l.fn.left)) (map arranged_of l.others)
    ≡ stepped step (Ok (queried_of l.all)) (map arranged_of (drop l.next-index l.others))
