-- Queries inside expressions, as plain data.
use Rattle.std.specs.Prelude.{map}
use Rattle.resolver_bodies.specs.BodyView as bodies
use Rattle.resolver_bodies.specs.BodyView.{body_of}
use Rattle.resolver_sources.specs.declared.inner_names.resolved.Inner.{Inner}
use Rattle.resolver_sources.specs.declared.inner_names.written.Asked.{Asked}
use Rattle.resolver_sources.specs.declared.inner_names.written.Asked.TheVariants as a
use Rattle.semantics_names.specs.Expression.{InnerTree}
use Rattle.semantics_names.specs.Statement as spec
use Rattle.sql_reader_grammar.specs.statement_trees.TreeView.{query_of}

abbrev pub asked_of : Asked → InnerTree
asked_of (a.Values query) = InnerTree.values_in (query_of query.now)
asked_of (a.Exists query) = InnerTree.exists_in (query_of query.now)

abbrev pub inner_data : Inner → spec.Inner
inner_data i = record { query = bodies.inner_of i.query; beside = map body_of i.beside.items }
