-- A statement by its names, and by its types.
use Rattle.std.proofs.Common.{◌≡◌, List, Result, Ok, Err, IfOk, sym, ap, subst, ◌∙◌}
use Rattle.values.specs.declared.fault.Fault.{Fault}
use Rattle.values.specs.declared.value.Ty.{Ty}
use Rattle.semantics.specs.Typed.{IsTyped}
use Rattle.semantics_names.specs.Outcome.{followed}
use Rattle.semantics_names.specs.Sources.{Known}
use Rattle.semantics_names.specs.Statement.{Named, named}
use Rattle.semantics_names.specs.Typed as naming
use Rattle.semantics_names.specs.Typed.{known_tables, typed_query, with_types}
use Rattle.resolver_terms.specs.Outcome.{Gives}
use Rattle.schema_tables.specs.ColumnTypes as schema
use Rattle.schema_tables.specs.TableData.{TableData}
use Rattle.resolver_bodies.specs.NamedView.{named_data, query_data}
use Rattle.resolver_bodies.specs.declared.statements.NamedStatement.{NamedStatement}
use Rattle.sql_reader_syntax.specs.StatementTree.{StatementTree}
use Rattle.resolver.specs.Resolved.{tables_of}
use Rattle.resolver.proofs.KnownLemmas.{same_types}

-- what is known and the types are the catalog's, and the names make this
pub named_so : (tables : List TableData) (tree : StatementTree) (known : List Known) (n : Named) (types : List (List Ty))
    → known ≡ known_tables (tables_of tables) → named known tree ≡ Ok n → types ≡ schema.column_types tables
    → with_types types n ≡ typed_query (tables_of tables) tree
named_so tables tree known n types known_is is types_are =
    ap (λ ts. with_types ts n) (types_are ∙ sym (same_types tables))
    ∙ ap (λ r. followed r (with_types (naming.column_types (tables_of tables)))) (sym (sym (ap (λ k. named k tree) known_is) ∙ is))

-- the law of types, of what was resolved
pub resolved_types : ((tables : List naming.Table) (tree : StatementTree) (query : Named) → naming.Types tables tree query → IsTyped (naming.column_types tables) query.query)
    → (tables : List TableData) (tree : StatementTree) (result : Result NamedStatement Fault) → Gives named_data result (typed_query (tables_of tables) tree)
    → IfOk result (λ n. IsTyped (schema.column_types tables) (query_data n.query))
resolved_types law tables tree (Ok n) is =
    subst (λ types. IsTyped types (query_data n.query)) (same_types tables) (law (tables_of tables) tree (named_data n) is)
resolved_types law tables tree (Err fault) is = tt
