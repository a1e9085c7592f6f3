-- The query of a statement names columns, answers and tables that there are, and so does what is written beside it.
use Rattle.std.proofs.Common.{◌≡◌, ℕ, List, [], ◌∷◌, length, map, Some, Ok, All, nat_eq, nat_le, slice_get, ap, refl, sym, subst, ◌∙◌}
use Rattle.std.proofs.lemmas.Bool.{eqb-true}
use Rattle.std.proofs.lemmas.List.{length-map}
use Rattle.std.proofs.lemmas.List.Elements.{All-cons}
use Rattle.values.specs.declared.fault.Fault.TheVariants.{ColumnCount, DuplicateName, Limit}
use Rattle.values.specs.declared.value.Ty.{Ty}
use Rattle.semantics.specs.Query.{Body, Key, Source}
use Rattle.sql_reader_syntax.specs.ExprTree.{TermTrees}
use Rattle.sql_reader_syntax.specs.StatementTree.{ItemTree, StatementTree}
use Rattle.sql_reader_syntax.specs.Tree.{Name}
use Rattle.semantics_names.specs.Sources.{Known}
use Rattle.semantics_names.specs.Statement.{Named, Queried, With, are_distinct, ended, item_columns, item_of, max_levels, max_sources, named, queried, sources_of_body, with_item, with_items, within}
use Rattle.semantics_names.specs.Typed.{Table, column_types, known_schema, known_tables}
use Rattle.semantics_names.proofs.OutcomeLemmas.{checked-ok}
use Rattle.semantics_refusals.proofs.HandsLemmas.{Hands, also_hands, checked_hands, followed_hands, handed, hands_of}
use Rattle.semantics_refusals.proofs.KnownLemmas.{known_table, tables_all}
use Rattle.semantics_refusals.proofs.OkLemmas.{ok-is}
use Rattle.semantics_refusals.proofs.PartLemmas.{Each, join, more, none}
use Rattle.semantics_refusals.proofs.WithinLemmas.{BodyIsWithin, IsWithinKey}
use Rattle.semantics_refusals.proofs.WithinQueryLemmas.{IsWithinKnown, IsWithinQuery, IsWithinSource, queried_within}
use Rattle.semantics_refusals.proofs.WithLemmas.{no_items}

columns_length : (written names columns : List Name) → item_columns written names ≡ Ok columns → length columns ≡ length names
columns_length [] names columns e = let same : names ≡ columns = cc in ap length (sym same)
columns_length (n ∷ ns) names columns e =
    let (even, rest) = checked-ok (nat_eq (length (n ∷ ns)) (length names)) ColumnCount _ columns e in
    let (apart, last) = checked-ok (are_distinct (n ∷ ns)) DuplicateName (Ok (n ∷ ns)) columns rest in
    let same : n ∷ ns ≡ columns = cc in
    ap length (sym same) ∙ eqb-true (length (n ∷ ns)) (length names) even

module _ (types : List (List Ty)) where
  pub record IsWithinNamed (n : Named) : Type 0 where
    pub body : BodyIsWithin types n.query.body
    pub order : Each (λ (k : Key). IsWithinKey n.query.body k.by) n.query.order
    pub beside : Each (BodyIsWithin types) n.beside

  record IsWithinWith (w : With) : Type 0 where
    known : All (IsWithinKnown types) w.known
    beside : Each (BodyIsWithin types) w.beside

  item_made : (w : With) (item : ItemTree) (q : Queried) (columns : List Name) → IsWithinWith w → IsWithinQuery types q
      → item_columns item.columns q.names ≡ Ok columns → IsWithinWith (with_item w item q columns)
  item_made w item q columns h of e = record {
    known = All-cons (IsWithinKnown types) _ w.known (record { is = here }) h.known;
    beside = join w.beside (q.body ∷ q.beside) h.beside (more q.body q.beside of.body of.beside);
  }
    where
      here : (source : Source) → within q.body ≡ Ok source → IsWithinSource types (length columns) source
      here source d =
          let (few, is) = checked-ok (nat_le (sources_of_body q.body) max_sources) Limit (Ok (Source.derived q.body)) source d in
          subst (IsWithinSource types (length columns)) (ok-is (Source.derived q.body) source is)
          (record { is = of.body; width = columns_length item.columns q.names columns e ∙ of.names })

  item_within : (w : With) (item : ItemTree) → IsWithinWith w → Hands IsWithinWith (item_of w item)
  item_within w item h =
      followed_hands (queried max_levels w.known item.query TermTrees.No_term) _
      (queried_within types max_levels w.known h.known item.query TermTrees.No_term)
      (λ q of.
      also_hands (with_item w item q) (item_columns item.columns q.names)
      (hands_of {P = λ columns. item_columns item.columns q.names ≡ Ok columns} (item_columns item.columns q.names) (λ columns e. e))
      (λ columns e. item_made w item q columns h of e))

  items_within : (items : List ItemTree) (w : With) → IsWithinWith w → Hands IsWithinWith (with_items w items)
  items_within [] w h = record { is = h }
  items_within (i ∷ items) w h =
      followed_hands (item_of w i) (λ more. with_items more items) (item_within w i h) (λ m of. items_within items m of)

  ended_within : (tree : StatementTree) (beside : List Body) (q : Queried) → Each (BodyIsWithin types) beside → IsWithinQuery types q
      → Hands IsWithinNamed (ended tree beside q)
  ended_within tree beside q all h =
      checked_hands (nat_le (sources_of_body q.body) max_sources) Limit _ (λ e.
      record { is = record { body = h.body; order = h.order; beside = join beside q.beside all h.beside } })

  named_within : (tables : List Known) (tree : StatementTree) → All (IsWithinKnown types) tables → Hands IsWithinNamed (named tables tree)
  named_within tables tree all =
      checked_hands (are_distinct (map (λ (i : ItemTree). i.name) tree.items)) DuplicateName _ (λ e.
      followed_hands (with_items (no_items tables) tree.items) _
      (items_within tree.items (no_items tables) (record { known = all; beside = none })) (λ w h.
      followed_hands (queried max_levels w.known tree.query tree.order) (ended tree w.beside)
      (queried_within types max_levels w.known h.known tree.query tree.order) (λ q of. ended_within tree w.beside q h.beside of)))

tables_within : (tables : List Table) → All (IsWithinKnown (column_types tables)) (known_tables tables)
tables_within tables = tables_all (IsWithinKnown types) tables table_within schema_within
  where
    types : List (List Ty)
    types = column_types tables

    table_within : (at : ℕ) (t : Table) → slice_get types at ≡ Some (map (λ c. c.ty) t.columns) → IsWithinKnown types (known_table at t)
    table_within at t there = record {
      is = λ source e.
          subst (IsWithinSource types (length (map (λ c. c.name) t.columns))) (ok-is (Source.table at (length t.columns)) source e)
          (record { is = (map (λ c. c.ty) t.columns, there); width = length-map t.columns (λ c. c.name) });
    }

    schema_within : (name : Name) → IsWithinKnown types (known_schema name)
    schema_within name = record {
      is = λ source e. subst (IsWithinSource types 5) (ok-is Source.schema source e) (record { is = tt; width = refl });
    }

pub statement_within : (tables : List Table) (tree : StatementTree) (n : Named) → named (known_tables tables) tree ≡ Ok n
    → IsWithinNamed (column_types tables) n
statement_within tables tree n e =
    handed (named (known_tables tables) tree) n (named_within (column_types tables) (known_tables tables) tree (tables_within tables)) e
