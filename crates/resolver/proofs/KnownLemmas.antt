-- The tables of a catalog, one after the other.
use Rattle.std.proofs.Common.{◌≡◌, ◌<◌, ◌≤◌, ◌+◌, ℕ, suc, List, [], ◌∷◌, ◌++◌, map, drop, length, get_or, codes, Ok, refl, sym, ap, ◌∙◌, arith, append-nil, append_assoc}
use Rattle.std.proofs.lemmas.List.{at_drop_all, at_drop_more, map-append}
use Rattle.resolver_sources.specs.source_names.GivenView.{known_of}
use Rattle.resolver_sources.specs.declared.source_names.given.Known as mention
use Rattle.sql_reader_syntax.specs.Tree.{Name}
use Rattle.semantics.specs.Query.{Source}
use Rattle.semantics_names.specs.Sources.{Known}
use Rattle.semantics_names.specs.Typed as naming
use Rattle.semantics_names.specs.Typed.{known_from}
use Rattle.schema_tables.specs.ColumnTypes as schema
use Rattle.schema_tables.specs.TableData.{ColumnData, TableData}
use Rattle.resolver.specs.Resolved.{column_of, table_of, tables_of}

same_names : (columns : List ColumnData) → map (λ c. c.name) columns ≡ map (λ c. c.name) (map column_of columns)
same_names [] = refl
same_names (c ∷ cs) = rw (same_names cs) refl

same_width : (columns : List ColumnData) → length columns ≡ length (map column_of columns)
same_width [] = refl
same_width (c ∷ cs) = ap suc (same_width cs)

-- a table with its columns' names
pub known_so : (at : ℕ) (t : TableData) (name : Name) (columns : List ColumnData) (names : List Name) → name ≡ t.name → columns ≡ t.columns → names ≡ map (λ c. c.name) columns
    → record { name = name; source = Ok (Source.table at (length columns)); columns = names } ∷ [] ≡ known_from at (table_of t ∷ [])
known_so at t name columns names called are named = rw (called, named, are, same_width t.columns, same_names t.columns) refl

-- those that are known so far, before those that are left, are all
abbrev pub IsBefore : List TableData → List Known → ℕ → Type 0
IsBefore tables known at = known_from 0 (tables_of tables) ≡ known ++ known_from at (tables_of (drop at tables))

from_next : (at : ℕ) (t : TableData) (ts : List TableData) → known_from at (tables_of (t ∷ ts)) ≡ known_from at (table_of t ∷ []) ++ known_from (at + 1) (tables_of ts)
from_next at t ts = let e : suc at ≡ at + 1 = omega arith in ap (λ n. known_from at (table_of t ∷ []) ++ known_from n (tables_of ts)) e

-- one more is known
pub one_more : (tables : List TableData) (known : List Known) (at : ℕ) (t : TableData) (k : Known) → at < length tables → t ≡ get_or tables at t
    → k ∷ [] ≡ known_from at (table_of t ∷ []) → IsBefore tables known at → IsBefore tables (known ++ k ∷ []) (at + 1)
one_more tables known at t k lt is made before =
    before
    ∙ ap (λ rest. known ++ rest)
    (at_drop_more (λ ts. known_from at (tables_of ts)) tables at t lt
    ∙ ap (λ z. known_from at (tables_of (z ∷ drop (at + 1) tables))) (sym is)
    ∙ from_next at t (drop (at + 1) tables)
    ∙ ap (λ head. head ++ known_from (at + 1) (tables_of (drop (at + 1) tables))) (sym made))
    ∙ sym (append_assoc known (k ∷ []) (known_from (at + 1) (tables_of (drop (at + 1) tables))))

-- all are known
pub all_known : (tables : List TableData) (known : List Known) (at : ℕ) → length tables ≤ at → IsBefore tables known at → known ≡ known_from 0 (tables_of tables)
all_known tables known at past before =
    sym (before ∙ ap (λ rest. known ++ rest) (at_drop_all (λ ts. known_from at (tables_of ts)) tables at past) ∙ append-nil known)

-- the table of the schema's rows stands behind them
pub with_schema : (tables : List TableData) (xs ys zs : List mention.Known) (a b : mention.Known) → ys ≡ xs ++ a ∷ [] → zs ≡ ys ++ b ∷ []
    → map known_of xs ≡ known_from 0 (tables_of tables) → known_of a ≡ naming.known_schema (codes "sqlite_schema")
    → known_of b ≡ naming.known_schema (codes "sqlite_master") → map known_of zs ≡ naming.known_tables (tables_of tables)
with_schema tables xs ys zs a b first second known schema master =
    ap (map known_of) (second ∙ ap (λ l. l ++ b ∷ []) first ∙ append_assoc xs (a ∷ []) (b ∷ []))
    ∙ map-append known_of xs (a ∷ b ∷ [])
    ∙ rw (known, schema, master) refl

same_columns : (columns : List ColumnData) → map (λ c. c.ty) (map column_of columns) ≡ map (λ c. c.ty) columns
same_columns [] = refl
same_columns (c ∷ cs) = rw (same_columns cs) refl

-- the types of their columns are those of the catalog's
pub same_types : (tables : List TableData) → naming.column_types (tables_of tables) ≡ schema.column_types tables
same_types [] = refl
same_types (t ∷ ts) = rw (same_columns t.columns, same_types ts) refl
