-- What holds of each table, and of the table of the schema's rows, holds of all that FROM may name.
use Rattle.std.proofs.Common.{◌≡◌, ℕ, suc, ◌+◌, List, [], ◌∷◌, codes, length, map, Some, Ok, All, slice_get, arith, ap, subst, ◌∙◌}
use Rattle.std.proofs.lemmas.List.Elements.{All-append, All-cons, All-nil}
use Rattle.values.specs.declared.value.Ty.{Ty}
use Rattle.semantics.specs.Query.{Source}
use Rattle.sql_reader_syntax.specs.Tree.{Name}
use Rattle.semantics_names.specs.Sources.{Known}
use Rattle.semantics_names.specs.Typed.{Table, column_types, known_from, known_schema, known_tables}

-- the table in this place
abbrev pub known_table : ℕ → Table → Known
known_table at t = record { name = t.name; source = Ok (Source.table at (length t.columns)); columns = map (λ c. c.name) t.columns }

module _ (P : Known → Type 0) (types : List (List Ty))
    (is : (at : ℕ) (t : Table) → slice_get types at ≡ Some (map (λ c. c.ty) t.columns) → P (known_table at t)) where
  -- the tables from a place on
  from_place : (at : ℕ) (ts : List Table) → ((i : ℕ) → slice_get types (at + i) ≡ slice_get (column_types ts) i) → All P (known_from at ts)
  from_place at [] same = All-nil P
  from_place at (t ∷ ts) same =
      All-cons P (known_table at t) (known_from (suc at) ts) (is at t (ap (slice_get types) place ∙ same 0))
      (from_place (suc at) ts (λ i. subst (λ k. slice_get types k ≡ slice_get (column_types ts) i) (step i) (same (suc i))))
    where
      place : at ≡ at + 0
      place = omega arith

      step : (i : ℕ) → at + suc i ≡ suc at + i
      step i = omega arith

pub tables_all : (P : Known → Type 0) (tables : List Table)
    → ((at : ℕ) (t : Table) → slice_get (column_types tables) at ≡ Some (map (λ c. c.ty) t.columns) → P (known_table at t))
    → ((name : Name) → P (known_schema name)) → All P (known_tables tables)
tables_all P tables is schema =
    All-append P (known_from 0 tables) (known_schema (codes "sqlite_schema") ∷ known_schema (codes "sqlite_master") ∷ [])
    (from_place P (column_types tables) is 0 tables (λ i. ap (slice_get (column_types tables)) (zero_plus i)))
    (All-cons P (known_schema (codes "sqlite_schema")) (known_schema (codes "sqlite_master") ∷ []) (schema (codes "sqlite_schema"))
    (All-cons P (known_schema (codes "sqlite_master")) [] (schema (codes "sqlite_master")) (All-nil P)))
  where
    zero_plus : (i : ℕ) → 0 + i ≡ i
    zero_plus i = omega arith
