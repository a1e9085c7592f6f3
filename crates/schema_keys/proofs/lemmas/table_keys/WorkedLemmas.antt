-- The indexes of two worked tables.
use Rattle.std.proofs.Common.{◌≡◌, ℕ, zero, suc, true, false, List, [], ◌∷◌, codes, length, get_or, refl, sym, ap, subst, arith}
use Rattle.sql_reader_grammar.specs.create_trees.CreateTrees.{ColumnTree, TableTree}
use Rattle.sql_reader_grammar.specs.declared.create_trees.create.TableOption.TheVariants.{Strict, WithoutRowid}
use Rattle.schema_keys.specs.Names.{IsSameName}
use Rattle.schema_keys.specs.Types.{IsInteger}
use Rattle.sql_reader_syntax.specs.Tree.{Name}
use Rattle.schema_keys.specs.table_keys.Automatic.{IsIntegerIn, IsIntegerKey, IsTableKey, WantIndexes}
use Rattle.schema_keys.specs.declared_keys.Keys.{KeyData}
use Rattle.schema_keys.specs.table_keys.Worked.{KeyTakesOne, RowidTakesNone, worked_table}

abbrev of_rowids : TableTree
of_rowids = worked_table (codes "INTEGER") (Strict ∷ [])

abbrev rowless : TableTree
rowless = worked_table (codes "INT") (Strict ∷ WithoutRowid ∷ [])

abbrev unique : List Name → KeyData
unique columns = record { is_primary = false; columns = columns }

no_integer_key : (tree : TableTree) (columns : List Name) → ¬ IsIntegerKey tree (unique columns)
no_integer_key tree columns is = let h : false ≡ true = is.primary_is in cc

no_table_key : (tree : TableTree) (columns : List Name) → ¬ IsTableKey tree (unique columns)
no_table_key tree columns is = let h : false ≡ true = is.primary_is in cc

abbrev primary : KeyData
primary = record { is_primary = true; columns = codes "a" ∷ [] }

is_integer_key : IsIntegerKey of_rowids primary
is_integer_key = record {
  primary_is = refl;
  alone = (1, _, omega arith, refl, (refl, record { word_is = (refl, tt); unsized = refl }));
}

-- a column that is INT isn't INTEGER, and the others are called otherwise
no_integer : ¬ IsIntegerIn rowless.columns (codes "a")
no_integer (zero, c, within, is, p) =
    let same : IsSameName (codes "b") (codes "a") = subst (λ (x : ColumnTree). IsSameName x.name (codes "a")) (sym is) p.0 in
    let first : 98 ≡ 97 = ap (λ n. get_or n 0 0) same in omega (arith, first)
no_integer (suc zero, c, within, is, p) =
    let ty : IsInteger (record { words = codes "INT" ∷ []; is_sized = false }) = subst (λ (x : ColumnTree). IsInteger x.ty) (sym is) p.1 in
    let same : IsSameName (codes "INT") (codes "INTEGER") = ty.word_is.0 in
    let long : 3 ≡ 7 = ap (λ (n : List ℕ). length n) same in omega (arith, long)
no_integer (suc (suc zero), c, within, is, p) =
    let same : IsSameName (codes "c") (codes "a") = subst (λ (x : ColumnTree). IsSameName x.name (codes "a")) (sym is) p.0 in
    let first : 99 ≡ 97 = ap (λ n. get_or n 0 0) same in omega (arith, first)
no_integer (suc (suc (suc k)), c, within, is, p) = absurd (omega (arith, within))

is_table_key : IsTableKey rowless primary
is_table_key = record { primary_is = refl; rowless = (1, WithoutRowid, omega arith, refl, refl); other = λ is. no_integer is.alone }

pub rowid_takes_none : RowidTakesNone
rowid_takes_none =
    WantIndexes.index (no_integer_key of_rowids _) (no_table_key of_rowids _)
    (WantIndexes.integer is_integer_key
    (WantIndexes.index (no_integer_key of_rowids _) (no_table_key of_rowids _)
    (WantIndexes.index (no_integer_key of_rowids _) (no_table_key of_rowids _) WantIndexes.end)))

pub key_takes_one : KeyTakesOne
key_takes_one =
    WantIndexes.index (no_integer_key rowless _) (no_table_key rowless _)
    (WantIndexes.table is_table_key
    (WantIndexes.index (no_integer_key rowless _) (no_table_key rowless _)
    (WantIndexes.index (no_integer_key rowless _) (no_table_key rowless _) WantIndexes.end)))
