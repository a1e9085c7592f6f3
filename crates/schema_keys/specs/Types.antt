-- The types of the columns of STRICT tables. (STRICT Tables)
use Rattle.std.specs.Prelude.{◌≡◌, false, [], ◌∷◌, codes}
use Rattle.std.specs.List.{AllZip}
use Rattle.values.specs.declared.value.Ty.{Ty}
use Rattle.values.specs.declared.value.Ty.TheVariants as class
use Rattle.sql_reader_grammar.specs.create_trees.CreateTrees.{TypeTree}
use Rattle.schema_keys.specs.Names.{IsSameName}
use Rattle.sql_reader_syntax.specs.Tree.{Name}

-- a type that is this word alone, in letters of either case, without a size
pub record IsWord (word : Name) (ty : TypeTree) : Type 0 where
  pub word_is : AllZip IsSameName ty.words (word ∷ [])
  pub unsized : ty.is_sized ≡ false

-- INTEGER, the type of a column that may be the rowid
abbrev pub IsInteger : TypeTree → Type 0
IsInteger = IsWord (codes "INTEGER")

-- INT | INTEGER | TEXT | BLOB, and the type of the column's values
pub data IsType : TypeTree → Ty → Type 0 where
  int : {ty : TypeTree} → IsWord (codes "INT") ty → IsType ty class.Int
  integer : {ty : TypeTree} → IsInteger ty → IsType ty class.Int
  text : {ty : TypeTree} → IsWord (codes "TEXT") ty → IsType ty class.Text
  blob : {ty : TypeTree} → IsWord (codes "BLOB") ty → IsType ty class.Blob
