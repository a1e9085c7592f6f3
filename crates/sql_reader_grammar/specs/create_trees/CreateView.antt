-- What the program's CREATE TABLEs and CREATE INDEXes are.
use Rattle.std.specs.Prelude.{map, option_map, string_bytes}
use Rattle.sql_reader_grammar.specs.create_trees.CreateTrees.{TypeTree, DefaultTree, ConstraintTree, ColumnTree, IndexedColumnTree, IndexTree, TableConstraintTree, TableTree}
use Rattle.sql_reader_grammar.specs.declared.create_trees.create.Column.{Column}
use Rattle.sql_reader_grammar.specs.declared.create_trees.create.ColumnConstraint.{ColumnConstraint}
use Rattle.sql_reader_grammar.specs.declared.create_trees.create.ColumnConstraint.TheVariants as c
use Rattle.sql_reader_grammar.specs.declared.create_trees.create.ColumnType.{ColumnType}
use Rattle.sql_reader_grammar.specs.declared.create_trees.create.CreateIndex.{CreateIndex}
use Rattle.sql_reader_grammar.specs.declared.create_trees.create.CreateTable.{CreateTable}
use Rattle.sql_reader_grammar.specs.declared.create_trees.create.DefaultValue.{DefaultValue}
use Rattle.sql_reader_grammar.specs.declared.create_trees.create.DefaultValue.TheVariants as d
use Rattle.sql_reader_grammar.specs.declared.create_trees.create.IndexedColumn.{IndexedColumn}
use Rattle.sql_reader_grammar.specs.declared.create_trees.create.TableConstraint.{TableConstraint}
use Rattle.sql_reader_grammar.specs.declared.create_trees.create.TableConstraint.TheVariants as x
use Rattle.sql_reader_grammar.specs.statement_trees.TreeView.{expr_of}

abbrev pub type_of : ColumnType → TypeTree
type_of t = record { words = map (λ n. string_bytes n) t.words.items; is_sized = t.is_sized }

abbrev pub default_of : DefaultValue → DefaultTree
default_of d.Null = DefaultTree.Null
default_of (d.Number n) = DefaultTree.Number n
default_of (d.Negative n) = DefaultTree.Negative n
default_of (d.Text content) = DefaultTree.Text (string_bytes content)
default_of (d.Blob bytes) = DefaultTree.Blob bytes.items
default_of d.Expression = DefaultTree.Expression

abbrev pub constraint_of : ColumnConstraint → ConstraintTree
constraint_of (c.PrimaryKey order automatic) = ConstraintTree.PrimaryKey order automatic
constraint_of c.NotNull = ConstraintTree.NotNull
constraint_of c.Unique = ConstraintTree.Unique
constraint_of c.Check = ConstraintTree.Check
constraint_of (c.Default value) = ConstraintTree.Default (default_of value)
constraint_of (c.Collate name) = ConstraintTree.Collate (string_bytes name)
constraint_of c.References = ConstraintTree.References

abbrev pub column_of : Column → ColumnTree
column_of c = record {
  name = string_bytes c.name;
  ty = type_of c.ty;
  constraints = map constraint_of c.constraints.items;
}

abbrev pub indexed_of : IndexedColumn → IndexedColumnTree
indexed_of c = record {
  name = string_bytes c.name;
  collation = option_map (λ n. string_bytes n) c.collation;
  order = c.order;
}

abbrev pub table_constraint_of : TableConstraint → TableConstraintTree
table_constraint_of (x.PrimaryKey columns) = TableConstraintTree.PrimaryKey (map indexed_of columns.items)
table_constraint_of (x.Unique columns) = TableConstraintTree.Unique (map indexed_of columns.items)
table_constraint_of x.Check = TableConstraintTree.Check
table_constraint_of (x.ForeignKey names) = TableConstraintTree.ForeignKey (map (λ n. string_bytes n) names.items)

abbrev pub table_of : CreateTable → TableTree
table_of t = record {
  name = string_bytes t.name;
  columns = map column_of t.columns.items;
  constraints = map table_constraint_of t.constraints.items;
  options = t.options.items;
}

abbrev pub index_of : CreateIndex → IndexTree
index_of i = record {
  name = string_bytes i.name;
  table = string_bytes i.table;
  is_unique = i.is_unique;
  columns = map indexed_of i.columns.items;
  condition = option_map expr_of i.condition;
}
