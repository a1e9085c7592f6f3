-- What the program's names of result columns are.
use Rattle.std.specs.Prelude.{string_bytes}
use Rattle.sql_reader_syntax.specs.ExprTree.{NameTree}
use Rattle.sql_reader_syntax.specs.declared.query.ResultName.{ResultName}
use Rattle.sql_reader_syntax.specs.declared.query.ResultName.TheVariants as n

abbrev pub name_of : ResultName → NameTree
name_of (n.Alias name) = NameTree.Alias (string_bytes name)
name_of (n.SourceText text) = NameTree.SourceText (string_bytes text)
