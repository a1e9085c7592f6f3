use Rattle.std.proofs.Common.{rules, tests}
use Rattle.std.proofs.lemmas.Iterator.{YieldsList-from_slice, cases_from_any}
use Rattle.sql_reader_grammar.specs.create_trees.CreateTrees.{ColumnTree}
use Rattle.sql_reader_grammar.specs.create_trees.CreateView.{column_of}
use Rattle.schema_keys.proofs.ListLemmas.{any_is}
use Rattle.schema_keys.specs.Names.{IsSameName}
use Rattle.schema_keys.specs.Types.{IsInteger}
use Rattle.sql_reader_syntax.specs.Tree.{Name}
use Rattle.schema_keys.proofs.ServedLemmas.{any_told}
use Rattle.schema_keys.proofs.table_keys.automatic.is_integer_in.Goals as goal

abbrev IsThis : Name → ColumnTree → Type 0
IsThis name c = IsSameName c.name name × IsInteger c.ty

pub returns : goal.returns
returns c =
    let name = c.args.name.now in
    any_told (IsThis name) column_of c.args.columns.now c.any.result
    (any_is (λ x. IsThis name (column_of x)) c.args.columns.now c.any.result
    (cases_from_any _ _ _ (λ x. IsThis name (column_of x)) (λ x. ¬ IsThis name (column_of x))
    c.any.ensures.ran (YieldsList-from_slice c.args.columns.now cc) (λ x q k. search (rules, tests)) (λ x q k. search (rules, tests))))
