use Rattle.semantics.proofs.OneTableLemmas.{scan_begins, scan_is_permitted, scan_is_typed, scan_names_columns}
use Rattle.semantics.proofs.laws.columns_of_one_table.Goals as goal

pub returns-clause-permitted : goal.returns-clause-permitted
returns-clause-permitted c = scan_is_permitted

pub returns-clause-begins : goal.returns-clause-begins
returns-clause-begins c = scan_begins

pub returns-clause-typed : goal.returns-clause-typed
returns-clause-typed c = scan_is_typed

pub returns-clause-named : goal.returns-clause-named
returns-clause-named c = scan_names_columns
