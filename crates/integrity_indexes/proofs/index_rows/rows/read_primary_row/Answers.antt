use Rattle.std.proofs.Common.{◌≡◌, Contains, List, inr, map, subst}
use Rattle.values.specs.Datum.{Datum}
use Rattle.schema_tables.specs.TableData.{MissingData}
use Rattle.records_tables.specs.primary_rows.Rows.{told_values}
use Rattle.integrity_indexes.proofs.lemmas.index_rows.LookLemmas.{all_known, one_told}
use Rattle.integrity_indexes.proofs.index_rows.rows.read_primary_row.Goals as goal

pub returns-in-Err-clause-row : goal.returns-in-Err-clause-row
returns-in-Err-clause-row c = λ values row is makes. inr (c.record_fault.ensures.memory (c.in-Err.ensures.only values is))

pub returns-in_default-clause-row : goal.returns-in_default-clause-row
returns-in_default-clause-row c = λ values row is makes.
    absurd (all_known c.args.table.now values row makes
    (subst (λ (v : List Datum). Contains (told_values c.args.table.now v) MissingData.Refused) (c.in-Ok.ensures.only values is) (rw c.in_default.is at c.in_ok-row.ensures.none)))

pub returns-clause-row : goal.returns-clause-row
returns-clause-row c = λ values row is makes.
    one_told c.args.table.now values row makes c.in-Some.row
    (subst (λ (v : List Datum). map MissingData.Fill c.in-Some.row ≡ told_values c.args.table.now v) (c.in-Ok.ensures.only values is) (rw c.in-Some.is at c.in_ok-row.ensures.found))
