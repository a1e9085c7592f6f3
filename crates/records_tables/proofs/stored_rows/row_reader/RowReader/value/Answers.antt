use Rattle.std.proofs.Common.{◌∙◌, ap, refl, sym}
use Rattle.values.specs.Datum.{datum_of_ref}
use Rattle.schema_tables.specs.TableData.{TableData, rowid_of}
use Rattle.records_tables.specs.stored_rows.Reading.{Reading}
use Rattle.records_tables.proofs.lemmas.stored_rows.ReadingLemmas.{IsBehind, IsStoredAt, older_found, older_none, value_stored}
use Rattle.records_tables.proofs.stored_rows.row_reader.RowReader.value.Goals as goal

pub returns-then-not-go_back-clause-none : goal.returns-then-not-go_back-clause-none
returns-then-not-go_back-clause-none c = λ row is. c.if-not-go_back.ensures.none refl row is

pub returns-in-Some-stored-clause-found : goal.returns-in-Some-stored-clause-found
returns-in-Some-stored-clause-found c = λ row is.
    let back = c.if-not-go_back.ensures.back refl in
    let now = back.reads row is in
    let found = c.in-Some-stored.ensures.found row now in
    let other : IsStoredAt (rowid_of c.go_back.new.self.table.key) c.go_back.new.self.rowid c.args.column =
    λ key. back.rowid ∙ c.in_default.ensures.none (ap (λ (t : TableData). rowid_of t.key) (sym back.table) ∙ key) in
    (value_stored c.go_back.new.self row c.args.column (datum_of_ref c.in-Some-stored.value) other now found.0, found.1)

pub returns-clause-found : goal.returns-clause-found
returns-clause-found c =
    let back = c.if-not-go_back.ensures.back refl in
    let other : IsStoredAt (rowid_of c.go_back.new.self.table.key) c.go_back.new.self.rowid c.args.column =
    λ key. back.rowid ∙ c.in_default.ensures.none (ap (λ (t : TableData). rowid_of t.key) (sym back.table) ∙ key) in
    let less : IsBehind c.args.self.now c.go_back.new.self c.stored.new.self c.args.column =
    λ row is.
    let now = back.reads row is in
    let lacks = c.in_default-stored.ensures.none row now in
    (now, lacks.0, lacks.1) in
    older_found c.args.self.now c.go_back.new.self c.stored.new.self c.args.column c.self.inside.table.now c.older_value.result less other
    (ap (λ (r : Reading). r.table) c.self.view_is ∙ c.in_default-stored.ensures.table)
    c.older_value.ensures.found

pub returns-clause-none : goal.returns-clause-none
returns-clause-none c =
    let back = c.if-not-go_back.ensures.back refl in
    let less : IsBehind c.args.self.now c.go_back.new.self c.stored.new.self c.args.column =
    λ row is.
    let now = back.reads row is in
    let lacks = c.in_default-stored.ensures.none row now in
    (now, lacks.0, lacks.1) in
    older_none c.args.self.now c.go_back.new.self c.stored.new.self c.args.column c.self.inside.table.now c.older_value.result less
    (ap (λ (r : Reading). r.table) c.self.view_is ∙ c.in_default-stored.ensures.table)
    c.older_value.ensures.none
