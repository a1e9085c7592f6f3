use Rattle.std.proofs.Common.{◌≡◌, ◌∙◌, ◌<◌, List, Some, length, slice_get, ap, refl, subst, sym}
use Rattle.values.specs.Datum.{datum_of_ref}
use Rattle.schema_tables.specs.TableData.{ColumnData, TableData}
use Rattle.records_tables.proofs.lemmas.stored_rows.RowLemmas.{get_at}
use Rattle.records_tables.specs.primary_rows.Firsts.{place_of}
use Rattle.records_tables.specs.primary_rows.Order.{record_order}
use Rattle.records_tables.specs.Keyed.{KeyReading}
use Rattle.records_tables.proofs.KeyLemmas.{IsBehind, older_found, older_none, value_stored}
use Rattle.records_tables.proofs.key_reader.KeyReader.value.Goals as goal

pub returns-then-not-go_back-clause-none : goal.returns-then-not-go_back-clause-none
returns-then-not-go_back-clause-none c = λ row is. c.if-not-go_back.ensures.none refl row is

pub stored-requires-clause-more : goal.stored-requires-clause-more
stored-requires-clause-more c =
    subst (λ (t : TableData). c.place-place.result < length t.columns) (sym c.go_back.ensures.table) c.place-place.ensures.within

pub returns-in-Some-clause-found : goal.returns-in-Some-clause-found
returns-in-Some-clause-found c = λ row is.
    let now = (c.if-not-go_back.ensures.back refl).reads row is in
    let found = c.in-Some.ensures.found row now in
    let table = sym c.go_back.ensures.table in
    let within : c.args.column < length c.go_back.new.self.table.columns = subst (λ (t : TableData). c.args.column < length t.columns) table c.requires in
    let place : c.place-place.result ≡ place_of (record_order c.go_back.new.self.table) c.args.column =
    subst (λ (t : TableData). c.place-place.result ≡ place_of (record_order t) c.args.column) table c.place-place.ensures.place in
    (value_stored c.go_back.new.self c.args.column c.place-place.result within place row now (datum_of_ref c.in-Some.value) found.0, found.1)

pub returns-clause-found : goal.returns-clause-found
returns-clause-found c =
    let table = sym c.go_back.ensures.table in
    let within : c.args.column < length c.go_back.new.self.table.columns = subst (λ (t : TableData). c.args.column < length t.columns) table c.requires in
    let place : c.place-place.result ≡ place_of (record_order c.go_back.new.self.table) c.args.column =
    subst (λ (t : TableData). c.place-place.result ≡ place_of (record_order t) c.args.column) table c.place-place.ensures.place in
    let behind : IsBehind c.args.self.now c.go_back.new.self c.stored.new.self c.place-place.result =
    λ row is.
    let now = (c.if-not-go_back.ensures.back refl).reads row is in
    let lacks = c.in_default.ensures.none row now in
    (now, lacks.0, lacks.1) in
    let same : c.self.inside.table.now ≡ c.go_back.new.self.table = ap (λ (r : KeyReading). r.table) c.self.view_is ∙ c.in_default.ensures.table in
    let columns : c.columns.result.now ≡ c.go_back.new.self.table.columns = c.columns.ensures ∙ ap (λ (t : TableData). t.columns) same in
    let inside : c.args.column < length c.columns.result.now = rw columns within in
    let at = subst (λ (l : List ColumnData). slice_get l c.args.column ≡ Some c.index-columns-column.result) columns
    (get_at c.columns.result.now c.args.column c.index-columns-column.result inside c.index-columns-column.is) in
    older_found c.args.self.now c.go_back.new.self c.stored.new.self c.args.column c.place-place.result c.index-columns-column.result behind within place at
    c.older_value.result c.older_value.ensures.found

pub returns-clause-none : goal.returns-clause-none
returns-clause-none c =
    let table = sym c.go_back.ensures.table in
    let within : c.args.column < length c.go_back.new.self.table.columns = subst (λ (t : TableData). c.args.column < length t.columns) table c.requires in
    let place : c.place-place.result ≡ place_of (record_order c.go_back.new.self.table) c.args.column =
    subst (λ (t : TableData). c.place-place.result ≡ place_of (record_order t) c.args.column) table c.place-place.ensures.place in
    let behind : IsBehind c.args.self.now c.go_back.new.self c.stored.new.self c.place-place.result =
    λ row is.
    let now = (c.if-not-go_back.ensures.back refl).reads row is in
    let lacks = c.in_default.ensures.none row now in
    (now, lacks.0, lacks.1) in
    let same : c.self.inside.table.now ≡ c.go_back.new.self.table = ap (λ (r : KeyReading). r.table) c.self.view_is ∙ c.in_default.ensures.table in
    let columns : c.columns.result.now ≡ c.go_back.new.self.table.columns = c.columns.ensures ∙ ap (λ (t : TableData). t.columns) same in
    let inside : c.args.column < length c.columns.result.now = rw columns within in
    let at = subst (λ (l : List ColumnData). slice_get l c.args.column ≡ Some c.index-columns-column.result) columns
    (get_at c.columns.result.now c.args.column c.index-columns-column.result inside c.index-columns-column.is) in
    older_none c.args.self.now c.go_back.new.self c.stored.new.self c.args.column c.place-place.result c.index-columns-column.result behind within place at
    c.older_value.result c.older_value.ensures.none
