use Rattle.std.proofs.Common.{◌∙◌, Some, Option, None, ap, arith, rules}
use Rattle.std.specs.Prelude.{IfNone, IfSome}
use Rattle.schema_tables.specs.TableData.{MissingData}
use Rattle.values.specs.declared.value.ValueRef.{ValueRef}
use Rattle.records_tables.proofs.lemmas.stored_rows.RowLemmas.{get_at}
use Rattle.records_tables.proofs.lemmas.primary_rows.ToldLemmas.{found_at, lacking_at, long_places, place_in}
use Rattle.records_tables.proofs.primary_rows.rows.column_value.Goals as goal

some-weaker : {P Q : ValueRef → Type 0} (o : Option ValueRef) → ((v : ValueRef) → P v → Q v) → IfSome o P → IfSome o Q
some-weaker None weaker told = tt
some-weaker (Some v) weaker told = weaker v told

none-weaker : {P Q : Type 0} (o : Option ValueRef) → (P → Q) → IfNone o P → IfNone o Q
none-weaker None weaker told = weaker told
none-weaker (Some v) weaker told = tt

pub index-place-requires : goal.index-place-requires
index-place-requires c =
    let within = c.requires.within in
    omega (arith, within, long_places c.args.table.now c.args.order.now.places.items c.requires.order.places_are)

pub returns-then-place-count-clause-found : goal.returns-then-place-count-clause-found
returns-then-place-count-clause-found c =
    let table = c.args.table.now in
    let places = c.args.order.now.places.items in
    let within = c.requires.within in
    let long = long_places table places c.requires.order.places_are in
    let here = get_at places c.args.column c.index-place.result.now (omega (arith, within, long)) c.index-place.ensures in
    found_at table c.args.fields.now c.args.column within c.index-place.result.now _
    (place_in table places c.args.column c.index-place.result.now c.requires.order.places_are here) c.field.ensures

pub returns-clause-found : goal.returns-clause-found
returns-clause-found c =
    let table = c.args.table.now in
    let places = c.args.order.now.places.items in
    let within = c.requires.within in
    let long = long_places table places c.requires.order.places_are in
    let here = get_at places c.args.column c.index-place.result.now (omega (arith, within, long)) c.index-place.ensures in
    let column = get_at table.columns c.args.column c.index-columns-column.result within (search rules) in
    let told = lacking_at table c.args.fields.now c.args.column within c.index-place.result.now _
    (place_in table places c.args.column c.index-place.result.now c.requires.order.places_are here) (search rules) column in
    some-weaker c.older_value.result (λ v e. told ∙ ap (λ (m : MissingData). Some m) e) c.older_value.ensures.found

pub returns-clause-none : goal.returns-clause-none
returns-clause-none c =
    let table = c.args.table.now in
    let places = c.args.order.now.places.items in
    let within = c.requires.within in
    let long = long_places table places c.requires.order.places_are in
    let here = get_at places c.args.column c.index-place.result.now (omega (arith, within, long)) c.index-place.ensures in
    let column = get_at table.columns c.args.column c.index-columns-column.result within (search rules) in
    let told = lacking_at table c.args.fields.now c.args.column within c.index-place.result.now _
    (place_in table places c.args.column c.index-place.result.now c.requires.order.places_are here) (search rules) column in
    none-weaker c.older_value.result (λ e. told ∙ ap (λ (m : MissingData). Some m) e) c.older_value.ensures.none
