use Rattle.std.proofs.Common.{◌≡◌, IfNone, IfSome, List, map, Option, None, Some, refl, sym, ap, ◌∙◌, subst}
use Rattle.sql_reader_grammar.specs.create_trees.CreateView.{column_of, table_of}
use Rattle.schema_keys.specs.declared_keys.Keys.{keys_of}
use Rattle.schema_keys.specs.declared_keys.KeyView.{key_data}
use Rattle.schema_keys.proofs.CreatedLemmas.{columns_are, columnless_refused, distinct_names, doubled_refused, key_is, key_within, keyless_refused, keys_are, keys_refused, reserved_refused, served_constraints, unreserved, unserved_refused}
use Rattle.schema_keys.proofs.ServedLemmas.{options_are, other_options, served_in, unserved_in}
use Rattle.std.specs.List.{AllZip}
use Rattle.schema_keys.specs.Created.{AreKeys, IsColumn, IsRowKey}
use Rattle.schema_tables.specs.RowKeyView.{row_key_of}
use Rattle.schema_tables.specs.TableData.{ColumnData}
use Rattle.schema_keys.proofs.created.table_from.Goals as goal
use Rattle.schema_keys.proofs.created.table_from.Goals.{
  then-is_reserved-via-else-is_reserved+then-not-are_distinct,
  then-is_reserved-via-then-is_reserved,
  then-not-columns_are_served-via-else-not-columns_are_served+then-not-are_keys,
  then-not-columns_are_served-via-then-not-columns_are_served,
  then-not-are_options-via-else-not-are_options+then-not-constraints_are_served,
  then-not-are_options-via-then-not-are_options,
}

some_found : {A : Type 0} (P : A → Type 0) (found : Option A) (x : A) → found ≡ Some x → IfSome found P → P x
some_found P found x is all = subst (λ f. IfSome f P) is all

none_found : {A B : Type 0} (P : B → Type 0) (found : Option A) → found ≡ None → IfNone found ((x : B) → ¬ P x) → (x : B) → ¬ P x
none_found {B = B} P found is none = subst (λ f. IfNone f ((x : B) → ¬ P x)) is none

pub returns-then-is_reserved-clause-none : goal.returns-then-is_reserved-clause-none
returns-then-is_reserved-clause-none c =
    elim c.then-is_reserved.branch [
      | then-is_reserved-via-then-is_reserved w ↦
          reserved_refused c.args.created c.is_reserved.result c.as_str.result.now c.as_str.ensures.value c.is_reserved.ensures
          w.if-is_reserved.true
      | then-is_reserved-via-else-is_reserved+then-not-are_distinct w ↦
          doubled_refused c.args.created w.as_slice.result.now w.as_slice.ensures.value w.are_distinct.result w.are_distinct.ensures
          w.if-not-are_distinct.true
    ]

pub returns-then-not-columns_are_served-clause-none : goal.returns-then-not-columns_are_served-clause-none
returns-then-not-columns_are_served-clause-none c =
    elim c.then-not-columns_are_served.branch [
      | then-not-columns_are_served-via-then-not-columns_are_served w ↦
          unserved_refused c.args.created c.as_slice-2.result.now c.as_slice-2.ensures.value c.columns_are_served.result
          c.columns_are_served.ensures w.if-not-columns_are_served.true
      | then-not-columns_are_served-via-else-not-columns_are_served+then-not-are_keys w ↦
          keys_refused c.args.created w.as_slice-else-not-columns_are_served.result.now w.as_slice-else-not-columns_are_served.ensures.value
          (map key_data w.as_slice-else-not-columns_are_served-2.result.now) (ap (map key_data) w.as_slice-else-not-columns_are_served-2.ensures.value ∙ c.in_ok-keys.ensures)
          w.are_keys.result w.are_keys.ensures w.if-not-are_keys.true
    ]

pub returns-then-not-are_options-clause-none : goal.returns-then-not-are_options-clause-none
returns-then-not-are_options-clause-none c =
    elim c.then-not-are_options.branch [
      | then-not-are_options-via-then-not-are_options w ↦
          other_options c.args.created c.as_slice-3.result.now c.are_options.result c.as_slice-3.ensures.value c.are_options.ensures
          w.if-not-are_options.true
      | then-not-are_options-via-else-not-are_options+then-not-constraints_are_served w ↦
          unserved_in c.args.created w.as_slice-else-not-are_options.result.now w.as_slice-else-not-are_options-2.result.now
          w.constraints_are_served.result w.as_slice-else-not-are_options.ensures.value
          w.as_slice-else-not-are_options-2.ensures.value w.constraints_are_served.ensures w.if-not-constraints_are_served.true
    ]

pub row_key-requires : goal.row_key-requires
row_key-requires c =
    let tree = table_of c.args.created in
    let keys = ap (map key_data) c.as_slice-keys.ensures.value ∙ c.in_ok-keys.ensures in
    let are = keys_are c.args.created c.as_slice-else-not-columns_are_served.result.now c.as_slice-else-not-columns_are_served.ensures.value
    (map key_data c.as_slice-else-not-columns_are_served-2.result.now) (ap (map key_data) c.as_slice-else-not-columns_are_served-2.ensures.value ∙ c.in_ok-keys.ensures)
    c.are_keys.result c.are_keys.ensures c.if-not-are_keys.false in
    subst (AreKeys (map column_of c.as_slice-4.result.now)) (sym keys)
    (subst (λ cs. AreKeys (map column_of cs) (keys_of tree)) (sym c.as_slice-4.ensures.value) are)

pub returns-in_default-clause-none : goal.returns-in_default-clause-none
returns-in_default-clause-none c =
    let keys = ap (map key_data) c.as_slice-keys.ensures.value ∙ c.in_ok-keys.ensures in
    (keyless_refused c.args.created c.as_slice-4.result.now c.as_slice-4.ensures.value (map key_data c.as_slice-keys.result.now) keys
    c.as_slice-options.result.now c.as_slice-options.ensures.value
    (none_found
    (IsRowKey c.as_slice-options.result.now (map key_data c.as_slice-keys.result.now) (map column_of c.as_slice-4.result.now))
    c.in_ok-key.field-0 c.in_default.is c.in_ok-key.ensures.none))

pub returns-in_default-2-clause-none : goal.returns-in_default-2-clause-none
returns-in_default-2-clause-none c =
    let keys = ap (map key_data) c.as_slice-keys.ensures.value ∙ c.in_ok-keys.ensures in
    columnless_refused c.args.created c.args.created.columns.items refl (map key_data c.as_slice-keys.result.now) keys
    c.as_slice-options.result.now c.as_slice-options.ensures.value
    (none_found
    (λ (columns : List ColumnData). AllZip (IsColumn c.as_slice-options.result.now (map key_data c.as_slice-keys.result.now)) (map column_of c.args.created.columns.items) columns)
    c.in_ok-columns.field-0 c.in_default-2.is c.in_ok-columns.ensures.none)

pub new-requires : goal.new-requires
new-requires c =
    let keys = ap (map key_data) c.as_slice-keys.ensures.value ∙ c.in_ok-keys.ensures in
    let options = c.as_slice-options.ensures.value in
    let tree = table_of c.args.created in
    key_within tree.options (keys_of tree) tree.columns c.in-Some-2.columns.items (row_key_of c.in-Some.key)
    (key_is c.args.created c.as_slice-4.result.now c.as_slice-4.ensures.value (map key_data c.as_slice-keys.result.now) keys
    c.as_slice-options.result.now options (row_key_of c.in-Some.key)
    (some_found (λ key. IsRowKey c.as_slice-options.result.now (map key_data c.as_slice-keys.result.now) (map column_of c.as_slice-4.result.now) (row_key_of key))
    c.in_ok-key.field-0 c.in-Some.key c.in-Some.is c.in_ok-key.ensures.found))
    (columns_are c.args.created c.args.created.columns.items refl (map key_data c.as_slice-keys.result.now) keys
    c.as_slice-options.result.now options c.in-Some-2.columns.items
    (some_found (λ columns. AllZip (IsColumn c.as_slice-options.result.now (map key_data c.as_slice-keys.result.now)) (map column_of c.args.created.columns.items) columns.items)
    c.in_ok-columns.field-0 c.in-Some-2.columns c.in-Some-2.is c.in_ok-columns.ensures.made))

pub returns-clause-made : goal.returns-clause-made
returns-clause-made c =
    let keys = ap (map key_data) c.as_slice-keys.ensures.value ∙ c.in_ok-keys.ensures in
    let options = c.as_slice-options.ensures.value in
    rw c.new.ensures (record {
      name_is = refl;
      unreserved = unreserved c.args.created c.is_reserved.result c.as_str.result.now c.as_str.ensures.value c.is_reserved.ensures
          c.if-is_reserved.false;
      columns_are = columns_are c.args.created c.args.created.columns.items refl (map key_data c.as_slice-keys.result.now) keys
          c.as_slice-options.result.now options c.in-Some-2.columns.items
          (some_found (λ columns. AllZip (IsColumn c.as_slice-options.result.now (map key_data c.as_slice-keys.result.now)) (map column_of c.args.created.columns.items) columns.items)
          c.in_ok-columns.field-0 c.in-Some-2.columns c.in-Some-2.is c.in_ok-columns.ensures.made);
      distinct = distinct_names c.args.created c.as_slice.result.now c.as_slice.ensures.value c.are_distinct.result c.are_distinct.ensures
          c.if-not-are_distinct.false;
      served = served_constraints c.args.created c.as_slice-2.result.now c.as_slice-2.ensures.value c.columns_are_served.result
          c.columns_are_served.ensures c.if-not-columns_are_served.false;
      served_in = served_in c.args.created c.as_slice-else-not-are_options.result.now c.as_slice-else-not-are_options-2.result.now
          c.constraints_are_served.result c.as_slice-else-not-are_options.ensures.value c.as_slice-else-not-are_options-2.ensures.value
          c.constraints_are_served.ensures c.if-not-constraints_are_served.false;
      keys_are = keys_are c.args.created c.as_slice-else-not-columns_are_served.result.now c.as_slice-else-not-columns_are_served.ensures.value
          (map key_data c.as_slice-else-not-columns_are_served-2.result.now) (ap (map key_data) c.as_slice-else-not-columns_are_served-2.ensures.value ∙ c.in_ok-keys.ensures)
          c.are_keys.result c.are_keys.ensures c.if-not-are_keys.false;
      options_are = options_are c.args.created c.as_slice-3.result.now c.are_options.result c.as_slice-3.ensures.value
          c.are_options.ensures c.if-not-are_options.false;
      key_is = key_is c.args.created c.as_slice-4.result.now c.as_slice-4.ensures.value (map key_data c.as_slice-keys.result.now) keys
          c.as_slice-options.result.now options (row_key_of c.in-Some.key)
          (some_found (λ key. IsRowKey c.as_slice-options.result.now (map key_data c.as_slice-keys.result.now) (map column_of c.as_slice-4.result.now) (row_key_of key))
          c.in_ok-key.field-0 c.in-Some.key c.in-Some.is c.in_ok-key.ensures.found);
    })
