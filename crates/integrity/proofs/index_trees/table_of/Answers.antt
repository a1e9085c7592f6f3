use Rattle.std.proofs.Common.{rules, ◌≡◌, ◌<◌, true, ℕ, All, Contains, List, get_or, length, sym, subst, arith}
use Rattle.std.proofs.lemmas.List.{take_all}
use Rattle.std.proofs.lemmas.List.Elements.{All-more}
use Rattle.schema.specs.indexes.IndexView.{index_data}
use Rattle.schema_keys.specs.Names.{IsSameName}
use Rattle.schema_tables.specs.TableData.{TableData}
use Rattle.integrity.proofs.index_trees.table_of.Goals as goal

pub returns-then-is_same_name-clause-found : goal.returns-then-is_same_name-clause-found
returns-then-is_same_name-clause-found c =
    let among : Contains c.args.tables.now c.table-item.result = search rules in (
      among,
      subst (λ (n : List ℕ). IsSameName (index_data c.args.index.now).table n) c.name.ensures
          (subst (λ (n : List ℕ). IsSameName n c.name.result.now) c.table.ensures (c.is_same_name.ensures.0 c.if-is_same_name.true)),
    )

pub loop-table-preserved : goal.loop-table-preserved
loop-table-preserved c =
    let item = c.table-item.result in
    let within : c.loop-table.table-index < length c.args.tables.now = search rules in
    let same : get_or c.args.tables.now c.loop-table.table-index item ≡ item = search rules in
    let other : TableData → Type 0 = λ table. ¬ IsSameName (index_data c.args.index.now).table table.name in
    All-more other c.args.tables.now c.loop-table.table-index item within c.loop-table.invariant
    (subst other (sym same) (λ owner.
    let told : c.is_same_name.result ≡ true = c.is_same_name.ensures.1
    (subst (λ (n : List ℕ). IsSameName c.table.result.now n) (sym c.name.ensures)
    (subst (λ (n : List ℕ). IsSameName n item.name) (sym c.table.ensures) owner)) in
    let not = c.if-is_same_name.false in
    cc))

pub returns-clause-none : goal.returns-clause-none
returns-clause-none c =
    let end : c.loop-table.table-index ≡ length c.args.tables.now = search rules in
    subst (λ (l : List TableData). All (λ table. ¬ IsSameName (index_data c.args.index.now).table table.name) l)
    (take_all c.loop-table.table-index c.args.tables.now (omega (arith, end))) c.loop-table.invariant
