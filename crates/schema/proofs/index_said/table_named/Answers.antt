use Rattle.std.proofs.Common.{◌≡◌, subst, true}
use Rattle.schema_keys.specs.Names.{IsSameName}
use Rattle.schema.specs.Keyed.{KeyedData}
use Rattle.schema.specs.KeyedView.{keyed_data}
use Rattle.schema.proofs.SearchLemmas.{found_here, none_at_end, none_more}
use Rattle.schema.proofs.index_said.table_named.Goals as goal

pub returns-then-is_same_name-clause-found : goal.returns-then-is_same_name-clause-found
returns-then-is_same_name-clause-found c = (
  found_here keyed_data (λ (k : KeyedData). IsSameName k.table.name c.args.name.now) c.args.tables.now c.loop-keyed.keyed-index
      c.keyed-item.result c.loop-keyed-test.true c.keyed-item.is,
  subst (λ n. IsSameName n c.args.name.now) c.name.ensures (c.is_same_name.ensures.0 c.if-is_same_name.true),
)

pub loop-keyed-preserved : goal.loop-keyed-preserved
loop-keyed-preserved c =
    none_more keyed_data (λ (k : KeyedData). IsSameName k.table.name c.args.name.now) c.args.tables.now c.loop-keyed.keyed-index
    c.keyed-item.result c.loop-keyed-test.true c.keyed-item.is
    (λ same. let h : c.is_same_name.result ≡ true = c.is_same_name.ensures.1 (let e = c.name.ensures in rw e same) in
    let none = c.if-is_same_name.false in cc)
    c.loop-keyed.invariant

pub returns-clause-none : goal.returns-clause-none
returns-clause-none c =
    none_at_end keyed_data (λ (k : KeyedData). IsSameName k.table.name c.args.name.now) c.args.tables.now c.loop-keyed.keyed-index
    c.loop-keyed-test.false c.loop-keyed.invariant
