use Rattle.std.proofs.Common.{◌<◌, length, rules, string_bytes}
use Rattle.sql_reader_grammar.specs.declared.create_trees.create.IndexedColumn.{IndexedColumn}
use Rattle.schema_keys.proofs.NameLemmas.{distinct_next, distinct_stops}
use Rattle.schema.proofs.indexes.places.are_distinct.Goals as goal

pub returns-then-is_named : goal.returns-then-is_named
returns-then-is_named c =
    let within : c.loop-place.place < length c.args.columns.now = search rules in (
      (λ e. absurd cc),
      (λ distinct. absurd (distinct_stops (λ (x : IndexedColumn). string_bytes x.name) c.args.columns.now c.loop-place.place
          c.index-columns-place.result c.as_str.result.now c.is_named.result within c.index-columns-place.is c.as_str.ensures.value
          c.is_named.ensures c.if-is_named.true distinct)),
    )

pub loop-place-preserved : goal.loop-place-preserved
loop-place-preserved c =
    let within : c.loop-place.place < length c.args.columns.now = search rules in
    distinct_next (λ (x : IndexedColumn). string_bytes x.name) c.args.columns.now c.loop-place.place
    c.index-columns-place.result c.as_str.result.now c.is_named.result within c.index-columns-place.is c.as_str.ensures.value
    c.is_named.ensures c.if-is_named.false c.loop-place.invariant
