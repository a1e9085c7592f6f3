use Rattle.std.proofs.Common.{map, subst, sym}
use Rattle.sql_reader_grammar.specs.create_trees.CreateView.{column_of}
use Rattle.schema_keys.specs.Created.{IsNamedIn, column_names}
use Rattle.schema_keys.specs.Names.{IsNameAt}
use Rattle.schema_keys.proofs.KeyLemmas.{all_places, named_at, place_more}
use Rattle.schema_keys.proofs.keys.key_places.Goals as goal

pub column_place-requires : goal.column_place-requires
column_place-requires c =
    let columns = map column_of c.args.columns.now in
    subst (IsNamedIn columns) (sym c.as_str.ensures.value)
    (named_at columns c.args.names.now c.loop-name.name-index c.name-item.result c.loop-name-test.true c.name-item.is c.requires)

pub loop-name-preserved : goal.loop-name-preserved
loop-name-preserved c =
    let columns = map column_of c.args.columns.now in
    place_more columns c.args.names.now c.loop-name.name-index c.name-item.result c.loop-name-test.true c.name-item.is
    c.loop-name.places.items c.push.new.self.items c.column_place.result
    (subst (λ n. IsNameAt (column_names columns) n c.column_place.result) c.as_str.ensures.value c.column_place.ensures)
    c.in_ok-push.ensures.items c.loop-name.invariant

pub returns : goal.returns
returns c =
    all_places (map column_of c.args.columns.now) c.args.names.now c.loop-name.name-index c.loop-name.places.items c.loop-name-test.false
    c.loop-name.invariant
