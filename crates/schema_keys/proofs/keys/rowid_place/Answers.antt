use Rattle.std.proofs.Common.{◌<◌, length, map, rules}
use Rattle.schema_keys.specs.declared_keys.KeyView.{key_data}
use Rattle.schema_keys.proofs.KeyLemmas.{no_rowid, rowid_here}
use Rattle.schema_keys.proofs.keys.rowid_place.Goals as goal

pub returns-then-is_rowid : goal.returns-then-is_rowid
returns-then-is_rowid c =
    let within : c.loop-place.place < length c.args.columns.now = search rules in
    rowid_here c.args.options.now (map key_data c.args.keys.now) c.args.columns.now c.loop-place.place c.index-columns-place.result within
    c.index-columns-place.is (c.is_rowid.ensures.0 c.if-is_rowid.true)

pub returns : goal.returns
returns c =
    no_rowid c.args.options.now (map key_data c.args.keys.now) c.args.columns.now c.loop-place.place c.loop-place-test.false c.loop-place.invariant
