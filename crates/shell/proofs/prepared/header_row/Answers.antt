use Rattle.std.proofs.Common.{◌≡◌, ◌<◌, length, map, string_bytes, rules, ap}
use Rattle.values.specs.Datum.{text}
use Rattle.records_tables.proofs.lemmas.stored_rows.RowLemmas.{get_at, taken_more}
use Rattle.shell.proofs.NameLemmas.{got_map}
use Rattle.shell.proofs.prepared.header_row.Goals as goal

pub loop-name-preserved : goal.loop-name-preserved
loop-name-preserved c =
    let within : c.loop-name.name-index < length c.args.names.now = search rules in
    let here = get_at c.args.names.now c.loop-name.name-index c.name-item.result within (search rules) in
    let bytes = got_map (λ name. string_bytes name) c.args.names.now c.loop-name.name-index c.name-item.result here in
    let same : text (string_bytes c.in_ok-from_str.field-0) ≡ text (string_bytes c.name-item.result) = ap text (search rules) in
    taken_more (map text (map (λ name. string_bytes name) c.args.names.now)) c.loop-name.row c.push.new.self c.loop-name.name-index _ _
    (got_map text (map (λ name. string_bytes name) c.args.names.now) c.loop-name.name-index (string_bytes c.name-item.result) bytes)
    c.loop-name.invariant c.in_ok-push.ensures.ok same
