use Rattle.std.proofs.Common.{List, ap, append-nil, map}
use Rattle.values.specs.Datum.{Datum, datum_of}
use Rattle.btree_cursor.specs.key_ranges.Ranges.{Cut}
use Rattle.btree_cursor.proofs.cursor.find.sought_at.Goals as goal

pub returns-clause-sought : goal.returns-clause-sought
returns-clause-sought c =
    let cut : List Datum → Cut = λ key. record { key = key; behind = c.args.behind } in
    ap cut (append-nil (map datum_of c.args.key.now))
