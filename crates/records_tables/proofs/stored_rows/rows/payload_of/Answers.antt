use Rattle.std.proofs.Common.{subst}
use Rattle.std.specs.Prelude.{option_map}
use Rattle.std.specs.Cow.{cow_slice_items}
use Rattle.btree.specs.Calls.{IsBytesOf}
use Rattle.btree.specs.Views.{payload_data}
use Rattle.btree.specs.image.Pages.{pages_seen}
use Rattle.records_tables.proofs.stored_rows.rows.payload_of.Goals as goal

pub returns-in-Some-clause-bytes : goal.returns-in-Some-clause-bytes
returns-in-Some-clause-bytes g c = λ steady.
    subst (λ found. IsBytesOf (pages_seen c.args.pager.now.state) (payload_data c.args.cell.now.payload) (option_map cow_slice_items found))
    c.in-Some.is (c.in_ok-bytes.ensures.outcome steady)
