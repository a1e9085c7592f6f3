use Rattle.std.proofs.Common.{◌+◌, subst}
use Rattle.btree.specs.declared.image.kind.TreeKind.TheVariants.{Index}
use Rattle.btree.specs.image.Entries.{IsAtPlace}
use Rattle.btree.specs.image.Pages.{pages_seen}
use Rattle.btree.specs.image.Search.{IsSplit}
use Rattle.btree.specs.image.Shape.{places_under, size_under}
use Rattle.btree_cursor.specs.key_ranges.Ranges.{Cut, is_before}
use Rattle.records_searches.proofs.seeks.entry_in_range.Goals as goal

pub returns-in-Ok-clause-lands : goal.returns-in-Ok-clause-lands
returns-in-Ok-clause-lands g c = λ steady levels values searchable.
    let sought = c.in-Ok.ensures.outcome.seeks steady levels values searchable in
    let pages = pages_seen c.args.pager.now.state in (
      record {
        front = sought.0.front;
        rest = sought.0.rest;
        split = subst (λ (k : Cut). IsSplit IsAtPlace (λ place. is_before c.args.descends.now k (values place)) pages Index
            (places_under pages Index levels c.args.root) sought.0.front sought.0.rest) c.start.ensures sought.0.split;
        leads = (c.args.pager.now.state.asked + size_under pages levels c.args.root, sought.0.leads);
      },
      sought.1,
    )

pub returns-in-Err-clause-lands : goal.returns-in-Err-clause-lands
returns-in-Err-clause-lands g c = λ steady levels values searchable.
    let sound = c.in-Err.ensures.outcome.sound steady levels values searchable in
    rw (c.search_fault.ensures.read sound) sound
