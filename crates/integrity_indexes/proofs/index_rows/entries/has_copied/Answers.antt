use Rattle.std.proofs.Common.{◌↔◌, Contains, IsTrue, map, subst}
use Rattle.std.specs.Prelude.{MatchResult}
use Rattle.values.specs.Row.{Row}
use Rattle.pager.specs.Calls.{IsReadFault}
use Rattle.btree.specs.declared.image.kind.TreeKind.TheVariants.{Index}
use Rattle.btree.specs.image.Pages.{pages_seen}
use Rattle.btree.specs.image.Shape.{places_under}
use Rattle.integrity_indexes.proofs.index_rows.entries.has_copied.Goals as goal

pub returns-clause-found : goal.returns-clause-found
returns-clause-found g c = λ steady values levels index.
    subst (λ (w : Row). MatchResult c.has_entry.result
    (λ found. IsTrue found ↔ Contains (map values (places_under (pages_seen c.args.pager.now.state) Index levels c.args.index.now.root)) w) IsReadFault)
    c.in_ok-wanted.ensures (c.has_entry.ensures.found steady values levels index)
