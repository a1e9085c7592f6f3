use Rattle.std.proofs.Common.{◌≡◌, rules}
use Rattle.values.specs.Datum.{datum_of_ref}
use Rattle.values.specs.Order.{datum_cmp}
use Rattle.integrity_trees.proofs.lemmas.entry_prefixes.AgreeLemmas.{equality}
use Rattle.integrity_trees.proofs.entry_prefixes.agreement.are_equal.Goals as goal

pub returns : goal.returns
returns c =
    let order : c.cmp.result ≡ datum_cmp (datum_of_ref c.args.one) (datum_of_ref c.args.other) = search rules in
    equality (datum_of_ref c.args.one) (datum_of_ref c.args.other) c.cmp.result c.is_eq.result order c.is_eq.ensures
