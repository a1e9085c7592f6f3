use Rattle.std.proofs.Common.{◌∙◌, ◌++◌, ◌∷◌, [], if◌then◌else◌, ap, sym}
use Rattle.indexmap.specs.IndexSet.{insert_key}
use Rattle.values.specs.Row.{Row}
use Rattle.semantics.specs.Times.{same_row}
use Rattle.operators_results.proofs.compound_results.sets.put_row.Goals as goal

pub returns-then-contains : goal.returns-then-contains
returns-then-contains c =
    let keys = c.args.set.now.keys in
    ap (λ b. if b then keys else (keys ++ c.from-row.result ∷ [])) (sym (sym c.contains.ensures ∙ c.if-contains.true))
    ∙ ap (λ (row : Row). insert_key same_row keys row) c.from-row.ensures

pub returns : goal.returns
returns c = c.in_ok-insert.ensures.keys ∙ ap (λ (row : Row). insert_key same_row c.args.set.now.keys row) c.from-row.ensures
