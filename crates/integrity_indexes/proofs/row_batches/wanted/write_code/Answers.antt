use Rattle.std.proofs.Common.{◌∙◌, ◌++◌, List, ℕ, ap}
use Rattle.std.proofs.lemmas.Result.{IfOk-weaker}
use Rattle.integrity_indexes.specs.entry_batches.Codes.{codes_of}
use Rattle.integrity_trees.specs.wanted_entries.Wanted.{values_at}
use Rattle.integrity_indexes.proofs.row_batches.wanted.write_code.Goals as goal

pub returns-clause-code : goal.returns-clause-code
returns-clause-code c = IfOk-weaker c.push_places.result _ _
    (λ read told yes row is.
    let t = told yes row (c.in-Some.ensures.found.1 row is) in
    record { is = t.0 ∙ ap (λ (l : List ℕ). l ++ codes_of (values_at row c.args.places.now)) c.clear.ensures.items; held = t.1 })
    c.push_places.ensures.code

pub returns-clause-none : goal.returns-clause-none
returns-clause-none c = IfOk-weaker c.push_places.result _ _
    (λ read told no row is. told no row (c.in-Some.ensures.found.1 row is))
    c.push_places.ensures.none
