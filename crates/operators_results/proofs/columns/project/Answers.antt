use Rattle.std.proofs.Common.{rules, ◌≡◌, ◌∙◌, ap, sym, length, map, take}
use Rattle.std.proofs.lemmas.List.{take-map, take_all}
use Rattle.values.specs.Datum.{datum_of}
use Rattle.expr.specs.Meaning.{eval}
use Rattle.expr.specs.View.{term}
use Rattle.semantics.specs.Valuation.{term_values}
use Rattle.operators_results.proofs.columns.project.Goals as goal

pub returns-clause-values : goal.returns-clause-values
returns-clause-values c = λ w.
    let end : length c.args.columns.now ≡ c.loop-column.next = search rules in
    ap (map datum_of) c.truncate.ensures.items
    ∙ sym (take-map datum_of (length c.args.columns.now) c.loop-column.out.items)
    ∙ ap (λ n. take n (map datum_of c.loop-column.out.items)) end
    ∙ c.loop-column.invariant.values w
    ∙ ap (λ columns. term_values (eval w) (map term columns) (map datum_of c.args.row.now))
    (take_all c.loop-column.column-index c.args.columns.now c.loop-column-test.false)
