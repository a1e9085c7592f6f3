use Rattle.std.proofs.Common.{◌≡◌, ◌∙◌, None, Some, ap, arith, length, map, refl, sym}
use Rattle.std.proofs.lemmas.Option.{slice_get_read}
use Rattle.std.specs.Option.{option_and_then}
use Rattle.std.specs.Prelude.{slice_get}
use Rattle.index_choice.specs.Bounds.{conjunct_data, first_bound}
use Rattle.index_choice.proofs.MapLemmas.{first_bound_of, get_past}
use Rattle.index_choice.proofs.choice.bound_after.Goals as goal

pub returns-in-Some : goal.returns-in-Some
returns-in-Some c =
    let there : slice_get c.args.columns.now c.args.at ≡ Some c.in-Some.column.now
    = slice_get_read c.args.columns.now (length c.args.columns.now) c.args.at c.in-Some.column.now refl c.in-Some.ensures.lookup.3.0 c.in-Some.ensures.lookup.1 in
    c.find_bound.ensures ∙ sym (first_bound_of c.args.known.now c.args.conjuncts.now c.args.side c.in-Some.column.now)
    ∙ sym (ap (option_and_then (first_bound c.args.known.now (map conjunct_data c.args.conjuncts.now) c.args.side)) there)

pub returns-in-None : goal.returns-in-None
returns-in-None c =
    let past = c.in-None.ensures.lookup.3 in
    let none : slice_get c.args.columns.now c.args.at ≡ None = get_past c.args.columns.now c.args.at (omega (arith, past)) in
    sym (ap (option_and_then (first_bound c.args.known.now (map conjunct_data c.args.conjuncts.now) c.args.side)) none)
