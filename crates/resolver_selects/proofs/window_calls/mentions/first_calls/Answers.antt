use Rattle.std.proofs.Common.{[], map, rules}
use Rattle.std.proofs.lemmas.Result.{err_from_is_err_and}
use Rattle.std.specs.List.{filter_map}
use Rattle.semantics_names.specs.Places as spec
use Rattle.semantics_names.specs.Same.{is_same_call}
use Rattle.semantics_names.specs.Statement.{firsts}
use Rattle.resolver_exprs.proofs.lemmas.places.FirstLemmas.{is_refused, is_skipped}
use Rattle.resolver_terms.specs.SelectView.{call_of}
use Rattle.sql_reader_grammar.specs.statement_trees.TreeView.{expr_of}
use Rattle.resolver_selects.specs.window_names.DefinedView.{defined_of}
use Rattle.resolver_selects.proofs.window_calls.mentions.first_calls.Goals as goal

pub returns-in_err-found : goal.returns-in_err-found
returns-in_err-found g c =
    let said = spec.call_of (g.I.InnerQueries.answers c.args.inner.now) (g.P.Place.meaning c.args.place.now) (map defined_of c.args.defined.now) in
    let p = err_from_is_err_and c.from_residual.result c.from_residual.ensures.1 in
    rw (p.1, p.2) (is_refused is_same_call (λ e. expr_of e.now) said c.args.parts.now c.loop-part.part-index c.part-item.result
    (map call_of c.loop-part.calls.items) c.in_err-found.field-0.0
    (firsts is_same_call [] (filter_map said (map (λ e. expr_of e.now) c.args.parts.now)))
    c.loop-part-test.true c.part-item.is c.in_err-found.ensures c.loop-part.invariant)

pub loop-part-preserved-in_default : goal.loop-part-preserved-in_default
loop-part-preserved-in_default g c =
    let said = spec.call_of (g.I.InnerQueries.answers c.args.inner.now) (g.P.Place.meaning c.args.place.now) (map defined_of c.args.defined.now) in
    is_skipped is_same_call (λ e. expr_of e.now) said c.args.parts.now c.loop-part.part-index c.part-item.result
    (map call_of c.loop-part.calls.items) (firsts is_same_call [] (filter_map said (map (λ e. expr_of e.now) c.args.parts.now)))
    c.loop-part-test.true c.part-item.is (search rules) c.loop-part.invariant
