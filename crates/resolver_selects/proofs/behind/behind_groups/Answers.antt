use Rattle.std.proofs.Common.{[], map, option_map, sym, ◌∙◌}
use Rattle.std.proofs.lemmas.Result.{err_from_is_err_and}
use Rattle.std.specs.List.{filter_map}
use Rattle.values.specs.declared.fault.Fault.TheVariants.{DuplicateName}
use Rattle.sql_reader_grammar.specs.Reading.{definitions_of, results_of, terms_of}
use Rattle.semantics_names.specs.Places as places
use Rattle.semantics_names.specs.Same.{is_same_call}
use Rattle.semantics_names.specs.Statement as spec
use Rattle.resolver_terms.specs.SelectView.{call_of}
use Rattle.expr.specs.View.{term}
use Rattle.resolver_selects.proofs.StepLemmas.{ends, goes_on}
use Rattle.resolver_selects.specs.BehindView.{input_of}
use Rattle.sql_reader_grammar.specs.statement_trees.TreeView as trees
use Rattle.resolver_selects.specs.window_names.DefinedView.{defined_of}
use Rattle.resolver_selects.proofs.behind.behind_groups.Goals as goal

pub returns-in_err-calls : goal.returns-in_err-calls
returns-in_err-calls g c = λ condition grouping.
    let answers = g.I.InnerQueries.answers c.args.inner.now in
    let says = g.P.Place.meaning c.args.input.now.place.now in
    let clauses = c.args.clauses.now in
    let windows = definitions_of (map trees.definition_of clauses.windows.now) in
    let parts = map (λ e. trees.expr_of e.now) clauses.parts.now in
    let width = c.args.input.now.width in
    let input = input_of says (option_map (λ terms. map term terms.now) c.args.input.now.by) width grouping in
    let kept = sym c.are_distinct.ensures ∙ c.if-not-are_distinct.false in
    let p = err_from_is_err_and c.from_residual-in_err-calls.result c.from_residual-in_err-calls.ensures.1 in
    rw (p.1, p.2) (ends (spec.are_distinct (spec.window_names windows)) DuplicateName (spec.defined_of answers says windows)
    (λ defined. spec.firsts is_same_call [] (filter_map (places.call_of answers says defined) parts))
    (λ defined calls. spec.shown answers c.args.scope.now clauses.distinct (results_of (map trees.result_of clauses.columns.now))
    (terms_of (map trees.term_of clauses.order.now)) parts condition input defined calls (places.windows_say answers says defined width calls))
    (map defined_of c.in_ok-defined.defined.items) kept c.in_ok-defined.ensures
    c.in_err-calls.field-0.0 (rw c.as_slice.ensures.value at c.in_err-calls.ensures))

pub returns : goal.returns
returns g c = λ condition grouping.
    let answers = g.I.InnerQueries.answers c.args.inner.now in
    let says = g.P.Place.meaning c.args.input.now.place.now in
    let clauses = c.args.clauses.now in
    let windows = definitions_of (map trees.definition_of clauses.windows.now) in
    let parts = map (λ e. trees.expr_of e.now) clauses.parts.now in
    let width = c.args.input.now.width in
    let input = input_of says (option_map (λ terms. map term terms.now) c.args.input.now.by) width grouping in
    let kept = sym c.are_distinct.ensures ∙ c.if-not-are_distinct.false in
    goes_on (spec.are_distinct (spec.window_names windows)) DuplicateName (spec.defined_of answers says windows)
    (λ defined. spec.firsts is_same_call [] (filter_map (places.call_of answers says defined) parts))
    (λ defined calls. spec.shown answers c.args.scope.now clauses.distinct (results_of (map trees.result_of clauses.columns.now))
    (terms_of (map trees.term_of clauses.order.now)) parts condition input defined calls (places.windows_say answers says defined width calls))
    (map defined_of c.in_ok-defined.defined.items) kept c.in_ok-defined.ensures
    (map call_of c.in_ok-calls.calls.items) (rw c.as_slice.ensures.value at c.in_ok-calls.ensures)
    ∙ (rw (c.as_slice-2.ensures.value, c.as_slice-3.ensures.value) at (c.in_ok-shown.ensures condition grouping))
