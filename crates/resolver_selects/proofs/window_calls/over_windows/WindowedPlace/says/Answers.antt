use Rattle.std.proofs.Common.{map, option_map, subst, sym}
use Rattle.std.proofs.lemmas.Result.{err_from_is_err_and}
use Rattle.semantics_names.specs.Places as spec
use Rattle.resolver_terms.specs.Outcome.{Gives}
use Rattle.resolver_terms.specs.SelectView.{call_of}
use Rattle.expr.specs.View.{term}
use Rattle.sql_reader_grammar.specs.statement_trees.TreeView.{expr_of}
use Rattle.resolver_selects.proofs.lemmas.window_calls.CallLemmas.{is_found, is_none, is_refused}
use Rattle.resolver_selects.specs.window_names.DefinedView.{defined_of}
use Rattle.resolver_selects.proofs.window_calls.over_windows.WindowedPlace.says.Goals as goal

pub returns-in_err-found : goal.returns-in_err-found
returns-in_err-found g c =
    let w = c.args.self.now in
    let says = g.P.Place.meaning w.input.now in
    let said = spec.call_of (g.I.InnerQueries.answers w.inner.now) says (map defined_of w.defined.now) (expr_of c.args.part.now) in
    let p = err_from_is_err_and c.from_residual.result c.from_residual.ensures.1 in
    rw (p.1, p.2) (is_refused w.width (map call_of w.calls.now) (says (expr_of c.args.part.now)) said c.in_err-found.field-0.0 c.in_err-found.ensures)

pub returns-in-Some : goal.returns-in-Some
returns-in-Some g c =
    let w = c.args.self.now in
    let says = g.P.Place.meaning w.input.now in
    let said = spec.call_of (g.I.InnerQueries.answers w.inner.now) says (map defined_of w.defined.now) (expr_of c.args.part.now) in
    subst (Gives (option_map term) c.call_column.result)
    (sym (is_found w.width (map call_of w.calls.now) (says (expr_of c.args.part.now)) said (call_of c.in-Some.found)
    (rw c.in-Some.is at c.in_ok-found.ensures))) c.call_column.ensures

pub returns-in-None : goal.returns-in-None
returns-in-None g c =
    let w = c.args.self.now in
    let says = g.P.Place.meaning w.input.now in
    let said = spec.call_of (g.I.InnerQueries.answers w.inner.now) says (map defined_of w.defined.now) (expr_of c.args.part.now) in
    subst (Gives (option_map term) c.says.result)
    (sym (is_none w.width (map call_of w.calls.now) (says (expr_of c.args.part.now)) said
    (rw c.in-None.is at c.in_ok-found.ensures))) c.says.ensures
