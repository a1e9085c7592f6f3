use Rattle.std.proofs.Common.{◌≡◌, ◌==◌, false, None, Some, length, map, rules, subst, sym, ◌∙◌}
use Rattle.semantics_names.specs.Outcome.{each}
use Rattle.resolver_terms.specs.Outcome.{Gives}
use Rattle.expr.specs.View.{term}
use Rattle.resolver_selects.proofs.lemmas.result_columns.InputLemmas.{all_themselves, some_are}
use Rattle.resolver_selects.specs.result_columns.Inputs.{over_rows}
use Rattle.resolver_exprs.specs.scopes.ResultView.{result_of}
use Rattle.resolver_selects.proofs.result_columns.columns.some.Goals as goal

pub returns-in-None : goal.returns-in-None
returns-in-None c =
    let there : (length c.args.columns.items == 0) ≡ false = search rules in
    rw c.in-None.is
    (some_are result_of c.args.fault (each (over_rows None)) c.args.columns.items there ∙ all_themselves (map result_of c.args.columns.items))

pub returns-in-Some : goal.returns-in-Some
returns-in-Some c =
    let there : (length c.args.columns.items == 0) ≡ false = search rules in
    rw c.in-Some.is
    (subst (Gives (λ v. map result_of v.items) c.keys.result)
    (sym (some_are result_of c.args.fault (each (over_rows (Some (map term c.in-Some.by.now)))) c.args.columns.items there))
    (rw c.as_slice.ensures.value at c.keys.ensures))
