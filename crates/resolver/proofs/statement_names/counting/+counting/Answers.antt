use Rattle.std.proofs.Common.{◌≡◌, ap, map, rules, sum_by, ◌∙◌}
use Rattle.resolver_bodies.specs.BodyView.{inner_of, joined_all, joined_of, tables_of}
use Rattle.resolver_bodies.specs.declared.bodies.Body.TheFolds.{fold-roll-Tables, fold_out-Tables}
use Rattle.resolver_bodies.specs.declared.bodies.Body.TheViews.{the_lemmas}
use Rattle.semantics.specs.Query.{From}
use Rattle.semantics_names.specs.Statement.{sources_of, sources_of_from, sources_of_inner, with_answers}
use Rattle.resolver.proofs.lemmas.statement_names.CountLemmas.{both_counted, tables_are}
use Rattle.resolver.proofs.statement_names.counting.+counting.Goals as goal

pub tables_count-returns : goal.tables_count-returns
tables_count-returns t c =
    let js = map joined_of c.as_slice.result.now in
    let qs = map inner_of c.as_slice-2.result.now in
    let tree : tables_of c.args.tables.now ≡ with_answers (joined_all From.nothing js) qs = search (rules, the_lemmas, fold-roll-Tables, fold_out-Tables) in
    both_counted c.joined_count-sources.result c.inner_count-inner.result c.saturating_add.result (sum_by (λ j. sources_of j.source) js)
    (sum_by sources_of_inner qs) (sources_of_from (tables_of c.args.tables.now)) c.saturating_add.ensures c.joined_count-sources.ensures
    c.inner_count-inner.ensures (ap sources_of_from tree ∙ tables_are js qs)
