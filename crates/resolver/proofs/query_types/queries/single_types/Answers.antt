use Rattle.std.proofs.Common.{◌≡◌, map, rules, subst, sym, ap, ◌∙◌}
use Rattle.resolver_bodies.specs.BodyView.{single_of}
use Rattle.resolver_bodies.specs.declared.bodies.Body.TheFolds.{fold_out-Single}
use Rattle.resolver_bodies.specs.declared.bodies.Body.TheViews.{the_lemmas}
use Rattle.resolver_bodies.specs.declared.bodies.Single.{out-Single}
use Rattle.resolver_types.specs.body_types.RowView.{row_of}
use Rattle.resolver_types.specs.body_types.Rows.{column_types}
use Rattle.semantics_names.specs.Outcome.{also, each}
use Rattle.resolver_terms.specs.Outcome.{Gives}
use Rattle.resolver_terms.specs.SelectView.{key_of, select_of}
use Rattle.resolver.proofs.lemmas.query_types.OrderLemmas.{keys_left}
use Rattle.resolver.specs.query_types.Keys.{key_over, rows_behind}
use Rattle.resolver.proofs.query_types.queries.single_types.Goals as goal

pub returns : goal.returns
returns c =
    let order = map key_of c.args.order.now in
    let single = single_of c.args.single.now in
    let row = row_of c.in_ok-over.over in
    let types = c.in_ok-types.types.items in
    let select : single.select ≡ select_of (out-Single c.args.single.now).select = search (rules, the_lemmas, fold_out-Single) in
    let left = keys_left (map (λ t. t.items) c.args.tables.now) single.from single.select order row types c.in_ok-over.ensures
    (ap (λ s. column_types s row) select ∙ c.in_ok-types.ensures) in
    let rows = ap (λ s. rows_behind s.distinct row) select ∙ sym c.rows_behind.ensures in
    subst (Gives (λ v. v.items) c.in_order.result)
    (sym (left ∙ ap (λ over. also (λ done. types) (each (λ k. key_over over types k.by) order)) rows)) c.in_order.ensures
