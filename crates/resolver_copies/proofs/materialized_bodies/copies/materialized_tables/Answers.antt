use Rattle.std.proofs.Common.{◌≡◌, ◌<◌, ◌+◌, length, map, rules, subst, sym, ap, ◌∙◌}
use Rattle.resolver_bodies.specs.BodyView.{inner_of, joined_of, tables_of}
use Rattle.resolver_bodies.specs.declared.bodies.Body.TheFolds.{fold_out-Tables}
use Rattle.resolver_bodies.specs.declared.bodies.Body.TheViews.{the_lemmas}
use Rattle.resolver_bodies.specs.declared.bodies.Tables.{out-Tables}
use Rattle.expr.specs.Filled.{filled}
use Rattle.resolver_copies.proofs.lemmas.materialized_bodies.FlatLemmas.{kept_whole, whole, whole_flat}
use Rattle.resolver_copies.specs.materialized_bodies.FlatView.{all_flat, kept_among, lists_of}
use Rattle.semantics_rewrites.specs.materialized_queries.Flat.{materialized_from, kept_in}
use Rattle.resolver_copies.proofs.materialized_bodies.copies.materialized_tables.Goals as goal

pub materialized_sources-requires : goal.materialized_sources-requires
materialized_sources-requires c =
    let tables = out-Tables c.args.tables.now in
    let js = map joined_of tables.sources.items in
    let qs = map inner_of tables.inner.items in
    let is : tables_of c.args.tables.now ≡ whole js qs = search (rules, the_lemmas, fold_out-Tables) in
    let same : map joined_of c.as_slice.result.now ≡ js = search (rules, the_lemmas) in
    subst (λ kept. c.args.place + length kept < 18446744073709551616) (ap kept_in is ∙ kept_whole js qs ∙ sym (ap kept_among same)) c.requires

pub returns : goal.returns
returns c =
    let tables = out-Tables c.args.tables.now in
    let js = map joined_of tables.sources.items in
    let qs = map inner_of tables.inner.items in
    let f = filled (lists_of c.args.answers.now) in
    let is : tables_of c.args.tables.now ≡ whole js qs = search (rules, the_lemmas, fold_out-Tables) in
    let same : map joined_of c.as_slice.result.now ≡ js = search (rules, the_lemmas) in
    let made : whole (map joined_of c.in_ok-materialized_sources.field-0.items) (map inner_of c.new.result.items) ≡ materialized_from f c.args.place (tables_of c.args.tables.now) =
    ap (λ ks. whole ks (map inner_of c.new.result.items)) (c.in_ok-materialized_sources.ensures ∙ ap (all_flat f c.args.place) same)
    ∙ ap (λ items. whole (all_flat f c.args.place js) (map inner_of items)) c.new.ensures.items
    ∙ whole_flat f c.args.place js qs ∙ sym (ap (materialized_from f c.args.place) is) in
    rw (← made) (search (rules, the_lemmas, fold_out-Tables))
