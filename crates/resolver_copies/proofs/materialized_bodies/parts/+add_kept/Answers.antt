use Rattle.std.proofs.Common.{◌≡◌, ◌++◌, OnOk, map, append_assoc, rules, subst, sym, ap, ◌∙◌}
use Rattle.resolver_bodies.specs.BodyView.{body_of, inner_of, joined_of, single_of}
use Rattle.resolver_bodies.specs.declared.bodies.Body.TheFolds.{fold-roll-Body, fold-roll-Single, fold-roll-Tables, fold_out-Body, fold_out-Single, fold_out-Tables}
use Rattle.resolver_bodies.specs.declared.bodies.Body.TheViews.{the_lemmas}
use Rattle.resolver_bodies.specs.declared.bodies.Single.{out-Single}
use Rattle.resolver_bodies.specs.declared.bodies.Tables.{out-Tables}
use Rattle.semantics.specs.Query as q
use Rattle.semantics_names.specs.Statement.{operator_of}
use Rattle.resolver_copies.proofs.lemmas.materialized_bodies.FlatLemmas.{kept_whole, whole}
use Rattle.resolver_copies.specs.materialized_bodies.FlatView.{kept_among, sources_in}
use Rattle.semantics_rewrites.specs.materialized_queries.Flat.{kept_of}
use Rattle.resolver_copies.proofs.materialized_bodies.parts.+add_kept.Goals as goal

pub returns-in-Select : goal.returns-in-Select
returns-in-Select t c =
    let tables = out-Tables (out-Single c.in-Select.single).tables in
    let js = map joined_of tables.sources.items in
    let qs = map inner_of tables.inner.items in
    let is : body_of c.args.body.now ≡ q.Body.select (whole js qs) (single_of c.in-Select.single).select =
    search (rules, the_lemmas, fold-roll-Body, fold_out-Body, fold-roll-Single, fold_out-Single, fold-roll-Tables, fold_out-Tables) in
    let same : kept_among (map joined_of c.as_slice.result.now) ≡ kept_among js = search (rules, the_lemmas) in
    let are : kept_among (map joined_of c.as_slice.result.now) ≡ kept_of (body_of c.args.body.now) = same ∙ sym (ap kept_of is ∙ kept_whole js qs) in
    subst (λ added. OnOk c.add_sources.result (sources_in c.add_sources.new.found ≡ sources_in c.args.found.now ++ added)) are c.add_sources.ensures

pub returns-in_ok-add_kept-in-Compound : goal.returns-in_ok-add_kept-in-Compound
returns-in_ok-add_kept-in-Compound t c =
    let tables = out-Tables (out-Single c.in-Compound.single).tables in
    let js = map joined_of tables.sources.items in
    let qs = map inner_of tables.inner.items in
    let left = body_of c.in-Compound.left.value in
    let is : body_of c.args.body.now ≡ q.Body.compound left (operator_of c.in-Compound.field-1) (whole js qs) (single_of c.in-Compound.single).select =
    search (rules, the_lemmas, fold-roll-Body, fold_out-Body, fold-roll-Single, fold_out-Single, fold-roll-Tables, fold_out-Tables) in
    let same : kept_among (map joined_of c.as_slice-in-Compound.result.now) ≡ kept_among js = search (rules, the_lemmas) in
    let first : sources_in c.add_kept.new.found ≡ sources_in c.args.found.now ++ kept_of left = search rules in
    let are : sources_in c.add_kept.new.found ++ kept_among (map joined_of c.as_slice-in-Compound.result.now) ≡ sources_in c.args.found.now ++ kept_of (body_of c.args.body.now) =
    ap (λ before. before ++ kept_among (map joined_of c.as_slice-in-Compound.result.now)) first
    ∙ append_assoc (sources_in c.args.found.now) (kept_of left) (kept_among (map joined_of c.as_slice-in-Compound.result.now))
    ∙ ap (λ added. sources_in c.args.found.now ++ (kept_of left ++ added)) (same ∙ sym (kept_whole js qs))
    ∙ sym (ap (λ body. sources_in c.args.found.now ++ kept_of body) is) in
    subst (λ all. OnOk c.add_sources-in-Compound.result (sources_in c.add_sources-in-Compound.new.found ≡ all)) are c.add_sources-in-Compound.ensures
