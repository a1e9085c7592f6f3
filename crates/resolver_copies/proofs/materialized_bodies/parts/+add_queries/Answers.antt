use Rattle.std.proofs.Common.{◌≡◌, ◌++◌, OnOk, map, append_assoc, rules, subst, sym, ap, ◌∙◌}
use Rattle.resolver_bodies.specs.BodyView.{body_of, inner_of, joined_of, single_of}
use Rattle.resolver_bodies.specs.declared.bodies.Body.TheFolds.{fold-roll-Body, fold-roll-Single, fold-roll-Tables, fold_out-Body, fold_out-Single, fold_out-Tables}
use Rattle.resolver_bodies.specs.declared.bodies.Body.TheViews.{the_lemmas}
use Rattle.resolver_bodies.specs.declared.bodies.Single.{out-Single}
use Rattle.resolver_bodies.specs.declared.bodies.Tables.{out-Tables}
use Rattle.semantics.specs.Query as q
use Rattle.semantics_names.specs.Statement.{operator_of}
use Rattle.resolver_copies.proofs.lemmas.materialized_bodies.FlatLemmas.{queries_whole, whole}
use Rattle.resolver_copies.specs.materialized_bodies.FlatView.{queries_found}
use Rattle.semantics_rewrites.specs.materialized_queries.FlatWith.{queries_of}
use Rattle.resolver_copies.proofs.materialized_bodies.parts.+add_queries.Goals as goal

pub returns-in-Select : goal.returns-in-Select
returns-in-Select t c =
    let tables = out-Tables (out-Single c.in-Select.single).tables in
    let js = map joined_of tables.sources.items in
    let qs = map inner_of tables.inner.items in
    let is : body_of c.args.body.now ≡ q.Body.select (whole js qs) (single_of c.in-Select.single).select =
    search (rules, the_lemmas, fold-roll-Body, fold_out-Body, fold-roll-Single, fold_out-Single, fold-roll-Tables, fold_out-Tables) in
    let same : map inner_of c.as_slice.result.now ≡ qs = search (rules, the_lemmas) in
    let are : map inner_of c.as_slice.result.now ≡ queries_of (body_of c.args.body.now) = same ∙ sym (ap queries_of is ∙ queries_whole js qs) in
    subst (λ added. OnOk c.add_inner.result (queries_found c.add_inner.new.found ≡ queries_found c.args.found.now ++ added)) are c.add_inner.ensures

pub returns-in_ok-add_queries-in-Compound : goal.returns-in_ok-add_queries-in-Compound
returns-in_ok-add_queries-in-Compound t c =
    let tables = out-Tables (out-Single c.in-Compound.single).tables in
    let js = map joined_of tables.sources.items in
    let qs = map inner_of tables.inner.items in
    let left = body_of c.in-Compound.left.value in
    let is : body_of c.args.body.now ≡ q.Body.compound left (operator_of c.in-Compound.field-1) (whole js qs) (single_of c.in-Compound.single).select =
    search (rules, the_lemmas, fold-roll-Body, fold_out-Body, fold-roll-Single, fold_out-Single, fold-roll-Tables, fold_out-Tables) in
    let same : map inner_of c.as_slice-in-Compound.result.now ≡ qs = search (rules, the_lemmas) in
    let first : queries_found c.add_queries.new.found ≡ queries_found c.args.found.now ++ queries_of left = search rules in
    let are : queries_found c.add_queries.new.found ++ map inner_of c.as_slice-in-Compound.result.now ≡ queries_found c.args.found.now ++ queries_of (body_of c.args.body.now) =
    ap (λ before. before ++ map inner_of c.as_slice-in-Compound.result.now) first
    ∙ append_assoc (queries_found c.args.found.now) (queries_of left) (map inner_of c.as_slice-in-Compound.result.now)
    ∙ ap (λ added. queries_found c.args.found.now ++ (queries_of left ++ added)) (same ∙ sym (queries_whole js qs))
    ∙ sym (ap (λ body. queries_found c.args.found.now ++ queries_of body) is) in
    subst (λ all. OnOk c.add_inner-in-Compound.result (queries_found c.add_inner-in-Compound.new.found ≡ all)) are c.add_inner-in-Compound.ensures
