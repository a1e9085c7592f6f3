use Rattle.std.proofs.Common.{◌≡◌, map, ap, rules, sym, ◌∙◌}
use Rattle.resolver_bodies.specs.BodyView.{inner_of, joined_of, tables_of}
use Rattle.resolver_bodies.specs.declared.bodies.Body.TheFolds.{fold-roll-Tables, fold_out-Tables}
use Rattle.resolver_bodies.specs.declared.bodies.Body.TheViews.{the_lemmas}
use Rattle.resolver_bodies.specs.declared.bodies.Tables.{out-Tables}
use Rattle.resolver_bodies.proofs.lemmas.same_bodies.FromLemmas.{same_whole_queries, same_whole_sources, whole}
use Rattle.expr_types.proofs.lemmas.same_trees.SameLemmas.{list_end, list_step}
use Rattle.resolver_bodies.proofs.same_bodies.bodies.+sameness.Goals as goal

pub same_sources-returns : goal.same_sources-returns
same_sources-returns t c =
    list_end joined_of c.args.a.now c.args.b.now c.loop-x.rest.now c.loop-x.x-index _ (search rules) c.is_empty.ensures c.loop-x.invariant

pub same_sources-loop-x-preserved : goal.same_sources-loop-x-preserved
same_sources-loop-x-preserved t c =
    list_step joined_of c.args.a.now c.args.b.now c.loop-x.rest.now c.in-Some.later.now c.loop-x.x-index c.x-item.result c.in-Some.y.now
    c.loop-x-test.true c.x-item.is (search rules) (c.same_joined.ensures.0 c.if-same_joined.true) c.loop-x.invariant

pub same_queries-returns : goal.same_queries-returns
same_queries-returns t c =
    list_end inner_of c.args.a.now c.args.b.now c.loop-x.rest.now c.loop-x.x-index _ (search rules) c.is_empty.ensures c.loop-x.invariant

pub same_queries-loop-x-preserved : goal.same_queries-loop-x-preserved
same_queries-loop-x-preserved t c =
    list_step inner_of c.args.a.now c.args.b.now c.loop-x.rest.now c.in-Some.later.now c.loop-x.x-index c.x-item.result c.in-Some.y.now
    c.loop-x-test.true c.x-item.is (search rules) (c.same_query.ensures.0 c.if-same_query.true) c.loop-x.invariant

pub same_tables-returns-then-same_sources : goal.same_tables-returns-then-same_sources
same_tables-returns-then-same_sources t c =
    let js = map joined_of c.as_slice.result.now in
    let ks = map joined_of c.as_slice-2.result.now in
    let ps = map inner_of c.as_slice-then-same_sources.result.now in
    let qs = map inner_of c.as_slice-then-same_sources-2.result.now in
    let a : tables_of c.args.a.now ≡ whole js ps = search (rules, the_lemmas, fold-roll-Tables, fold_out-Tables) in
    let b : tables_of c.args.b.now ≡ whole ks qs = search (rules, the_lemmas, fold-roll-Tables, fold_out-Tables) in
    let sources : js ≡ ks = c.same_sources.ensures.0 c.if-same_sources.true in (
      (λ same. a ∙ ap (λ l. whole l ps) sources ∙ ap (whole ks) (c.same_queries.ensures.0 same) ∙ sym b),
      (λ e. c.same_queries.ensures.1 (same_whole_queries js ks ps qs (sym a ∙ e ∙ b))),
    )

pub same_tables-returns-else-same_sources : goal.same_tables-returns-else-same_sources
same_tables-returns-else-same_sources t c =
    let js = map joined_of c.as_slice.result.now in
    let ks = map joined_of c.as_slice-2.result.now in
    let ps = map inner_of (out-Tables c.args.a.now).inner.items in
    let qs = map inner_of (out-Tables c.args.b.now).inner.items in
    let a : tables_of c.args.a.now ≡ whole js ps = search (rules, the_lemmas, fold-roll-Tables, fold_out-Tables) in
    let b : tables_of c.args.b.now ≡ whole ks qs = search (rules, the_lemmas, fold-roll-Tables, fold_out-Tables) in (
      (λ same. absurd cc),
      (λ e. c.same_sources.ensures.1 (same_whole_sources js ks ps qs (sym a ∙ e ∙ b))),
    )
