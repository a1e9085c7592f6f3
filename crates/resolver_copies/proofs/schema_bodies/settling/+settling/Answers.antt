use Rattle.std.proofs.Common.{rules, arith, ◌≡◌, map, ◌∙◌, ap, sym}
use Rattle.resolver_bodies.specs.BodyView.{body_of, inner_of, joined_of, single_of, source_of, tables_of}
use Rattle.resolver_bodies.specs.declared.bodies.Body.TheFolds.{fold-roll-Body, fold-roll-Tables, fold_out-Body, fold_out-Tables, fold-roll-InnerQuery, fold_out-InnerQuery, fold-roll-Source, fold_out-Source, fold-roll-Single, fold_out-Single}
use Rattle.resolver_bodies.specs.declared.bodies.Body.TheViews.{the_lemmas}
use Rattle.resolver_bodies.specs.declared.bodies.Single.{out-Single}
use Rattle.resolver_bodies.specs.declared.bodies.Tables.{out-Tables}
use Rattle.semantics.specs.Query as q
use Rattle.semantics_names.specs.Statement.{operator_of}
use Rattle.resolver_copies.proofs.lemmas.schema_bodies.SettleLemmas.{all_settled, compound_settled, tables_settled, whole}
use Rattle.resolver_copies.specs.schema_bodies.SettledView.{with_schema_joined}
use Rattle.semantics_rewrites.specs.schema_sources.Settled.{with_schema_body, with_schema_from, with_schema_inner, with_schema_source}
use Rattle.resolver_copies.proofs.schema_bodies.settling.+settling.Goals as goal

pub settle_query-returns-in-Values : goal.settle_query-returns-in-Values
settle_query-returns-in-Values t c =
    let is : inner_of c.args.query.now ≡ q.InnerQuery.values_of (body_of c.in-Values.body.value) = search (rules, the_lemmas, fold-roll-InnerQuery, fold_out-InnerQuery) in
    let made : q.InnerQuery.values_of (body_of c.settle_body.new.body) ≡ with_schema_inner c.args.place (inner_of c.args.query.now) =
    ap q.InnerQuery.values_of (rw c.deref_mut.ensures.value at c.settle_body.ensures) ∙ sym (ap (with_schema_inner c.args.place) is) in
    rw (← made) (search (rules, the_lemmas, fold-roll-InnerQuery, fold_out-InnerQuery))

pub settle_query-returns-in-Exists : goal.settle_query-returns-in-Exists
settle_query-returns-in-Exists t c =
    let is : inner_of c.args.query.now ≡ q.InnerQuery.exists (body_of c.in-Exists.body.value) = search (rules, the_lemmas, fold-roll-InnerQuery, fold_out-InnerQuery) in
    let made : q.InnerQuery.exists (body_of c.settle_body-in-Exists.new.body) ≡ with_schema_inner c.args.place (inner_of c.args.query.now) =
    ap q.InnerQuery.exists (rw c.deref_mut-in-Exists.ensures.value at c.settle_body-in-Exists.ensures) ∙ sym (ap (with_schema_inner c.args.place) is) in
    rw (← made) (search (rules, the_lemmas, fold-roll-InnerQuery, fold_out-InnerQuery))

pub settle_source-returns-in-Derived : goal.settle_source-returns-in-Derived
settle_source-returns-in-Derived t c =
    let is : source_of c.args.source.now ≡ q.Source.derived (body_of c.in-Derived.body.value) = search (rules, the_lemmas, fold-roll-Source, fold_out-Source) in
    let made : q.Source.derived (body_of c.settle_body.new.body) ≡ with_schema_source c.args.place (source_of c.args.source.now) =
    ap q.Source.derived (rw c.deref_mut.ensures.value at c.settle_body.ensures) ∙ sym (ap (with_schema_source c.args.place) is) in
    rw (← made) (search (rules, the_lemmas, fold-roll-Source, fold_out-Source))

pub settle_tables-returns : goal.settle_tables-returns
settle_tables-returns t c =
    let js = map joined_of (out-Tables c.args.tables.now).sources.items in
    let qs = map inner_of (out-Tables c.args.tables.now).inner.items in
    let is : tables_of c.args.tables.now ≡ whole c.args.place js qs = search (rules, the_lemmas, fold-roll-Tables, fold_out-Tables) in
    let inner : map inner_of c.settle_inner.new.queries.items ≡ map (with_schema_inner c.args.place) qs = search (rules, the_lemmas) in
    let made : whole c.args.place (map joined_of c.settle_sources.new.sources.items) (map inner_of c.settle_inner.new.queries.items) ≡ with_schema_from c.args.place (tables_of c.args.tables.now) =
    tables_settled c.args.place js (map joined_of c.settle_sources.new.sources.items) qs (map inner_of c.settle_inner.new.queries.items) c.settle_sources.ensures inner
    ∙ sym (ap (with_schema_from c.args.place) is) in
    rw (← made) (search (rules, the_lemmas, fold-roll-Tables, fold_out-Tables))

pub settle_body-returns-in-Compound : goal.settle_body-returns-in-Compound
settle_body-returns-in-Compound t c =
    let single = single_of c.in-Compound.single in
    let operator = operator_of c.in-Compound.field-1 in
    let new = single_of c.settle_single-in-Compound.new.single in
    let is : body_of c.args.body.now ≡ q.Body.compound (body_of c.in-Compound.left.value) operator single.from single.select =
    search (rules, the_lemmas, fold-roll-Body, fold_out-Body) in
    let left : body_of c.settle_body.new.body ≡ with_schema_body c.args.place (body_of c.in-Compound.left.value) = rw c.deref_mut.ensures.value at c.settle_body.ensures in
    let made : q.Body.compound (body_of c.settle_body.new.body) operator new.from new.select ≡ with_schema_body c.args.place (body_of c.args.body.now) =
    compound_settled c.args.place (body_of c.in-Compound.left.value) (body_of c.settle_body.new.body) operator single new left c.settle_single-in-Compound.ensures
    ∙ sym (ap (with_schema_body c.args.place) is) in
    rw (← made) (search (rules, the_lemmas, fold-roll-Body, fold_out-Body))

pub settle_sources-returns : goal.settle_sources-returns
settle_sources-returns t c =
    all_settled joined_of (with_schema_joined c.args.place) c.loop-at.sources.items c.args.sources.now.items c.loop-at.invariant.0.0
    (λ k d less. let past = c.loop-at-test.false in let long = c.len-at-end.ensures in c.loop-at.invariant.1 k d (omega (arith, past, long, less)))

pub settle_inner-returns : goal.settle_inner-returns
settle_inner-returns t c =
    all_settled inner_of (with_schema_inner c.args.place) c.loop-at.queries.items c.args.queries.now.items c.loop-at.invariant.0.0
    (λ k d less. let past = c.loop-at-test.false in let long = c.len-at-end.ensures in c.loop-at.invariant.1 k d (omega (arith, past, long, less)))
