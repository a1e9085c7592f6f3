use Rattle.std.proofs.Common.{◌≡◌, ◌+◌, drop, length, map, take, rules, sym, ap, ◌∙◌}
use Rattle.std.proofs.lemmas.List.{drop-map, length-map, take-map}
use Rattle.resolver_bodies.specs.BodyView.{body_of, single_of}
use Rattle.resolver_bodies.specs.declared.bodies.Body.TheFolds.{fold-roll-Body, fold_out-Body}
use Rattle.resolver_bodies.specs.declared.bodies.Body.TheViews.{the_lemmas}
use Rattle.semantics.specs.Query as q
use Rattle.semantics_names.specs.Statement.{operator_of}
use Rattle.values.specs.Datum.{datum_of}
use Rattle.resolver_copies.proofs.lemmas.materialized_bodies.FlatLemmas.{compound_flat}
use Rattle.resolver_copies.specs.materialized_bodies.FlatView.{lists_of}
use Rattle.semantics_rewrites.specs.materialized_queries.Flat.{kept_of}
use Rattle.semantics_rewrites.specs.materialized_queries.FlatWith.{materialized_body_with, queries_of}
use Rattle.resolver_copies.proofs.materialized_bodies.copies.+materialized_body.Goals as goal

pub returns-in_ok-new-in-Compound : goal.returns-in_ok-new-in-Compound
returns-in_ok-new-in-Compound t c =
    let answers = lists_of c.args.answers.now in
    let left = body_of c.in-Compound.left.value in
    let single = single_of c.in-Compound.single in
    let operator = operator_of c.in-Compound.operator in
    let new = single_of c.in_ok-single-in-Compound.single in
    let asked : c.len.result ≡ length (queries_of left) = search (rules, length-map) in
    let kept : c.len-in-Compound.result ≡ length (kept_of left) = search (rules, length-map) in
    let front : lists_of c.split_at.result.0.now ≡ take (length (queries_of left)) answers =
    ap lists_of c.split_at.ensures.front ∙ sym (take-map (λ values. map datum_of values.items) c.len.result c.args.answers.now) ∙ ap (λ n. take n answers) asked in
    let back : lists_of c.split_at.result.1.now ≡ drop (length (queries_of left)) answers =
    ap lists_of c.split_at.ensures.back ∙ sym (drop-map (λ values. map datum_of values.items) c.len.result c.args.answers.now) ∙ ap (λ n. drop n answers) asked in
    let made : q.Body.compound (body_of c.in_ok-left-in-Compound.left) operator new.from new.select ≡ materialized_body_with answers c.args.place (q.Body.compound left operator single.from single.select) =
    compound_flat answers (lists_of c.split_at.result.0.now) (lists_of c.split_at.result.1.now) c.args.place (c.args.place + c.len-in-Compound.result) left
    (body_of c.in_ok-left-in-Compound.left) operator single new front back (ap (λ n. c.args.place + n) kept)
    (search rules) (search rules) in
    let is : body_of c.args.body.now ≡ q.Body.compound left operator single.from single.select = search (rules, the_lemmas, fold-roll-Body, fold_out-Body) in
    let whole = made ∙ sym (ap (materialized_body_with answers c.args.place) is) in
    rw (← whole) (search (rules, the_lemmas, fold-roll-Body, fold_out-Body))
