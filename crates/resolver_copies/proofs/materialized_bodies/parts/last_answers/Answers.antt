use Rattle.std.proofs.Common.{◌≡◌, drop, length, map, rules, sym, ap, ◌∙◌}
use Rattle.std.proofs.lemmas.List.{drop-map, length-map}
use Rattle.resolver_bodies.specs.BodyView.{body_of}
use Rattle.resolver_bodies.specs.declared.bodies.Body.TheFolds.{fold-roll-Body, fold_out-Body}
use Rattle.resolver_bodies.specs.declared.bodies.Body.TheViews.{the_lemmas}
use Rattle.values.specs.Datum.{datum_of}
use Rattle.resolver_copies.specs.materialized_bodies.FlatView.{lists_of}
use Rattle.semantics_rewrites.specs.materialized_queries.FlatWith.{last_answers, queries_of}
use Rattle.resolver_copies.proofs.materialized_bodies.parts.last_answers.Goals as goal

pub returns-in_ok-before-in-Compound : goal.returns-in_ok-before-in-Compound
returns-in_ok-before-in-Compound c =
    let answers = lists_of c.args.answers.now in
    let left = body_of c.in-Compound.left.value in
    let asked : c.len.result ≡ length (queries_of left) = search (rules, length-map) in
    let is : last_answers answers (body_of c.args.body.now) ≡ drop (length (queries_of left)) answers = search (rules, the_lemmas, fold-roll-Body, fold_out-Body) in
    ap lists_of c.split_at.ensures.back ∙ sym (drop-map (λ values. map datum_of values.items) c.len.result c.args.answers.now)
    ∙ ap (λ n. drop n answers) asked ∙ sym is
