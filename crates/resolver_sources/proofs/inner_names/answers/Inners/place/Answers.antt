use Rattle.std.proofs.Common.{rules, ◌≡◌, ◌<◌, Ok, Result, map, ap, subst}
use Rattle.std.proofs.lemmas.List.{length-map}
use Rattle.values.specs.declared.fault.Fault.{Fault}
use Rattle.expr.specs.Term.{Terms}
use Rattle.resolver_bodies.specs.BodyView.{inner_of}
use Rattle.resolver_sources.specs.inner_names.InnerNames.{answers_by, inner_by}
use Rattle.resolver_sources.specs.inner_names.InnerView.{asked_of}
use Rattle.semantics_names.specs.Outcome.{also}
use Rattle.semantics_names.specs.Places.{place_of}
use Rattle.semantics_names.specs.Same.{is_same_inner}
use Rattle.semantics_names.specs.Statement.{Inner, answer_at}
use Rattle.resolver_sources.proofs.lemmas.inner_names.NamedLemmas.{is_within, named_at}
use Rattle.resolver_sources.proofs.inner_names.answers.Inners.place.Goals as goal

pub place_of_same-requires : goal.place_of_same-requires
place_of_same-requires g c =
    let inner = map inner_of c.self.inside.inner.now in
    let found = named_at (inner_by (g.Q.Queries.meaning c.self.inside.queries.now)) (map asked_of c.self.inside.asked.now) inner c.in-Some.at
    (asked_of c.args.asked) c.self.invariant.1 (search rules) in
    subst (λ n. c.in-Some.at < n) (length-map c.self.inside.inner.now inner_of) (is_within inner c.in-Some.at found.one.query found.stands)

pub returns-in-Some : goal.returns-in-Some
returns-in-Some g c =
    let inner = map inner_of c.self.inside.inner.now in
    let found = named_at (inner_by (g.Q.Queries.meaning c.self.inside.queries.now)) (map asked_of c.self.inside.asked.now) inner c.in-Some.at
    (asked_of c.args.asked) c.self.invariant.1 (search rules) in
    let place = c.place_of_same.ensures found.one.query found.stands in
    let said : answers_by (g.Q.Queries.meaning c.self.inside.queries.now) inner (asked_of c.args.asked) ≡ Ok (answer_at (place_of is_same_inner found.one.query inner)) =
    ap {A = Result Inner Fault} {B = Result Terms Fault} (also (λ (i : Inner). answer_at (place_of is_same_inner i.query inner))) found.is_said in
    search rules
