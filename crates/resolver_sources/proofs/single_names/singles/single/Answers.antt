use Rattle.std.proofs.Common.{◌≡◌, map, Ok, ap, subst, sym, ◌∙◌}
use Rattle.resolver_bodies.specs.BodyView.{body_of, inner_of}
use Rattle.sql_reader_grammar.specs.Reading.{terms_of}
use Rattle.resolver_sources.specs.inner_names.InnerNames.{inner_by}
use Rattle.resolver_sources.specs.inner_names.InnerView.{asked_of, inner_data}
use Rattle.semantics_names.specs.Outcome.{each}
use Rattle.semantics_names.specs.Parts.{inner_trees}
use Rattle.resolver_sources.proofs.lemmas.single_names.SingleLemmas.{inner_taken}
use Rattle.resolver_sources.specs.single_names.SingleView.{single_data}
use Rattle.resolver_terms.specs.Outcome.{Gives}
use Rattle.resolver_sources.specs.source_names.GivenView.{known_of}
use Rattle.sql_reader_grammar.specs.statement_trees.TreeView.{core_of, term_of}
use Rattle.resolver_sources.proofs.single_names.singles.single.Goals as goal

pub returns : goal.returns
returns g c =
    let meaning = g.Q.Queries.meaning c.args.queries.now in
    let trees : map asked_of c.as_slice.result.now ≡ inner_trees (core_of c.args.core.now) (terms_of (map term_of c.args.order.now)) =
    ap (map asked_of) c.as_slice.ensures.value ∙ c.in_ok-asked.ensures in
    let named : each (inner_by meaning) (inner_trees (core_of c.args.core.now) (terms_of (map term_of c.args.order.now)))
    ≡ Ok (map inner_data c.in_ok-inner.inner.items) =
    subst (λ ts. each (inner_by meaning) ts ≡ Ok (map inner_data c.in_ok-inner.inner.items)) trees c.in_ok-inner.ensures in
    subst (Gives single_data c.behind_inner.result) (sym (inner_taken (map known_of c.args.known.now) meaning
    (core_of c.args.core.now) (terms_of (map term_of c.args.order.now)) (map inner_data c.in_ok-inner.inner.items) (map inner_of c.in_ok-inner-2.inner.items)
    (map body_of c.in_ok-inner-2.written.items) named c.in_ok-inner-2.ensures.0 c.in_ok-inner-2.ensures.1)) c.behind_inner.ensures
