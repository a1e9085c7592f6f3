use Rattle.std.proofs.Common.{◌≡◌, true, false, map, option_map, rules, string_bytes, subst, ap, sym, ◌∙◌}
use Rattle.std.specs.Str.{str_eq_ignore_ascii_case}
use Rattle.semantics_names.specs.Outcome.{followed}
use Rattle.semantics_names.specs.Sources.{known_as}
use Rattle.semantics_names.specs.Statement.{alias_or, given_known}
use Rattle.resolver_terms.specs.Outcome.{Gives}
use Rattle.resolver_sources.proofs.lemmas.source_names.KnownLemmas.{is_found, is_passed}
use Rattle.resolver_sources.specs.source_names.GivenView.{given_of, known_of}
use Rattle.resolver_sources.proofs.source_names.given.named.Goals as goal

pub returns-then-eq_ignore_ascii_case : goal.returns-then-eq_ignore_ascii_case
returns-then-eq_ignore_ascii_case c =
    let called = alias_or c.args.name.now (option_map (λ a. string_bytes a) c.args.alias.now) in
    let told : str_eq_ignore_ascii_case (string_bytes c.one-item.result.name) c.args.name.now ≡ true = search rules in
    let found = is_found known_of c.args.name.now c.args.known.now c.loop-one.one-index c.one-item.result
    (known_as (map known_of c.args.known.now) c.args.name.now) c.loop-one-test.true c.one-item.is c.loop-one.invariant told in
    subst (Gives given_of c.mention.result)
    (sym (ap (λ r. followed r (given_known called)) found ∙ ap (λ name. given_known name (known_of c.one-item.result)) (sym c.in_ok-called.ensures)))
    c.mention.ensures

pub loop-one-preserved : goal.loop-one-preserved
loop-one-preserved c =
    let told : str_eq_ignore_ascii_case (string_bytes c.one-item.result.name) c.args.name.now ≡ false = search rules in
    is_passed known_of c.args.name.now c.args.known.now c.loop-one.one-index c.one-item.result
    (known_as (map known_of c.args.known.now) c.args.name.now) c.loop-one-test.true c.one-item.is c.loop-one.invariant told
