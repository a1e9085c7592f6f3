use Rattle.std.proofs.Common.{◌≡◌, true, false, drop, map, rules, string_bytes}
use Rattle.std.specs.Str.{str_eq_ignore_ascii_case}
use Rattle.semantics_names.specs.Statement.{named_at}
use Rattle.resolver_exprs.proofs.lemmas.order_keys.NamedLemmas.{is_found, is_passed}
use Rattle.resolver_exprs.proofs.order_keys.lookup.next_named.Goals as goal

pub returns-then-eq_ignore_ascii_case-clause-next : goal.returns-then-eq_ignore_ascii_case-clause-next
returns-then-eq_ignore_ascii_case-clause-next c =
    let told : str_eq_ignore_ascii_case (string_bytes c.index-names-at.result) c.args.name.now ≡ true = search rules in
    is_found (λ n. string_bytes n) c.args.name.now c.args.names.now c.loop-at.at c.index-names-at.result
    (named_at c.args.name.now c.args.from (map (λ n. string_bytes n) (drop c.args.from c.args.names.now)))
    c.loop-at-test.true c.index-names-at.is c.loop-at.invariant told

pub loop-at-preserved : goal.loop-at-preserved
loop-at-preserved c =
    let told : str_eq_ignore_ascii_case (string_bytes c.index-names-at.result) c.args.name.now ≡ false = search rules in
    is_passed (λ n. string_bytes n) c.args.name.now c.args.names.now c.loop-at.at c.index-names-at.result
    (named_at c.args.name.now c.args.from (map (λ n. string_bytes n) (drop c.args.from c.args.names.now)))
    c.loop-at-test.true c.index-names-at.is c.loop-at.invariant told
