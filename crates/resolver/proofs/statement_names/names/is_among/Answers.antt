use Rattle.std.proofs.Common.{◌≡◌, true, false, map, rules, string_bytes, sym}
use Rattle.std.specs.Str.{str_eq_ignore_ascii_case}
use Rattle.semantics_names.specs.Statement as spec
use Rattle.resolver.proofs.lemmas.statement_names.NameLemmas.{is_found, is_passed}
use Rattle.resolver.proofs.statement_names.names.is_among.Goals as goal

pub returns-then-eq_ignore_ascii_case : goal.returns-then-eq_ignore_ascii_case
returns-then-eq_ignore_ascii_case c =
    let told : str_eq_ignore_ascii_case (string_bytes c.other-item.result) c.args.name.now ≡ true = search rules in
    sym (is_found (λ n. string_bytes n) c.args.name.now c.args.names.now c.loop-other.other-index c.other-item.result
    (spec.is_among c.args.name.now (map (λ n. string_bytes n) c.args.names.now)) c.loop-other-test.true c.other-item.is c.loop-other.invariant told)

pub loop-other-preserved : goal.loop-other-preserved
loop-other-preserved c =
    let told : str_eq_ignore_ascii_case (string_bytes c.other-item.result) c.args.name.now ≡ false = search rules in
    is_passed (λ n. string_bytes n) c.args.name.now c.args.names.now c.loop-other.other-index c.other-item.result
    (spec.is_among c.args.name.now (map (λ n. string_bytes n) c.args.names.now)) c.loop-other-test.true c.other-item.is c.loop-other.invariant told
