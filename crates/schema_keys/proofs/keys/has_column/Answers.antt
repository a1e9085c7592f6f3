use Rattle.std.proofs.Common.{IsTrue, ◌↔◌, map, string_bytes, subst}
use Rattle.std.specs.List.{Any}
use Rattle.schema_keys.specs.Names.{IsSameName}
use Rattle.schema_keys.proofs.ServedLemmas.{any_told}
use Rattle.schema_keys.proofs.keys.has_column.Goals as goal

pub returns-then-key : goal.returns-then-key
returns-then-key c =
    let name = c.args.name.now in
    let told = any_told (λ n. IsSameName n name) (λ n. string_bytes n) c.as_slice.result.now c.contains.result c.contains.ensures in
    let names = subst (λ ns. IsTrue c.contains.result ↔ Any (λ n. IsSameName n name) (map (λ n. string_bytes n) ns)) c.as_slice.ensures.value told in (
      (λ e. (c.if-key.true, names.0 e)),
      (λ has. names.1 has.1),
    )
