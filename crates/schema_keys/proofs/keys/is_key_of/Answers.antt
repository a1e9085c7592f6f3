use Rattle.std.proofs.Common.{IsTrue, ◌↔◌, [], ◌∷◌, map, string_bytes, subst}
use Rattle.std.specs.List.{AllZip}
use Rattle.schema_keys.specs.Names.{IsSameName}
use Rattle.schema_keys.proofs.keys.is_key_of.Goals as goal

pub returns-then-key : goal.returns-then-key
returns-then-key c =
    let name = c.args.name.now in
    let names = subst (λ ns. IsTrue c.are_one.result ↔ AllZip IsSameName (map (λ n. string_bytes n) ns) (name ∷ [])) c.as_slice.ensures.value
    c.are_one.ensures in (
      (λ e. (c.if-key.true, names.0 e)),
      (λ is. names.1 is.1),
    )
