use Rattle.std.proofs.Common.{◌≡◌, IsTrue, ◌↔◌, true, map, string_bytes, subst, ◌∙◌}
use Rattle.std.specs.List.{AllZip}
use Rattle.schema_keys.specs.declared_keys.KeyView.{key_data}
use Rattle.schema_keys.specs.Names.{IsSameName}
use Rattle.schema_keys.proofs.KeyLemmas.{no_two_primary}
use Rattle.schema_keys.proofs.keys.clash.Goals as goal
use Rattle.schema_keys.proofs.keys.clash.Goals.{else-first, then-first}

pub returns-else-second : goal.returns-else-second
returns-else-second c =
    let a = key_data c.args.first.now in
    let b = key_data c.args.second.now in
    no_two_primary a b c.are_same.result
    (λ both. elim c.if-first.branch [
      | then-first w ↦ let value : c.if-first.value ≡ true = w.value-is ∙ both.1 in let none = c.if-second.false in absurd cc
      | else-first w ↦ let none = w.if-first.false in let some = both.0 in absurd cc
    ])
    (subst (λ ns. IsTrue c.are_same.result ↔ AllZip IsSameName (map (λ n. string_bytes n) ns) b.columns) c.as_slice.ensures.value
    (subst (λ ns. IsTrue c.are_same.result ↔ AllZip IsSameName (map (λ n. string_bytes n) c.as_slice.result.now) (map (λ n. string_bytes n) ns))
    c.as_slice-else-second.ensures.value c.are_same.ensures))
