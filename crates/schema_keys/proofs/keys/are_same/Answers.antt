use Rattle.std.proofs.Common.{◌≡◌, ◌<◌, length, rules, string_bytes, true}
use Rattle.schema_keys.specs.Names.{IsSameName}
use Rattle.schema_keys.proofs.KeyLemmas.{told_same, zip_next, zip_stops}
use Rattle.schema_keys.proofs.keys.are_same.Goals as goal

pub returns-then-not-is_same_name : goal.returns-then-not-is_same_name
returns-then-not-is_same_name c =
    let x = c.index-first-place.result in
    let y = c.index-second-place.result in
    let within : c.loop-place.place < length c.args.first.now = search rules in
    let inside : c.loop-place.place < length c.args.second.now = search rules in
    let told = told_same c.is_same_name.result c.as_str.result.now c.as_str-in-loop-place.result.now (string_bytes x) (string_bytes y)
    c.is_same_name.ensures c.as_str.ensures.value c.as_str-in-loop-place.ensures.value in (
      (λ e. absurd cc),
      (λ all. absurd (zip_stops IsSameName (λ n. string_bytes n) c.args.first.now c.args.second.now c.loop-place.place x y within inside
          c.index-first-place.is c.index-second-place.is
          (λ same. let h : c.is_same_name.result ≡ true = told.1 same in let none = c.if-not-is_same_name.true in absurd cc) all)),
    )

pub loop-place-preserved : goal.loop-place-preserved
loop-place-preserved c =
    let x = c.index-first-place.result in
    let y = c.index-second-place.result in
    let within : c.loop-place.place < length c.args.first.now = search rules in
    let inside : c.loop-place.place < length c.args.second.now = search rules in
    let told = told_same c.is_same_name.result c.as_str.result.now c.as_str-in-loop-place.result.now (string_bytes x) (string_bytes y)
    c.is_same_name.ensures c.as_str.ensures.value c.as_str-in-loop-place.ensures.value in
    zip_next IsSameName (λ n. string_bytes n) c.args.first.now c.args.second.now c.loop-place.place x y within inside
    c.index-first-place.is c.index-second-place.is (told.0 c.if-not-is_same_name.false) c.loop-place.invariant
