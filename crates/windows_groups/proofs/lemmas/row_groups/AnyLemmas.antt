-- Elements of longer lists.
use Rattle.std.proofs.Common.{◌∙◌, Any, List, ◌++◌, map, ap, arith}
use Rattle.std.proofs.Math.ListN.{get_or-map}
use Rattle.std.proofs.lemmas.List.{length-map}
use Rattle.std.proofs.lemmas.List.Elements.{Contains-append_left, Contains-append_right}

pub any_left : {X : Type 0} (P : X → Type 0) (xs ys : List X) → Any P xs → Any P (xs ++ ys)
any_left P xs ys some = let held = Contains-append_left xs ys some.1 (some.0, some.2, some.3) in (held.0, some.1, held.1, held.2, some.4)

pub any_right : {X : Type 0} (P : X → Type 0) (xs ys : List X) → Any P ys → Any P (xs ++ ys)
any_right P xs ys some = let held = Contains-append_right xs ys some.1 (some.0, some.2, some.3) in (held.0, some.1, held.1, held.2, some.4)

pub any_mapped : {X Y : Type 0} (P : Y → Type 0) (f : X → Y) (xs : List X) → Any (λ x. P (f x)) xs → Any P (map f xs)
any_mapped P f xs some =
    let within = some.2 in (some.0, f some.1, omega (arith, within, length-map xs f), get_or-map f xs some.0 some.1 ∙ ap f some.3, some.4)
