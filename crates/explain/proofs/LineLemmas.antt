-- A row's text in the pieces that it is written in.
use Rattle.std.proofs.Common.{◌≡◌, ◌<◌, ℕ, List, [], ◌∷◌, ◌++◌, length, get_or, take, map, ap, sym, subst, append-nil, Ok, Err}
use Rattle.std.specs.List.{flat_map, join_with_byte}
use Rattle.values.specs.Datum.{Datum}
use Rattle.values.specs.Literal.{literal}
use Rattle.values.specs.Sink.{SinkFacts, Writes}
use Rattle.values.specs.declared.fault.Fault.{Fault}
use Rattle.values.proofs.SinkLemmas.{Writes-cut_at}
use Rattle.explain.specs.Text.{after_comma}

module _ {V : Type 0} (datum : V → Datum) where
  joined : (first : List ℕ) (others : List V)
      → join_with_byte 44 (first ∷ map literal (map datum others)) ≡ first ++ flat_map (λ v. after_comma (datum v)) others
  joined first [] = sym (append-nil first)
  joined first (next ∷ others) = ap (λ t. first ++ (44 ∷ t)) (joined (literal (datum next)) others)

  pub literals-first : (first : V) (others : List V)
      → join_with_byte 44 (map literal (map datum (first ∷ others)))
      ≡ literal (datum first) ++ flat_map (λ v. after_comma (datum v)) others
  literals-first first others = joined (literal (datum first)) others

-- a failure in the i-th piece, which is that of this item, is one in the whole
pub Writes-cut_item : {X T : Type 0} (f : X → List ℕ) (items : List X) (i : ℕ) (item : X) (e : Fault) (a b c : SinkFacts)
    → i < length items → item ≡ get_or items i item → Writes {T = Unit {0}} (flat_map f (take i items)) (Ok (tt {0})) a b
    → Writes {T = Unit {0}} (f item) (Err e) b c → Writes {T = T} (flat_map f items) (Err e) a c
Writes-cut_item f items i item e a b c within is before failed =
    Writes-cut_at f items i item e a b c within before (subst (λ x. Writes {T = Unit {0}} (f x) (Err e) b c) is failed)
