-- Rows are compared as their values are.
use Rattle.std.proofs.Common.{◌≡◌, List, map, rules, ap, ◌∙◌, sym}
use Rattle.std.specs.Cmp.Lexicographic.{slice_cmp, lists_ties}
use Rattle.std.specs.Cmp.Derive.Mapped.{lex_map}
use Rattle.std.specs.Ordering.{eq_by_cmp, is_eq}
use lib.Pointwise.{pointwise}
use Rattle.values.specs.Datum.{datum_of}
use Rattle.values.specs.Order.{datum_cmp, row_cmp}
use Rattle.values.specs.declared.value.Value.{Value}
use Rattle.values.specs.declared.value.Value.TheVariants.{Null, Int, Text, Blob}
use Rattle.values.specs.contracts.value.ValuePartialEq.TheImpl.{eq-value}
use Rattle.values.specs.contracts.value.ValueHash.TheImpl.{hash_input-value}
use Rattle.std.specs.Hash.{slice}
use Rattle.std.specs.Cmp.Derive.Mapped.{items_map}
use Rattle.values.specs.Hashed.{datum_hash, row_hash}
use Rattle.values.specs.contracts.value.ValueOrd.TheImpl.{cmp-value}
use Rattle.values.specs.contracts.value.ValueOrd.TheImpl.Laws.{matches_eq-law}

value_cmp : (x y : Value) → cmp-value.it x y ≡ datum_cmp (datum_of x) (datum_of y)
value_cmp Null Null = search rules
value_cmp Null (Int n) = search rules
value_cmp Null (Text t) = search rules
value_cmp Null (Blob b) = search rules
value_cmp (Int m) Null = search rules
value_cmp (Int m) (Int n) = search rules
value_cmp (Int m) (Text t) = search rules
value_cmp (Int m) (Blob b) = search rules
value_cmp (Text s) Null = search rules
value_cmp (Text s) (Int n) = search rules
value_cmp (Text s) (Text t) = search rules
value_cmp (Text s) (Blob b) = search rules
value_cmp (Blob a) Null = search rules
value_cmp (Blob a) (Int n) = search rules
value_cmp (Blob a) (Text t) = search rules
value_cmp (Blob a) (Blob b) = search rules

pub slice_cmp-rows : (xs ys : List Value) → slice_cmp cmp-value.it xs ys ≡ row_cmp (map datum_of xs) (map datum_of ys)
slice_cmp-rows xs ys = (λ i. slice_cmp (λ a b. value_cmp a b i) xs ys) ∙ sym (lex_map datum_of datum_cmp xs ys)

pub pointwise-rows : (xs ys : List Value) → pointwise eq-value.it xs ys ≡ eq_by_cmp row_cmp (map datum_of xs) (map datum_of ys)
pointwise-rows xs ys = lists_ties cmp-value.it matches_eq-law xs ys ∙ ap is_eq (slice_cmp-rows xs ys)

value_hash : (x : Value) → hash_input-value.it x ≡ datum_hash (datum_of x)
value_hash Null = search rules
value_hash (Int n) = search rules
value_hash (Text t) = search rules
value_hash (Blob b) = search rules

pub slice-rows : (xs : List Value) → slice hash_input-value.it xs ≡ row_hash (map datum_of xs)
slice-rows xs = (λ i. slice (λ x. value_hash x i) xs) ∙ sym (items_map datum_of datum_hash xs)
