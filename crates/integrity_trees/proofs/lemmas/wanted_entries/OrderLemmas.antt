-- The order of an index: entries in it are different, and those with the same first values stand together.
use Rattle.std.proofs.Common.{◌≡◌, ℕ, zero, suc, ◌<◌, ◌≤◌, Bool, true, false, IsTrue, List, [], ◌∷◌, Some, slice_get, take, refl, sym, ap, ◌∙◌, subst, ⊎_elim, arith}
use Rattle.std.proofs.lemmas.Bool.{cases_lt}
use Rattle.std.proofs.lemmas.Cmp.{tied_itself}
use Rattle.std.specs.Ordering.{is_lt, ordering_reverse, ordering_then}
use Rattle.std.specs.declared.cmp.Ordering.{Ordering}
use Rattle.std.specs.declared.cmp.Ordering.TheVariants.{Less, Equal, Greater}
use Rattle.values.specs.Datum.{Datum}
use Rattle.values.specs.Order.{datum_cmp}
use Rattle.values.specs.OrderLaws.{datum_cmp_total, datum_cmp-IsAntisymmetric}
use Rattle.values.specs.Row.{Row}
use Rattle.btree_cursor.specs.key_ranges.Ranges.{directed, key_cmp}
use Rattle.integrity_trees.specs.wanted_entries.Bags.{IsOnce}
use Rattle.integrity_trees.specs.wanted_entries.Unique.{Agree, AreTogether, StandInOrder}

is_less : (o : Ordering) → IsTrue (is_lt o) → o ≡ Less
is_less Less t = refl
is_less Equal t = absurd (let g : false ≡ true = t in cc)
is_less Greater t = absurd (let g : false ≡ true = t in cc)

-- of two values neither of which comes first, both rests do
then_step : (d : Bool) (o r s : Ordering) → ordering_then (directed d o) r ≡ Less → ordering_then (directed d (ordering_reverse o)) s ≡ Less
    → (o ≡ Equal) × (r ≡ Less) × (s ≡ Less)
then_step false Less r s e f = absurd (let g : Greater ≡ Less = f in cc)
then_step false Equal r s e f = (refl, e, f)
then_step false Greater r s e f = absurd (let g : Greater ≡ Less = e in cc)
then_step true Less r s e f = absurd (let g : Greater ≡ Less = e in cc)
then_step true Equal r s e f = (refl, e, f)
then_step true Greater r s e f = absurd (let g : Greater ≡ Less = f in cc)

-- a column with its direction, which ascends where none is told
abbrev first_of : List Bool → Bool
first_of [] = false
first_of (d ∷ descends) = d

abbrev rest_of : List Bool → List Bool
rest_of [] = []
rest_of (d ∷ descends) = descends

by_column : (descends : List Bool) (x y : Datum) (a b : Row)
    → key_cmp descends (x ∷ a) (y ∷ b) ≡ ordering_then (directed (first_of descends) (datum_cmp x y)) (key_cmp (rest_of descends) a b)
by_column [] x y a b = refl
by_column (d ∷ descends) x y a b = refl

no_rest : (descends : List Bool) (x : Datum) (a : Row) → key_cmp descends (x ∷ a) [] ≡ Greater
no_rest [] x a = refl
no_rest (d ∷ descends) x a = refl

-- what stands between two entries with the same first values has them too
between : (width : ℕ) (descends : List Bool) (a b c : Row) → key_cmp descends a b ≡ Less → key_cmp descends b c ≡ Less → Agree width a c → Agree width a b
between zero descends a b c p q agree = refl
between (suc w) descends [] b c p q agree = absurd (let g : Equal ≡ Less = p in cc)
between (suc w) descends (x ∷ a) [] c p q agree = absurd (let g : Greater ≡ Less = sym (no_rest descends x a) ∙ p in cc)
between (suc w) descends (x ∷ a) (y ∷ b) [] p q agree = absurd (let g : Greater ≡ Less = sym (no_rest descends y b) ∙ q in cc)
between (suc w) descends (x ∷ a) (y ∷ b) (z ∷ c) p q agree =
    let first : x ≡ z = let g : x ∷ take w a ≡ z ∷ take w c = agree in cc in
    let rest : take w a ≡ take w c = let g : x ∷ take w a ≡ z ∷ take w c = agree in cc in
    let back : ordering_then (directed (first_of descends) (ordering_reverse (datum_cmp x y))) (key_cmp (rest_of descends) b c) ≡ Less =
    subst (λ (o : Ordering). ordering_then (directed (first_of descends) o) (key_cmp (rest_of descends) b c) ≡ Less)
    (ap (λ (v : Datum). datum_cmp y v) (sym first) ∙ datum_cmp_total.antisymm y x) (sym (by_column descends y z b c) ∙ q) in
    let s = then_step (first_of descends) (datum_cmp x y) (key_cmp (rest_of descends) a b) (key_cmp (rest_of descends) b c) (sym (by_column descends x y a b) ∙ p) back in
    let e : x ≡ y = datum_cmp-IsAntisymmetric x y s.0 in
    let f : take w a ≡ take w b = between w (rest_of descends) a b c s.1 s.2 rest in
    (λ i. e i ∷ f i)

directed_equal : (d : Bool) → directed d Equal ≡ Equal
directed_equal false = refl
directed_equal true = refl

-- an entry is as itself
pub same_itself : (descends : List Bool) (a : Row) → key_cmp descends a a ≡ Equal
same_itself descends [] = refl
same_itself descends (x ∷ a) =
    by_column descends x x a a
    ∙ ap (λ (o : Ordering). ordering_then (directed (first_of descends) o) (key_cmp (rest_of descends) a a)) (tied_itself datum_cmp_total x)
    ∙ ap (λ (o : Ordering). ordering_then o (key_cmp (rest_of descends) a a)) (directed_equal (first_of descends))
    ∙ same_itself (rest_of descends) a

turned : (d : Bool) (o r s : Ordering) → ordering_then (directed d o) r ≡ Less → (r ≡ Less → s ≡ Greater)
    → ordering_then (directed d (ordering_reverse o)) s ≡ Greater
turned false Less r s e rest = refl
turned false Equal r s e rest = rest e
turned false Greater r s e rest = absurd (let g : Greater ≡ Less = e in cc)
turned true Less r s e rest = absurd (let g : Greater ≡ Less = e in cc)
turned true Equal r s e rest = rest e
turned true Greater r s e rest = refl

-- what comes before an entry is met by it from behind
pub reversed : (descends : List Bool) (a b : Row) → key_cmp descends a b ≡ Less → key_cmp descends b a ≡ Greater
reversed descends [] b less = absurd (let g : Equal ≡ Less = less in cc)
reversed descends (x ∷ a) [] less = absurd (let g : Greater ≡ Less = sym (no_rest descends x a) ∙ less in cc)
reversed descends (x ∷ a) (y ∷ b) less =
    by_column descends y x b a
    ∙ ap (λ (o : Ordering). ordering_then (directed (first_of descends) o) (key_cmp (rest_of descends) b a)) (datum_cmp_total.antisymm y x)
    ∙ turned (first_of descends) (datum_cmp x y) (key_cmp (rest_of descends) a b) (key_cmp (rest_of descends) b a)
    (sym (by_column descends x y a b) ∙ less) (reversed (rest_of descends) a b)

module _ (descends : List Bool) (entries : List Row) (stand : StandInOrder descends entries) where
  before : (i j : ℕ) (a b : Row) → i < j → slice_get entries i ≡ Some a → slice_get entries j ≡ Some b → key_cmp descends a b ≡ Less
  before i j a b less at_i at_j = is_less (key_cmp descends a b) (stand i j a b less at_i at_j)

  pub together : (width : ℕ) → AreTogether width entries
  together width i j k a b c less more at_i at_j at_k agree =
      between width descends a b c (before i j a b less at_i at_j) (before j k b c more at_j at_k) agree

  pub once : IsOnce entries
  once i j a at_i at_j = ⊎_elim
      (λ (less : i < j). absurd (let g : Less ≡ Equal = sym (before i j a a less at_i at_j) ∙ same_itself descends a in cc))
      (λ (least : j ≤ i). ⊎_elim
      (λ (less : j < i). absurd (let g : Less ≡ Equal = sym (before j i a a less at_j at_i) ∙ same_itself descends a in cc))
      (λ (most : i ≤ j). omega arith)
      (cases_lt j i))
      (cases_lt i j)
