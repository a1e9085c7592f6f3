-- Names that differ.
use Rattle.std.proofs.Common.{◌≡◌, ℕ, ◌+◌, ◌<◌, ◌⊎◌, inl, inr, Bool, true, false, IsTrue, ◌↔◌, List, length, get_or, map, take, refl, sym, ◌∙◌, subst}
use Rattle.std.proofs.lemmas.Bool.{cases_order}
use Rattle.std.specs.List.{Any}
use Rattle.sql_reader_syntax.specs.Tree.{Name}
use Rattle.std.proofs.lemmas.Slice.Eq.{bytes_eq-Decides}
use Rattle.std.specs.Char.{to_ascii_lowercase}
use Rattle.schema_keys.specs.Names.{AreDistinct, IsNameAt, IsSameName, same_name}
use Rattle.schema_keys.proofs.ApartLemmas.{apart_next, apart_stops}

-- tests of one thing agree
pub same_test : (a b : Bool) (P : Type 0) → IsTrue a ↔ P → IsTrue b ↔ P → a ≡ b
same_test true true P p q = refl
same_test true false P p q = sym (q.1 (p.0 refl))
same_test false true P p q = p.1 (q.0 refl)
same_test false false P p q = refl

pub tested_name : (found : Bool) (a b : Name) → IsTrue found ↔ IsSameName a b → found ≡ same_name a b
tested_name found a b tested =
    same_test found (same_name a b) (IsSameName a b) tested (bytes_eq-Decides (map to_ascii_lowercase a) (map to_ascii_lowercase b))

-- a test found that names differ
pub differs : (found : Bool) (a given b : Name) → IsTrue found ↔ IsSameName a given → given ≡ b → found ≡ false → ¬ IsSameName a b
differs found a given b tested e other same =
    let h : found ≡ true = tested.1 (subst (λ n. IsSameName a n) (sym e) same) in cc

-- of things that have names, where it was tested whether one more has the name of one before it
module _ {X : Type 0} (name_of : X → Name) (xs : List X) (i : ℕ) (x : X) (name : Name) (found : Bool) (within : i < length xs)
    (is : x ≡ get_or xs i x) (named : name ≡ name_of x) (tested : IsTrue found ↔ Any (λ y. IsSameName (name_of y) name) (take i xs)) where
  pub distinct_next : found ≡ false → AreDistinct (map name_of (take i xs)) → AreDistinct (map name_of (take (i + 1) xs))
  distinct_next = apart_next IsSameName name_of xs i x name found within is named tested

  pub distinct_stops : found ≡ true → ¬ AreDistinct (map name_of xs)
  distinct_stops = apart_stops IsSameName name_of xs i x name found within is named tested

-- one place of a name
named_twice : (names : List Name) (name : Name) (i j : ℕ) → AreDistinct names → i < j → IsNameAt names name i → ¬ IsNameAt names name j
named_twice names name i j distinct less p q = distinct i j p.other q.other less p.stands q.stands (p.named ∙ sym q.named)

pub one_place : (names : List Name) → AreDistinct names → (name : Name) (i j : ℕ) → IsNameAt names name i → IsNameAt names name j → i ≡ j
one_place names distinct name i j p q = go (cases_order i j)
  where
    go : (i ≡ j) ⊎ ((i < j) ⊎ (j < i)) → i ≡ j
    go (inl e) = e
    go (inr (inl less)) = absurd (named_twice names name i j distinct less p q)
    go (inr (inr less)) = absurd (named_twice names name j i distinct less q p)
