-- Searches by rowids.
use Rattle.std.proofs.Common.{◌≡◌, ℤ, ◌<ℤ◌, ◌≤ℤ◌, Bool, true, false, refl, arith}
use Rattle.std.proofs.lemmas.Int.{ints}
use Rattle.std.specs.Ordering.{int_cmp, MatchOrdering}
use Rattle.std.specs.declared.cmp.Ordering.{Ordering}
use Rattle.std.specs.declared.cmp.Ordering.TheVariants.{Less, Equal, Greater}
use Rattle.std.proofs.lemmas.Cmp.{int_ranked}
use Rattle.btree.specs.image.Search.{comes_before, row_before, IsCut}

-- a rowid that is no more than one before the key is before it too
before_most : (behind : Bool) (a b : Ordering) (x y key : ℤ) → x ≤ℤ y → MatchOrdering a (x <ℤ key) (x ≡ key) (key <ℤ x)
    → MatchOrdering b (y <ℤ key) (y ≡ key) (key <ℤ y) → comes_before behind b ≡ true → comes_before behind a ≡ true
before_most behind Less b x y key most p q is = refl
before_most behind Equal Less x y key most p q is = absurd (omega (arith, ints, p, q, most))
before_most behind Equal Equal x y key most p q is = is
before_most behind Equal Greater x y key most p q is = absurd (let e : false ≡ true = is in cc)
before_most behind Greater Less x y key most p q is = absurd (omega (arith, ints, p, q, most))
before_most behind Greater Equal x y key most p q is = absurd (omega (arith, ints, p, q, most))
before_most behind Greater Greater x y key most p q is = is

pub row_cut : (behind : Bool) (key : ℤ) → IsCut (λ x y. x <ℤ y) (λ x y. x ≤ℤ y) (row_before behind key)
row_cut behind key = record {
  less = λ x y less is. before_most behind (int_cmp x key) (int_cmp y key) x y key (omega (arith, ints, less)) (int_ranked x key (int_cmp x key) refl) (int_ranked y key (int_cmp y key) refl) is;
  most = λ x y most is. before_most behind (int_cmp x key) (int_cmp y key) x y key most (int_ranked x key (int_cmp x key) refl) (int_ranked y key (int_cmp y key) refl) is;
}

not_less : (a : Ordering) (key : ℤ) → MatchOrdering a (key <ℤ key) (key ≡ key) (key <ℤ key) → comes_before false a ≡ false
not_less Less key p = absurd (omega (arith, ints, p))
not_less Equal key p = refl
not_less Greater key p = refl

-- a rowid doesn't come before itself
pub row_itself : (key : ℤ) → row_before false key key ≡ false
row_itself key = not_less (int_cmp key key) key (int_ranked key key (int_cmp key key) refl)

less_before : (behind : Bool) (a : Ordering) (x key : ℤ) → x <ℤ key → MatchOrdering a (x <ℤ key) (x ≡ key) (key <ℤ x) → comes_before behind a ≡ true
less_before behind Less x key less p = refl
less_before behind Equal x key less p = absurd (omega (arith, ints, p, less))
less_before behind Greater x key less p = absurd (omega (arith, ints, p, less))

-- a lesser one does
pub row_less : (behind : Bool) (key x : ℤ) → x <ℤ key → row_before behind key x ≡ true
row_less behind key x less = less_before behind (int_cmp x key) x key less (int_ranked x key (int_cmp x key) refl)
