-- Numbers of cross products and costs, compared.
use Rattle.std.proofs.Common.{◌≡◌, ◌<◌, ◌≤◌, ℕ, inl, inr, sym, arith, Bool, true, false, ◌&&◌, ◌||◌, refl}
use Rattle.std.specs.Prelude.{◌⊎◌, nat_eq, nat_lt}
use Rattle.std.proofs.lemmas.Bool.{ltb-true, ltb-false, eqb-true, eqb-false}
use Rattle.join_order.specs.Walk.{is_less}

-- fewer cross products, or as many and a lower cost
abbrev pub Less : ℕ → ℕ → ℕ → ℕ → Type 0
Less x c y d = (x < y) ⊎ ((x ≡ y) × (c < d))

-- fewer of them, or as many and no higher cost
abbrev pub Upto : ℕ → ℕ → ℕ → ℕ → Type 0
Upto x c y d = (x < y) ⊎ ((x ≡ y) × (c ≤ d))

-- less, or the same where a tie is decided
abbrev pub Taken : ℕ → ℕ → ℕ → ℕ → Type 0 → Type 0
Taken x c y d Tie = (x < y) ⊎ ((x ≡ y) × ((c < d) ⊎ ((c ≡ d) × Tie)))

pub less-where : (x c y d : ℕ) → is_less x c y d ≡ true → Less x c y d
less-where x c y d h = go (nat_lt x y) (nat_eq x y) refl refl h
  where
    go : (s t : Bool) → nat_lt x y ≡ s → nat_eq x y ≡ t → (s || (t && nat_lt c d)) ≡ true → Less x c y d
    go true t e f k = inl (ltb-true x y e)
    go false true e f k = inr (eqb-true x y f, ltb-true c d k)
    go false false e f k = cc

pub upto-where : (x c y d : ℕ) → is_less x c y d ≡ false → Upto y d x c
upto-where x c y d h = go (nat_lt x y) (nat_eq x y) refl refl h
  where
    go : (s t : Bool) → nat_lt x y ≡ s → nat_eq x y ≡ t → (s || (t && nat_lt c d)) ≡ false → Upto y d x c
    go true t e f k = cc
    go false true e f k = inr (sym (eqb-true x y f), ltb-false c d k)
    go false false e f k = apart (ltb-false x y e) (eqb-false x y f)
      where
        apart : y ≤ x → (x ≡ y → ⊥) → Upto y d x c
        apart below other = inl (grind arith)

pub not-less : (x c y d : ℕ) → Upto y d x c → is_less x c y d ≡ false
not-less x c y d h = go (nat_lt x y) (nat_eq x y) (nat_lt c d) refl refl refl h
  where
    go : (s t u : Bool) → nat_lt x y ≡ s → nat_eq x y ≡ t → nat_lt c d ≡ u → Upto y d x c → (s || (t && u)) ≡ false
    go true t u e f g (inl less) = absurd (omega (arith, ltb-true x y e, less))
    go true t u e f g (inr same) = absurd (omega (arith, ltb-true x y e, same.0))
    go false true true e f g (inl less) = absurd (omega (arith, eqb-true x y f, less))
    go false true true e f g (inr same) = absurd (omega (arith, ltb-true c d g, same.1))
    go false true false e f g k = refl
    go false false u e f g k = refl

module _ (Tie Other : Type 0) (x c y d z e : ℕ) where
  -- taken before what is less
  pub taken-less : Taken x c y d Tie → Less y d z e → Taken x c z e Other
  taken-less (inl few) (inl less) = inl (omega (arith, few, less))
  taken-less (inl few) (inr less) = inl (omega (arith, few, less.0))
  taken-less (inr same) (inl less) = inl (omega (arith, same.0, less))
  taken-less (inr (many, inl cheap)) (inr less) = inr (omega (arith, many, less.0), inl (omega (arith, cheap, less.1)))
  taken-less (inr (many, inr tie)) (inr less) = inr (omega (arith, many, less.0), inl (omega (arith, tie.0, less.1)))

  -- taken before what is no more
  pub taken-upto : Taken x c y d Tie → Upto y d z e → (Tie → Other) → Taken x c z e Other
  taken-upto (inl few) (inl less) ties = inl (omega (arith, few, less))
  taken-upto (inl few) (inr upto) ties = inl (omega (arith, few, upto.0))
  taken-upto (inr same) (inl less) ties = inl (omega (arith, same.0, less))
  taken-upto (inr (many, inl cheap)) (inr upto) ties = inr (omega (arith, many, upto.0), inl (omega (arith, cheap, upto.1)))
  taken-upto (inr (many, inr tie)) (inr upto) ties = inr (omega (arith, many, upto.0), by-cost (nat_lt d e) refl)
    where
      by-cost : (t : Bool) → nat_lt d e ≡ t → (c < e) ⊎ ((c ≡ e) × Other)
      by-cost true k = inl (omega (arith, ltb-true d e k, tie.0))
      by-cost false k = inr (omega (arith, ltb-false d e k, tie.0, upto.1), ties tie.1)

-- no more than what is no more in each
pub upto-both : (x c y d z e : ℕ) → Upto x c y d → y ≤ z → d ≤ e → Upto x c z e
upto-both x c y d z e (inl few) below cheap = inl (omega (arith, few, below))
upto-both x c y d z e (inr same) below cheap = by-few (nat_lt y z) refl
  where
    by-few : (t : Bool) → nat_lt y z ≡ t → Upto x c z e
    by-few true k = inl (omega (arith, ltb-true y z k, same.0))
    by-few false k = inr (omega (arith, ltb-false y z k, same.0, below), omega (arith, same.1, cheap))
