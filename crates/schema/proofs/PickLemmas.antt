-- What rows say, row by row.
use Rattle.std.proofs.Common.{◌≡◌, ℕ, zero, suc, ◌+◌, ◌<◌, ◌≤◌, ◌⊎◌, inl, inr, All, Contains, List, [], ◌∷◌, ◌++◌, length, get_or, take, refl, sym, ap, ◌∙◌, subst, arith}
use Rattle.std.proofs.lemmas.List.Elements.{All-cons, All-nil}
use Rattle.std.proofs.lemmas.List.{take_all, take_more}
use Rattle.values.specs.Row.{Row}
use Rattle.schema.specs.Picks.{Picks}

module _ {X : Type 0} (Says : Row → X → Type 0) (IsOther : Row → Type 0) where
  picks_push : {rows : List Row} {xs : List X} → Picks Says IsOther rows xs → (row : Row) (x : X) → Says row x
      → Picks Says IsOther (rows ++ row ∷ []) (xs ++ x ∷ [])
  picks_push Picks.end row x says = Picks.here says Picks.end
  picks_push (Picks.here s rest) row x says = Picks.here s (picks_push rest row x says)
  picks_push (Picks.other o rest) row x says = Picks.other o (picks_push rest row x says)

  picks_pass : {rows : List Row} {xs : List X} → Picks Says IsOther rows xs → (row : Row) → IsOther row
      → Picks Says IsOther (rows ++ row ∷ []) xs
  picks_pass Picks.end row is = Picks.other is Picks.end
  picks_pass (Picks.here s rest) row is = Picks.here s (picks_pass rest row is)
  picks_pass (Picks.other o rest) row is = Picks.other o (picks_pass rest row is)

  -- the first rows, and one row more
  module _ (rows : List Row) (i : ℕ) (row : Row) (within : i < length rows) (is : row ≡ get_or rows i row) where
    next : take (i + 1) rows ≡ take i rows ++ row ∷ []
    next = take_more rows i row within ∙ ap (λ r. take i rows ++ r ∷ []) (sym is)

    pub said_more : (xs more : List X) (x : X) → more ≡ xs ++ x ∷ [] → Says row x → Picks Says IsOther (take i rows) xs
        → Picks Says IsOther (take (i + 1) rows) more
    said_more xs more x e says far =
        subst (Picks Says IsOther (take (i + 1) rows)) (sym e)
        (subst (λ rs. Picks Says IsOther rs (xs ++ x ∷ [])) (sym next) (picks_push far row x says))

    pub other_more : (xs more : List X) → more ≡ xs → IsOther row → Picks Says IsOther (take i rows) xs
        → Picks Says IsOther (take (i + 1) rows) more
    other_more xs more e other far =
        subst (Picks Says IsOther (take (i + 1) rows)) (sym e)
        (subst (λ rs. Picks Says IsOther rs xs) (sym next) (picks_pass far row other))

  pub picked : (rows : List Row) (count : ℕ) (xs : List X) → length rows ≤ count → Picks Says IsOther (take count rows) xs
      → Picks Says IsOther rows xs
  picked rows count xs all = subst (λ rs. Picks Says IsOther rs xs) (take_all count rows all)

  -- what one of the rows says
  pub picks_has : {rows : List Row} {xs : List X} → Picks Says IsOther rows xs → (row : Row) → Contains rows row
      → ((x : X) × Contains xs x × Says row x) ⊎ IsOther row
  picks_has Picks.end row (k, within, at) = absurd (omega (arith, within))
  picks_has (Picks.here {x = x} s rest) row (zero, within, at) = inl (x, (0, omega arith, refl), subst (λ r. Says r x) at s)
  picks_has (Picks.here {x = x} {xs = xs} s rest) row (suc k, within, at) = go (picks_has rest row (k, omega (arith, within), at))
    where
      go : ((y : X) × Contains xs y × Says row y) ⊎ IsOther row → ((y : X) × Contains (x ∷ xs) y × Says row y) ⊎ IsOther row
      go (inl (y, (j, less, e), says)) = inl (y, (suc j, omega (arith, less), e), says)
      go (inr other) = inr other
  picks_has (Picks.other o rest) row (zero, within, at) = inr (subst IsOther at o)
  picks_has (Picks.other o rest) row (suc k, within, at) = picks_has rest row (k, omega (arith, within), at)

  -- which row says one of the things
  pub picks_from : {rows : List Row} {xs : List X} → Picks Says IsOther rows xs → (x : X) → Contains xs x
      → (row : Row) × Contains rows row × Says row x
  picks_from Picks.end x (k, within, at) = absurd (omega (arith, within))
  picks_from (Picks.here {row = row} s rest) x (zero, within, at) = (row, (0, omega arith, refl), subst (Says row) at s)
  picks_from (Picks.here s rest) x (suc k, within, at) =
      let found = picks_from rest x (k, omega (arith, within), at) in
      let there = found.1 in
      let less = there.1 in
      (found.0, (suc there.0, omega (arith, less), there.2), found.2)
  picks_from (Picks.other o rest) x at =
      let found = picks_from rest x at in
      let there = found.1 in
      let less = there.1 in
      (found.0, (suc there.0, omega (arith, less), there.2), found.2)

  pub picks_all : (P : X → Type 0) → ((row : Row) (x : X) → Says row x → P x) → {rows : List Row} {xs : List X}
      → Picks Says IsOther rows xs → All P xs
  picks_all P each Picks.end = All-nil P
  picks_all P each (Picks.here {row = row} {x = x} {xs = xs} s rest) = All-cons P x xs (each row x s) (picks_all P each rest)
  picks_all P each (Picks.other o rest) = picks_all P each rest
