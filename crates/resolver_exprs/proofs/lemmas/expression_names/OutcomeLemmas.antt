-- Outcomes of one part after another.
use Rattle.std.proofs.Common.{◌≡◌, ◌⊎◌, ◌<◌, ◌≤◌, ◌+◌, ℕ, List, [], ◌∷◌, ◌++◌, map, drop, length, get_or, Result, Ok, Err, refl, ap, sym, inl, inr, ◌∙◌, append_assoc}
use Rattle.std.proofs.lemmas.List.{append-nil, at_drop_all, at_drop_more, map-append}
use Rattle.values.specs.declared.fault.Fault.{Fault}
use Rattle.values.specs.declared.fault.Fault.TheVariants.{NoMemory}
use Rattle.semantics_names.specs.Outcome.{also, both}

-- nothing is done yet
pub begun : {T : Type 0} (all : Result (List T) Fault) → all ≡ also (λ rest. [] ++ rest) all
begun (Ok rest) = refl
begun (Err fault) = refl

-- `F` is of each, by `one`; and of some, `done`, it is known already
module _ {X A T : Type 0} (view : A → T) (one : X → Result T Fault) (F : List X → Result (List T) Fault)
    (none : F [] ≡ Ok []) (some : (x : X) (xs : List X) → F (x ∷ xs) ≡ both ◌∷◌ (one x) (F xs)) where
  after : (done : List T) (t : T) (r : Result (List T) Fault) → also (λ rest. done ++ rest) (also (λ rest. t ∷ rest) r) ≡ also (λ rest. (done ++ t ∷ []) ++ rest) r
  after done t (Ok rest) = ap Ok (sym (append_assoc done (t ∷ []) rest))
  after done t (Err fault) = refl

  -- what is left, by the next
  next : (xs : List X) (i : ℕ) (x : X) (done : List A) (all : Result (List T) Fault) → i < length xs → x ≡ get_or xs i x
      → all ≡ also (λ rest. map view done ++ rest) (F (drop i xs))
      → all ≡ also (λ rest. map view done ++ rest) (both ◌∷◌ (one x) (F (drop (i + 1) xs)))
  next xs i x done all lt at before =
      before
      ∙ ap (also (λ rest. map view done ++ rest))
      (at_drop_more F xs i x lt ∙ ap (λ y. F (y ∷ drop (i + 1) xs)) (sym at) ∙ some x (drop (i + 1) xs))

  -- one more is done
  pub one_more : (xs : List X) (i : ℕ) (x : X) (done : List A) (a : A) (all : Result (List T) Fault) → i < length xs → x ≡ get_or xs i x
      → one x ≡ Ok (view a) → all ≡ also (λ rest. map view done ++ rest) (F (drop i xs))
      → all ≡ also (λ rest. map view (done ++ a ∷ []) ++ rest) (F (drop (i + 1) xs))
  one_more xs i x done a all lt at is before =
      next xs i x done all lt at before
      ∙ ap (λ r. also (λ rest. map view done ++ rest) (both ◌∷◌ r (F (drop (i + 1) xs)))) is
      ∙ after (map view done) (view a) (F (drop (i + 1) xs))
      ∙ ap (λ so_far. also (λ rest. so_far ++ rest) (F (drop (i + 1) xs))) (sym (map-append view done (a ∷ [])))

  -- the next has a fault
  pub one_fails : (xs : List X) (i : ℕ) (x : X) (done : List A) (fault : Fault) (all : Result (List T) Fault) → i < length xs → x ≡ get_or xs i x
      → all ≡ also (λ rest. map view done ++ rest) (F (drop i xs))
      → (fault ≡ NoMemory) ⊎ (one x ≡ Err fault) → (fault ≡ NoMemory) ⊎ (all ≡ Err fault)
  one_fails xs i x done fault all lt at before (inl empty) = inl empty
  one_fails xs i x done fault all lt at before (inr is) =
      inr (next xs i x done all lt at before ∙ ap (λ r. also (λ rest. map view done ++ rest) (both ◌∷◌ r (F (drop (i + 1) xs)))) is)

  -- all are done
  pub all_done : (xs : List X) (i : ℕ) (done : List A) (all : Result (List T) Fault) → length xs ≤ i
      → all ≡ also (λ rest. map view done ++ rest) (F (drop i xs)) → all ≡ Ok (map view done)
  all_done xs i done all past before =
      before ∙ ap (also (λ rest. map view done ++ rest)) (at_drop_all F xs i past ∙ none) ∙ ap Ok (append-nil (map view done))
