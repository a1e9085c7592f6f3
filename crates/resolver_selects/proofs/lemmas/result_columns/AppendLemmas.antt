-- Outcomes of lists, one after another.
use Rattle.std.proofs.Common.{◌≡◌, ◌⊎◌, ◌<◌, ◌≤◌, ◌+◌, ℕ, List, [], ◌∷◌, ◌++◌, map, drop, length, get_or, Result, Ok, Err, refl, ap, sym, inl, inr, ◌∙◌, append_assoc}
use Rattle.std.proofs.lemmas.List.{append-nil, at_drop_all, at_drop_more, map-append}
use Rattle.values.specs.declared.fault.Fault.{Fault}
use Rattle.values.specs.declared.fault.Fault.TheVariants.{NoMemory}
use Rattle.semantics_names.specs.Outcome.{also, both}

pub begun : {T : Type 0} (all : Result (List T) Fault) → all ≡ also (λ rest. [] ++ rest) all
begun (Ok rest) = refl
begun (Err fault) = refl

-- `F` is of each, by `one`; and of some, `done`, it is known already
module _ {X A T : Type 0} (view : A → T) (one : X → Result (List T) Fault) (F : List X → Result (List T) Fault)
    (none : F [] ≡ Ok []) (some : (x : X) (xs : List X) → F (x ∷ xs) ≡ both ◌++◌ (one x) (F xs)) where
  after : (done ts : List T) (r : Result (List T) Fault) → also (λ rest. done ++ rest) (also (λ rest. ts ++ rest) r) ≡ also (λ rest. (done ++ ts) ++ rest) r
  after done ts (Ok rest) = ap Ok (sym (append_assoc done ts rest))
  after done ts (Err fault) = refl

  next : (xs : List X) (i : ℕ) (x : X) (done : List T) (all : Result (List T) Fault) → i < length xs → x ≡ get_or xs i x
      → all ≡ also (λ rest. done ++ rest) (F (drop i xs)) → all ≡ also (λ rest. done ++ rest) (both ◌++◌ (one x) (F (drop (i + 1) xs)))
  next xs i x done all lt at before =
      before
      ∙ ap (also (λ rest. done ++ rest))
      (at_drop_more F xs i x lt ∙ ap (λ y. F (y ∷ drop (i + 1) xs)) (sym at) ∙ some x (drop (i + 1) xs))

  pub more_done : (xs : List X) (i : ℕ) (x : X) (done more : List A) (all : Result (List T) Fault) → i < length xs → x ≡ get_or xs i x
      → one x ≡ Ok (map view more) → all ≡ also (λ rest. map view done ++ rest) (F (drop i xs))
      → all ≡ also (λ rest. map view (done ++ more) ++ rest) (F (drop (i + 1) xs))
  more_done xs i x done more all lt at is before =
      next xs i x (map view done) all lt at before
      ∙ ap (λ r. also (λ rest. map view done ++ rest) (both ◌++◌ r (F (drop (i + 1) xs)))) is
      ∙ after (map view done) (map view more) (F (drop (i + 1) xs))
      ∙ ap (λ so_far. also (λ rest. so_far ++ rest) (F (drop (i + 1) xs))) (sym (map-append view done more))

  pub one_fails : (xs : List X) (i : ℕ) (x : X) (done : List A) (fault : Fault) (all : Result (List T) Fault) → i < length xs → x ≡ get_or xs i x
      → all ≡ also (λ rest. map view done ++ rest) (F (drop i xs))
      → (fault ≡ NoMemory) ⊎ (one x ≡ Err fault) → (fault ≡ NoMemory) ⊎ (all ≡ Err fault)
  one_fails xs i x done fault all lt at before (inl empty) = inl empty
  one_fails xs i x done fault all lt at before (inr is) =
      inr (next xs i x (map view done) all lt at before
      ∙ ap (λ r. also (λ rest. map view done ++ rest) (both ◌++◌ r (F (drop (i + 1) xs)))) is)

  pub all_done : (xs : List X) (i : ℕ) (done : List A) (all : Result (List T) Fault) → length xs ≤ i
      → all ≡ also (λ rest. map view done ++ rest) (F (drop i xs)) → all ≡ Ok (map view done)
  all_done xs i done all past before =
      before ∙ ap (also (λ rest. map view done ++ rest)) (at_drop_all F xs i past ∙ none) ∙ ap Ok (append-nil (map view done))
