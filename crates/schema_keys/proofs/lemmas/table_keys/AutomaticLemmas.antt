-- The indexes for keys, one key after another.
use Rattle.std.proofs.Common.{◌≡◌, ℕ, ◌+◌, ◌<◌, ◌≤◌, List, [], ◌∷◌, ◌++◌, length, get_or, map, drop, refl, sym, ap, ◌∙◌, subst, append_assoc}
use Rattle.std.proofs.lemmas.List.{append-nil, at_drop_all, drop_more, map_push}
use Rattle.sql_reader_grammar.specs.create_trees.CreateTrees.{TableTree}
use Rattle.schema_keys.specs.table_keys.Automatic.{AutomaticData, IsIntegerKey, IsTableKey, WantIndexes}
use Rattle.schema_keys.specs.declared_keys.Keys.{KeyData}
use Rattle.schema_keys.specs.declared_keys.KeyView.{key_data}
use Rattle.schema_keys.specs.table_keys.AutomaticView.{automatic_data}
use Rattle.schema_keys.specs.declared.table_keys.automatic.AutomaticIndex.{AutomaticIndex}
use Rattle.schema_keys.specs.declared.declared_keys.keys.Key.{Key}

module _ (tree : TableTree) (keys : List Key) where
  -- with whatever the other keys want, these indexes are what all want
  abbrev pub AreSoFar : ℕ → ℕ → List AutomaticIndex → Type 0
  AreSoFar i number indexes = (rest : List AutomaticData) → WantIndexes tree number (map key_data (drop i keys)) rest
      → WantIndexes tree 1 (map key_data keys) (map automatic_data indexes ++ rest)

  pub all_so_far : (i number : ℕ) (indexes : List AutomaticIndex) → length keys ≤ i → AreSoFar i number indexes
      → WantIndexes tree 1 (map key_data keys) (map automatic_data indexes)
  all_so_far i number indexes past far =
      subst (WantIndexes tree 1 (map key_data keys)) (append-nil (map automatic_data indexes))
      (far [] (subst (λ ks. WantIndexes tree number ks []) (sym (at_drop_all (map key_data) keys i past)) WantIndexes.end))

  module _ (i : ℕ) (key : Key) (within : i < length keys) (is : key ≡ get_or keys i key) where
    next : map key_data (drop i keys) ≡ key_data key ∷ map key_data (drop (i + 1) keys)
    next = ap (map key_data) (drop_more keys i key within ∙ ap (λ k. k ∷ drop (i + 1) keys) (sym is))

    pub integer_next : (number : ℕ) (indexes : List AutomaticIndex) → IsIntegerKey tree (key_data key) → AreSoFar i number indexes
        → AreSoFar (i + 1) number indexes
    integer_next number indexes integer far = λ rest want.
        far rest (subst (λ ks. WantIndexes tree number ks rest) (sym next) (WantIndexes.integer integer want))

    pub table_next : (number : ℕ) (indexes : List AutomaticIndex) → IsTableKey tree (key_data key) → AreSoFar i number indexes
        → AreSoFar (i + 1) (number + 1) indexes
    table_next number indexes table far = λ rest want.
        far rest (subst (λ ks. WantIndexes tree number ks rest) (sym next) (WantIndexes.table table want))

    pub index_next : (number : ℕ) (indexes more : List AutomaticIndex) (index : AutomaticIndex) → more ≡ indexes ++ index ∷ []
        → automatic_data index ≡ record { number = number; columns = (key_data key).columns } → ¬ IsIntegerKey tree (key_data key)
        → ¬ IsTableKey tree (key_data key) → AreSoFar i number indexes → AreSoFar (i + 1) (number + 1) more
    index_next number indexes more index pushed made no_rowid no_table far = λ rest want.
        let all = far (automatic_data index ∷ rest)
        (subst (λ (x : AutomaticData). WantIndexes tree number (map key_data (drop i keys)) (x ∷ rest)) (sym made)
        (subst (λ ks. WantIndexes tree number ks (record { number = number; columns = (key_data key).columns } ∷ rest)) (sym next)
        (WantIndexes.index no_rowid no_table want))) in
        subst (WantIndexes tree 1 (map key_data keys))
        (sym (append_assoc (map automatic_data indexes) (automatic_data index ∷ []) rest)
        ∙ ap (λ xs. xs ++ rest) (sym (ap (map automatic_data) pushed ∙ map_push automatic_data indexes index)))
        all

-- one list
pub one_list : (tree : TableTree) (number : ℕ) (keys : List KeyData) (a b : List AutomaticData) → WantIndexes tree number keys a
    → WantIndexes tree number keys b → a ≡ b
one_list tree number keys a b WantIndexes.end WantIndexes.end = refl
one_list tree number keys a b (WantIndexes.index {key = key} r t p) (WantIndexes.index r2 t2 q) =
    ap (λ (xs : List AutomaticData). record { number = number; columns = key.columns } ∷ xs) (one_list tree (number + 1) _ _ _ p q)
one_list tree number keys a b (WantIndexes.index r t p) (WantIndexes.table t2 q) = absurd (t t2)
one_list tree number keys a b (WantIndexes.index r t p) (WantIndexes.integer r2 q) = absurd (r r2)
one_list tree number keys a b (WantIndexes.table t p) (WantIndexes.index r2 t2 q) = absurd (t2 t)
one_list tree number keys a b (WantIndexes.table t p) (WantIndexes.table t2 q) = one_list tree (number + 1) _ a b p q
one_list tree number keys a b (WantIndexes.table t p) (WantIndexes.integer r2 q) = absurd (t.other r2)
one_list tree number keys a b (WantIndexes.integer r p) (WantIndexes.index r2 t2 q) = absurd (r2 r)
one_list tree number keys a b (WantIndexes.integer r p) (WantIndexes.table t2 q) = absurd (t2.other r)
one_list tree number keys a b (WantIndexes.integer r p) (WantIndexes.integer r2 q) = one_list tree number _ a b p q
