-- Rows whose rowids ascend, and those that a condition keeps.
use Rattle.std.proofs.Common.{◌≡◌, ◌∙◌, ◌⊎◌, ◌<◌, ◌≤◌, ◌<ℤ◌, ◌≤ℤ◌, ◌++◌, ℕ, suc, ℤ, Bool, true, false, cond, Contains, List, [], ◌∷◌, None, Option, Some, length, slice_get, refl, sym, ap, subst, ⊎_elim, arith}
use Rattle.std.specs.List.{filter}
use Rattle.std.proofs.lemmas.Int.{by_lt_z, ints}
use Rattle.std.proofs.lemmas.List.{length-map}
use Rattle.values.specs.Datum.{int}
use Rattle.btree.specs.image.Pages.{Pages}
use Rattle.values.specs.Bounds.{IsAbove}
use Rattle.btree.proofs.lemmas.image.ListLemmas.{cons_cases, in_head, in_tail}
use Rattle.integrity_trees.specs.wanted_entries.Wanted.{IndexedPlaces, KeyedRow, entry_of, row_key, values_at}
use Rattle.schema_tables.specs.TableData.{TableData}
use Rattle.integrity_indexes.specs.index_batches.Placed.{IsKeyed}
use Rattle.integrity_indexes.specs.index_rows.Rows.{HoldsKeyedRows, StoresKeyedRow}
use Rattle.integrity_trees.proofs.lemmas.entry_prefixes.ListLemmas.{beside, get_of}

-- a rowid that isn't above a bound
abbrev pub IsBehind : Option ℤ → ℤ → Type 0
IsBehind None rowid = ⊥
IsBehind (Some low) rowid = rowid ≤ℤ low

pub above_or_behind : {P : Type 0} (low : Option ℤ) (rowid : ℤ) → (IsAbove low rowid → P) → (IsBehind low rowid → P) → P
above_or_behind None rowid above behind = above tt
above_or_behind (Some low) rowid above behind = by_lt_z low rowid above behind

pub not_both : (low : Option ℤ) (rowid : ℤ) → IsAbove low rowid → IsBehind low rowid → ⊥
not_both None rowid above behind = behind
not_both (Some low) rowid above behind = let a : low <ℤ rowid = above in let b : rowid ≤ℤ low = behind in omega (arith, ints)

pub behind_below : (low : Option ℤ) (one other : ℤ) → IsBehind low one → IsAbove low other → one ≤ℤ other
behind_below None one other behind above = absurd behind
behind_below (Some low) one other behind above = let a : low <ℤ other = above in let b : one ≤ℤ low = behind in omega (arith, ints)

pub at_most_itself : (n : ℤ) → n ≤ℤ n
at_most_itself n = omega (arith, ints)

pub less_at_most : (a b : ℤ) → a <ℤ b → a ≤ℤ b
less_at_most a b less = omega (arith, ints)

-- what is kept is there
module _ {X : Type 0} (p : X → Bool) where
  pub kept_in : (xs : List X) (x : X) → Contains (filter p xs) x → Contains xs x
  kept_in [] x h = h
  kept_in (y ∷ xs) x h = by_test (p y) (kept_in xs x) h
    where
      by_test : (b : Bool) → (Contains (filter p xs) x → Contains xs x) → Contains (cond b (y ∷ filter p xs) (filter p xs)) x → Contains (y ∷ xs) x
      by_test true more h = ⊎_elim
          (λ (e : y ≡ x). subst (λ (z : X). Contains (y ∷ xs) z) e (in_head y xs))
          (λ (there : Contains (filter p xs) x). in_tail y x xs (more there))
          (cons_cases y x (filter p xs) h)
      by_test false more h = in_tail y x xs (more h)

-- the rowids of rows ascend
abbrev pub Rise : List KeyedRow → Type 0
Rise rows = (i j : ℕ) (a b : KeyedRow) (p q : ℤ) → i < j → slice_get rows i ≡ Some a → slice_get rows j ≡ Some b
    → a.rowid ≡ Some p → b.rowid ≡ Some q → p <ℤ q

pub rise_tail : (row : KeyedRow) (rows : List KeyedRow) → Rise (row ∷ rows) → Rise rows
rise_tail row rows rise i j a b p q less at_i at_j = rise (suc i) (suc j) a b p q (omega (arith, less)) at_i at_j

pub rise_head : (row : KeyedRow) (rows : List KeyedRow) → Rise (row ∷ rows) → (p : ℤ) → row.rowid ≡ Some p → (k : KeyedRow) (q : ℤ) → Contains rows k
    → k.rowid ≡ Some q → p <ℤ q
rise_head row rows rise p is k q h other = rise 0 (suc h.0) row k p q (omega arith) refl (get_of rows k h) is other

pub one_some : (a b : ℤ) → Some a ≡ Some b → a ≡ b
one_some a b e = cc

-- of a table with rowids each row has one, and they ascend
module _ (pages : Pages) (table : TableData) (rows : List KeyedRow) (holds : HoldsKeyedRows pages table rows) where
  pub has_rowid : (k : KeyedRow) → Contains rows k → (p : ℤ) × (k.rowid ≡ Some p)
  has_rowid k h =
      let p = beside (StoresKeyedRow pages table) holds.places rows h.0 k holds.rows_are (get_of rows k h) in
      (p.holds.at.is.rowid, p.holds.rowid_is ∙ p.holds.at.is.has_rowid)

  pub rows_rise : Rise rows
  rows_rise i j x y p q less at_i at_j is_p is_q =
      let l = beside (StoresKeyedRow pages table) holds.places rows i x holds.rows_are at_i in
      let r = beside (StoresKeyedRow pages table) holds.places rows j y holds.rows_are at_j in
      holds.cells.ascend i j l.x r.x p q less l.at r.at
      (l.holds.cell, l.holds.at.is, sym l.holds.rowid_is ∙ is_p) (r.holds.cell, r.holds.at.is, sym r.holds.rowid_is ∙ is_q)

-- the entry that a row with a rowid wants
pub entry_is : (index : IndexedPlaces) (k : KeyedRow) (p : ℤ) → k.rowid ≡ Some p → entry_of index k ≡ values_at k.row index.columns ++ int p ∷ []
entry_is index k p is = ap (λ (o : Option ℤ). values_at k.row index.columns ++ row_key index.others o k.row) is

pub entry_keyed : (index : IndexedPlaces) (k : KeyedRow) (p : ℤ) → k.rowid ≡ Some p
    → IsKeyed (length index.columns) (entry_of index k) p (values_at k.row index.columns)
entry_keyed index k p is = record { long = length-map index.columns _; is = entry_is index k p is }
