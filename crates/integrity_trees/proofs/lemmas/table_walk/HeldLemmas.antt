-- The cells under a page as rows of their table.
use Rattle.std.proofs.Common.{◌≡◌, ℕ, zero, suc, ◌+◌, ◌<◌, ◌≤◌, All, List, map, subst, arith, below_more}
use Rattle.std.specs.List.{range_with_len, flat_map}
use Rattle.std.proofs.lemmas.List.Elements.{All-append, All-nil, All-map}
use Rattle.std.proofs.lemmas.List.FromFn.{get_or-range_with_len, length-range_with_len}
use Rattle.values.specs.declared.fault.Fault.{Fault}
use Rattle.btree.specs.declared.image.kind.TreeKind.TheVariants.{Table}
use Rattle.btree.specs.declared.image.kind.Level.TheVariants.{Leaf}
use Rattle.btree.specs.image.Pages.{Pages}
use Rattle.btree.specs.image.Shape.{place_at, places_in, places_under}
use Rattle.btree.specs.image.Tree.{IsPageOf, StandsAt, child_at, count_at}
use Rattle.schema_tables.specs.TableData.{TableData}
use Rattle.records_tables.specs.stored_rows.RowFaults.{AreRowsIn, HasCellFault, IsLeafFault}
use Rattle.records_tables.specs.stored_rows.Stored.{HoldsRow}
use Rattle.records_tables.specs.stored_rows.Keys.{IsSeen}
use Rattle.records_tables.proofs.lemmas.stored_rows.LinkLemmas.{seen_cells, seen_row}

-- what holds of the elements of each list that is made over a run of numbers
all_fan : {X : Type 0} (P : X → Type 0) (f : ℕ → List X) (m i : ℕ) → ((k : ℕ) → i ≤ k → k < i + m → All P (f k))
    → All P (flat_map f (range_with_len i m))
all_fan P f zero i each = All-nil P
all_fan P f (suc m) i each = All-append P (f i) (flat_map f (range_with_len (i + 1) m)) (each i (omega arith) (omega arith))
    (all_fan P f m (i + 1) (λ k least most. each k (omega arith) (omega arith)))

all_run : {X : Type 0} (P : X → Type 0) (f : ℕ → X) (m : ℕ) → ((k : ℕ) → k < m → P (f k)) → All P (map f (range_with_len 0 m))
all_run P f m each = All-map P f (range_with_len 0 m) (λ k d within.
    let less : k < m = omega (arith, within, length-range_with_len 0 m) in
    subst (λ (j : ℕ). P (f j)) (omega (arith, get_or-range_with_len 0 m k d less)) (each k less))

module _ (pages : Pages) (table : TableData) where
  -- the cells under the children of a page are those under it
  pub held_under : (levels n : ℕ) → ((k : ℕ) → k < count_at pages n + 1 → All (HoldsRow pages table) (places_under pages Table levels (child_at pages n k)))
      → All (HoldsRow pages table) (places_under pages Table (suc levels) n)
  held_under levels n each = all_fan (HoldsRow pages table) (λ k. places_under pages Table levels (child_at pages n k)) (suc (count_at pages n)) 0
      (λ k least most. each k (omega arith))

  pub held_more : (n i levels now : ℕ) → (0 < i → levels ≡ now)
      → ((k : ℕ) → k < i → All (HoldsRow pages table) (places_under pages Table levels (child_at pages n k)))
      → All (HoldsRow pages table) (places_under pages Table now (child_at pages n i))
      → (k : ℕ) → k < i + 1 → All (HoldsRow pages table) (places_under pages Table now (child_at pages n k))
  held_more n i levels now same held here =
      below_more (λ k. All (HoldsRow pages table) (places_under pages Table now (child_at pages n k))) i
      (λ k within. subst (λ (x : ℕ). All (HoldsRow pages table) (places_under pages Table x (child_at pages n k))) (same (omega arith)) (held k within)) here

  -- of a leaf, as its bytes were seen
  module _ (n at most : ℕ) (page : List ℕ) (seen : IsSeen pages n at most page) where
    pub held_leaf : AreRowsIn pages table at most page → All (HoldsRow pages table) (places_in pages n)
    held_leaf rows = all_run (HoldsRow pages table) (place_at n) (count_at pages n) (λ k within.
        let here = rows k (omega (arith, within, seen_cells pages n at most page seen)) in
        record { row = here.row; stores = record { cell = here.cell; at = seen_row pages n at most page seen k here.cell here.here; is = here.is }; fits = here.fits })

    pub leaf_fault : (depth : ℕ) → IsPageOf pages Table Leaf n → StandsAt pages Table table.root depth n
        → (fault : Fault) → IsLeafFault pages table n at most page fault → HasCellFault pages table fault
    leaf_fault depth leaf stands fault broken = record {
      place = place_at n broken.i;
      cell = broken.cell;
      is_place = record {
        level = Leaf;
        entries = tt;
        reaches = (depth, stands);
        page = leaf;
        within = omega (arith, broken.within, seen_cells pages n at most page seen);
      };
      at = seen_row pages n at most page seen broken.i broken.cell broken.here;
      broken = broken.broken;
    }
