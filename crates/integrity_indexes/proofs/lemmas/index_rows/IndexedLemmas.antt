-- The rows of an index, in the order of its entries.
use Rattle.std.proofs.Common.{◌≡◌, ◌∙◌, ℕ, Bool, IsPermutation, List, [], ◌∷◌, Option, get_or, map, set, swap, ap, refl, subst, sym}
use Rattle.std.specs.List.{filter}
use Rattle.std.specs.List.Sorted.{SwapsInRange, apply_swaps}
use Rattle.std.proofs.Math.ListN.{get_or-map}
use Rattle.std.proofs.lemmas.List.{length-map, map-set}
use Rattle.std.proofs.lemmas.List.Sorted.{IsPermutation-sym, IsPermutation-trans}
use Rattle.values.specs.Row.{Row}
use Rattle.btree.specs.image.Pages.{IsNumber, Pages}
use Rattle.btree_cursor.specs.key_ranges.Runs.{Ascend}
use Rattle.expr.specs.Term.{Term}
use Rattle.integrity_trees.specs.declared.tree_walk.counts.TreeCounts.{TreeCounts}
use Rattle.integrity_trees.specs.declared.index_walk.tree.EntryWidths.{EntryWidths}
use Rattle.integrity_trees.specs.index_walk.Checked.{IsCheckedIndex}
use Rattle.integrity_trees.specs.index_walk.Widths.{exactly}
use Rattle.integrity_trees.specs.wanted_entries.Wanted.{IndexedPlaces, KeyedRow, entry_of, wanted}
use Rattle.integrity_trees.proofs.lemmas.entry_prefixes.EntryLemmas.{entries, held, holds_entries, same_entries, searchable, values}
use Rattle.schema_tables.specs.TableData.{TableData}
use Rattle.integrity_indexes.specs.index_rows.Compared.{IsIndexOf}
use Rattle.integrity_indexes.specs.index_rows.Entries.{width_by}
use Rattle.integrity_indexes.specs.index_rows.Indexed.{HoldsIndexedRows}
use Rattle.integrity_indexes.specs.index_rows.Kept.{keeps_row}

-- a list is made of elements of another, in some order
pub record IsMadeOf {P X : Type 0} (f : P → X) (xs : List P) (ys : List X) : Type 0 where
  pub elements : List P
  pub same : IsPermutation xs elements
  pub made : ys ≡ map f elements

-- what is made of elements, in another order, is made of them in another order
module _ {P X : Type 0} (f : P → X) where
  map-swap : (xs : List P) (i j : ℕ) → map f (swap xs i j) ≡ swap (map f xs) i j
  map-swap [] i j = refl
  map-swap (d ∷ ys) i j = map-set f (set (d ∷ ys) i (get_or (d ∷ ys) j d)) j (get_or (d ∷ ys) i d)
      ∙ (λ k. set ((map-set f (d ∷ ys) i (get_or (d ∷ ys) j d) ∙ ap (set (map f (d ∷ ys)) i) (sym (get_or-map f (d ∷ ys) j d))) k) j (sym (get_or-map f (d ∷ ys) i d) k))

  map-swaps : (xs : List P) (moves : List (ℕ × ℕ)) → map f (apply_swaps xs moves) ≡ apply_swaps (map f xs) moves
  map-swaps xs [] = refl
  map-swaps xs (p ∷ moves) = map-swap (apply_swaps xs moves) p.0 p.1 ∙ ap (λ (l : List X). swap l p.0 p.1) (map-swaps xs moves)

  pub made_of : (xs : List P) (ys : List X) → IsPermutation (map f xs) ys → IsMadeOf f xs ys
  made_of xs ys is = record {
    elements = apply_swaps xs is.moves;
    same = record {
      moves = is.moves;
      below = subst (λ (n : ℕ). SwapsInRange n is.moves) (length-map xs f) is.below;
      is = refl;
    };
    made = is.is ∙ sym (map-swaps xs is.moves);
  }

-- the rows of an index that was checked, and that has the entries which its table's rows want
module _ (pages : Pages) (table : TableData) (index : IndexedPlaces) (condition : Option Term) (descends : List Bool) (root : ℕ) (counts : TreeCounts)
    (number : IsNumber pages root) (checked : IsCheckedIndex pages (exactly (width_by table.key index)) descends root counts)
    (is : IsIndexOf pages table index condition root) where
  abbrev widths : EntryWidths
  widths = exactly (width_by table.key index)

  abbrev its_entries : List Row
  its_entries = entries pages widths descends root counts number checked

  abbrev kept : List KeyedRow
  kept = filter (λ keyed. keeps_row condition keyed.row) is.rows

  bag : IsPermutation (map (entry_of index) kept) its_entries
  bag = IsPermutation-sym its_entries (map (entry_of index) kept)
      (IsPermutation-trans its_entries is.entries (wanted index (keeps_row condition) is.rows)
      (same_entries pages root its_entries is.entries (holds_entries pages widths descends root counts number checked) is.entries_are) is.same)

  in_order : IsMadeOf (entry_of index) kept its_entries
  in_order = made_of (entry_of index) kept its_entries bag

  pub holds_indexed : (rows : List KeyedRow) × HoldsIndexedRows pages table index condition descends counts.levels root rows
  holds_indexed = (
    in_order.elements,
    record {
      values = values pages widths descends root counts number checked;
      searchable = searchable pages widths descends root counts number checked;
      entries_are = in_order.made;
      ascend = subst (λ (l : List Row). Ascend descends l) in_order.made
          ((held pages widths descends root counts number checked).ascend counts.levels checked.shape);
      stored = is.rows;
      stored_are = is.rows_are;
      same = in_order.same;
    },
  )
