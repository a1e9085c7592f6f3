-- The values of the entries of an index that was checked, by their places.
use Rattle.std.proofs.Common.{◌≡◌, ◌⊎◌, ◌<◌, ◌&&◌, ℕ, zero, suc, All, Bool, true, false, Contains, IsTrue, List, [], ◌∷◌, map, slice_get, take, Some, refl, sym, ◌∙◌, ap, subst, inl, inr, ⊎_elim, arith}
use Rattle.std.specs.List.{list_all}
use Rattle.std.proofs.lemmas.Bool.{cases_eq}
use Rattle.std.specs.Ordering.{is_lt, ordering_then}
use Rattle.std.specs.declared.cmp.Ordering.{Ordering}
use Rattle.std.specs.declared.cmp.Ordering.TheVariants.{Less, Equal, Greater}
use Rattle.values.specs.Datum.{Datum}
use Rattle.values.specs.Order.{datum_cmp}
use Rattle.btree.specs.declared.image.kind.TreeKind.TheVariants.{Index}
use Rattle.btree.specs.declared.image.kind.Level.{Level}
use Rattle.btree.specs.declared.image.kind.Level.TheVariants.{Interior}
use Rattle.btree.specs.image.Entries.{IsEntryOrder, IsStrictOrder}
use Rattle.btree.specs.image.Pages.{Pages}
use Rattle.btree.specs.image.Shape.{HasShape, place_at, places_under}
use Rattle.btree.specs.image.Tree.{IsPageOf, IsPlaceOf, Place, Reaches, count_at}
use Rattle.btree.proofs.lemmas.image.EntryLemmas.{entries_of}
use Rattle.btree.proofs.lemmas.image.ListLemmas.{cons_cases, in_head, in_none, in_tail}
use Rattle.btree.proofs.lemmas.image.PlaceLemmas.{complete}
use Rattle.btree.proofs.lemmas.image.ShapeLemmas.{one_level}
use Rattle.btree_cursor.specs.key_ranges.Ranges.{directed, key_cmp}
use Rattle.btree_cursor.specs.key_ranges.Runs.{Ascend}
use Rattle.btree_cursor.proofs.lemmas.key_ranges.RunLemmas.{key_after, key_never}
use Rattle.btree_cursor.specs.index_entries.Entries.{HasValues}
use Rattle.integrity_trees.specs.declared.tree_walk.counts.TreeCounts.{TreeCounts}
use Rattle.integrity_trees.specs.declared.index_walk.tree.EntryWidths.{EntryWidths}
use Rattle.integrity_trees.specs.index_walk.Widths.{key_of}
use Rattle.integrity_trees.specs.index_walk.Last.{IsBefore}
use Rattle.integrity_trees.specs.index_walk.Checked.{HasEntryValues, HoldsEntry, HoldsValues, IsCheckedIndex}

same_place : (a b : Place) → (a ≡ b) ⊎ (a ≡ b → ⊥)
same_place a b = ⊎_elim
    (λ (e : a.page ≡ b.page). ⊎_elim
    (λ (f : a.index ≡ b.index). inl (λ k. record { page = e k; index = f k }))
    (λ (ne : a.index ≡ b.index → ⊥). inr (λ s. ne (ap (λ (p : Place). p.index) s)))
    (cases_eq a.index b.index))
    (λ (ne : a.page ≡ b.page → ⊥). inr (λ s. ne (ap (λ (p : Place). p.page) s)))
    (cases_eq a.page b.page)

-- a list has a place, or it doesn't
contains_or : (places : List Place) (p : Place) → Contains places p ⊎ (Contains places p → ⊥)
contains_or [] p = inr (in_none p)
contains_or (q ∷ places) p = ⊎_elim
    (λ (e : q ≡ p). inl (subst (λ (r : Place). Contains (q ∷ places) r) e (in_head q places)))
    (λ (ne : q ≡ p → ⊥). ⊎_elim
    (λ (h : Contains places p). inl (in_tail q p places h))
    (λ (none : Contains places p → ⊥). inr (λ h. ⊎_elim ne none (cons_cases q p places h)))
    (contains_or places p))
    (same_place q p)

less_of : (o : Ordering) → is_lt o ≡ true → o ≡ Less
less_of Less e = refl
less_of Equal e = let f : false ≡ true = e in cc
less_of Greater e = let f : false ≡ true = e in cc

less_then : (o first whole : Ordering) → (first ≡ Less → whole ≡ Less) → ordering_then o first ≡ Less → ordering_then o whole ≡ Less
less_then Less first whole step less = refl
less_then Equal first whole step less = step less
less_then Greater first whole step less = less

-- entries stand as their keys do where these differ
pub less_by_key : (descends : List Bool) (k : ℕ) (x y : List Datum) → key_cmp descends (take k x) (take k y) ≡ Less → key_cmp descends x y ≡ Less
less_by_key descends zero x y less = cc
less_by_key descends (suc k) [] y less = less
less_by_key descends (suc k) (v ∷ x) [] less = less
less_by_key [] (suc k) (v ∷ x) (w ∷ y) less = less_then (datum_cmp v w) (key_cmp [] (take k x) (take k y)) (key_cmp [] x y) (less_by_key [] k x y) less
less_by_key (d ∷ descends) (suc k) (v ∷ x) (w ∷ y) less =
    less_then (directed d (datum_cmp v w)) (key_cmp descends (take k x) (take k y)) (key_cmp descends x y) (less_by_key descends k x y) less

-- where each of two places comes before a later one, so do their values
module _ (descends : List Bool) (values : Place → List Datum) where
  all_later : (x : List Datum) (places : List Place) → ((j : ℕ) (y : Place) → slice_get places j ≡ Some y → IsTrue (is_lt (key_cmp descends x (values y))))
      → list_all (λ y. is_lt (key_cmp descends x y)) (map values places) ≡ true
  all_later x [] each = refl
  all_later x (p ∷ places) each =
      ap (λ (t : Bool). t && list_all (λ y. is_lt (key_cmp descends x y)) (map values places)) (each 0 p refl) ∙ all_later x places (λ j y e. each (suc j) y e)

  ascend_of : (places : List Place) → ((i j : ℕ) (x y : Place) → i < j → slice_get places i ≡ Some x → slice_get places j ≡ Some y
      → IsTrue (is_lt (key_cmp descends (values x) (values y)))) → Ascend descends (map values places)
  ascend_of [] each = tt
  ascend_of (p ∷ places) each = (
    all_later (values p) places (λ j y e. each 0 (suc j) p y (omega arith) refl e),
    ascend_of places (λ i j x y less e f. each (suc i) (suc j) x y (omega (arith, less)) e f),
  )

module _ (pages : Pages) (widths : EntryWidths) (places : List Place) (held : All (HoldsEntry pages widths) places) (p : Place) where
  entry_at : Contains places p → HoldsEntry pages widths p
  entry_at h = subst (λ (q : Place). HoldsEntry pages widths q) h.2 (held h.0 p h.1)

  value_of : Contains places p ⊎ (Contains places p → ⊥) → List Datum
  value_of (inl h) = (entry_at h).0
  value_of (inr none) = []

  value_held : (found : Contains places p ⊎ (Contains places p → ⊥)) → Contains places p → HoldsValues pages widths p (value_of found)
  unfolding value_of
  value_held (inl h) there = (entry_at h).1
  value_held (inr none) there = absurd (none there)

module _ (pages : Pages) (widths : EntryWidths) (descends : List Bool) (root : ℕ) (counts : TreeCounts) (checked : IsCheckedIndex pages widths descends root counts) where
  abbrev all : List Place
  all = places_under pages Index counts.levels root

  abbrev values : Place → List Datum
  values p = value_of pages widths all checked.entries p (contains_or all p)

  held_at : (p : Place) → IsPlaceOf pages Index root p → HoldsValues pages widths p (values p)
  held_at p place = value_held pages widths all checked.entries p (contains_or all p) (complete pages Index counts.levels root checked.shape p place)

  has_at : (level : Level) (n i : ℕ) → Reaches pages Index root n → IsPageOf pages Index level n → i < count_at pages n → HasValues pages level n i (values (place_at n i))
  has_at level n i reaches page within =
      let held = held_at (place_at n i) (record { level = level; entries = tt; reaches = reaches; page = page; within = within }) in
      subst (λ (l : Level). HasValues pages l n i (values (place_at n i))) (one_level pages Index held.level level n held.page page) held.has

  -- how the entries stand where this part of each is compared: all of it, or its key alone
  module _ (part : List Datum → List Datum) (less : (x y : List Datum) → IsBefore widths descends x y → key_cmp descends (part x) (part y) ≡ Less) where
    abbrev comes : Place → Place → Bool
    comes x y = is_lt (key_cmp descends (part (values x)) (part (values y)))

    abbrev IsEarlier : Place → Place → Type 0
    IsEarlier x y = IsTrue (comes x y)

    -- what is so of the places is so of those that they are
    earlier : (x y p q : Place) → x ≡ p → y ≡ q → IsEarlier p q → IsEarlier x y
    earlier x y p q e f h = subst (λ (z : Place). IsEarlier z y) (sym e) (subst (λ (z : Place). IsEarlier p z) (sym f) h)

    values_order : (n : ℕ) → Reaches pages Index root n → IsEntryOrder pages comes root n
    values_order n reaches =
        let order = checked.order n reaches in
        record {
          ascends = λ level i j x y page within_less within hx hy. earlier x y (place_at n i) (place_at n j) hx hy
              (ap is_lt (less (values (place_at n i)) (values (place_at n j))
              (order.ascends level i j (values (place_at n i)) (values (place_at n j)) page within_less within
              (has_at level n i reaches page (omega (arith, within_less, within))) (has_at level n j reaches page within))));
          most = λ level a i j x y up under inside page within hx hy. earlier y x (place_at n j) (place_at a i) hy hx
              (ap is_lt (less (values (place_at n j)) (values (place_at a i))
              (order.most level a i j (values (place_at a i)) (values (place_at n j)) up under inside page within
              (has_at Interior a i up under.is.interior inside) (has_at level n j reaches page within))));
          above = λ level a i j x y up under page within hx hy. earlier x y (place_at a i) (place_at n j) hx hy
              (ap is_lt (less (values (place_at a i)) (values (place_at n j))
              (order.above level a i j (values (place_at a i)) (values (place_at n j)) up under page within
              (has_at Interior a i up under.is.interior (let last = under.is.within in omega (arith, last))) (has_at level n j reaches page within))));
        }

    strict : IsStrictOrder comes
    strict = record {
      never = λ x less. key_never descends (part (values x)) (less_of (key_cmp descends (part (values x)) (part (values x))) less);
      after = λ x y z first next. ap is_lt (key_after descends (part (values x)) (part (values y)) (part (values z))
          (less_of (key_cmp descends (part (values x)) (part (values y))) first) (less_of (key_cmp descends (part (values y)) (part (values z))) next));
    }

    values_ascend : (levels : ℕ) → HasShape pages Index levels root → Ascend descends (map (λ p. part (values p)) (places_under pages Index levels root))
    values_ascend levels shape =
        let entries = entries_of pages comes strict root levels shape values_order in
        ascend_of descends (λ p. part (values p)) (places_under pages Index levels root) entries.ascend

  abbrev whole : List Datum → List Datum
  whole x = x

  by_key : (x y : List Datum) → IsBefore widths descends x y → key_cmp descends (whole x) (whole y) ≡ Less
  by_key x y less = less_by_key descends widths.key x y less

  pub has_values : HasEntryValues pages widths descends root
  has_values = record {
    values = values;
    entries = λ level n reaches page. record { page = page; each = λ i within. has_at level n i reaches page within };
    long = λ p place. (held_at p place).width_is;
    order = values_order whole by_key;
    ascend = values_ascend whole by_key;
    keys = values_ascend (key_of widths) (λ x y less. less);
  }
