-- Where an entry stands that a search leads to, and whether the index has one with these values.
use Rattle.std.proofs.Common.{◌≡◌, ◌<◌, ℕ, suc, Bool, true, false, Contains, IsTrue, List, [], ◌∷◌, ◌++◌, map, Some, slice_get, length, refl, sym, ap, ◌∙◌, subst, ⊎_elim, arith}
use Rattle.std.specs.Ordering.{is_gt, is_lt}
use Rattle.std.specs.declared.cmp.Ordering.{Ordering}
use Rattle.std.specs.declared.cmp.Ordering.TheVariants.{Less, Equal, Greater}
use Rattle.std.proofs.lemmas.List.Elements.{All-contains, Contains-append_cases, Contains-append_right}
use Rattle.std.proofs.lemmas.Option.{slice_get_read}
use Rattle.values.specs.Row.{Row}
use Rattle.btree.specs.declared.image.kind.TreeKind.TheVariants.{Index}
use Rattle.btree.specs.image.Entries.{IsAtPlace}
use Rattle.btree.specs.image.Pages.{Pages}
use Rattle.btree.specs.image.Search.{IsCellThat, IsSplit}
use Rattle.btree.specs.image.Shape.{places_under}
use Rattle.btree.specs.image.Cell.{CellData}
use Rattle.btree.specs.image.Tree.{IsEntryAt, Place}
use Rattle.btree.proofs.lemmas.image.EntryLemmas.{entries_of}
use Rattle.btree.proofs.lemmas.image.ListLemmas.{in_head, in_tail, cons_cases}
use Rattle.btree_cursor.specs.key_ranges.Ranges.{key_cmp}
use Rattle.integrity_trees.proofs.lemmas.wanted_entries.OrderLemmas.{reversed, same_itself}
use Rattle.btree_cursor.specs.index_entries.Entries.{HasRecord}
use Rattle.btree_cursor.specs.cursor.Search.{IsSearchableIndex, entry_order}
use Rattle.integrity_trees.proofs.lemmas.entry_rows.ListedLemmas.{has_values, strict}

-- an element of a mapped list is what an element gives
from_map : {X Y : Type 0} (f : X → Y) (y : Y) (xs : List X) → Contains (map f xs) y → (x : X) × Contains xs x × (f x ≡ y)
from_map f y [] h = absurd (omega (arith, h.1))
from_map f y (x ∷ xs) h = ⊎_elim
    (λ (e : f x ≡ y). (x, in_head x xs, e))
    (λ (there : Contains (map f xs) y). let r = from_map f y xs there in (r.0, in_tail x r.0 xs r.1, r.2))
    (cons_cases (f x) y (map f xs) h)

to_map : {X Y : Type 0} (f : X → Y) (x : X) (xs : List X) → Contains xs x → Contains (map f xs) (f x)
to_map f x [] h = absurd (omega (arith, h.1))
to_map f x (first ∷ xs) h = ⊎_elim
    (λ (e : first ≡ x). subst (λ (z : _). Contains (f first ∷ map f xs) z) (ap f e) (in_head (f first) (map f xs)))
    (λ (there : Contains xs x). in_tail (f first) (f x) (map f xs) (to_map f x xs there))
    (cons_cases first x xs h)

-- where each element comes before those behind it, the first of the rest comes before the others of the rest
after : (IsEarlier : Place → Place → Type 0) (front : List Place) (first : Place) (more : List Place) (x : Place)
    → ((i j : ℕ) (a b : Place) → i < j → slice_get (front ++ first ∷ more) i ≡ Some a → slice_get (front ++ first ∷ more) j ≡ Some b → IsEarlier a b)
    → Contains more x → IsEarlier first x
after IsEarlier [] first more x ascend h =
    ascend 0 (suc h.0) first x (omega arith) refl (slice_get_read more (length more) h.0 x refl h.1 (sym h.2))
after IsEarlier (a ∷ front) first more x ascend h =
    after IsEarlier front first more x (λ i j b c less at_b at_c. ascend (suc i) (suc j) b c (omega (arith, less)) at_b at_c) h

lesser : (o : Ordering) → IsTrue (is_lt o) → o ≡ Less
lesser Less t = refl
lesser Equal t = absurd (let g : false ≡ true = t in cc)
lesser Greater t = absurd (let g : false ≡ true = t in cc)

pub decided : (b : Bool) → (b ≡ false → IsTrue b) → IsTrue b
decided true other = refl
decided false other = other refl

-- A search of an index in order for these values has split its entries.
module _ (pages : Pages) (descends : List Bool) (values : Place → Row) (levels root : ℕ) (index : IsSearchableIndex pages descends values levels root)
    (wanted : Row) (before : Place → Bool) (is_before : (place : Place) → before place ≡ is_gt (key_cmp descends wanted (values place)))
    (front rest : List Place) (split : IsSplit IsAtPlace before pages Index (places_under pages Index levels root) front rest) where
  abbrev Holds : Type 0
  Holds = Contains (map values (places_under pages Index levels root)) wanted

  told : (answer : Bool) (place : Place) → IsCellThat IsAtPlace before pages Index answer place → before place ≡ answer
  told answer place cell =
      let e : cell.is.0 ≡ place = cell.is.1 in
      ap before (sym e) ∙ cell.is.2

  -- no entry with these values comes before them
  not_before : (place : Place) → values place ≡ wanted → before place ≡ true → ⊥
  not_before place same comes =
      let e : key_cmp descends wanted (values place) ≡ Equal = ap (λ (v : Row). key_cmp descends wanted v) same ∙ same_itself descends wanted in
      let f : false ≡ true = ap is_gt (sym e) ∙ sym (is_before place) ∙ comes in
      cc

  in_front : (place : Place) → Contains front place → values place ≡ wanted → ⊥
  in_front place h same = not_before place same (told true place (All-contains (IsCellThat IsAtPlace before pages Index true) front place split.come_before h))

  among : (place : Place) → Contains (places_under pages Index levels root) place → Contains (front ++ rest) place
  among place h = subst (λ (l : List Place). Contains l place) split.all_is h

  pub none_left : rest ≡ [] → ¬ Holds
  none_left none h =
      let at = from_map values wanted (places_under pages Index levels root) h in
      ⊎_elim
      (λ (here : Contains front at.0). in_front at.0 here at.2)
      (λ (there : Contains rest at.0). let n : Contains [] at.0 = subst (λ (l : List Place). Contains l at.0) none there in omega (arith, n.1))
      (Contains-append_cases front rest at.0 (among at.0 at.1))

  module _ (first : Place) (more : List Place) (begins : rest ≡ first ∷ more) where
    pub first_is : values first ≡ wanted → Holds
    first_is same =
        subst (λ (r : Row). Contains (map values (places_under pages Index levels root)) r) same
        (to_map values first (places_under pages Index levels root)
        (subst (λ (l : List Place). Contains l first) (ap (λ (l : List Place). front ++ l) (sym begins) ∙ sym split.all_is)
        (Contains-append_right front (first ∷ more) first (in_head first more))))

    -- it is an entry of the index, with the values of its place
    pub first_has : (cell : CellData) → IsEntryAt pages Index first cell → HasRecord pages cell (values first)
    first_has cell at =
        has_values pages descends values levels root index first cell
        (subst (λ (l : List Place). Contains l first) (ap (λ (l : List Place). front ++ l) (sym begins) ∙ sym split.all_is)
        (Contains-append_right front (first ∷ more) first (in_head first more))) at

    later : (place : Place) → Contains more place → values place ≡ wanted → ⊥
    later place h same =
        let ordered = entries_of pages (entry_order descends values) (strict pages descends values levels root index) root levels index.tree.shape index.order in
        let less : IsTrue (entry_order descends values first place) =
        after (λ a b. IsTrue (entry_order descends values a b)) front first more place
        (subst (λ (l : List Place). (i j : ℕ) (a b : Place) → i < j → slice_get l i ≡ Some a → slice_get l j ≡ Some b → IsTrue (entry_order descends values a b))
        (split.all_is ∙ ap (λ (l : List Place). front ++ l) begins) ordered.ascend) h in
        let behind : key_cmp descends wanted (values first) ≡ Greater =
        ap (λ (v : Row). key_cmp descends v (values first)) (sym same) ∙ reversed descends (values first) (values place) (lesser _ less) in
        let no : before first ≡ false =
        told false first (All-contains (IsCellThat IsAtPlace before pages Index false) rest first split.do_not (subst (λ (l : List Place). Contains l first) (sym begins) (in_head first more))) in
        let f : true ≡ false = ap is_gt (sym behind) ∙ sym (is_before first) ∙ no in
        cc

    pub first_is_other : (values first ≡ wanted → ⊥) → ¬ Holds
    first_is_other other h =
        let at = from_map values wanted (places_under pages Index levels root) h in
        ⊎_elim
        (λ (here : Contains front at.0). in_front at.0 here at.2)
        (λ (there : Contains rest at.0). ⊎_elim
        (λ (e : first ≡ at.0). other (ap values e ∙ at.2))
        (λ (behind : Contains more at.0). later at.0 behind at.2)
        (cons_cases first at.0 more (subst (λ (l : List Place). Contains l at.0) begins there)))
        (Contains-append_cases front rest at.0 (among at.0 at.1))
