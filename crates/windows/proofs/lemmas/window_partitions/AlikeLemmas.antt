-- Of rows that are put in order, equal ones stand as they did.
use Rattle.std.proofs.Common.{◌≡◌, ◌∙◌, ◌<◌, ℕ, Bool, true, false, cond, not, ◌&&◌, All, Ordering, Less, Equal, Greater, List, [], ◌∷◌, filter, get_or, length, map, refl, sym, ap, arith, IsPermutation}
use Rattle.std.specs.Cmp.{tied_itself}
use Rattle.std.specs.List.Sorted.{IsStableByKey, ties}
use Rattle.std.specs.Ordering.{is_eq, is_lt, ordering_reverse, ordering_then}
use Rattle.std.proofs.lemmas.List.{get_or-map, length-map}
use Rattle.std.proofs.lemmas.List.Elements.{All-map, All-tail}
use Rattle.std.proofs.lemmas.List.Sorted.{All-permutation, length_permutation}
use Rattle.values.specs.Datum.{datum_of}
use Rattle.values.specs.Order.{row_cmp}
use Rattle.values.specs.Row.{Row}
use Rattle.expr.specs.Term.{Term}
use Rattle.semantics.specs.Query.{Direction, SortTerm}
use Rattle.semantics.specs.Sequence.{keys_cmp}
use Rattle.semantics.specs.Times.{same_row}
use Rattle.semantics.specs.Valuation.{Valuation, term_values}
use Rattle.semantics.specs.Windows.{row_at, sort_values}
use Rattle.semantics.proofs.KeyLemmas.{keys_cmp_total}
use Rattle.semantics.proofs.TimesLemmas.{same_row-reads}
use Rattle.windows_groups.specs.declared.window_order.sorting.Entry.{Entry}
use Rattle.windows_groups.specs.window_order.Entries.{IsOf, Keyed, entry_cmp, keys_of, rows_of, view}
use Rattle.windows_groups.proofs.lemmas.window_order.EntryLemmas.{key_at, row_of_at}
use Rattle.windows_groups.proofs.lemmas.window_order.SortLemmas.{entry_total}
use Rattle.windows.specs.window_entries.Tags.{tags_of}
use Rattle.windows.specs.window_partitions.Tagged.{AreAlike, copies, rows_of_tags, terms_of}

pub filter-map : {A B : Type 0} (p : B → Bool) (f : A → B) (xs : List A) → filter p (map f xs) ≡ map f (filter (λ x. p (f x)) xs)
filter-map p f [] = refl
filter-map p f (x ∷ xs) =
    elim (p (f x)) as (λ b. cond b (f x ∷ filter p (map f xs)) (filter p (map f xs)) ≡ map f (cond b (x ∷ filter (λ x. p (f x)) xs) (filter (λ x. p (f x)) xs)))
    [ true ↦ ap (λ rest. f x ∷ rest) (filter-map p f xs) | false ↦ filter-map p f xs ]

pub agree_on : {X : Type 0} (p q : X → Bool) (xs : List X) → All (λ x. p x ≡ q x) xs → filter p xs ≡ filter q xs
agree_on p q [] all = refl
agree_on p q (x ∷ xs) all = rw (all 0 x (omega arith), agree_on p q xs (All-tail (λ x. p x ≡ q x) x xs all)) refl

-- ---- entries that tie

either_tie : (c : Ordering) → (not (is_lt c) && not (is_lt (ordering_reverse c))) ≡ is_eq c
either_tie Less = refl
either_tie Equal = refl
either_tie Greater = refl

then_differs : (a b : Ordering) → is_eq b ≡ false → is_eq (ordering_then a b) ≡ false
then_differs Less b e = refl
then_differs Equal b e = e
then_differs Greater b e = refl

module _ (ds : List Direction) (K : Row → Row) where
  -- the keys are these of the row
  abbrev pub IsKeyed : Entry → Type 0
  IsKeyed e = (view e).keys ≡ K (view e).row

  is_tie : (a b : Keyed) → a.keys ≡ K a.row → b.keys ≡ K b.row → is_eq (entry_cmp ds a b) ≡ same_row a.row b.row
  is_tie a b of_a of_b =
      elim (same_row a.row b.row) as (λ s. same_row a.row b.row ≡ s → is_eq (entry_cmp ds a b) ≡ s) [
        | true ↦ λ e.
            let keys : a.keys ≡ b.keys = of_a ∙ ap K (same_row-reads a.row b.row e) ∙ sym of_b in
            let tie : keys_cmp ds a.keys b.keys ≡ Equal = ap (λ k. keys_cmp ds k b.keys) keys ∙ tied_itself (keys_cmp_total ds) b.keys in
            ap (λ o. is_eq (ordering_then o (row_cmp a.row b.row))) tie ∙ e
        | false ↦ λ e. then_differs (keys_cmp ds a.keys b.keys) (row_cmp a.row b.row) e
      ] refl

  tie_as_row : (x y : Entry) → IsKeyed x → IsKeyed y → ties (λ a b. is_lt (entry_cmp ds (view a) (view b))) x y ≡ same_row (view x).row (view y).row
  tie_as_row x y of_x of_y =
      ap (λ o. not (is_lt (entry_cmp ds (view x) (view y))) && not (is_lt o)) ((entry_total ds).antisymm (view y) (view x))
      ∙ either_tie (entry_cmp ds (view x) (view y)) ∙ is_tie (view x) (view y) of_x of_y

  copies_as_ties : (x : Entry) (xs : List Entry) → IsKeyed x → All IsKeyed xs
      → copies (view x).row (tags_of xs) ≡ map (λ (e : Entry). (map datum_of e.row.now, e.index)) (filter (ties (λ a b. is_lt (entry_cmp ds (view a) (view b))) x) xs)
  copies_as_ties x xs of_x all =
      filter-map (λ (t : Row × ℕ). same_row (view x).row t.0) (λ (e : Entry). (map datum_of e.row.now, e.index)) xs
      ∙ ap (map (λ (e : Entry). (map datum_of e.row.now, e.index)))
      (agree_on (λ (e : Entry). same_row (view x).row (view e).row) (ties (λ a b. is_lt (entry_cmp ds (view a) (view b))) x) xs
      (λ i d h. sym (tie_as_row x (get_or xs i d) of_x (all i d h))))

  pub alike : (before after : List Entry) → IsPermutation before after → IsStableByKey view (entry_cmp ds) before after → All IsKeyed before
      → AreAlike (tags_of before) (tags_of after)
  alike before after same stable all =
      let all_after = All-permutation IsKeyed before after same all in
      All-map (λ (t : Row × ℕ). copies t.0 (tags_of after) ≡ copies t.0 (tags_of before)) (λ (e : Entry). (map datum_of e.row.now, e.index)) after
      (λ i d h.
      let x = get_or after i d in
      copies_as_ties x after (all_after i d h) all_after
      ∙ ap (map (λ (e : Entry). (map datum_of e.row.now, e.index))) (stable x)
      ∙ sym (copies_as_ties x before (all_after i d h) all))

  -- ---- keys of all

  pub all_keyed : (es : List Entry) → keys_of es ≡ map K (rows_of es) → All IsKeyed es
  all_keyed es is i d h =
      let size = length-map es (λ (e : Entry). map datum_of e.row.now) in
      let inside : i < length (rows_of es) = omega (arith, h, size) in
      sym (key_at es i d h) ∙ ap (λ l. row_at l i) is ∙ get_or-map K (rows_of es) i [] [] inside ∙ ap K (row_of_at es i d [] h)

  pub keys_from_all : (es : List Entry) → All IsKeyed es → keys_of es ≡ map K (rows_of es)
  keys_from_all [] all = refl
  keys_from_all (e ∷ es) all = (λ i. all 0 e (omega arith) i ∷ keys_from_all es (All-tail IsKeyed e es all) i)

pub rows-of_tags : (es : List Entry) → rows_of_tags (tags_of es) ≡ rows_of es
rows-of_tags [] = refl
rows-of_tags (e ∷ es) = ap (λ l. map datum_of e.row.now ∷ l) (rows-of_tags es)

pub as_many_entries : (given placed : List Entry) → IsPermutation (tags_of given) (tags_of placed) → length placed ≡ length given
as_many_entries given placed same =
    let tag : Entry → Row × ℕ = λ e. (map datum_of e.row.now, e.index) in
    sym (length-map placed tag) ∙ length_permutation (tags_of given) (tags_of placed) same ∙ length-map given tag

pub sort_values-as_terms : (value : Valuation) (order : List SortTerm) (ts : List Term) → terms_of order ≡ ts → (row : Row) → sort_values value order row ≡ term_values value ts row
sort_values-as_terms value order ts is row = twice order ∙ ap (map (λ t. value t row)) is
  where
    twice : (order : List SortTerm) → map (λ (s : SortTerm). value s.term row) order ≡ map (λ t. value t row) (map (λ (s : SortTerm). s.term) order)
    twice [] = refl
    twice (s ∷ order) = ap (λ l. value s.term row ∷ l) (twice order)

pub all_of : (value : Valuation) (order : List SortTerm) (ts : List Term) (es : List Entry) → terms_of order ≡ ts → All (IsKeyed [] (term_values value ts)) es → All (IsOf value order) es
all_of value order ts es is all i d h = all i d h ∙ sym (sort_values-as_terms value order ts is (view (get_or es i d)).row)

pub all_long : (value : Valuation) (ts : List Term) (n : ℕ) (es : List Entry) → length ts ≡ n → All (IsKeyed [] (term_values value ts)) es → All (λ (e : Entry). length e.keys.items ≡ n) es
all_long value ts n es is all i d h =
    sym (length-map (get_or es i d).keys.items datum_of) ∙ ap length (all i d h) ∙ length-map ts (λ t. value t (view (get_or es i d)).row) ∙ is
