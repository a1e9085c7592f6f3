-- All partitions, one behind the other.
use Rattle.std.proofs.Common.{◌≡◌, ◌∙◌, ◌+◌, ◌-◌, ◌<◌, ◌≤◌, ◌⊎◌, inl, inr, ℕ, zero, suc, All, Any, List, [], drop, get_or, length, map, slice_index, slice_range, take, Option, Some, unwrap_or, sym, ap, subst, arith}
use Rattle.std.proofs.lemmas.List.{drop-map, ext_get_or, get_or-drop, get_or-map, get_or-take, get_or_default, length-drop, length-map, length-take, take-map}
use Rattle.std.proofs.lemmas.List.Elements.{All-contains, All-weaker}
use Rattle.values.specs.Datum.{Datum, datum_of, null}
use Rattle.values.specs.Row.{Row}
use Rattle.expr.specs.Meaning.{eval}
use Rattle.semantics.specs.Query.{Window, WindowCall}
use Rattle.semantics.specs.Sequence.{value_at}
use Rattle.semantics.specs.Valuation.{Valuation}
use Rattle.semantics.specs.Windows.{call_value, numbered, row_at}
use Rattle.windows_groups.specs.declared.window_order.sorting.Entry.{Entry}
use Rattle.windows_groups.specs.window_order.Entries.{rows_of}
use Rattle.windows.specs.window_entries.Tags.{tags_of}
use Rattle.windows.specs.window_partitions.Partition.{ArePartitions, IsPartition, part_at}
use Rattle.windows.proofs.lemmas.window_partitions.AlikeLemmas.{rows-of_tags}
use Rattle.windows.proofs.lemmas.window_partitions.PartLemmas.{length-slice}
use Rattle.windows.specs.window_results.Put.{PutsEach}
use Rattle.windows.specs.Wanted.{column_of, wanted}
use Rattle.windows.proofs.NumberedLemmas.{length-numbered_after}

-- ---- stretches

pub tags-slice : (es : List Entry) (a b : ℕ) → tags_of (slice_range es a b) ≡ slice_range (tags_of es) a b
tags-slice es a b =
    let tag : Entry → Row × ℕ = λ e. (map datum_of e.row.now, e.index) in
    sym (take-map tag (b - a) (drop a es)) ∙ ap (take (b - a)) (sym (drop-map tag a es))

-- what holds of all holds of a stretch
pub All-slice : {X : Type 0} (P : X → Type 0) (xs : List X) (a b : ℕ) → All P xs → All P (slice_range xs a b)
All-slice P xs a b all i d h =
    let long = length-take (b - a) (drop a xs) in
    let rest = length-drop a xs in
    subst P (sym (get_or-take (b - a) (drop a xs) i d (omega (arith, h, long)) ∙ get_or-drop a xs i d)) (all (a + i) d (omega (arith, h, long, rest)))

pub Any-slice : {X : Type 0} (P : X → Type 0) (xs : List X) (a b : ℕ) → Any P (slice_range xs a b) → Any P xs
Any-slice P xs a b some =
    let inside = some.2 in
    let long = length-take (b - a) (drop a xs) in
    let rest = length-drop a xs in (
      a + some.0,
      some.1,
      omega (arith, inside, long, rest),
      sym (get_or-take (b - a) (drop a xs) some.0 some.1 (omega (arith, inside, long)) ∙ get_or-drop a xs some.0 some.1) ∙ some.3,
      some.4,
    )

pub rows-slice : (es : List Entry) (a b : ℕ) → rows_of (slice_range es a b) ≡ slice_range (rows_of es) a b
rows-slice es a b =
    let row : Entry → Row = λ e. map datum_of e.row.now in
    sym (take-map row (b - a) (drop a es)) ∙ ap (take (b - a)) (sym (drop-map row a es))

-- one of the rows of entries is one of those that are given
pub rows_given : (P : Row → Type 0) (es : List Entry) (rows : List Row) → All (λ (t : Row × ℕ). (t.1 < length rows) × (row_at rows t.1 ≡ t.0)) (tags_of es) → Any P (rows_of es) → Any P rows
rows_given P es rows given some =
    let k = some.0 in
    let x = some.1 in
    let size = length-map es (λ (e : Entry). map datum_of e.row.now) in
    let tag : Entry → Row × ℕ = λ e. (map datum_of e.row.now, e.index) in
    let long = length-map es tag in
    let inside : k < length (tags_of es) = omega (arith, some.2, size, long) in
    let t = get_or (tags_of es) k (x, 0) in
    let at = given k (x, 0) inside in
    let is : t.0 ≡ x = sym (get_or-map (λ (t : Row × ℕ). t.0) (tags_of es) k (x, 0) x inside) ∙ ap (λ l. get_or l k x) (rows-of_tags es) ∙ some.3 in
    (t.1, x, at.0, get_or_default rows t.1 x [] at.0 ∙ at.1 ∙ is, some.4)

-- ---- the part before a start

pub tags_before : (es given : List Entry) (starts begins : List ℕ) (number : ℕ) → given ≡ es → begins ≡ starts
    → tags_of (slice_range given (slice_index begins (number - 1)) (slice_index begins number)) ≡ slice_range (tags_of es) (slice_index starts (number - 1)) (slice_index starts number)
tags_before es given starts begins number p q =
    tags-slice given (slice_index begins (number - 1)) (slice_index begins number)
    ∙ (λ i. slice_range (tags_of (p i)) (slice_index (q i) (number - 1)) (slice_index (q i) number))

pub rows_before : (P : Row → Type 0) (es given : List Entry) (a b : ℕ) → given ≡ es → Any P (rows_of (slice_range given a b)) → Any P (rows_of es)
rows_before P es given a b is some =
    Any-slice P (rows_of es) a b (subst (λ (l : List Row). Any P l) (rows-slice given a b ∙ ap (λ l. slice_range (rows_of l) a b) is) some)

pub part_before : (value : Valuation) (window : Window) (rows : List Row) (tags part : List (Row × ℕ)) (starts : List ℕ) (number : ℕ) → ArePartitions value window rows tags starts
    → 1 ≤ number → number < length starts → part ≡ slice_range tags (slice_index starts (number - 1)) (slice_index starts number) → IsPartition value window rows part
part_before value window rows tags part starts number are some inside is =
    let next : number - 1 + 1 ≡ number = omega (arith, some) in
    subst (IsPartition value window rows) (ap (λ n. slice_range tags (slice_index starts (number - 1)) (slice_index starts n)) next ∙ sym is) (are.each (number - 1) (omega (arith, some, inside)))

-- ---- how many values were added to totals

-- where no more are added than a part has rows, no more were added than there are rows before its end
pub added_before : (es given : List Entry) (starts begins : List ℕ) (number added more : ℕ) → given ≡ es → begins ≡ starts
    → slice_index starts (number - 1) ≤ slice_index starts number → slice_index starts number ≤ length es → added ≤ slice_index starts (number - 1)
    → more ≤ length (slice_range given (slice_index begins (number - 1)) (slice_index begins number)) → added + more ≤ slice_index starts number
added_before es given starts begins number added more p q rises within before few =
    let part = slice_range es (slice_index starts (number - 1)) (slice_index starts number) in
    let same : slice_range given (slice_index begins (number - 1)) (slice_index begins number) ≡ part = (λ i. slice_range (p i) (slice_index (q i) (number - 1)) (slice_index (q i) number)) in
    let size = length-slice es (slice_index starts (number - 1)) (slice_index starts number) rises within in
    let here : more ≤ length part = subst (λ (l : List Entry). more ≤ length l) same few in
    omega (arith, rises, before, size, here)

-- ---- one part more

last_or_before : (k n : ℕ) → k < n + 1 → (k < n) ⊎ (n ≡ k)
last_or_before zero zero h = inr (omega arith)
last_or_before zero (suc n) h = inl (omega arith)
last_or_before (suc k) zero h = absurd (omega (arith, h))
last_or_before (suc k) (suc n) h = elim (last_or_before k n (omega (arith, h))) [ inl p ↦ inl (omega (arith, p)) | inr p ↦ inr (omega (arith, p)) ]

module _ (want : ℕ → Option Datum) (tags : List (Row × ℕ)) (starts : List ℕ) (before after : List Datum) where
  pub one_part_more : (number : ℕ) (part : List (Row × ℕ)) → 1 ≤ number → part ≡ slice_range tags (slice_index starts (number - 1)) (slice_index starts number)
      → PutsEach want (map (λ (t : Row × ℕ). t.1) part) before after
      → ((g : ℕ) → g + 1 < number → g + 1 < length starts → All (λ i. want i ≡ Some (value_at before i)) (map (λ (t : Row × ℕ). t.1) (part_at tags starts g)))
      → (g : ℕ) → g + 1 < number + 1 → g + 1 < length starts → All (λ i. want i ≡ Some (value_at after i)) (map (λ (t : Row × ℕ). t.1) (part_at tags starts g))
  one_part_more number part some is puts so_far g low high = elim (last_or_before (g + 1) number low) [
    | inl h ↦ All-weaker (λ i. want i ≡ Some (value_at before i)) (λ i. want i ≡ Some (value_at after i)) puts.kept (map (λ (t : Row × ℕ). t.1) (part_at tags starts g)) (so_far g h high)
    | inr same ↦
        let first : number - 1 ≡ g = omega (arith, same) in
        let here : part ≡ part_at tags starts g = is ∙ (λ j. slice_range tags (slice_index starts (first j)) (slice_index starts (same j))) in
        subst (λ (l : List (Row × ℕ)). All (λ i. want i ≡ Some (value_at after i)) (map (λ (t : Row × ℕ). t.1) l)) here puts.put
  ]

-- ---- the values of all rows

module _ (w : Datum) (call : WindowCall) (rows : List Row) (tags : List (Row × ℕ)) (starts : List ℕ) (values : List Datum) (are : ArePartitions (eval w) call.window rows tags starts)
    (right : (g : ℕ) → g + 1 < length starts → All (λ i. wanted w (Some w) call rows i ≡ Some (value_at values i)) (map (λ (t : Row × ℕ). t.1) (part_at tags starts g))) where
  right_at : (i : ℕ) → i < length rows → wanted w (Some w) call rows i ≡ Some (value_at values i)
  right_at i h =
      let place = are.all i h in
      All-contains (λ i. wanted w (Some w) call rows i ≡ Some (value_at values i)) (map (λ (t : Row × ℕ). t.1) (part_at tags starts place.0)) i (right place.0 place.1) place.2

  pub all_values : length values ≡ length rows → values ≡ column_of w rows call
  all_values size =
      let all = length-numbered_after [] rows in
      let made = length-map (numbered rows) (λ (r : Row × ℕ). call_value (eval w) w rows r call) in
      ext_get_or null values (map (λ r. call_value (eval w) w rows r call) (numbered rows)) (omega (arith, size, all, made))
      (λ i h.
      sym (ap (λ o. unwrap_or o null) (right_at i (omega (arith, h, size))))
      ∙ sym (get_or-map (λ (r : Row × ℕ). call_value (eval w) w rows r call) (numbered rows) i ([], 0) null (omega (arith, h, size, all))))
