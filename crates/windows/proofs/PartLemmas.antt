-- A call over one partition.
use Rattle.std.proofs.Common.{◌≡◌, ◌∙◌, ◌<◌, ◌++◌, ℕ, Any, List, [], ◌∷◌, get_or, length, map, Option, None, refl, sym, ap, subst, arith, IsPermutation}
use Rattle.std.proofs.lemmas.List.{get_or-map, get_or_default, length-map}
use Rattle.std.proofs.lemmas.List.Elements.{Contains-append_left, Contains-append_right}
use Rattle.std.proofs.lemmas.List.Sorted.{Contains-permutation, IsPermutation-map}
use Rattle.values.specs.Datum.{Datum, datum_of}
use Rattle.values.specs.Row.{Row}
use Rattle.expr.specs.Meaning.{eval}
use Rattle.semantics.specs.Hits.{CallLeaves}
use Rattle.semantics.specs.Query.{WindowCall}
use Rattle.semantics.specs.Windows.{numbered, places, sequence, window_result}
use Rattle.windows_groups.specs.declared.window_order.sorting.Entry.{Entry}
use Rattle.windows_groups.specs.window_order.Entries.{rows_of}
use Rattle.windows.specs.window_entries.Tags.{tags_of}
use Rattle.windows.specs.window_partitions.Partition.{IsPartition}
use Rattle.windows.specs.window_partitions.Tagged.{AreAlike, rows_of_tags}
use Rattle.windows.proofs.lemmas.window_partitions.AlikeLemmas.{rows-of_tags}
use Rattle.windows.specs.window_results.Put.{AreWanted}
use Rattle.windows.specs.Wanted.{wanted}
use Rattle.windows.proofs.NumberedLemmas.{length-numbered_after, some_place}
use Rattle.windows.proofs.WantedLemmas.{given_here, wanted_here}

-- ---- one of a list

pub any_weaker : {X : Type 0} (P Q : X → Type 0) (xs : List X) → ((x : X) → P x → Q x) → Any P xs → Any Q xs
any_weaker P Q xs weaker some = (some.0, some.1, some.2, some.3, weaker some.1 some.4)

pub any_left : {X : Type 0} (P : X → Type 0) (xs ys : List X) → Any P xs → Any P (xs ++ ys)
any_left P xs ys some = let held = Contains-append_left xs ys some.1 (some.0, some.2, some.3) in (held.0, some.1, held.1, held.2, some.4)

pub any_right : {X : Type 0} (P : X → Type 0) (xs ys : List X) → Any P ys → Any P (xs ++ ys)
any_right P xs ys some = let held = Contains-append_right xs ys some.1 (some.0, some.2, some.3) in (held.0, some.1, held.1, held.2, some.4)

pub any_permutation : {X : Type 0} (P : X → Type 0) (xs ys : List X) → IsPermutation xs ys → Any P xs → Any P ys
any_permutation P xs ys same some = let held = Contains-permutation xs ys some.1 same (some.0, some.2, some.3) in (held.0, some.1, held.1, held.2, some.4)

pub numbers-of_tags : (es : List Entry) → map (λ (t : Row × ℕ). t.1) (tags_of es) ≡ map (λ (e : Entry). e.index) es
numbers-of_tags [] = refl
numbers-of_tags (e ∷ es) = ap (λ l. e.index ∷ l) (numbers-of_tags es)

pub same_rows : (part placed : List Entry) → IsPermutation (tags_of part) (tags_of placed) → IsPermutation (rows_of part) (rows_of placed)
same_rows part placed same =
    subst (λ l. IsPermutation l (rows_of placed)) (rows-of_tags part)
    (subst (IsPermutation (rows_of_tags (tags_of part))) (rows-of_tags placed) (IsPermutation-map (λ (t : Row × ℕ). t.0) (tags_of part) (tags_of placed) same))

pub same_numbers : (part placed : List Entry) → IsPermutation (tags_of part) (tags_of placed) → IsPermutation (map (λ (t : Row × ℕ). t.1) (tags_of part)) (map (λ (e : Entry). e.index) placed)
same_numbers part placed same =
    subst (IsPermutation (map (λ (t : Row × ℕ). t.1) (tags_of part))) (numbers-of_tags placed) (IsPermutation-map (λ (t : Row × ℕ). t.1) (tags_of part) (tags_of placed) same)

-- ---- a partition and its sequence

module _ (w : Datum) (call : WindowCall) (rows : List Row) (part placed : List Entry) (is : IsPartition (eval w) call.window rows (tags_of part))
    (same : IsPermutation (tags_of part) (tags_of placed)) (alike : AreAlike (tags_of part) (tags_of placed))
    (in_order : rows_of placed ≡ sequence (eval w) call.window.order (rows_of part)) where
  order_of_tags : rows_of_tags (tags_of placed) ≡ sequence (eval w) call.window.order (rows_of_tags (tags_of part))
  order_of_tags = rows-of_tags placed ∙ in_order ∙ ap (sequence (eval w) call.window.order) (sym (rows-of_tags part))

  tag_at : (k : ℕ) → k < length (tags_of placed) → (t : Row × ℕ) × (get_or (tags_of placed) k t ≡ t) × (get_or (map (λ (e : Entry). e.index) placed) k 0 ≡ t.1)
  tag_at k inside =
      let t = get_or (tags_of placed) k ([], 0) in (
        t,
        get_or_default (tags_of placed) k t ([], 0) inside,
        ap (λ l. get_or l k 0) (sym (numbers-of_tags placed)) ∙ get_or-map (λ (t : Row × ℕ). t.1) (tags_of placed) k ([], 0) 0 inside,
      )

  wanted_at : (o : Option Datum) (k : ℕ) → k < length (tags_of placed)
      → wanted w o call rows (get_or (map (λ (e : Entry). e.index) placed) k 0) ≡ window_result (eval w) o call.window call.function (rows_of placed) k
  wanted_at o k inside =
      let t = tag_at k inside in
      ap (wanted w o call rows) t.2
      ∙ wanted_here (eval w) call rows (tags_of part) (tags_of placed) is same alike order_of_tags t.0 k inside t.1 o
      ∙ ap (λ l. window_result (eval w) o call.window call.function l k) (rows-of_tags placed)

  pub all_wanted : (o : Option Datum) → AreWanted (wanted w o call rows) (window_result (eval w) o call.window call.function (rows_of placed)) (map (λ (e : Entry). e.index) placed)
  all_wanted o k h =
      let size = length-map placed (λ (e : Entry). e.index) in
      let tag : Entry → Row × ℕ = λ e. (map datum_of e.row.now, e.index) in
      let long = length-map placed tag in
      wanted_at o k (omega (arith, h, size, long))

  -- where the number leaves 64 bits at a place, it does so on a row that is given
  pub leaves : Any (λ here. window_result (eval w) None call.window call.function (rows_of placed) here ≡ None) (places (rows_of placed)) → CallLeaves (eval w) rows call
  leaves some =
      let place = some_place (λ here. window_result (eval w) None call.window call.function (rows_of placed) here ≡ None) (rows_of placed) some in
      let size = length-map placed (λ (e : Entry). map datum_of e.row.now) in
      let tag : Entry → Row × ℕ = λ e. (map datum_of e.row.now, e.index) in
      let long = length-map placed tag in
      let inside : place.0 < length (tags_of placed) = omega (arith, place.1, size, long) in
      let t = tag_at place.0 inside in
      let given = given_here (eval w) call rows (tags_of part) (tags_of placed) is same alike order_of_tags t.0 place.0 inside t.1 in
      let all = length-numbered_after [] rows in
      let within : t.0.1 < length (numbered rows) = omega (arith, given.0, all) in
      let r = get_or (numbered rows) t.0.1 ([], 0) in (
        t.0.1,
        r,
        within,
        get_or_default (numbered rows) t.0.1 r ([], 0) within,
        ap (wanted w None call rows) (sym t.2) ∙ wanted_at None place.0 inside ∙ place.2,
      )
