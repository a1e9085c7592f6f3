-- The rows of a partition in the order of a call's window.
use Rattle.std.proofs.Common.{◌≡◌, ◌∙◌, ◌<◌, ◌++◌, ℕ, All, Any, List, [], ◌∷◌, map, Option, Some, refl, sym, ap, subst, IsPermutation}
use Rattle.std.proofs.lemmas.List.Elements.{All-map}
use Rattle.std.proofs.lemmas.List.Sorted.{All-permutation, IsPermutation-sym}
use Rattle.values.specs.Datum.{Datum}
use Rattle.values.specs.Row.{Row}
use Rattle.expr.specs.Meaning.{Overflows, eval}
use Rattle.expr.specs.Term.{Term}
use Rattle.expr.specs.View.{term}
use Rattle.resolver_terms.specs.declared.selects.SortTerm.{SortTerm as Sort}
use Rattle.semantics.specs.Hits.{call_terms, function_terms}
use Rattle.semantics.specs.Sequence.{value_at}
use Rattle.semantics.specs.Valuation.{term_values}
use Rattle.semantics.specs.Windows.{sequence, sort_values}
use Rattle.resolver_terms.specs.SelectView.{call_of, function_of, sort_of, window_of}
use Rattle.windows_groups.specs.declared.window_order.sorting.Entry.{Entry}
use Rattle.windows_groups.specs.window_order.Entries.{keys_of, rows_of}
use Rattle.windows.specs.window_entries.Tags.{tags_of}
use Rattle.windows.specs.window_partitions.Tagged.{AreAlike, terms_of}
use Rattle.windows.proofs.lemmas.window_partitions.AlikeLemmas.{sort_values-as_terms}
use Rattle.windows.specs.window_results.Put.{PutsEach}
use Rattle.resolver_terms.specs.declared.selects.WindowCall.{WindowCall}
use Rattle.windows.proofs.PartLemmas.{any_left, any_permutation, any_right, any_weaker, same_numbers, same_rows}

-- what is known of rows that are put in order
pub record IsOrdered (order : List Sort) (part placed : List Entry) : Type 0 where
  pub same : IsPermutation (tags_of part) (tags_of placed)
  pub alike : AreAlike (tags_of part) (tags_of placed)
  pub keys : (w : Datum) → keys_of placed ≡ map (term_values (eval w) (terms_of (map sort_of order))) (rows_of placed)
  pub in_order : (w : Datum) → rows_of placed ≡ sequence (eval w) (map sort_of order) (rows_of part)

pub ordered_same : (order order' : List Sort) (part placed placed' : List Entry) → order ≡ order' → placed ≡ placed' → IsOrdered order part placed → IsOrdered order' part placed'
ordered_same order order' part placed placed' p r of =
    subst (λ (l : List Entry). IsOrdered order' part l) r (subst (λ (l : List Sort). IsOrdered l part placed) p of)

map_agree : {X Y : Type 0} (f g : X → Y) → ((x : X) → f x ≡ g x) → (xs : List X) → map f xs ≡ map g xs
map_agree f g each [] = refl
map_agree f g each (x ∷ xs) = (λ i. each x i ∷ map_agree f g each xs i)

module _ (call : WindowCall) where
  -- a term of ORDER BY on one of the rows
  pub reached_by_order : (order : List Sort) (rows : List Row) → order ≡ call.window.order.items → Any (λ row. Any (λ t. Overflows t row) (terms_of (map sort_of order))) rows
      → Any (λ row. Any (λ t. Overflows t row) (call_terms (call_of call))) rows
  reached_by_order order rows is some =
      any_weaker (λ row. Any (λ t. Overflows t row) (terms_of (map sort_of order))) (λ row. Any (λ t. Overflows t row) (call_terms (call_of call))) rows
      (λ row one.
      any_left (λ t. Overflows t row) ((window_of call.window).partition ++ terms_of (window_of call.window).order) (function_terms (function_of call.function))
      (any_right (λ t. Overflows t row) (window_of call.window).partition (terms_of (window_of call.window).order)
      (subst (λ (ts : List Term). Any (λ t. Overflows t row) ts) (ap (λ sorts. terms_of (map sort_of sorts)) is) one))) some

  pub reached_by_partition : (rows : List Row) → Any (λ row. Any (λ t. Overflows t row) (map term call.window.partition.items)) rows
      → Any (λ row. Any (λ t. Overflows t row) (call_terms (call_of call))) rows
  reached_by_partition rows some =
      any_weaker (λ row. Any (λ t. Overflows t row) (map term call.window.partition.items)) (λ row. Any (λ t. Overflows t row) (call_terms (call_of call))) rows
      (λ row one.
      any_left (λ t. Overflows t row) ((window_of call.window).partition ++ terms_of (window_of call.window).order) (function_terms (function_of call.function))
      (any_left (λ t. Overflows t row) (window_of call.window).partition (terms_of (window_of call.window).order) one)) some

  module _ (part placed : List Entry) (of : IsOrdered call.window.order.items part placed) where
    pub keys_agree : (w : Datum) → keys_of placed ≡ map (sort_values (eval w) (window_of call.window).order) (rows_of placed)
    keys_agree w =
        of.keys w
        ∙ map_agree (term_values (eval w) (terms_of (window_of call.window).order)) (sort_values (eval w) (window_of call.window).order)
        (λ row. sym (sort_values-as_terms (eval w) (window_of call.window).order (terms_of (window_of call.window).order) refl row)) (rows_of placed)

    pub is_sequence : (w : Datum) → rows_of placed ≡ sequence (eval w) (window_of call.window).order (rows_of part)
    is_sequence w = of.in_order w

    -- an argument of the function on one of the rows
    pub reached_by_function : Any (λ row. Any (λ t. Overflows t row) (function_terms (function_of call.function))) (rows_of placed)
        → Any (λ row. Any (λ t. Overflows t row) (call_terms (call_of call))) (rows_of part)
    reached_by_function some =
        any_permutation (λ row. Any (λ t. Overflows t row) (call_terms (call_of call))) (rows_of placed) (rows_of part)
        (IsPermutation-sym (rows_of part) (rows_of placed) (same_rows part placed of.same))
        (any_weaker (λ row. Any (λ t. Overflows t row) (function_terms (function_of call.function))) (λ row. Any (λ t. Overflows t row) (call_terms (call_of call))) (rows_of placed)
        (λ row one. any_right (λ t. Overflows t row) ((window_of call.window).partition ++ terms_of (window_of call.window).order) (function_terms (function_of call.function)) one) some)

    pub put_on_rows : (want : ℕ → Option Datum) (before after : List Datum) → PutsEach want (map (λ (e : Entry). e.index) placed) before after
        → PutsEach want (map (λ (t : Row × ℕ). t.1) (tags_of part)) before after
    put_on_rows want before after puts = record {
      kept = puts.kept;
      put = All-permutation (λ i. want i ≡ Some (value_at after i)) (map (λ (e : Entry). e.index) placed) (map (λ (t : Row × ℕ). t.1) (tags_of part))
          (IsPermutation-sym (map (λ (t : Row × ℕ). t.1) (tags_of part)) (map (λ (e : Entry). e.index) placed) (same_numbers part placed of.same)) puts.put;
    }

    pub numbers_within : (size : ℕ) → All (λ (t : Row × ℕ). t.1 < size) (tags_of part) → All (λ i. i < size) (map (λ (e : Entry). e.index) placed)
    numbers_within size all =
        All-permutation (λ i. i < size) (map (λ (t : Row × ℕ). t.1) (tags_of part)) (map (λ (e : Entry). e.index) placed) (same_numbers part placed of.same)
        (All-map (λ i. i < size) (λ (t : Row × ℕ). t.1) (tags_of part) all)
