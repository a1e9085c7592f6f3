-- Rows with the values of ORDER BY after their result columns.
use Rattle.std.proofs.Common.{◌≡◌, ◌∙◌, ◌+◌, ◌<◌, ◌^◌, ℕ, List, [], ◌∷◌, ◌++◌, append-nil, append_assoc, length, map, refl, sym, ap, subst, arith}
use Rattle.std.proofs.lemmas.List.{flat_map_more, length-append, length-map, map-append, map_push}
use Rattle.values.specs.Datum.{Datum}
use Rattle.values.specs.Row.{Row}
use Rattle.expr.specs.Meaning.{eval}
use Rattle.expr.specs.Term.{Term}
use Rattle.semantics.specs.Answer.{key_directions}
use Rattle.semantics.specs.Body.{key_value}
use Rattle.semantics.specs.Hits.{key_terms, order_terms}
use Rattle.semantics.specs.Query.{Key}
use Rattle.semantics.specs.Sequence.{value_at}
use Rattle.semantics.specs.Valuation.{term_values}
use Rattle.semantics.proofs.GroupLemmas.{map-map}
use Rattle.resolver_terms.specs.SelectView.{direction_of}
use Rattle.windows_groups.specs.Keys.{directions, key_values, result_key}
use Rattle.windows_groups.specs.declared.order.ResultKey.{ResultKey}
use Rattle.logical_plan.specs.answers.Permitted.{ArePlacesOf}
use Rattle.logical_plan_queries.specs.Places.{IsPlaceOf}

module _ (columns : List Term) where
  -- these are the places of some terms of ORDER BY, after whose values there may be others
  pub record PlacesOf (done : List Key) (places : List ResultKey) (next : ℕ) : Type 0 where
    pub next_is : next ≡ length columns + length (order_terms done)
    pub ways : directions places ≡ key_directions done
    pub values : (w : Datum) (row more : Row) → length (term_values (eval w) (columns ++ order_terms done) row ++ more) < 2 ^ 64
        → key_values places (term_values (eval w) (columns ++ order_terms done) row ++ more) ≡ map (key_value (eval w) (term_values (eval w) columns row) row) done

  pub PlacesOf-none : (next : ℕ) → next ≡ length columns → PlacesOf [] [] next
  PlacesOf-none next is = record { next_is = let none : length (order_terms []) ≡ 0 = refl in omega (arith, is, none); ways = refl; values = λ w row more short. refl }

  module _ (done : List Key) (places : List ResultKey) (next : ℕ) (before : PlacesOf done places next) (key : Key) (place : ResultKey)
      (way : direction_of place.direction ≡ key.direction) (is : IsPlaceOf key.by (length columns) next place.at) where
    -- the result columns and these terms, and then the next
    terms_more : columns ++ order_terms (done ++ key ∷ []) ≡ (columns ++ order_terms done) ++ key_terms key.by
    terms_more = sym (flat_map_more (λ (key : Key). key_terms key.by) columns done key)

    module _ (w : Datum) (row more : Row) where
      abbrev value : Term → Datum
      value t = eval w t row

      whole_more : term_values (eval w) (columns ++ order_terms (done ++ key ∷ [])) row ++ more
          ≡ map value (columns ++ order_terms done) ++ (map value (key_terms key.by) ++ more)
      whole_more =
          ap (λ (terms : List Term). map value terms ++ more) terms_more
          ∙ ap (λ values. values ++ more) (map-append value (columns ++ order_terms done) (key_terms key.by))
          ∙ append_assoc (map value (columns ++ order_terms done)) (map value (key_terms key.by)) more

      whole_parts : map value (columns ++ order_terms done) ++ (map value (key_terms key.by) ++ more)
          ≡ map value columns ++ (map value (order_terms done) ++ (map value (key_terms key.by) ++ more))
      whole_parts =
          ap (λ values. values ++ (map value (key_terms key.by) ++ more)) (map-append value columns (order_terms done))
          ∙ append_assoc (map value columns) (map value (order_terms done)) (map value (key_terms key.by) ++ more)

      module _ (short : length (term_values (eval w) (columns ++ order_terms (done ++ key ∷ [])) row ++ more) < 2 ^ 64) where
        values_before : key_values places (map value (columns ++ order_terms done) ++ (map value (key_terms key.by) ++ more))
            ≡ map (key_value (eval w) (map value columns) row) done
        values_before = before.values w row (map value (key_terms key.by) ++ more) (subst (λ (whole : Row). length whole < 2 ^ 64) whole_more short)

        value_here : value_at (map value (columns ++ order_terms done) ++ (map value (key_terms key.by) ++ more)) place.at
            ≡ key_value (eval w) (map value columns) row key
        value_here =
            let wide = length-map columns value in
            let after = length-map (order_terms done) value in
            let front = before.next_is in
            ap (λ (whole : Row). value_at whole place.at) whole_parts
            ∙ is w (map value columns) (map value (order_terms done)) more row key.direction wide (omega (arith, wide, after, front))
            (subst (λ (whole : Row). length whole < 2 ^ 64) (whole_more ∙ whole_parts) short)

        values_more : key_values (places ++ place ∷ []) (term_values (eval w) (columns ++ order_terms (done ++ key ∷ [])) row ++ more)
            ≡ map (key_value (eval w) (term_values (eval w) columns row) row) (done ++ key ∷ [])
        values_more =
            ap (key_values (places ++ place ∷ [])) whole_more
            ∙ map_push (λ (k : ResultKey). value_at (map value (columns ++ order_terms done) ++ (map value (key_terms key.by) ++ more)) k.at) places place
            ∙ (λ i. values_before i ++ value_here i ∷ [])
            ∙ sym (map_push (key_value (eval w) (map value columns) row) done key)

    pub PlacesOf-more : (then : ℕ) → then ≡ next + length (key_terms key.by) → PlacesOf (done ++ key ∷ []) (places ++ place ∷ []) then
    PlacesOf-more then goes_on = record {
      next_is =
          let long = ap length (sym (flat_map_more (λ (key : Key). key_terms key.by) [] done key)) in
          let parts = length-append (order_terms done) (key_terms key.by) in
          let front = before.next_is in
          omega (arith, goes_on, front, long, parts);
      ways =
          map_push (λ (k : ResultKey). direction_of k.direction) places place
          ∙ (λ i. before.ways i ++ way i ∷ [])
          ∙ sym (map_push (λ (k : Key). k.direction) done key);
      values = values_more;
    }

  -- after the last there is no other value
  pub PlacesOf-all : (order : List Key) (places : List ResultKey) (next : ℕ) → PlacesOf order places next → next < 2 ^ 64 → ArePlacesOf columns order (map result_key places)
  PlacesOf-all order places next all few = record {
    directions = map-map (λ (key : Key). key.direction) result_key places ∙ all.ways;
    values = λ w row.
        let whole = term_values (eval w) (columns ++ order_terms order) row in
        let none = append-nil whole in
        let long = length-map (columns ++ order_terms order) (λ t. eval w t row) in
        let parts = length-append columns (order_terms order) in
        let last = all.next_is in
        map-map (key_value (eval w) whole []) result_key places
        ∙ subst (λ (all : Row). key_values places all ≡ map (key_value (eval w) (term_values (eval w) columns row) row) order) none
        (all.values w row [] (subst (λ (whole : Row). length whole < 2 ^ 64) (sym none) (omega (arith, few, long, parts, last))));
  }
