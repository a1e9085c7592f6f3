-- The aggregates of a group, one after the other.
use Rattle.std.proofs.Common.{◌≡◌, ◌∙◌, ◌<◌, ℕ, zero, suc, not, List, [], ◌∷◌, ◌++◌, append_assoc, drop, filter, get_or, length, map, set, take, Some, unwrap_or, refl, sym, ap, arith}
use Rattle.std.proofs.lemmas.List.{map-append}
use Rattle.std.proofs.lemmas.List.Elements.{filter-append}
use Rattle.values.specs.Datum.{Datum, datum_of, null}
use Rattle.values.specs.Row.{Row}
use Rattle.values.specs.declared.value.Value.{Value}
use Rattle.expr.specs.Meaning.{eval}
use Rattle.expr.specs.operations.Operations.{is_null}
use Rattle.semantics.specs.Groups.{aggregate_value, measure, taken_values}
use Rattle.semantics.specs.Query.{Aggregate, AggregateFunction}
use Rattle.windows_groups.specs.declared.aggregates.accumulator.Accumulator.{Accumulator}
use Rattle.windows_groups.specs.aggregates.State.{State, state_after, state_of, states_after, taken}

module _ (w : Datum) (rows : List Row) where
  -- ---- one of the aggregates

  -- the aggregate that a state is of
  pub record IsOf (asked : List Aggregate) (at : ℕ) (state : State) : Type 0 where
    pub aggregate : Aggregate
    pub is : state ≡ state_after aggregate.function (taken_values (eval w) aggregate rows)
    pub next : take (suc at) asked ≡ take at asked ++ aggregate ∷ []
    pub within : at < length asked
    pub here : get_or asked at aggregate ≡ aggregate

  pub state_at : (states : List Accumulator) (asked : List Aggregate) (at : ℕ) (state : Accumulator)
      → at < length states → state ≡ get_or states at state → map state_of states ≡ states_after w asked rows
      → IsOf asked at (state_of state)
  state_at [] asked at state within is same = absurd (omega arith)
  state_at (s ∷ states) [] at state within is same = absurd cc
  state_at (s ∷ states) (a ∷ asked) zero state within is same = record {
    aggregate = a;
    is = ap state_of is ∙ cc;
    next = refl;
    within = omega arith;
    here = refl;
  }
  state_at (s ∷ states) (a ∷ asked) (suc at) state within is same =
      let ih = state_at states asked at state (omega arith) is cc in
      let inside = ih.within in
      record {
        aggregate = ih.aggregate;
        is = ih.is;
        next = ap (λ rest. a ∷ rest) ih.next;
        within = omega arith;
        here = ih.here;
      }

  -- a value more is put behind the others
  pub value_pushed : (start : Row) (old new : List Value) (asked : List Aggregate) (at : ℕ) (value : Value) (a : Aggregate)
      → new ≡ old ++ value ∷ [] → take (suc at) asked ≡ take at asked ++ a ∷ []
      → measure (Some w) a.function (taken_values (eval w) a rows) ≡ Some (datum_of value)
      → map datum_of old ≡ start ++ map (aggregate_value (eval w) w rows) (take at asked)
      → map datum_of new ≡ start ++ map (aggregate_value (eval w) w rows) (take (suc at) asked)
  value_pushed start old new asked at value a pushed next is before =
      let value_of = aggregate_value (eval w) w rows in
      let last : value_of a ≡ datum_of value = ap (λ m. unwrap_or m null) is in
      ap (map datum_of) pushed ∙ map-append datum_of old (value ∷ [])
      ∙ ap (λ front. front ++ datum_of value ∷ []) before ∙ append_assoc start (map value_of (take at asked)) (datum_of value ∷ [])
      ∙ ap (λ rest. start ++ rest) (ap (λ d. map value_of (take at asked) ++ d ∷ []) (sym last) ∙ sym (map-append value_of (take at asked) (a ∷ [])) ∙ ap (map value_of) (sym next))

  -- ---- a row more

  module _ (row : Row) where
    taken_more : (a : Aggregate) → taken_values (eval w) a (rows ++ row ∷ []) ≡ taken_values (eval w) a rows ++ taken (eval w a.argument row)
    taken_more a =
        ap (filter (λ v. not (is_null v))) (map-append (eval w a.argument) rows (row ∷ []))
        ∙ filter-append (λ v. not (is_null v)) (map (eval w a.argument) rows) (eval w a.argument row ∷ [])

    pub state_added : (states : List Accumulator) (asked : List Aggregate) (at : ℕ) (a : Aggregate) (old new : Accumulator)
        → at < length asked → a ≡ get_or asked at a → old ≡ get_or states at old
        → map state_of states ≡ states_after w (take at asked) (rows ++ row ∷ []) ++ states_after w (drop at asked) rows
        → ((f : AggregateFunction) (values : List Datum) → state_of old ≡ state_after f values → state_of new ≡ state_after f (values ++ taken (eval w a.argument row)))
        → map state_of (set states at new) ≡ states_after w (take (suc at) asked) (rows ++ row ∷ []) ++ states_after w (drop (suc at) asked) rows
    state_added [] [] at a old new within here is before adds = absurd (omega arith)
    state_added (s ∷ states) [] at a old new within here is before adds = absurd (omega arith)
    state_added [] (b ∷ asked) zero a old new within here is before adds = absurd cc
    state_added [] (b ∷ asked) (suc at) a old new within here is before adds = absurd cc
    state_added (s ∷ states) (b ∷ asked) zero a old new within here is before adds =
        let taken_here = taken_values (eval w) b rows in
        let was : state_of old ≡ state_after b.function taken_here = ap state_of is ∙ cc in
        let now : state_of new ≡ state_after b.function (taken_here ++ taken (eval w b.argument row)) =
        adds b.function taken_here was ∙ ap (λ (x : Aggregate). state_after b.function (taken_here ++ taken (eval w x.argument row))) here in
        let rest : map state_of states ≡ states_after w asked rows = cc in
        ap (λ first. first ∷ map state_of states) (now ∙ ap (state_after b.function) (sym (taken_more b)))
        ∙ ap (λ others. state_after b.function (taken_values (eval w) b (rows ++ row ∷ [])) ∷ others) rest
    state_added (s ∷ states) (b ∷ asked) (suc at) a old new within here is before adds =
        let first : state_of s ≡ state_after b.function (taken_values (eval w) b (rows ++ row ∷ [])) = cc in
        let others : map state_of states ≡ states_after w (take at asked) (rows ++ row ∷ []) ++ states_after w (drop at asked) rows = cc in
        let ih = state_added states asked at a old new (omega arith) here is others adds in
        ap (λ front. front ∷ map state_of (set states at new)) first
        ∙ ap (λ rest. state_after b.function (taken_values (eval w) b (rows ++ row ∷ [])) ∷ rest) ih
