-- What is kept of the values that an aggregate took. (Built-in Aggregate Functions)
use Rattle.std.specs.Prelude.{◌≤◌, ◌+◌, ◌+ℤ◌, ◌^◌, FitsSigned, ℕ, ℤ, pos, not, List, [], ◌∷◌, filter, length, map, Option, Some, None, option_map, unwrap_or, if◌then◌else◌}
use Rattle.std.specs.Int.{w128}
use Rattle.std.specs.Ordering.{flip_args, is_lt}
use Rattle.std.specs.declared.cmp.Ordering.{Ordering}
use Rattle.values.specs.Datum.{Datum, datum_of}
use Rattle.values.specs.Order.{datum_cmp}
use Rattle.values.specs.Row.{Row}
use Rattle.expr.specs.Meaning.{eval}
use Rattle.expr.specs.operations.Operations.{is_null}
use Rattle.semantics.specs.Groups.{number, taken_values, total}
use Rattle.semantics.specs.Query.{Aggregate, AggregateFunction}
use Rattle.semantics.specs.Sequence.{sorted, value_at}
use Rattle.windows_groups.specs.declared.aggregates.accumulator.Accumulator.{Accumulator}
use Rattle.windows_groups.specs.declared.aggregates.accumulator.Accumulator.TheVariants as running

pub data State : Type 0 where
  counted : ℕ → State
  summed : Option ℤ → State
  least greatest : Option Datum → State

abbrev pub state_of : Accumulator → State
state_of (running.Count n) = counted n
state_of (running.Sum sum) = summed sum
state_of (running.Min best) = least (option_map datum_of best)
state_of (running.Max best) = greatest (option_map datum_of best)

-- nothing where there is no value
abbrev pub unless_none : {X : Type 0} → List Datum → X → Option X
unless_none [] x = None
unless_none (value ∷ values) x = Some x

-- of these values their number, their exact total, or the first of them in order
abbrev pub state_after : AggregateFunction → List Datum → State
state_after AggregateFunction.count values = counted (length values)
state_after AggregateFunction.sum values = summed (unless_none values (total values))
state_after AggregateFunction.min values = least (unless_none values (value_at (sorted datum_cmp values) 0))
state_after AggregateFunction.max values = greatest (unless_none values (value_at (sorted (flip_args datum_cmp) values) 0))

-- of each aggregate over these rows
abbrev pub states_after : Datum → List Aggregate → List Row → List State
states_after w aggregates rows = map (λ a. state_after a.function (taken_values (eval w) a rows)) aggregates

-- a value, unless it is NULL
abbrev pub taken : Datum → List Datum
taken value = filter (λ v. not (is_null v)) (value ∷ [])

-- a value more has no room: in 64 bits for the number of values, in 128 for their total
abbrev pub IsFull : State → Datum → Type 0
IsFull (counted n) value = 2 ^ 64 ≤ n + 1
IsFull (summed sum) value = ¬ FitsSigned w128 (unwrap_or sum (pos 0) +ℤ number value)
IsFull (least best) value = ⊥
IsFull (greatest best) value = ⊥

-- the one of two values that comes first, if there are two
abbrev pub first_of : (Datum → Datum → Ordering) → Option Datum → Datum → Datum
first_of cmp None value = value
first_of cmp (Some best) value = if is_lt (cmp best value) then best else value
