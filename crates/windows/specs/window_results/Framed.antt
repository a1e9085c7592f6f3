-- Functions of the values of a frame. (Window Functions)
use Rattle.std.specs.Prelude.{◌-◌, ℕ, List, map, reverse, Option, Some}
use Rattle.values.specs.Datum.{Datum, datum_of}
use Rattle.semantics.specs.Groups.{measure}
use Rattle.semantics.specs.Query.{AggregateFunction}
use Rattle.semantics.specs.Sequence.{value_at}
use Rattle.windows.specs.window_totals.Totals.{kept}
use Rattle.windows.specs.window_extremes.Stretches.{function_of}
use Rattle.windows.specs.declared.window_results.framed.Framed.{Framed}
use Rattle.windows.specs.declared.window_results.framed.Framed.TheVariants as variants

pub data FrameFunction : Type 0 where
  aggregate : AggregateFunction → FrameFunction
  first_value last_value : FrameFunction
  nth_value : ℕ → FrameFunction

-- a function, and the values of its argument along a sequence
pub record FramedData : Type 0 where
  pub function : FrameFunction
  pub values : List Datum

abbrev pub framed_of : Framed → FramedData
framed_of (variants.Count totals) = record { function = aggregate AggregateFunction.count; values = map datum_of totals.values.items }
framed_of (variants.Sum totals) = record { function = aggregate AggregateFunction.sum; values = map datum_of totals.values.items }
framed_of (variants.First firsts) = record { function = aggregate (function_of firsts.side); values = map datum_of firsts.values.items }
framed_of (variants.FirstValue values) = record { function = first_value; values = map datum_of values.items }
framed_of (variants.LastValue values) = record { function = last_value; values = map datum_of values.items }
framed_of (variants.NthValue values n) = record { function = nth_value n; values = map datum_of values.items }

-- its value, where the frame has these values of the argument; a number that leaves 64 bits is replaced by what stands for it,
-- if anything does
abbrev pub over_values : Option Datum → FrameFunction → List Datum → Option Datum
over_values o (aggregate f) values = measure o f (kept values)
over_values o first_value values = Some (value_at values 0)
over_values o last_value values = Some (value_at (reverse values) 0)
over_values o (nth_value n) values = Some (value_at values (n - 1))
