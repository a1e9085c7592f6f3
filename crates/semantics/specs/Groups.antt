-- Groups and aggregates. (SELECT, "Generation of the set of result rows"; Built-in Aggregate Functions)
use Rattle.std.specs.Prelude.{◌+ℤ◌, ℤ, pos, not, List, [], ◌∷◌, ◌++◌, filter, length, map, Option, Some, None, unwrap_or}
use Rattle.std.specs.Ordering.{flip_args}
use Rattle.values.specs.Datum.{Datum, null, int}
use Rattle.values.specs.Order.{datum_cmp}
use Rattle.expr.specs.operations.Operations.{is_null, settle}
use Rattle.expr.specs.Term.{Term}
use Rattle.semantics.specs.Query.{Aggregate, AggregateFunction, Grouping}
use Rattle.values.specs.Row.{Row}
use Rattle.semantics.specs.Sequence.{sorted, value_at}
use Rattle.semantics.specs.Times.{once, same_row}
use Rattle.semantics.specs.Valuation.{Valuation, kept, term_values}

-- the values that an aggregate takes
abbrev pub taken_values : Valuation → Aggregate → List Row → List Datum
taken_values value a rows = filter (λ v. not (is_null v)) (map (value a.argument) rows)

abbrev pub number : Datum → ℤ
number (int n) = n
number _ = pos 0

-- the exact total
abbrev pub total : List Datum → ℤ
total [] = pos 0
total (value ∷ values) = number value +ℤ total values

-- the value of an aggregate of these values; a number that leaves 64 bits is replaced by what stands for it, if anything
-- does
abbrev pub measure : Option Datum → AggregateFunction → List Datum → Option Datum
measure o AggregateFunction.count values = settle o (pos (length values))
measure o AggregateFunction.sum [] = Some null
measure o AggregateFunction.sum (value ∷ values) = settle o (total (value ∷ values))
measure o AggregateFunction.min values = Some (value_at (sorted datum_cmp values) 0)
measure o AggregateFunction.max values = Some (value_at (sorted (flip_args datum_cmp) values) 0)

abbrev pub aggregate_result : Valuation → Option Datum → Aggregate → List Row → Option Datum
aggregate_result value o a rows = measure o a.function (taken_values value a rows)

abbrev pub aggregate_value : Valuation → Datum → List Row → Aggregate → Datum
aggregate_value value w rows a = unwrap_or (aggregate_result value (Some w) a rows) null

pub record Group : Type 0 where
  pub key : Row
  pub members : List Row

-- the values of GROUP BY that some row has; without terms there is one group, also of no rows
abbrev pub group_keys : Valuation → List Term → List Row → List Row
group_keys value [] rows = [] ∷ []
group_keys value (term ∷ terms) rows = once (map (term_values value (term ∷ terms)) rows)

abbrev pub group_of : Valuation → List Term → List Row → Row → Group
group_of value terms rows key = record { key = key; members = filter (λ row. same_row key (term_values value terms row)) rows }

-- the rows split by equal values
abbrev pub groups : Valuation → List Term → List Row → List Group
groups value terms rows = map (group_of value terms rows) (group_keys value terms rows)

-- the values of GROUP BY, and then the aggregates
abbrev pub group_row : Valuation → Datum → List Aggregate → Group → Row
group_row value w aggregates group = group.key ++ map (aggregate_value value w group.members) aggregates

-- a row for each group, before HAVING and after it
abbrev pub group_rows : Valuation → Datum → Grouping → List Row → List Row
group_rows value w g rows = map (group_row value w g.aggregates) (groups value g.by rows)

abbrev pub kept_groups : Valuation → Datum → Grouping → List Row → List Row
kept_groups value w g rows = kept value g.having (group_rows value w g rows)

-- the rows that windows take: those of groups, where there are groups
abbrev pub grouped : Valuation → Datum → Option Grouping → List Row → List Row
grouped value w None rows = rows
grouped value w (Some g) rows = kept_groups value w g rows
