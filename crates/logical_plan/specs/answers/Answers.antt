-- What a query answers. (SELECT, "Compound Select Statements", "The ORDER BY clause" and "The LIMIT clause")
use Rattle.std.specs.Prelude.{◌≡◌, ◌-◌, ℕ, ℤ, List, [], length, map, None, Option, option_map, Some, take, IsPermutation}
use Rattle.values.specs.Database.{Database}
use Rattle.values.specs.Datum.{Datum}
use Rattle.values.specs.Row.{Row}
use Rattle.expr.specs.Meaning.{eval}
use Rattle.semantics.specs.Answer.{Ascends, limited, skipped}
use Rattle.semantics.specs.Body.{Output, key_value}
use Rattle.semantics.specs.Query.{Key}
use Rattle.windows_groups.specs.Keys.{result_key}
use Rattle.logical_plan.specs.answers.Arms.{ArmsData, arms_data, rows_of_arms}
use Rattle.logical_plan.specs.declared.answers.Answer.{Answer}
use Rattle.logical_plan.specs.declared.answers.Order.{Order}

-- the values that rows are put in order by, and how many values at their end aren't shown
pub record OrderData : Type 0 where
  pub keys : List Key
  pub hidden : ℕ

-- arms, ORDER BY, LIMIT and OFFSET
pub record AnswerData : Type 0 where
  pub arms : ArmsData
  pub order : Option OrderData
  pub limit : Option ℤ
  pub offset : ℤ

abbrev pub order_data : Order → OrderData
order_data order = record { keys = map result_key order.keys.items; hidden = order.hidden }

abbrev pub answer_data : Answer → AnswerData
answer_data answer = record {
  arms = arms_data answer.arms;
  order = option_map order_data answer.order;
  limit = answer.limit;
  offset = answer.offset;
}

-- a row without so many values at its end
abbrev pub without : ℕ → Row → Row
without hidden row = take (length row - hidden) row

-- what is shown of a row, and the values that it is put in order by
abbrev pub shown_output : Datum → OrderData → Row → Output
shown_output w order row = record { row = without order.hidden row; keys = map (key_value (eval w) row []) order.keys }

-- Some permutation of these rows ascends, and what is shown are the rows that LIMIT and OFFSET leave of it.
pub record IsShownInOrder (w : Datum) (order : OrderData) (limit : Option ℤ) (offset : ℤ) (all rows : List Row) : Type 0 where
  pub ordered : List Output
  pub same : IsPermutation (map (shown_output w order) all) ordered
  pub ascends : Ascends order.keys ordered
  pub shown : rows ≡ map (λ o. o.row) (limited limit (skipped offset ordered))

-- in no order they are shown as they come
abbrev pub IsShown : Datum → Option OrderData → Option ℤ → ℤ → List Row → List Row → Type 0
IsShown w None limit offset all rows = rows ≡ limited limit (skipped offset all)
IsShown w (Some order) limit offset all rows = IsShownInOrder w order limit offset all rows

-- the lists of rows that an answer may give: of the rows of the arms, in order or as they come, those that LIMIT and OFFSET leave
abbrev pub IsAnswer : Datum → Database → AnswerData → List Row → Type 0
IsAnswer w db answer rows = IsShown w answer.order answer.limit answer.offset (rows_of_arms w db answer.arms) rows
