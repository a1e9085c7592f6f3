-- The rows that a SELECT still has to give. (SELECT, "Generation of the set of result rows" and "The LIMIT clause")
use Rattle.std.specs.Prelude.{◌≡◌, ◌⊎◌, All, Any, Contains, ℕ, List, map}
use Rattle.values.specs.Datum.{datum_of}
use Rattle.values.specs.Row.{Row}
use Rattle.values.specs.declared.fault.Fault.{Fault}
use Rattle.values.specs.declared.fault.Fault.TheVariants.{Overflow}
use Rattle.pager.specs.Calls.{IsReadFault}
use Rattle.btree.specs.image.Pages.{Pages}
use Rattle.logical_plan.specs.answers.Sources.{SourceData}
use Rattle.expr.specs.Term.{Term}
use Rattle.expr.specs.View.{term}
use Rattle.logical_plan.specs.Plan.{Hits, ReachesOverflow, rows_of}
use Rattle.operators.specs.declared.tree.Op.{Op}
use Rattle.operators_loops.specs.Basis.{Basis}
use Rattle.operators.specs.Left.{IsLeft, plan_of}
use Rattle.operators_results.specs.Slices.{sliced}
use Rattle.operators_results.specs.declared.limits.LimitOffset.{LimitOffset}
use Rattle.operators_results.specs.declared.stream.Results.{Results}
use Rattle.logical_plan.specs.answers.Arms.{result_rows}

-- Why a fault comes over a steady source: reading failed, or the plan or a result column on one of its rows reaches an
-- operation out of range.
abbrev pub IsResultCause : Basis → List Term → Fault → Type 0
IsResultCause on columns fault =
    IsReadFault fault ⊎ ((fault ≡ Overflow) × (Hits on.w on.db on.plan ⊎ Any (ReachesOverflow columns) (rows_of on.w on.db on.plan)))

-- the plan and the result columns stay
pub record SameSelection (old new : Results) : Type 0 where
  pub plan : plan_of new.op ≡ plan_of old.op
  pub columns : map term new.columns.items ≡ map term old.columns.items

-- Of an operator whose row buffer holds this row: these rows are to come, and so many pages may still be asked for. They are
-- those that LIMIT and OFFSET leave of the result rows of what the operator has to give, which are rows of the plan.
pub record IsComingOf (pages : Pages) (sources : List SourceData) (on : Basis) (op : Op) (row : Row) (columns : List Term) (slice : LimitOffset)
    (rest : List Row) (ahead : ℕ) : Type 0 where
  pub rows : List Row
  pub is_left : IsLeft pages sources on op row rows ahead
  pub rest_is : rest ≡ sliced slice (result_rows on.w columns rows)
  pub among : All (Contains (rows_of on.w on.db on.plan)) rows

abbrev pub IsComing : Pages → List SourceData → Basis → Results → List Row → ℕ → Type 0
IsComing pages sources on results rest ahead =
    IsComingOf pages sources on results.op (map datum_of results.row.items) (map term results.columns.items) results.slice rest ahead
