-- What the ranking and value functions take. (Window Functions, "Built-in Window Functions")
use Rattle.std.specs.Prelude.{ℕ, Result, Ok, Err}
use Rattle.values.specs.Datum.{null}
use Rattle.values.specs.declared.fault.Fault.{Fault}
use Rattle.values.specs.declared.fault.Fault.TheVariants.{WrongPlace}
use Rattle.expr.specs.Term.{Term, literal}
use Rattle.semantics.specs.Query.{WindowFunction}
use Rattle.semantics_names.specs.Expression.{Answers, Says, term_of}
use Rattle.semantics_names.specs.Outcome.{also, both, followed, found_or}
use Rattle.sql_reader_syntax.specs.ExprTree.{ExprTree, ExprTrees}
use Rattle.sql_reader_syntax.specs.declared.expr.Function.{Function}
use Rattle.sql_reader_syntax.specs.declared.expr.Function.TheVariants as w
use Rattle.resolver_selects.specs.window_calls.Numbers.{number_of}

-- a row before or behind: the value, how many rows away, and what stands where there is no such row
abbrev pub Shift : Type 0
Shift = Term × (ℕ × Term)

abbrev pub shifted : ℕ → Term → Term → Shift
shifted n otherwise t = (t, (n, otherwise))

-- without arguments
abbrev pub without : WindowFunction → ExprTrees → Result WindowFunction Fault
without function ExprTrees.No_more = Ok function
without function _ = Err WrongPlace

-- a number alone
abbrev pub alone : ℕ → ExprTrees → Result ℕ Fault
alone n ExprTrees.No_more = Ok n
alone n _ = Err WrongPlace

abbrev pub buckets : ExprTrees → Result ℕ Fault
buckets (ExprTrees.More n rest) = followed (found_or WrongPlace (number_of n)) (λ count. alone count rest)
buckets ExprTrees.No_more = Err WrongPlace

module _ (answers : Answers) (says : Says) where
  abbrev pub single : ExprTrees → Result Term Fault
  single (ExprTrees.More e ExprTrees.No_more) = term_of answers says e
  single _ = Err WrongPlace

  -- a value, and the row of the frame
  abbrev pub nth_row : ExprTree → ℕ → ExprTrees → Result (Term × ℕ) Fault
  nth_row e row ExprTrees.No_more = also (λ t. (t, row)) (term_of answers says e)
  nth_row e row _ = Err WrongPlace

  abbrev pub nth : ExprTrees → Result (Term × ℕ) Fault
  nth (ExprTrees.More e (ExprTrees.More n rest)) = followed (found_or WrongPlace (number_of n)) (λ row. nth_row e row rest)
  nth _ = Err WrongPlace

  -- what `lag` and `lead` take
  abbrev pub shift_by : ExprTree → ℕ → ExprTrees → Result Shift Fault
  shift_by e rows ExprTrees.No_more = also (shifted rows (literal null)) (term_of answers says e)
  shift_by e rows (ExprTrees.More d ExprTrees.No_more) =
      both (λ t otherwise. shifted rows otherwise t) (term_of answers says e) (term_of answers says d)
  shift_by e rows _ = Err WrongPlace

  abbrev pub shift : ExprTrees → Result Shift Fault
  shift (ExprTrees.More e ExprTrees.No_more) = also (shifted 1 (literal null)) (term_of answers says e)
  shift (ExprTrees.More e (ExprTrees.More n rest)) = followed (found_or WrongPlace (number_of n)) (λ rows. shift_by e rows rest)
  shift ExprTrees.No_more = Err WrongPlace

  abbrev pub of_name : Function → ExprTrees → Result WindowFunction Fault
  of_name w.RowNumber items = without WindowFunction.row_number items
  of_name w.Rank items = without WindowFunction.rank items
  of_name w.DenseRank items = without WindowFunction.dense_rank items
  of_name w.NTile items = also WindowFunction.ntile (buckets items)
  of_name w.FirstValue items = also WindowFunction.first_value (single items)
  of_name w.LastValue items = also WindowFunction.last_value (single items)
  of_name w.NthValue items = also (λ p. WindowFunction.nth_value p.0 p.1) (nth items)
  of_name w.Lag items = also (λ s. WindowFunction.lag s.0 s.1.0 s.1.1) (shift items)
  of_name w.Lead items = also (λ s. WindowFunction.lead s.0 s.1.0 s.1.1) (shift items)
  of_name _ items = Err WrongPlace
