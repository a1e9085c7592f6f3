-- Columns and conditions, parted before a table.
use Rattle.std.specs.Prelude.{◌≡◌, ⊤, Bool, true, false, ℕ, List, [], ◌++◌, filter, nat_le, nat_lt, not}
use Rattle.std.specs.List.{list_all}
use Rattle.expr.specs.Columns.{columns_of}
use Rattle.expr.specs.Term.{Term}
use Rattle.semantics.specs.Query.{From, from_width, joined, nothing, with_inner}
use Rattle.logical_plan.specs.JoinPlan.{columns_before}

-- those of the columns that don't stand before this one
abbrev pub columns_from : ℕ → List ℕ → List ℕ
columns_from count columns = filter (λ at. nat_le count at) columns

-- the columns of each table stand behind those of the tables before it; of one table alone this says nothing
abbrev pub AreParted : From → List ℕ → Type 0
AreParted nothing read = ⊤
AreParted (joined from kind source on) read =
    (read ≡ columns_before (from_width from) read ++ columns_from (from_width from) read) × AreParted from (columns_before (from_width from) read)
AreParted (with_inner from query) read = AreParted from read

-- it names no more than so many first values of a row
abbrev pub names_within : ℕ → Term → Bool
names_within count t = list_all (λ at. nat_lt at count) (columns_of t)

-- tests, those that name no more than these apart
pub record IsParted (count : ℕ) (all early late : List Term) : Type 0 where
  pub early_are : early ≡ filter (names_within count) all
  pub late_are : late ≡ filter (λ t. not (names_within count t)) all

-- The conjuncts of ON and other conditions, by where they are tested: before a table, at its rows, and on the rows of the join. Of an
-- inner join each is tested as soon as it can be; of a LEFT JOIN the conjuncts of ON are tested at the table's rows alone, and the
-- others never there.
abbrev pub ArePlaced : Bool → ℕ → List Term → List Term → List Term → List Term → List Term → Type 0
ArePlaced false count on tests before here above = IsParted count (on ++ tests) before here × (above ≡ [])
ArePlaced true count on tests before here above = IsParted count tests before above × (here ≡ on)
