-- The condition of a partial index, over the columns of its table. (Partial Indexes; STRICT Tables)
use Rattle.std.specs.Prelude.{◌≡◌, Bool, true, false, ℕ, ◌+◌, List, [], ◌∷◌, Option, Some, None, option_map, Result, Ok, Err, if◌then◌else◌}
use Rattle.values.specs.Datum.{blob, int, null, text}
use Rattle.values.specs.declared.fault.Fault.{Fault}
use Rattle.values.specs.declared.fault.Fault.TheVariants.{UnknownColumn, WrongPlace}
use Rattle.values.specs.declared.value.Ty.TheVariants.{Int}
use Rattle.expr.specs.Term.{Term, column, literal}
use Rattle.expr.specs.Types.{HasType}
use Rattle.semantics_names.specs.Expression.{among_items, between_bounds, binary, postfix, prefix}
use Rattle.semantics_names.specs.Outcome.{also, both, checked, followed, found_or}
use Rattle.schema_tables.specs.ColumnTypes.{types_of}
use Rattle.schema_keys.specs.Names.{same_name}
use Rattle.schema_tables.specs.TableData.{ColumnData, TableData}
use Rattle.sql_reader_syntax.specs.ExprTree.{ExprTree, ExprTrees}
use Rattle.sql_reader_syntax.specs.Tree.{Name}
use Rattle.sql_reader_syntax.specs.declared.expr.BinaryOperator.{BinaryOperator}
use Rattle.sql_reader_syntax.specs.declared.expr.BinaryOperator.TheVariants as b
use Rattle.sql_reader_syntax.specs.declared.expr.PrefixOperator.{PrefixOperator}
use Rattle.sql_reader_syntax.specs.declared.expr.PrefixOperator.TheVariants as p

-- the place of the first column of this name, where the first of these stands at this one
abbrev pub place_from : ℕ → List ColumnData → Name → Option ℕ
place_from at [] name = None
place_from at (c ∷ columns) name = if same_name c.name name then Some at else place_from (at + 1) columns name

-- a name that stands before a column's is that of the table
abbrev pub is_owner : TableData → Option Name → Bool
is_owner table None = true
is_owner table (Some owner) = same_name table.name owner

abbrev pub column_of : TableData → Option Name → Name → Result Term Fault
column_of table owner name =
    checked (is_owner table owner) UnknownColumn (found_or UnknownColumn (option_map column (place_from 0 table.columns name)))

abbrev pub is_number : ExprTree → Bool
is_number (ExprTree.Number n) = true
is_number _ = false

-- NOT before anything, and a sign before a number
abbrev pub prefixed : PrefixOperator → Bool → Term → Result Term Fault
prefixed p.Not number t = Ok (prefix p.Not t)
prefixed p.Minus number t = checked number WrongPlace (Ok (prefix p.Minus t))
prefixed p.Plus number t = checked number WrongPlace (Ok (prefix p.Plus t))
prefixed p.BitNot number t = Err WrongPlace

-- AND, OR, IS and comparisons, and no other operator between operands
abbrev pub joined : BinaryOperator → Term → Term → Result Term Fault
joined b.Like x y = Err WrongPlace
joined b.NotLike x y = Err WrongPlace
joined b.BitAnd x y = Err WrongPlace
joined b.BitOr x y = Err WrongPlace
joined b.Add x y = Err WrongPlace
joined b.Subtract x y = Err WrongPlace
joined b.Multiply x y = Err WrongPlace
joined b.Divide x y = Err WrongPlace
joined b.Remainder x y = Err WrongPlace
joined b.Concatenate x y = Err WrongPlace
joined op x y = Ok (binary op x y)

-- The term of a condition over the columns of a table, which is built of columns, literals, also with a sign, comparisons, IS,
-- IN, BETWEEN, ISNULL, NOTNULL, AND, OR and NOT: that which a statement makes of it. It has none where another thing stands in
-- it.
module _ (table : TableData) where
  abbrev mutual
    pub term_of : ExprTree → Result Term Fault
    term_of ExprTree.Null = Ok (literal null)
    term_of (ExprTree.Number n) = Ok (literal (int n))
    term_of (ExprTree.Text content) = Ok (literal (text content))
    term_of (ExprTree.Blob bytes) = Ok (literal (blob bytes))
    term_of (ExprTree.Column owner name) = column_of table owner name
    term_of (ExprTree.Prefix op x) = followed (term_of x) (prefixed op (is_number x))
    term_of (ExprTree.Binary op x y) = followed (term_of x) (λ s. followed (term_of y) (joined op s))
    term_of (ExprTree.Postfix op x) = also (postfix op) (term_of x)
    term_of (ExprTree.Between not x low high) =
        followed (term_of x) (λ t. both (between_bounds not t) (term_of low) (term_of high))
    term_of (ExprTree.In not x items) = both (among_items not) (term_of x) (terms_of items)
    term_of _ = Err WrongPlace

    pub terms_of : ExprTrees → Result (List Term) Fault
    terms_of ExprTrees.No_more = Ok []
    terms_of (ExprTrees.More e es) = both ◌∷◌ (term_of e) (terms_of es)

-- the expression is this condition on rows of the table
pub record IsConditionOf (table : TableData) (e : ExprTree) (condition : Term) : Type 0 where
  pub term_is : term_of table e ≡ Ok condition
  pub typed : HasType (types_of table) [] condition Int

-- the same of what may stand behind WHERE
abbrev pub IsIndexCondition : TableData → Option ExprTree → Option Term → Type 0
IsIndexCondition table None None = Unit {0}
IsIndexCondition table (Some e) (Some condition) = IsConditionOf table e condition
IsIndexCondition table _ _ = ⊥
