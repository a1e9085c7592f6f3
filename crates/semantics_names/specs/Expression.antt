-- The term that an expression is, at a place of a SELECT. (SQL Language Expressions)
--
-- What a place says decides all: it is asked of every part of the expression, from the outside in. It says which term a part
-- is (a column, an aggregate, an expression of GROUP BY), or why it may not stand there, or nothing; then the part is
-- what its operator makes of its own parts.
use Rattle.std.specs.Prelude.{Bool, true, false, List, [], ◌∷◌, pos, Option, Some, None, Result, Ok, Err}
use Rattle.values.specs.Datum.{null, int, text, blob}
use Rattle.values.specs.declared.fault.Fault.{Fault}
use Rattle.values.specs.declared.fault.Fault.TheVariants.{WrongPlace}
use Rattle.expr.specs.Term.{Term, Terms, literal, call, arithmetic, concat, compare, is, and, or, between, among, coalesce, choice, choice_of, if_null, iif, null_if, like}
use Rattle.expr.specs.View.{terms, arms}
use Rattle.expr.specs.declared.operations.kinds.Arithmetic.TheVariants as a
use Rattle.expr.specs.declared.operations.kinds.Comparison.TheVariants as c
use Rattle.expr.specs.declared.operations.kinds.Function.{Function}
use Rattle.expr.specs.declared.operations.kinds.Function.TheVariants as g
use Rattle.sql_reader_syntax.specs.ExprTree.{ExprTree, ExprTrees, MaybeExpr, ArmTrees, BehindTree, OverTree, QueryTree}
use Rattle.sql_reader_syntax.specs.declared.expr.BinaryOperator.{BinaryOperator}
use Rattle.sql_reader_syntax.specs.declared.expr.BinaryOperator.TheVariants as b
use Rattle.sql_reader_syntax.specs.declared.expr.Function as written
use Rattle.sql_reader_syntax.specs.declared.expr.Function.TheVariants as w
use Rattle.sql_reader_syntax.specs.declared.expr.PostfixOperator.{PostfixOperator}
use Rattle.sql_reader_syntax.specs.declared.expr.PostfixOperator.TheVariants as s
use Rattle.sql_reader_syntax.specs.declared.expr.PrefixOperator.{PrefixOperator}
use Rattle.sql_reader_syntax.specs.declared.expr.PrefixOperator.TheVariants as p
use Rattle.semantics_names.specs.Outcome.{also, both, chosen, followed}

-- NOT, where it is written
abbrev pub negated : Bool → Term → Term
negated true t = call g.Not t
negated false t = t

abbrev pub is_null : Term → Term
is_null t = is t (literal null)

-- `+x` is x itself, of whatever type
abbrev pub prefix : PrefixOperator → Term → Term
prefix p.Not t = call g.Not t
prefix p.Minus t = call g.Neg t
prefix p.Plus t = t
prefix p.BitNot t = call g.BitNot t

abbrev pub postfix : PostfixOperator → Term → Term
postfix s.IsNull t = is_null t
postfix s.NotNull t = negated true (is_null t)

abbrev pub binary : BinaryOperator → Term → Term → Term
binary b.Or x y = or x y
binary b.And x y = and x y
binary b.Equal x y = compare c.Eq x y
binary b.NotEqual x y = compare c.Ne x y
binary b.Is x y = is x y
binary b.IsNot x y = negated true (is x y)
binary b.Like x y = like x y
binary b.NotLike x y = negated true (like x y)
binary b.Less x y = compare c.Lt x y
binary b.LessEqual x y = compare c.Le x y
binary b.Greater x y = compare c.Gt x y
binary b.GreaterEqual x y = compare c.Ge x y
binary b.BitAnd x y = arithmetic a.BitAnd x y
binary b.BitOr x y = arithmetic a.BitOr x y
binary b.Add x y = arithmetic a.Add x y
binary b.Subtract x y = arithmetic a.Sub x y
binary b.Multiply x y = arithmetic a.Mul x y
binary b.Divide x y = arithmetic a.Div x y
binary b.Remainder x y = arithmetic a.Rem x y
binary b.Concatenate x y = concat x y

abbrev pub between_bounds : Bool → Term → Term → Term → Term
between_bounds not x low high = negated not (between x low high)

abbrev pub among_items : Bool → Term → List Term → Term
among_items not x items = negated not (among x (terms items))

-- IN over the answer of an inner query
abbrev pub among_answer : Bool → Term → Terms → Term
among_answer not x members = negated not (among x members)

-- EXISTS is 1 where the answer has a 1, and 0 where it has nothing
abbrev pub exists : Terms → Term
exists members = among (literal (int (pos 1))) members

-- a CASE with an operand or without
abbrev pub case : Option Term → List (Term × Term) → Term → Term
case None rest e = choice (arms rest) e
case (Some x) rest e = choice_of x (arms rest) e

-- the functions of one value
abbrev pub unary_of : written.Function → Option Function
unary_of w.Abs = Some g.Abs
unary_of w.Hex = Some g.Hex
unary_of w.Length = Some g.Length
unary_of w.Lower = Some g.Lower
unary_of w.TypeOf = Some g.TypeOf
unary_of w.Upper = Some g.Upper
unary_of _ = None

abbrev pub unary : Function → List Term → Result Term Fault
unary function (x ∷ []) = Ok (call function x)
unary function _ = Err WrongPlace

-- the scalar functions of several values; an aggregate or a window function is none
abbrev pub several : written.Function → List Term → Result Term Fault
several w.Coalesce items = Ok (coalesce (terms items))
several w.IfNull (x ∷ y ∷ []) = Ok (if_null x y)
several w.NullIf (x ∷ y ∷ []) = Ok (null_if x y)
several w.Iif (x ∷ y ∷ z ∷ []) = Ok (iif x y z)
several _ items = Err WrongPlace

abbrev pub scalar : Option Function → written.Function → List Term → Result Term Fault
scalar (Some function) _ items = unary function items
scalar None name items = several name items

abbrev pub applied : written.Function → List Term → Result Term Fault
applied name items = scalar (unary_of name) name items

-- a scalar function has neither FILTER nor OVER
abbrev pub called : BehindTree → written.Function → List Term → Result Term Fault
called (BehindTree.Behind MaybeExpr.Absent OverTree.No_over) name items = applied name items
called _ name items = Err WrongPlace

-- a query inside an expression: the members of IN, or what EXISTS tests
pub data InnerTree : Type 0 where
  values_in : QueryTree → InnerTree
  exists_in : QueryTree → InnerTree

-- what a place says of a part of an expression
abbrev pub Says : Type 0
Says = ExprTree → Result (Option Term) Fault

-- the answers of the inner queries
abbrev pub Answers : Type 0
Answers = InnerTree → Result Terms Fault

module _ (answers : Answers) (says : Says) where
  abbrev mutual
    pub term_of : ExprTree → Result Term Fault
    term_of ExprTree.Null = chosen (says ExprTree.Null) (Ok (literal null))
    term_of (ExprTree.Number z) = chosen (says (ExprTree.Number z)) (Ok (literal (int z)))
    term_of (ExprTree.Text content) = chosen (says (ExprTree.Text content)) (Ok (literal (text content)))
    term_of (ExprTree.Blob bytes) = chosen (says (ExprTree.Blob bytes)) (Ok (literal (blob bytes)))
    term_of (ExprTree.Column table name) = chosen (says (ExprTree.Column table name)) (Err WrongPlace)
    term_of (ExprTree.Prefix op x) = chosen (says (ExprTree.Prefix op x)) (also (prefix op) (term_of x))
    term_of (ExprTree.Binary op x y) = chosen (says (ExprTree.Binary op x y)) (both (binary op) (term_of x) (term_of y))
    term_of (ExprTree.Postfix op x) = chosen (says (ExprTree.Postfix op x)) (also (postfix op) (term_of x))
    term_of (ExprTree.Between not x low high) =
        chosen (says (ExprTree.Between not x low high))
        (followed (term_of x) (λ t. both (between_bounds not t) (term_of low) (term_of high)))
    term_of (ExprTree.In not x items) =
        chosen (says (ExprTree.In not x items)) (both (among_items not) (term_of x) (terms_of items))
    term_of (ExprTree.InQuery not x query) =
        chosen (says (ExprTree.InQuery not x query)) (both (among_answer not) (term_of x) (answers (InnerTree.values_in query)))
    term_of (ExprTree.Exists query) = chosen (says (ExprTree.Exists query)) (also exists (answers (InnerTree.exists_in query)))
    term_of (ExprTree.CountRows after) = chosen (says (ExprTree.CountRows after)) (Err WrongPlace)
    term_of (ExprTree.Call function items after) =
        chosen (says (ExprTree.Call function items after)) (followed (terms_of items) (called after function))
    term_of (ExprTree.Case operand rest otherwise) =
        chosen (says (ExprTree.Case operand rest otherwise))
        (followed (operand_of operand) (λ x. both (case x) (arms_of rest) (otherwise_of otherwise)))

    pub terms_of : ExprTrees → Result (List Term) Fault
    terms_of ExprTrees.No_more = Ok []
    terms_of (ExprTrees.More e es) = both ◌∷◌ (term_of e) (terms_of es)

    pub operand_of : MaybeExpr → Result (Option Term) Fault
    operand_of MaybeExpr.Absent = Ok None
    operand_of (MaybeExpr.Present e) = also Some (term_of e)

    -- what stands behind ELSE, and NULL where nothing does
    pub otherwise_of : MaybeExpr → Result Term Fault
    otherwise_of MaybeExpr.Absent = Ok (literal null)
    otherwise_of (MaybeExpr.Present e) = term_of e

    pub arms_of : ArmTrees → Result (List (Term × Term)) Fault
    arms_of ArmTrees.No_arm = Ok []
    arms_of (ArmTrees.Arm when then rest) = both ◌∷◌ (both (λ c e. (c, e)) (term_of when) (term_of then)) (arms_of rest)
