-- The tree of an expression.
use Rattle.std.specs.Prelude.{List, [], ◌∷◌, Option, Some, None, Box}
use Rattle.std.specs.Global.{Global}
use Rattle.expr.specs.declared.tree.Expr.{Expr}
use Rattle.expr.specs.declared.tree.Expr.TheOpen.{Expr-F, Arm-F}
use Rattle.expr.specs.declared.tree.Expr.TheFolds.{fold-Expr, fold-Arm}
use Rattle.expr.specs.declared.tree.Arm.{Arm}
use Rattle.values.specs.Datum.{datum_of}
use Rattle.expr.specs.Filled.{literals}
use Rattle.expr.specs.Term.{Term, Terms, Arms, literal, column, call, arithmetic, concat, compare, is, and, or, between, among, coalesce, choice, choice_of, null_if, like, none, more, answer, no_arms, arm}

abbrev pub terms : List Term → Terms
terms [] = none
terms (t ∷ ts) = more t (terms ts)

abbrev pub arms : List (Term × Term) → Arms
arms [] = no_arms
arms (a ∷ rest) = arm a.0 a.1 (arms rest)

abbrev pub case_term : Option (Box Term Global) → Arms → Term → Term
case_term None rest e = choice rest e
case_term (Some x) rest e = choice_of x.value rest e

-- one node, with the tree of each child in its place
abbrev pub node : Expr-F Term (Term × Term) → Term
node (Expr-F.Literal v) = literal (datum_of v)
node (Expr-F.Column i) = column i
node (Expr-F.Call f a) = call f a.value
node (Expr-F.Arithmetic op a b) = arithmetic op a.value b.value
node (Expr-F.Concat a b) = concat a.value b.value
node (Expr-F.Compare op a b) = compare op a.value b.value
node (Expr-F.Is a b) = is a.value b.value
node (Expr-F.And a b) = and a.value b.value
node (Expr-F.Or a b) = or a.value b.value
node (Expr-F.Between x a b) = between x.value a.value b.value
node (Expr-F.In x items) = among x.value (terms items.items)
node (Expr-F.Member x set) = among x.value (literals set.value)
node (Expr-F.InAnswer x at) = among x.value (answer at)
node (Expr-F.Coalesce items) = coalesce (terms items.items)
node (Expr-F.Case x rest e) = case_term x (arms rest.items) e.value
node (Expr-F.NullIf a b) = null_if a.value b.value
node (Expr-F.Like a b) = like a.value b.value

abbrev pub arm_node : Arm-F Term (Term × Term) → Term × Term
arm_node a = (a.when, a.then)

abbrev pub term : Expr → Term
term = fold-Expr Term (Term × Term) node arm_node

abbrev pub arm_terms : Arm → Term × Term
arm_terms = fold-Arm Term (Term × Term) node arm_node
