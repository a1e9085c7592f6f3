-- Operators whose operands are of other types than they take. (SQL Language Expressions; STRICT Tables)
use Rattle.std.specs.Prelude.{◌<◌, List, length}
use Rattle.values.specs.declared.value.Ty.{Ty}
use Rattle.expr.specs.Term.{Term, Terms, Arms, literal, column, call, arithmetic, concat, compare, is, and, or, between, among, coalesce, choice, choice_of, null_if, like, none, answer, more, no_arms, arm}
use Rattle.semantics.specs.Typed.{IsTerm, IsTermOf}

-- ---- operands

-- the conditions and the values of the arms of a CASE, and what follows them
abbrev pub arm_operands : Arms → Terms → Terms
arm_operands no_arms last = last
arm_operands (arm c e rest) last = more c (more e (arm_operands rest last))

-- what an operator, a function, a CASE or an IN is over; a literal and a column are over nothing
abbrev pub operands : Term → Terms
operands (literal v) = none
operands (column i) = none
operands (call f a) = more a none
operands (arithmetic op a b) = more a (more b none)
operands (concat a b) = more a (more b none)
operands (compare op a b) = more a (more b none)
operands (is a b) = more a (more b none)
operands (and a b) = more a (more b none)
operands (or a b) = more a (more b none)
operands (between x a b) = more x (more a (more b none))
operands (among x items) = more x items
operands (coalesce items) = items
operands (choice rest e) = arm_operands rest (more e none)
operands (choice_of x rest e) = more x (arm_operands rest (more e none))
operands (null_if a b) = more a (more b none)
operands (like a b) = more a (more b none)

-- neither a literal nor a column
abbrev pub IsOperator : Term → Type 0
IsOperator (literal v) = ⊥
IsOperator (column i) = ⊥
IsOperator t = Unit {0}

-- it is one of them
pub data IsAmong (t : Term) : Terms → Type 0 where
  first : {ts : Terms} → IsAmong t (more t ts)
  later : {other : Term} {ts : Terms} → IsAmong t ts → IsAmong t (more other ts)

-- ---- over a row whose columns have these types, with answers of inner queries of these

module _ (answers columns : List Ty) where
  -- each has a type; an inner query whose values are the members of an IN is one that there is
  abbrev pub AreTyped : Terms → Type 0
  AreTyped none = Unit {0}
  AreTyped (answer k) = k < length answers
  AreTyped (more t ts) = IsTerm answers columns t × AreTyped ts

  -- Each operand has a type, and the operator none over them: one of them is of another type than the operator takes, or two
  -- are of different types that have to be of one.
  pub record IsClash (t : Term) : Type 0 where
    pub operator : IsOperator t
    pub typed : AreTyped (operands t)
    pub untyped : ¬ IsTerm answers columns t

  -- it is one, or an operand of it has one, at any depth
  pub data HasClash : Term → Type 0 where
    here : {t : Term} → IsClash t → HasClash t
    inside : {t : Term} (operand : Term) → IsAmong operand (operands t) → HasClash operand → HasClash t

  -- where a type is wanted: it has a clash, or is of another type
  pub data Misfits (ty : Ty) (t : Term) : Type 0 where
    clash : HasClash t → Misfits ty t
    other : IsTerm answers columns t → ¬ IsTermOf answers columns t ty → Misfits ty t

  -- where two have to be of one type: one of them has a clash, or they are of different ones
  pub data AreAtOdds (x y : Term) : Type 0 where
    left : HasClash x → AreAtOdds x y
    right : HasClash y → AreAtOdds x y
    apart : IsTerm answers columns x → IsTerm answers columns y → ((ty : Ty) → IsTermOf answers columns x ty → ¬ IsTermOf answers columns y ty)
        → AreAtOdds x y
