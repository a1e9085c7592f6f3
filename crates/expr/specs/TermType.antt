-- The type of an expression, computed. (STRICT Tables)
use Rattle.std.specs.Prelude.{◌↔◌, List, Option, Some, None, option_map, slice_get}
use Rattle.values.specs.declared.value.Ty.{Ty}
use Rattle.values.specs.declared.value.Ty.TheVariants.{Int, Text, Blob, Null}
use Rattle.values.specs.Datum.{type_of}
use Rattle.expr.specs.declared.operations.kinds.Function.{Function}
use Rattle.expr.specs.declared.operations.kinds.Function.TheVariants.{Neg, BitNot, Not, Abs, Length, Lower, Upper, Hex, TypeOf}
use Rattle.expr.specs.Term.{Term, Terms, Arms, literal, column, call, arithmetic, concat, compare, is, and, or, between, among, coalesce, choice, choice_of, null_if, like, none, answer, more, no_arms, arm}
use Rattle.expr.specs.Types.{FitsType, HasType}

-- the one type that both may stand for, where `Null` is that of what is NULL alone
abbrev pub one_type : Ty → Ty → Option Ty
one_type Null b = Some b
one_type a Null = Some a
one_type Int Int = Some Int
one_type Text Text = Some Text
one_type Blob Blob = Some Blob
one_type _ _ = None

abbrev pub one_of : Option Ty → Option Ty → Option Ty
one_of None b = None
one_of (Some a) None = None
one_of (Some a) (Some b) = one_type a b

-- it is of the type that is wanted
abbrev pub wanted : Ty → Option Ty → Option Ty
wanted ty found = one_of (Some ty) found

-- what is of any type gives this one
abbrev pub giving : Ty → Option Ty → Option Ty
giving ty = option_map (λ of. ty)

-- so does what is a text or a blob
abbrev pub of_bytes : Ty → Option Ty → Option Ty
of_bytes ty None = None
of_bytes ty (Some Int) = None
of_bytes ty (Some Text) = Some ty
of_bytes ty (Some Blob) = Some ty
of_bytes ty (Some Null) = Some ty

abbrev pub type_of_call : Function → Option Ty → Option Ty
type_of_call Neg found = wanted Int found
type_of_call BitNot found = wanted Int found
type_of_call Not found = wanted Int found
type_of_call Abs found = wanted Int found
type_of_call Length found = of_bytes Int found
type_of_call Lower found = wanted Text found
type_of_call Upper found = wanted Text found
type_of_call Hex found = of_bytes Text found
type_of_call TypeOf found = giving Text found

-- the second, where the first is typed
abbrev pub behind : Option Ty → Option Ty → Option Ty
behind None ty = None
behind (Some of) ty = ty

module _ (columns answers : List Ty) where
  abbrev mutual
    pub type_of_term : Term → Option Ty
    type_of_term (literal v) = Some (type_of v)
    type_of_term (column i) = slice_get columns i
    type_of_term (call f a) = type_of_call f (type_of_term a)
    type_of_term (arithmetic op a b) = wanted Int (one_of (type_of_term a) (type_of_term b))
    type_of_term (concat a b) = wanted Text (one_of (type_of_term a) (type_of_term b))
    type_of_term (compare op a b) = giving Int (one_of (type_of_term a) (type_of_term b))
    type_of_term (is a b) = giving Int (one_of (type_of_term a) (type_of_term b))
    type_of_term (and a b) = wanted Int (one_of (type_of_term a) (type_of_term b))
    type_of_term (or a b) = wanted Int (one_of (type_of_term a) (type_of_term b))
    type_of_term (between x a b) = giving Int (one_of (type_of_term x) (one_of (type_of_term a) (type_of_term b)))
    type_of_term (among x items) = giving Int (one_of (type_of_term x) (type_of_terms items))
    type_of_term (coalesce items) = type_of_terms items
    type_of_term (choice rest e) = behind (wanted Int (type_of_whens rest)) (one_of (type_of_thens rest) (type_of_term e))
    type_of_term (choice_of x rest e) = behind (one_of (type_of_term x) (type_of_whens rest)) (one_of (type_of_thens rest) (type_of_term e))
    type_of_term (null_if a b) = one_of (type_of_term a) (type_of_term b)
    type_of_term (like a b) = giving Int (wanted Text (one_of (type_of_term a) (type_of_term b)))

    pub type_of_terms : Terms → Option Ty
    type_of_terms none = Some Null
    type_of_terms (answer k) = slice_get answers k
    type_of_terms (more t ts) = one_of (type_of_term t) (type_of_terms ts)

    pub type_of_whens : Arms → Option Ty
    type_of_whens no_arms = Some Null
    type_of_whens (arm c e rest) = one_of (type_of_term c) (type_of_whens rest)

    pub type_of_thens : Arms → Option Ty
    type_of_thens no_arms = Some Null
    type_of_thens (arm c e rest) = one_of (type_of_term e) (type_of_thens rest)

-- a type was found that may stand where this one is wanted
abbrev pub Finds : Option Ty → Ty → Type 0
Finds None ty = ⊥
Finds (Some of) ty = FitsType of ty

-- an expression has the types that the computed one may stand for, and no others
abbrev pub TypesAreFound : Type 0
TypesAreFound = (columns answers : List Ty) (t : Term) (ty : Ty) → HasType columns answers t ty ↔ Finds (type_of_term columns answers t) ty
