-- Which expressions are typed. (STRICT Tables)
use Rattle.std.specs.Prelude.{◌≡◌, ◌⊎◌, ⊤, ℕ, List, [], ◌∷◌, pos, Option, Some, slice_get}
use Rattle.std.specs.List.{All, AllZip}
use Rattle.std.specs.Option.{IfSome}
use Rattle.expr.specs.declared.operations.kinds.Arithmetic.TheVariants.{Add}
use Rattle.expr.specs.declared.operations.kinds.Function.{Function}
use Rattle.expr.specs.declared.operations.kinds.Function.TheVariants.{Neg, BitNot, Not, Abs, Length, Lower, Upper, Hex, TypeOf}
use Rattle.values.specs.declared.value.Ty.{Ty}
use Rattle.values.specs.declared.value.Ty.TheVariants.{Int, Text, Blob, Null}
use Rattle.values.specs.Datum.{Datum, null, int, text, blob, type_of}
use Rattle.expr.specs.Conjuncts.{conjuncts}
use Rattle.expr.specs.Meaning.{eval, run}
use Rattle.expr.specs.Term.{Term, Terms, Arms, literal, column, call, arithmetic, concat, compare, is, and, or, between, among, coalesce, choice, choice_of, null_if, like, none, answer, more, no_arms, arm}

-- a value of this type, or NULL, which is of every type
abbrev pub IsOfType : Ty → Datum → Type 0
IsOfType ty null = ⊤
IsOfType ty (int z) = type_of (int z) ≡ ty
IsOfType ty (text s) = type_of (text s) ≡ ty
IsOfType ty (blob b) = type_of (blob b) ≡ ty

-- the type that a function takes
abbrev pub Takes : Function → Ty → Type 0
Takes Neg ty = ty ≡ Int
Takes BitNot ty = ty ≡ Int
Takes Not ty = ty ≡ Int
Takes Abs ty = ty ≡ Int
Takes Length ty = (ty ≡ Text) ⊎ (ty ≡ Blob)
Takes Lower ty = ty ≡ Text
Takes Upper ty = ty ≡ Text
Takes Hex ty = (ty ≡ Text) ⊎ (ty ≡ Blob)
Takes TypeOf ty = ⊤

-- the type that it gives
abbrev pub gives : Function → Ty
gives Neg = Int
gives BitNot = Int
gives Not = Int
gives Abs = Int
gives Length = Int
gives Lower = Text
gives Upper = Text
gives Hex = Text
gives TypeOf = Text

-- what is of a type may stand where a type is wanted; what is NULL alone may stand anywhere
abbrev pub FitsType : Ty → Ty → Type 0
FitsType of ty = (of ≡ Null) ⊎ (of ≡ ty)

-- the type at a place of a list is one that may stand there
abbrev pub FitsAt : List Ty → ℕ → Ty → Type 0
FitsAt types at ty = (of : Ty) × (slice_get types at ≡ Some of) × FitsType of ty

-- the columns of the row have these types, and so have the answers of inner queries
module _ (columns answers : List Ty) where
  abbrev mutual
    -- an expression has this type; one that is NULL alone has every type
    pub HasType : Term → Ty → Type 0
    HasType (literal v) ty = IsOfType ty v
    HasType (column i) ty = FitsAt columns i ty
    HasType (call f a) ty = (of : Ty) × HasType a of × Takes f of × (ty ≡ gives f)
    HasType (arithmetic op a b) ty = HasType a Int × HasType b Int × (ty ≡ Int)
    HasType (concat a b) ty = HasType a Text × HasType b Text × (ty ≡ Text)
    HasType (compare op a b) ty = (of : Ty) × HasType a of × HasType b of × (ty ≡ Int)
    HasType (is a b) ty = (of : Ty) × HasType a of × HasType b of × (ty ≡ Int)
    HasType (and a b) ty = HasType a Int × HasType b Int × (ty ≡ Int)
    HasType (or a b) ty = HasType a Int × HasType b Int × (ty ≡ Int)
    HasType (between x a b) ty = (of : Ty) × HasType x of × HasType a of × HasType b of × (ty ≡ Int)
    HasType (among x items) ty = (of : Ty) × HasType x of × HaveType items of × (ty ≡ Int)
    HasType (coalesce items) ty = HaveType items ty
    HasType (choice rest e) ty = ArmsHaveTypes rest Int ty × HasType e ty
    HasType (choice_of x rest e) ty = (of : Ty) × HasType x of × ArmsHaveTypes rest of ty × HasType e ty
    HasType (null_if a b) ty = HasType a ty × HasType b ty
    HasType (like a b) ty = HasType a Text × HasType b Text × (ty ≡ Int)

    pub HaveType : Terms → Ty → Type 0
    HaveType none ty = ⊤
    HaveType (answer k) ty = FitsAt answers k ty
    HaveType (more t ts) ty = HasType t ty × HaveType ts ty

    -- behind WHEN stands the one type, behind THEN the other
    pub ArmsHaveTypes : Arms → Ty → Ty → Type 0
    ArmsHaveTypes no_arms of ty = ⊤
    ArmsHaveTypes (arm c e rest) of ty = HasType c of × HasType e ty × ArmsHaveTypes rest of ty

-- the value of an expression, if there is one, has its type or is NULL, where the row's values have the types of their
-- columns or are NULL, and so has what stands for a result out of range, if anything does, that of whole numbers
abbrev pub ValuesHaveTypes : Type 0
ValuesHaveTypes = (o : Option Datum) (columns answers : List Ty) (row : List Datum) (t : Term) (ty : Ty) → IfSome o (IsOfType Int) → AllZip IsOfType columns row
    → HasType columns answers t ty → IfSome (run o row t) (IsOfType ty)

-- the same, where something does
abbrev pub EvalHasType : Type 0
EvalHasType = (w : Datum) (columns answers : List Ty) (row : List Datum) (t : Term) (ty : Ty) → IsOfType Int w → AllZip IsOfType columns row
    → HasType columns answers t ty → IsOfType ty (eval w t row)

-- each conjunct of a condition, an expression that is a whole number, is a condition
abbrev pub ConjunctsAreTyped : Type 0
ConjunctsAreTyped = (columns answers : List Ty) (t : Term) → HasType columns answers t Int → All (λ c. HasType columns answers c Int) (conjuncts t)

-- over a column of whole numbers and one of texts: CASE c0 WHEN 1 THEN c1 || '' ELSE NULL END is a text, and c0 + c1 is
-- of no type; over a column that is NULL alone, c0 + 1 is a whole number
abbrev pub TypesOfExamples : Type 0
TypesOfExamples =
    HasType (Int ∷ Text ∷ []) [] (choice_of (column 0) (arm (literal (int (pos 1))) (concat (column 1) (literal (text []))) no_arms) (literal null)) Text
    × ((ty : Ty) → ¬ HasType (Int ∷ Text ∷ []) [] (arithmetic Add (column 0) (column 1)) ty)
    × HasType (Null ∷ []) [] (arithmetic Add (column 0) (literal (int (pos 1)))) Int
