-- The value of a typed expression has its type.
use Rattle.std.proofs.Common.{◌≡◌, ℕ, zero, suc, if◌then◌else◌, ℤ, Bool, true, false, List, [], ◌∷◌, Option, Some, None, option_map, refl, subst, inl, inr, slice_get, slice_index_or, unwrap_or}
use Rattle.std.specs.List.{AllZip}
use Rattle.std.proofs.lemmas.List.Elements.{All-append, All-cons, All-nil}
use Rattle.std.specs.Option.{IfSome, option_and_then}
use Rattle.values.specs.declared.value.Ty.{Ty}
use Rattle.values.specs.declared.value.Ty.TheVariants.{Int, Text, Blob, Null}
use Rattle.values.specs.Datum.{Datum, null, int, text, blob}
use Rattle.expr.specs.declared.operations.kinds.Arithmetic.{Arithmetic}
use Rattle.expr.specs.declared.operations.kinds.Arithmetic.TheVariants.{Add, Sub, Mul, Div, Rem, BitAnd, BitOr}
use Rattle.expr.specs.declared.operations.kinds.Comparison.TheVariants.{Ge, Le}
use Rattle.expr.specs.declared.operations.kinds.Function.{Function}
use Rattle.expr.specs.declared.operations.kinds.Function.TheVariants.{Neg, BitNot, Not, Abs, Length, Lower, Upper, Hex, TypeOf}
use Rattle.expr.specs.operations.Operations.{settle, fits_64, is_zero, of_integers, arithmetic_of, condition, comparison, concat_of, is_null, unless_true, null_if_equal}
use Rattle.expr.specs.operations.Functions.{of_int, of_text, length_of, hex_of, call_of}
use Rattle.expr.specs.operations.Like.{like_of}
use Rattle.expr.specs.Meaning.{both, and_then, or_else, first_value, chosen, or_otherwise, holds, eval, run, run_first, run_arms}
use Rattle.expr.specs.Term.{Term, Terms, Arms, literal, column, call, arithmetic, concat, compare, is, and, or, between, among, coalesce, choice, choice_of, null_if, like, none, answer, more, no_arms, arm}
use Rattle.expr.specs.Conjuncts.{conjuncts}
use Rattle.expr.specs.Types.{IsOfType, FitsType, FitsAt, gives, HasType, HaveType, ArmsHaveTypes, ValuesHaveTypes, EvalHasType, ConjunctsAreTyped, TypesOfExamples}

abbrev pub Good : Ty → Option Datum → Type 0
Good ty m = IfSome m (IsOfType ty)

good_if : (ty : Ty) (b : Bool) (x y : Option Datum) → Good ty x → Good ty y → Good ty (if b then x else y)
good_if ty true x y p q = p
good_if ty false x y p q = q

good_bind : (ty : Ty) (f : Datum → Option Datum) → ((v : Datum) → Good ty (f v)) → (m : Option Datum) → Good ty (option_and_then f m)
good_bind ty f h None = tt
good_bind ty f h (Some v) = h v

good_both : {B : Type 0} (ty : Ty) (f : Datum → B → Option Datum) → ((x : Datum) (y : B) → Good ty (f x y)) → (a : Option Datum) (b : Option B) → Good ty (both f a b)
good_both ty f h None b = tt
good_both ty f h (Some x) None = tt
good_both ty f h (Some x) (Some y) = h x y

-- ---- conditions

is_int : (b : Option Bool) → IsOfType Int (condition b)
unfolding condition
is_int None = tt
is_int (Some true) = refl
is_int (Some false) = refl

good_condition : {A : Type 0} (f : A → Option Bool) (m : Option A) → Good Int (option_map (λ x. condition (f x)) m)
good_condition f None = tt
good_condition f (Some x) = is_int (f x)

good_and : (a b : Option (Option Bool)) → Good Int (and_then a b)
good_and None b = tt
good_and (Some (Some false)) b = is_int (Some false)
good_and (Some (Some true)) b = good_condition _ b
good_and (Some None) b = good_condition _ b

good_or : (a b : Option (Option Bool)) → Good Int (or_else a b)
good_or None b = tt
good_or (Some (Some true)) b = is_int (Some true)
good_or (Some (Some false)) b = good_condition _ b
good_or (Some None) b = good_condition _ b

-- ---- texts

concat_is_text : (a b : Datum) → IsOfType Text (concat_of a b)
unfolding concat_of
concat_is_text (text s) (text t) = refl
concat_is_text (text s) null = tt
concat_is_text (text s) (int _) = tt
concat_is_text (text s) (blob _) = tt
concat_is_text null b = tt
concat_is_text (int _) b = tt
concat_is_text (blob _) b = tt

like_is_int : (a b : Datum) → IsOfType Int (like_of a b)
unfolding like_of
like_is_int (text s) (text p) = is_int _
like_is_int (text s) null = tt
like_is_int (text s) (int _) = tt
like_is_int (text s) (blob _) = tt
like_is_int null b = tt
like_is_int (int _) b = tt
like_is_int (blob _) b = tt

-- ---- choices

good_first : (ty : Ty) (m rest : Option Datum) → Good ty m → Good ty rest → Good ty (first_value m rest)
good_first ty None rest p q = tt
good_first ty (Some x) rest p q = good_if ty (is_null x) rest (Some x) q p

-- what the arms of a CASE give
abbrev GoodArm : Ty → Option (Option Datum) → Type 0
GoodArm ty m = IfSome m (Good ty)

good_chosen : (ty : Ty) (c : Option (Option Bool)) (e : Option Datum) (rest : Option (Option Datum)) → Good ty e → GoodArm ty rest → GoodArm ty (chosen c e rest)
good_chosen ty None e rest p q = tt
good_chosen ty (Some (Some true)) None rest p q = tt
good_chosen ty (Some (Some true)) (Some v) rest p q = p
good_chosen ty (Some (Some false)) e rest p q = q
good_chosen ty (Some None) e rest p q = q

good_otherwise : (ty : Ty) (m : Option (Option Datum)) (e : Option Datum) → GoodArm ty m → Good ty e → Good ty (or_otherwise m e)
good_otherwise ty None e p q = tt
good_otherwise ty (Some (Some v)) e p q = p
good_otherwise ty (Some None) e p q = q

unless_keeps : (ty : Ty) (b : Option Bool) (x : Datum) → IsOfType ty x → IsOfType ty (unless_true b x)
unless_keeps ty (Some true) x p = tt
unless_keeps ty (Some false) x p = p
unless_keeps ty None x p = p

good_null_if : (ty : Ty) (a b : Option Datum) → Good ty a → Good ty (both (λ x y. Some (null_if_equal x y)) a b)
unfolding null_if_equal
good_null_if ty None b p = tt
good_null_if ty (Some x) None p = tt
good_null_if ty (Some x) (Some y) p = unless_keeps ty (comparison _ x y) x p

-- ---- columns

value_of_column : (columns : List Ty) (row : List Datum) (i : ℕ) (ty : Ty) → AllZip IsOfType columns row → slice_get columns i ≡ Some ty → IsOfType ty (slice_index_or row i null)
value_of_column [] row i ty all e = cc
value_of_column (c ∷ columns) [] i ty all e = absurd all
value_of_column (c ∷ columns) (v ∷ row) zero ty all e = let same : c ≡ ty = cc in subst (λ k. IsOfType k v) same all.0
value_of_column (c ∷ columns) (v ∷ row) (suc i) ty all e = value_of_column columns row i ty all.1 e

null_alone : (ty : Ty) (v : Datum) → IsOfType Null v → IsOfType ty v
null_alone ty null has = tt
null_alone ty (int x) has = let differ : Int ≡ Null = has in cc
null_alone ty (text s) has = let differ : Text ≡ Null = has in cc
null_alone ty (blob b) has = let differ : Blob ≡ Null = has in cc

-- a value of a type is one of each type where it may stand
pub fits_type : (of ty : Ty) (v : Datum) → FitsType of ty → IsOfType of v → IsOfType ty v
fits_type of ty v (inl e) has = null_alone ty v (subst (λ k. IsOfType k v) e has)
fits_type of ty v (inr e) has = subst (λ k. IsOfType k v) e has

-- the value at the place of each column has its type; so it has on the empty row, whose values are all NULL
abbrev pub ColumnsFit : List Ty → List Datum → Type 0
ColumnsFit columns row = (i : ℕ) (ty : Ty) → slice_get columns i ≡ Some ty → IsOfType ty (slice_index_or row i null)

pub columns_fit : (columns : List Ty) (row : List Datum) → AllZip IsOfType columns row → ColumnsFit columns row
columns_fit columns row all i ty e = value_of_column columns row i ty all e

good_column : (columns : List Ty) (row : List Datum) (i : ℕ) (ty : Ty) → ColumnsFit columns row → FitsAt columns i ty → IsOfType ty (slice_index_or row i null)
good_column columns row i ty fits at = fits_type at.0 ty _ at.2 (fits i at.0 at.1)

-- what stands for a result out of range
module _ (o : Option Datum) (stand_in : Good Int o) where
  pub good_settle : (z : ℤ) → Good Int (settle o z)
  unfolding settle
  good_settle z = good_if Int (fits_64 z) (Some (int z)) o refl stand_in

  good_of_integers : (op : Arithmetic) (x y : ℤ) → Good Int (of_integers o op x y)
  unfolding of_integers
  good_of_integers Add x y = good_settle _
  good_of_integers Sub x y = good_settle _
  good_of_integers Mul x y = good_settle _
  good_of_integers Div x y = good_if Int (is_zero y) (Some null) _ tt (good_settle _)
  good_of_integers Rem x y = good_if Int (is_zero y) (Some null) _ tt (good_settle _)
  good_of_integers BitAnd x y = refl
  good_of_integers BitOr x y = refl

  good_arithmetic : (op : Arithmetic) (a b : Datum) → Good Int (arithmetic_of o op a b)
  unfolding arithmetic_of
  good_arithmetic op (int x) (int y) = good_of_integers op x y
  good_arithmetic op (int x) null = tt
  good_arithmetic op (int x) (text _) = tt
  good_arithmetic op (int x) (blob _) = tt
  good_arithmetic op null b = tt
  good_arithmetic op (text _) b = tt
  good_arithmetic op (blob _) b = tt

  good_int : (f : ℤ → Option Datum) → ((x : ℤ) → Good Int (f x)) → (a : Datum) → Good Int (of_int f a)
  good_int f h null = tt
  good_int f h (int x) = h x
  good_int f h (text _) = tt
  good_int f h (blob _) = tt

  good_length : (a : Datum) → Good Int (length_of o a)
  unfolding length_of
  good_length null = tt
  good_length (int x) = tt
  good_length (text s) = good_settle _
  good_length (blob b) = good_settle _

  text_of : (f : List ℕ → List ℕ) (a : Datum) → IsOfType Text (of_text f a)
  text_of f null = tt
  text_of f (int x) = tt
  text_of f (text s) = refl
  text_of f (blob b) = tt

  hex_is_text : (a : Datum) → IsOfType Text (hex_of a)
  unfolding hex_of
  hex_is_text null = refl
  hex_is_text (int x) = refl
  hex_is_text (text s) = refl
  hex_is_text (blob b) = refl

  good_call : (f : Function) (a : Datum) → Good (gives f) (call_of o f a)
  unfolding call_of
  good_call Neg a = good_int _ (λ x. good_settle _) a
  good_call BitNot a = good_int _ (λ x. good_settle _) a
  good_call Not a = is_int _
  good_call Abs a = good_int _ (λ x. good_settle _) a
  good_call Length a = good_length a
  good_call Lower a = text_of _ a
  good_call Upper a = text_of _ a
  good_call Hex a = hex_is_text a
  good_call TypeOf a = refl

  module _ (columns answers : List Ty) (row : List Datum) (fits : ColumnsFit columns row) where
    mutual
      pub typed : (t : Term) (ty : Ty) → HasType columns answers t ty → Good ty (run o row t)
      typed (literal v) ty h = h
      typed (column i) ty h = good_column columns row i ty fits h
      typed (call f a) ty h = rw h.3 (good_bind (gives f) (call_of o f) (good_call f) (run o row a))
      typed (arithmetic op a b) ty h = rw h.2 (good_both Int (arithmetic_of o op) (good_arithmetic op) (run o row a) (run o row b))
      typed (concat a b) ty h = rw h.2 (good_both Text _ concat_is_text (run o row a) (run o row b))
      typed (compare op a b) ty h = rw h.3 (good_condition (λ c. c) _)
      typed (is a b) ty h = rw h.3 (good_both Int _ (λ x y. is_int _) (run o row a) (run o row b))
      typed (and a b) ty h = rw h.2 (good_and _ _)
      typed (or a b) ty h = rw h.2 (good_or _ _)
      typed (between x a b) ty h = rw h.4 (good_and _ _)
      typed (among x items) ty h = rw h.3 (good_both Int _ (λ v vs. is_int _) (run o row x) _)
      typed (coalesce items) ty h = typed_first items ty h
      typed (choice rest e) ty h =
          good_otherwise ty (run_arms o row None rest) (run o row e) (typed_arms None rest Int ty h.0) (typed e ty h.1)
      typed (choice_of x rest e) ty h =
          good_bind
          ty
          (λ v. or_otherwise (run_arms o row (Some v) rest) (run o row e))
          (λ v. good_otherwise ty (run_arms o row (Some v) rest) (run o row e) (typed_arms (Some v) rest h.0 ty h.2) (typed e ty h.3))
          (run o row x)
      typed (null_if a b) ty h = good_null_if ty (run o row a) (run o row b) (typed a ty h.0)
      typed (like a b) ty h = rw h.2 (good_both Int _ like_is_int (run o row a) (run o row b))

      typed_first : (ts : Terms) (ty : Ty) → HaveType columns answers ts ty → Good ty (run_first o row ts)
      typed_first none ty h = tt
      typed_first (answer k) ty h = tt
      typed_first (more t ts) ty h = good_first ty (run o row t) (run_first o row ts) (typed t ty h.0) (typed_first ts ty h.1)

      typed_arms : (x : Option Datum) (rest : Arms) (of ty : Ty) → ArmsHaveTypes columns answers rest of ty → GoodArm ty (run_arms o row x rest)
      typed_arms x no_arms of ty h = tt
      typed_arms x (arm c e rest) of ty h =
          good_chosen ty (option_map (holds x) (run o row c)) (run o row e) (run_arms o row x rest) (typed e ty h.1) (typed_arms x rest of ty h.2)

pub values_have_types : ValuesHaveTypes
values_have_types o columns answers row t ty stand_in fits h = typed o stand_in columns answers row (columns_fit columns row fits) t ty h

pub value_or_null : (ty : Ty) (m : Option Datum) → Good ty m → IsOfType ty (unwrap_or m null)
value_or_null ty None p = tt
value_or_null ty (Some v) p = p

-- the value on a row whose values have the types of the columns at their places
pub eval_fits : (w : Datum) (columns answers : List Ty) (row : List Datum) (t : Term) (ty : Ty) → IsOfType Int w → ColumnsFit columns row
    → HasType columns answers t ty → IsOfType ty (eval w t row)
eval_fits w columns answers row t ty stand_in fits h = value_or_null ty (run (Some w) row t) (typed (Some w) stand_in columns answers row fits t ty h)

pub eval_has_type : EvalHasType
eval_has_type w columns answers row t ty stand_in fits h =
    value_or_null ty (run (Some w) row t) (values_have_types (Some w) columns answers row t ty stand_in fits h)

pub conjuncts_are_typed : ConjunctsAreTyped
conjuncts_are_typed columns answers (and a b) h =
    All-append (λ c. HasType columns answers c Int) (conjuncts a) (conjuncts b) (conjuncts_are_typed columns answers a h.0) (conjuncts_are_typed columns answers b h.1)
conjuncts_are_typed columns answers (between x a b) h =
    let above : HasType columns answers (compare Ge x a) Int = (h.0, h.1, h.2, refl) in
    let below : HasType columns answers (compare Le x b) Int = (h.0, h.1, h.3, refl) in
    All-cons
    (λ c. HasType columns answers c Int)
    (compare Ge x a)
    (compare Le x b ∷ [])
    above
    (All-cons (λ c. HasType columns answers c Int) (compare Le x b) [] below (All-nil (λ c. HasType columns answers c Int)))
conjuncts_are_typed columns answers t h = All-cons (λ c. HasType columns answers c Int) t [] h (All-nil (λ c. HasType columns answers c Int))

pub types_of_examples : TypesOfExamples
types_of_examples = (
  (Int, (Int, refl, inr refl), (refl, ((Text, refl, inr refl), refl, refl), tt), tt),
  (λ ty h. text_is_no_number h.1.0 h.1.1 h.1.2),
  ((Null, refl, inl refl), refl, refl),
)
  where
    text_is_no_number : (of : Ty) → Some Text ≡ Some of → FitsType of Int → ⊥
    text_is_no_number of e (inl p) = let differ : Text ≡ Null = cc in cc
    text_is_no_number of e (inr p) = let differ : Text ≡ Int = cc in cc
