-- Worked terms and types, and whether they agree.
use Rattle.std.proofs.Common.{◌≡◌, ◌⊎◌, inl, inr, ℕ, zero, suc, pos, [], ◌∷◌, Some, slice_get, refl, sym, arith}
use Rattle.std.specs.List.{AllZip}
use Rattle.values.specs.Datum.{int, null}
use Rattle.values.specs.declared.value.Ty.{Ty}
use Rattle.values.specs.declared.value.Ty.TheVariants.{Blob, Int, Null, Text}
use Rattle.expr.specs.Term.{Term, arithmetic, call, column, literal}
use Rattle.expr.specs.Types.{FitsAt, FitsType}
use Rattle.expr.specs.declared.operations.kinds.Arithmetic.TheVariants.{Add}
use Rattle.expr.specs.declared.operations.kinds.Function.TheVariants.{Length}
use Rattle.semantics.specs.Query.{of_columns}
use Rattle.semantics.specs.Typed.{BodyHasTypes, IsTerm}
use Rattle.semantics_refusals.specs.Clashes.{AreAtOdds, HasClash, IsAmong, IsClash, Misfits}
use Rattle.semantics_refusals.specs.Mismatches.{AreMismatched, SelectMisfits}
use Rattle.semantics_refusals.specs.TypeExamples.{ClashesAreFound, OwnTypesAreLeast, PlacesMisfit, null_alone, text_and_one, text_or_null}
use Rattle.semantics_refusals.proofs.OddsLemmas.{clash_refuted, misfit_refuted, odds_refuted}
use Rattle.semantics_refusals.proofs.OwnLemmas.{own_body, own_computed}

-- ---- clashes

text_is_no_number : FitsAt (Int ∷ Text ∷ []) 1 Int → ⊥
text_is_no_number (of, there, inl e) = let same : Text ≡ of = cc in absurd cc
text_is_no_number (of, there, inr e) = let same : Text ≡ of = cc in absurd cc

sum_clashes : IsClash [] (Int ∷ Text ∷ []) text_and_one
sum_clashes = record {
  operator = tt;
  typed = ((Text, (Text, refl, inr refl)), ((Int, refl), tt));
  untyped = λ h. text_is_no_number h.1.0;
}

abbrev length_of_number : Term
length_of_number = call Length (column 0)

no_length : IsTerm [] (Int ∷ Text ∷ []) length_of_number → ⊥
no_length (ty, (of, (from, there, fits), takes, e)) = by fits takes
  where
    by : (from ≡ Null) ⊎ (from ≡ of) → (of ≡ Text) ⊎ (of ≡ Blob) → ⊥
    by (inl f) t = let same : Int ≡ from = cc in absurd cc
    by (inr f) (inl t) = let same : Int ≡ from = cc in absurd cc
    by (inr f) (inr t) = let same : Int ≡ from = cc in absurd cc

length_clashes : IsClash [] (Int ∷ Text ∷ []) length_of_number
length_clashes = record { operator = tt; typed = ((Int, (Int, refl, inr refl)), tt); untyped = no_length }

pub clashes_are_found : ClashesAreFound
clashes_are_found = (
  sum_clashes,
  HasClash.inside length_of_number (IsAmong.later (IsAmong.later IsAmong.first)) (HasClash.here length_clashes),
  λ c. no_length c.typed.1.1.0,
  λ c.
      clash_refuted [] (Int ∷ Text ∷ []) text_or_null c (Text, (Int, (Int, refl, inr refl), (refl, ((Text, refl, inr refl), refl, refl), tt), tt)),
  λ c. clash_refuted [] (Null ∷ []) (arithmetic Add (column 0) (literal (int (pos 1)))) c (Int, ((Null, refl, inl refl), refl, refl)),
  no_column,
)
  where
    no_column : HasClash [] [] (column 0) → ⊥
    no_column (HasClash.here c) = c.operator
    no_column (HasClash.inside operand there clash) = elim there [ ]

-- ---- places

one_type : (ty : Ty) → FitsAt (Int ∷ Text ∷ []) 0 ty → FitsAt (Int ∷ Text ∷ []) 1 ty → ⊥
one_type ty (of, there, inl e) (other, beside, g) = let same : Int ≡ of = cc in absurd cc
one_type ty (of, there, inr e) (other, beside, inl d) = let same : Text ≡ other = cc in absurd cc
one_type ty (of, there, inr e) (other, beside, inr d) =
    let same : Int ≡ of = cc in
    let also : Text ≡ other = cc in
    absurd cc

apart_number : (ty : Ty) → FitsType Text ty → ¬ FitsType Int ty
apart_number ty (inl e) f = absurd cc
apart_number ty (inr e) (inl d) = absurd cc
apart_number ty (inr e) (inr d) = absurd cc

-- at each place both may be of one type
not_apart : AreMismatched (Int ∷ Null ∷ []) (Null ∷ Text ∷ []) → ⊥
not_apart a = by a.at a.there a.beside
  where
    by : (at : ℕ) → slice_get (Int ∷ Null ∷ []) at ≡ Some a.one → slice_get (Null ∷ Text ∷ []) at ≡ Some a.other → ⊥
    by zero e d =
        let one : Int ≡ a.one = cc in
        let other : Null ≡ a.other = cc in
        a.apart Int (inr (sym one)) (inl (sym other))
    by (suc zero) e d =
        let one : Null ≡ a.one = cc in
        let other : Text ≡ a.other = cc in
        a.apart Text (inl (sym one)) (inr (sym other))
    by (suc (suc at)) e d = absurd cc

pub places_misfit : PlacesMisfit
places_misfit = (
  Misfits.other (Text, (Text, refl, inr refl)) text_is_no_number,
  λ m. misfit_refuted [] (Int ∷ Text ∷ []) Int (literal null) m tt,
  AreAtOdds.apart (Int, (Int, refl, inr refl)) (Text, (Text, refl, inr refl)) one_type,
  λ m. odds_refuted [] (Int ∷ Text ∷ []) (column 0) (literal null) m Int (Int, refl, inr refl) tt,
  record { at = 1; one = Text; other = Int; there = refl; beside = refl; apart = apart_number },
  not_apart,
  SelectMisfits.result (Int ∷ Text ∷ []) text_and_one (own_computed [] (Int ∷ Text ∷ []) (of_columns (text_and_one ∷ [])) (Int ∷ Text ∷ []) refl)
      (0, omega arith, refl) (HasClash.here sum_clashes),
)

-- ---- own types

null_is : (ty : Ty) → BodyHasTypes [] null_alone (ty ∷ [])
null_is ty = (
  [],
  [],
  refl,
  refl,
  ([], record { inputs = []; values = []; condition = refl; grouped = refl; windows = tt; types_are = refl }, (tt, tt)),
)

pub own_types_are_least : OwnTypesAreLeast
own_types_are_least = (null_is Int, own_body [] null_alone (Null ∷ []) refl, λ own. no_null (own.least (Null ∷ []) (null_is Null)))
  where
    no_null : AllZip FitsType (Int ∷ []) (Null ∷ []) → ⊥
    no_null (inl e, rest) = absurd cc
    no_null (inr e, rest) = absurd cc
