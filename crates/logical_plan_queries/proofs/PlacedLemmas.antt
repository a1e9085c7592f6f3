-- The place of the values of one term of ORDER BY.
use Rattle.std.proofs.Common.{◌≡◌, ◌∙◌, ◌<◌, ◌≤◌, ◌++◌, ◌∷◌, [], ℕ, List, append-nil, append_assoc, length, refl, sym, ap, subst, arith}
use lib.ListN.{get_or-eq_default}
use Rattle.std.proofs.Math.Seq.{get_or-append_seam}
use Rattle.std.proofs.lemmas.List.{get_or_append_left, length-append}
use Rattle.values.specs.Datum.{null}
use Rattle.expr.specs.Meaning.{eval}
use Rattle.expr.specs.Term.{Term}
use Rattle.semantics.specs.Query.{KeyTerm}
use Rattle.semantics.specs.Sequence.{value_at}
use Rattle.logical_plan_terms.specs.Over.{StandsOver}
use Rattle.logical_plan_queries.specs.Places.{IsPlacedOver}

-- a result column
pub placed_result : (read : List ℕ) (width : ℕ) (before : List Term) (at : ℕ) → at < width → IsPlacedOver read width (KeyTerm.result at) before before at
placed_result read width before at within = record {
  by = KeyTerm.result at;
  stands = refl;
  columns_are = sym (append-nil before);
  place = λ w shown after more row d wide next short. get_or_append_left shown (after ++ more) null at (subst (λ n. at < n) (sym wide) within);
}

-- no row has a value there, as it has none in a result column that isn't there
pub placed_past : (read : List ℕ) (width : ℕ) (before : List Term) (at : ℕ) → width ≤ at
    → IsPlacedOver read width (KeyTerm.result at) before before 18446744073709551615
placed_past read width before at past = record {
  by = KeyTerm.result at;
  stands = refl;
  columns_are = sym (append-nil before);
  place = λ w shown after more row d wide next short.
      get_or-eq_default (shown ++ (after ++ more)) null (omega (arith, short))
      ∙ sym (get_or-eq_default shown null (omega (arith, wide, past)));
}

-- a term whose value comes after those of the columns before
pub placed_term : (read : List ℕ) (width : ℕ) (before : List Term) (e t : Term) (at : ℕ) → StandsOver read 0 e t → at ≡ length before
    → IsPlacedOver read width (KeyTerm.term t) before (before ++ e ∷ []) at
placed_term read width before e t at stands last = record {
  by = KeyTerm.term e;
  stands = stands;
  columns_are = refl;
  place = λ w shown after more row d wide next short.
      ap (λ whole. value_at whole at) (sym (append_assoc shown after (eval w e row ∷ more)))
      ∙ subst (λ n. value_at ((shown ++ after) ++ eval w e row ∷ more) n ≡ eval w e row) (length-append shown after ∙ next ∙ sym last)
      (get_or-append_seam (shown ++ after) (eval w e row) more null);
}
