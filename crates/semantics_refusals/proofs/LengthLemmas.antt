-- As many types as there are values in a row.
use Rattle.std.proofs.Common.{◌≡◌, ℕ, ◌+◌, List, [], ◌∷◌, ◌++◌, length, Option, Some, None, Ok, nat_eq, slice_get, ap, sym, ◌∙◌, arith, length-append}
use Rattle.std.proofs.lemmas.Bool.{eqb-true}
use Rattle.values.specs.declared.fault.Fault.TheVariants.{ColumnCount, TypeMismatch}
use Rattle.values.specs.declared.value.Ty.{Ty}
use Rattle.semantics.specs.Query.{From, Grouping, Select, Source, from_width, source_width}
use Rattle.semantics.specs.Typed.{schema_types}
use Rattle.semantics_names.specs.Outcome.{each, found_or}
use Rattle.semantics_names.specs.Types.{aggregate_type, answer_types, call_type, computed_types, condition_type, from_types, grouped_types, inner_type, of_width, source_types, term_type}
use Rattle.semantics_names.proofs.OutcomeLemmas.{also-ok, both-ok, checked-ok, followed-ok}
use Rattle.semantics_refusals.proofs.OkLemmas.{ok-is}
use Rattle.semantics_refusals.proofs.TypeLemmas.{body_length, each_length}
use Rattle.semantics_refusals.proofs.WithinLemmas.{inner_count, input_width}

sums : (a b c d : ℕ) → a ≡ c → b ≡ d → a + b ≡ c + d
sums a b c d e f = omega (arith, e, f)

pub inputs_length : (answers row : List Ty) (g : Option Grouping) (inputs : List Ty) → grouped_types answers row g ≡ Ok inputs
    → length inputs ≡ input_width (length row) g
inputs_length answers row None inputs e = ap length (sym (ok-is row inputs e))
inputs_length answers row (Some g) inputs e =
    let (keys, by, more) = followed-ok (each (term_type answers row) g.by) _ inputs e in
    let (values, aggregates, last) = followed-ok (each (aggregate_type answers row) g.aggregates) _ inputs more in
    let (ty, having, same) = also-ok (λ _. keys ++ values) (condition_type answers (keys ++ values) g.having) inputs last in
    let first : length keys ≡ length g.by = each_length (term_type answers row) g.by keys by in
    let second : length values ≡ length g.aggregates = each_length (aggregate_type answers row) g.aggregates values aggregates in
    ap length (sym same) ∙ length-append keys values ∙ sums (length keys) (length values) (length g.by) (length g.aggregates) first second

pub computed_length : (answers row : List Ty) (s : Select) (computed : List Ty) → computed_types answers row s ≡ Ok computed
    → length computed ≡ input_width (length row) s.grouping + length s.windows
computed_length answers row s computed e =
    let (ty, condition, more) = followed-ok (condition_type answers row s.condition) _ computed e in
    let (inputs, grouped, last) = followed-ok (grouped_types answers row s.grouping) _ computed more in
    let (values, calls, same) = also-ok (λ calls. inputs ++ calls) (each (call_type answers inputs) s.windows) computed last in
    let first : length inputs ≡ input_width (length row) s.grouping = inputs_length answers row s.grouping inputs grouped in
    let second : length values ≡ length s.windows = each_length (call_type answers inputs) s.windows values calls in
    ap length (sym same) ∙ length-append inputs values
    ∙ sums (length inputs) (length values) (input_width (length row) s.grouping) (length s.windows) first second

module _ (tables : List (List Ty)) where
  pub source_length : (source : Source) (types : List Ty) → source_types tables source ≡ Ok types → length types ≡ source_width source
  source_length (Source.table at width) types e =
      let (of, is, sized) = followed-ok (found_or TypeMismatch (slice_get tables at)) (of_width width) types e in
      let (even, same) = checked-ok (nat_eq width (length of)) ColumnCount (Ok of) types sized in
      ap length (sym (ok-is of types same)) ∙ sym (eqb-true width (length of) even)
  source_length Source.schema types e = ap length (sym (ok-is schema_types types e))
  source_length (Source.derived body) types e = body_length tables body types e

  pub from_length : (answers : List Ty) (from : From) (types : List Ty) → from_types tables answers from ≡ Ok types
      → length types ≡ from_width from
  from_length answers From.nothing types e = ap length (sym (ok-is [] types e))
  from_length answers (From.joined from kind source on) types e =
      let (left, begun, more) = followed-ok (from_types tables answers from) _ types e in
      let (right, given, last) = followed-ok (source_types tables source) _ types more in
      let (ty, condition, same) = also-ok (λ _. left ++ right) (condition_type answers (left ++ right) on) types last in
      ap length (sym same) ∙ length-append left right
      ∙ sums (length left) (length right) (from_width from) (source_width source) (from_length answers from left begun)
      (source_length source right given)
  from_length answers (From.with_inner from query) types e = from_length answers from types e

  pub answers_length : (from : From) (answers : List Ty) → answer_types tables from ≡ Ok answers → length answers ≡ inner_count from
  answers_length From.nothing answers e = ap length (sym (ok-is [] answers e))
  answers_length (From.joined from kind source on) answers e = answers_length from answers e
  answers_length (From.with_inner from query) answers e =
      let (before, ty, first, last, same) = both-ok (λ before ty. before ++ ty ∷ []) (answer_types tables from) (inner_type tables query) answers e in
      ap length (sym same) ∙ length-append before (ty ∷ []) ∙ ap (λ n. n + 1) (answers_length from before first)
