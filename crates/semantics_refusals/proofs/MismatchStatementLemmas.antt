-- A statement that is refused by its types has an expression that is of another type than its place wants.
use Rattle.std.proofs.Common.{◌≡◌, ◌≢◌, ◌⊎◌, inl, inr, ◌+◌, ◌<◌, List, length, not, Some, None, Ok, Err, Contains, get_or, slice_get, refl, sym, subst, ◌∙◌, arith}
use Rattle.std.proofs.lemmas.Option.{slice_get-get_or}
use Rattle.values.specs.declared.fault.Fault.{Fault}
use Rattle.values.specs.declared.fault.Fault.TheVariants.{TypeMismatch, WrongPlace}
use Rattle.values.specs.declared.value.Ty.{Ty}
use Rattle.values.specs.declared.value.Ty.TheVariants.{Int}
use Rattle.sql_reader_syntax.specs.StatementTree.{StatementTree}
use Rattle.semantics.specs.Query.{Body, Key, KeyTerm}
use Rattle.semantics_names.specs.Outcome.{also, each, followed}
use Rattle.semantics_names.specs.Statement.{Named, named}
use Rattle.semantics_names.specs.Typed.{Table, column_types, known_tables, typed_query, with_types}
use Rattle.semantics_names.specs.Types.{answer_types, body_types, computed_types, from_types, key_type, query_types, term_type}
use Rattle.semantics_refusals.specs.Mismatches.{BodyMisfits, HasMismatch, IsMistyped, KeyMisfits, SingleMisfits}
use Rattle.semantics_refusals.proofs.ClashLemmas.{IsWithin}
use Rattle.semantics_refusals.proofs.LengthLemmas.{answers_length, from_length}
use Rattle.semantics_refusals.proofs.MismatchLemmas.{computed_err, term_err}
use Rattle.semantics_refusals.proofs.ErrLemmas.{also-err, checked-err, each-err, followed-err, found-err}
use Rattle.semantics_refusals.proofs.OwnLemmas.{own_answers, own_computed, own_row}
use Rattle.semantics_refusals.proofs.PartLemmas.{among}
use Rattle.semantics_refusals.proofs.ReasonLemmas.{HasReasons, names_for_reasons}
use Rattle.semantics_refusals.proofs.ScopeLemmas.{Says}
use Rattle.semantics_refusals.proofs.StatementLemmas.{fault_is}
use Rattle.semantics_refusals.proofs.TypeLemmas.{body_length}
use Rattle.semantics_refusals.proofs.WithinLemmas.{BodyIsWithin, IsWithinKey, inner_count, input_width}
use Rattle.semantics_refusals.proofs.WithinStatementLemmas.{IsWithinNamed, statement_within}
use Rattle.semantics_refusals.proofs.MismatchQueryLemmas.{IsRefusedAt, answers_err, body_err, from_err, from_there, select_there, single_misfits}

-- ---- ORDER BY

module _ (tables : List (List Ty)) where
  key_err : (body : Body) (types : List Ty) (key : KeyTerm) → BodyIsWithin tables body → body_types tables body ≡ Ok types → IsWithinKey body key
      → key_type tables body types key ≡ Err TypeMismatch → BodyMisfits tables body ⊎ KeyMisfits tables body key
  key_err body types (KeyTerm.result at) v is w e =
      absurd (past (slice_get-get_or types at Int inside) (found-err TypeMismatch (slice_get types at) TypeMismatch e))
    where
      inside : at < length types
      inside = let size = body_length tables body types is in let less = w.is in omega (arith, size, less)

      past : slice_get types at ≡ Some (get_or types at Int) → slice_get types at ≡ None → ⊥
      past f g = let both : Some (get_or types at Int) ≡ None = sym f ∙ g in absurd cc
  key_err (Body.select from s) types (KeyTerm.term t) v is w e = by (checked-err (not s.distinct) WrongPlace _ TypeMismatch e)
    where
      at_row : (answers row : List Ty) → answer_types tables from ≡ Ok answers → from_types tables answers from ≡ Ok row
          → (computed_types answers row s ≡ Err TypeMismatch)
          ⊎ ((computed : List Ty) × (computed_types answers row s ≡ Ok computed) × (term_type answers computed t ≡ Err TypeMismatch))
          → BodyMisfits tables (Body.select from s) ⊎ KeyMisfits tables (Body.select from s) (KeyTerm.term t)
      at_row answers row are of (inl d) =
          inl (BodyMisfits.alone (SingleMisfits.select answers row (own_answers tables from answers are) (own_row tables answers from row of)
          (computed_err answers row s (select_there tables from s answers row are of v.1) d)))
      at_row answers row are of (inr (computed, all, d)) =
          inr (KeyMisfits.term answers row computed (own_answers tables from answers are) (own_row tables answers from row of)
          (own_computed answers row s computed all) (term_err answers row s computed all t
          (subst (λ n. IsWithin n (input_width (length row) s.grouping + length s.windows) t) (sym (answers_length tables from answers are))
          (subst (λ n. IsWithin (inner_count from) (input_width n s.grouping + length s.windows) t)
          (sym (from_length tables answers from row of)) w.is.1)) d))

      misfits : IsRefusedAt tables from s (λ answers row. followed (computed_types answers row s) (λ computed. term_type answers computed t))
          → BodyMisfits tables (Body.select from s) ⊎ KeyMisfits tables (Body.select from s) (KeyTerm.term t)
      misfits (inl m) = inl (BodyMisfits.alone m)
      misfits (inr (answers, row, are, of, d)) =
          at_row answers row are of (followed-err (computed_types answers row s) (λ computed. term_type answers computed t) TypeMismatch d)

      by : (WrongPlace ≡ TypeMismatch) ⊎ (followed (answer_types tables from) (λ answers. followed (from_types tables answers from) (λ row.
          followed (computed_types answers row s) (λ computed. term_type answers computed t))) ≡ Err TypeMismatch)
          → BodyMisfits tables (Body.select from s) ⊎ KeyMisfits tables (Body.select from s) (KeyTerm.term t)
      by (inl d) = absurd cc
      by (inr d) =
          misfits (single_misfits tables from s (λ answers row. followed (computed_types answers row s) (λ computed. term_type answers computed t))
          (λ f. answers_err tables (inner_count from) from v.0 f)
          (λ answers are f. from_err tables answers from (from_there tables from answers are v.0) f) d)
  key_err (Body.compound left operator from s) types (KeyTerm.term t) v is w e = absurd cc

  -- ---- the query, and what stands beside it

  query_err : (n : Named) → IsWithinNamed tables n → query_types tables n.query ≡ Err TypeMismatch → HasMismatch tables n
  query_err n w e = by (followed-err (body_types tables n.query.body) _ TypeMismatch e)
    where
      sorted : (key : Key) → Contains n.query.order key → BodyMisfits tables n.query.body ⊎ KeyMisfits tables n.query.body key.by
          → HasMismatch tables n
      sorted key there (inl m) = HasMismatch.query m
      sorted key there (inr m) = HasMismatch.order key there m

      by : (body_types tables n.query.body ≡ Err TypeMismatch)
          ⊎ ((types : List Ty) × (body_types tables n.query.body ≡ Ok types)
          × (also (λ (_ : List Ty). types) (each (λ (k : Key). key_type tables n.query.body types k.by) n.query.order) ≡ Err TypeMismatch))
          → HasMismatch tables n
      by (inl d) = HasMismatch.query (body_err tables n.query.body w.body d)
      by (inr (types, is, d)) =
          let (key, there, of) =
          each-err (λ (k : Key). key_type tables n.query.body types k.by) n.query.order TypeMismatch
          (also-err (λ (_ : List Ty). types) (each (λ (k : Key). key_type tables n.query.body types k.by) n.query.order) TypeMismatch d) in
          sorted key there (key_err n.query.body types key.by w.body is (among w.order there) of)

  named_err : (n : Named) → IsWithinNamed tables n → with_types tables n ≡ Err TypeMismatch → HasMismatch tables n
  named_err n w e = by (followed-err (each (body_types tables) n.beside) _ TypeMismatch e)
    where
      by : (each (body_types tables) n.beside ≡ Err TypeMismatch)
          ⊎ ((all : List (List Ty)) × (each (body_types tables) n.beside ≡ Ok all)
          × (also (λ (_ : List Ty). n) (query_types tables n.query) ≡ Err TypeMismatch))
          → HasMismatch tables n
      by (inl d) =
          let (body, there, is) = each-err (body_types tables) n.beside TypeMismatch d in
          HasMismatch.beside body there (body_err tables body (among w.beside there) is)
      by (inr (all, are, d)) = query_err n w (also-err (λ (_ : List Ty). n) (query_types tables n.query) TypeMismatch d)

-- ---- names have no such fault

abbrev IsOtherFault : Fault → Type 0
IsOtherFault fault = fault ≢ TypeMismatch

no_names : Says IsOtherFault
no_names = record {
  unknown = λ scope table name e so d. absurd cc;
  twice = λ scope table name e so d. absurd cc;
  repeated = λ names e so d. absurd cc;
}

others : (tables : List Table) (tree : StatementTree) → HasReasons IsOtherFault tables tree
others tables tree = record {
  takes = record { laws = inr (λ d. absurd cc) };
  bare_laws = inr (λ d. absurd cc);
  unknown_table = λ _ d. absurd cc;
  unknown_column = λ _ d. absurd cc;
  ambiguous = λ _ d. absurd cc;
  duplicate = λ _ d. absurd cc;
  column_count = λ _ d. absurd cc;
  limit = λ _ d. absurd cc;
  frame = λ _ d. absurd cc;
  wrong_place = λ _ d. absurd cc;
  bare_column = λ _ d. absurd cc;
}

pub mismatch_is_mistyped : (tables : List Table) (tree : StatementTree) → typed_query tables tree ≡ Err TypeMismatch → IsMistyped tables tree
mismatch_is_mistyped tables tree e = by (followed-err (named (known_tables tables) tree) (with_types (column_types tables)) TypeMismatch e)
  where
    by : (named (known_tables tables) tree ≡ Err TypeMismatch)
        ⊎ ((n : Named) × (named (known_tables tables) tree ≡ Ok n) × (with_types (column_types tables) n ≡ Err TypeMismatch)) → IsMistyped tables tree
    by (inl d) =
        absurd (fault_is (named (known_tables tables) tree) TypeMismatch
        (names_for_reasons IsOtherFault tables tree no_names (others tables tree)) d refl)
    by (inr (n, is, d)) = (n, is, named_err (column_types tables) n (statement_within tables tree n is) d)
