-- The types of whole queries without queries in them, with the values of inner queries in any order.
use Rattle.std.proofs.Common.{◌≡◌, ℕ, ◌+◌, All, List, [], ◌∷◌, ◌++◌, drop, length, map, slice_get, take, Some, refl, sym, ap, subst, ◌∙◌, IsPermutation}
use Rattle.std.specs.List.{AllZip}
use Rattle.std.proofs.lemmas.List.Elements.{All-cons, All-head, All-nil, All-tail}
use Rattle.std.proofs.lemmas.List.Sorted.{All-permutation, IsPermutation-sym}
use Rattle.values.specs.Database.{Database}
use Rattle.values.specs.Datum.{Datum}
use Rattle.values.specs.Row.{Row}
use Rattle.values.specs.declared.value.Ty.{Ty}
use Rattle.values.specs.declared.value.Ty.TheVariants.{Int}
use Rattle.expr.proofs.FilledLemmas.{filled_has_type}
use Rattle.expr.specs.Filled.{filled}
use Rattle.expr.specs.Term.{Term}
use Rattle.expr.specs.Types.{FitsType, HasType, IsOfType}
use Rattle.semantics.proofs.ElementLemmas.{length_all_zip}
use Rattle.semantics.proofs.TypedLemmas.{answers_typed, body_width-is}
use Rattle.semantics.specs.Body.{SameTables, answer_of, answers_in, source_rows}
use Rattle.semantics.specs.Query.{Body, From, Key, KeyTerm, QueryData, Select, Source, compound, derived, joined, nothing, schema, select, table, with_inner}
use Rattle.semantics.specs.Typed.{BodyHasTypes, AnswersHaveTypes, FitTypes, FitsCatalog, FromHasTypes, HasTypes, IsKeyTerm, IsOrderTerm, SourceHasTypes, schema_types}
use Rattle.semantics.specs.Mapped.{mapped_key, mapped_key_term, mapped_select}
use Rattle.semantics_rewrites.proofs.lemmas.materialized_queries.AnswerLemmas.{as_answers, zip_back, zip_front, zip_turned}
use Rattle.semantics_rewrites.proofs.lemmas.materialized_queries.FinerLemmas.{Finer, finer_chain, finer_left, finer_right, finer_self, finer_term, meets}
use Rattle.semantics_rewrites.proofs.lemmas.materialized_queries.FlatTypeLemmas.{ArePlaced, all_placed, computed_still, first_placed, from_kinds, got_front, kinds_from, kinds_of, kinds_source, last_placed, none_answered, of_kinds, rows_typed, select_still, zip_append}
use Rattle.semantics_rewrites.proofs.lemmas.materialized_queries.MeetLemmas.{finer_computed, finer_select, source_long, source_meet}
use Rattle.semantics_rewrites.specs.materialized_queries.Flat.{materialized_from, materialized_source, kept_in, kept_of, with_kept}
use Rattle.semantics_rewrites.specs.materialized_queries.FlatTyped.{IsFlatQueryTyped}
use Rattle.semantics_rewrites.specs.materialized_queries.FlatWith.{AreAnswers, materialized_body_with, last_answers, queries_in, queries_of}

-- ---- lists in two parts, and in other orders

zip_split : {A B : Type 0} (R : A → B → Type 0) (xs ys : List A) (zs : List B) → AllZip R (xs ++ ys) zs
    → (us vs : List B) × (zs ≡ us ++ vs) × AllZip R xs us × AllZip R ys vs
zip_split R [] ys zs all = ([], zs, refl, tt, all)
zip_split R (x ∷ xs) ys [] all = absurd all
zip_split R (x ∷ xs) ys (z ∷ zs) all =
    let rest = zip_split R xs ys zs all.1 in
    (z ∷ rest.0, rest.1, ap (λ more. z ∷ more) rest.2, (all.0, rest.3), rest.4)

zip_permuted : {A B : Type 0} (P : A → B → Type 0) (ts : List A) (own given : List (List B)) → AllZip (λ t xs. All (P t) xs) ts own → AllZip IsPermutation own given
    → AllZip (λ t xs. All (P t) xs) ts given
zip_permuted P [] [] [] all same = tt
zip_permuted P [] [] (g ∷ given) all same = absurd same
zip_permuted P [] (o ∷ own) given all same = absurd all
zip_permuted P (t ∷ ts) [] given all same = absurd all
zip_permuted P (t ∷ ts) (o ∷ own) [] all same = absurd same
zip_permuted P (t ∷ ts) (o ∷ own) (g ∷ given) all same = (All-permutation (P t) o g same.0 all.0, zip_permuted P ts own given all.1 same.1)

-- ---- over finer types of the sources that are no tables

abbrev Coarser : List Ty → List Ty → Type 0
Coarser types kind = Finer kind types

coarser_self : (kinds : List (List Ty)) → AllZip Coarser kinds kinds
coarser_self [] = tt
coarser_self (kind ∷ kinds) = (finer_self kind, coarser_self kinds)

coarser_chain : (first second third : List (List Ty)) → AllZip Coarser first second → AllZip Coarser second third → AllZip Coarser first third
coarser_chain [] [] [] p q = tt
coarser_chain [] [] (z ∷ zs) p q = absurd q
coarser_chain [] (y ∷ ys) zs p q = absurd p
coarser_chain (x ∷ xs) [] zs p q = absurd p
coarser_chain (x ∷ xs) (y ∷ ys) [] p q = absurd q
coarser_chain (x ∷ xs) (y ∷ ys) (z ∷ zs) p q = (finer_chain z y x q.0 p.0, coarser_chain xs ys zs p.1 q.1)

module _ (catalog all : List (List Ty)) (front : (at : ℕ) (types : List Ty) → slice_get catalog at ≡ Some types → slice_get all at ≡ Some types) where
  source_finer : (place : ℕ) (source : Source) (types : List Ty) → SourceHasTypes catalog source types → (kinds : List (List Ty))
      → AllZip Coarser (kinds_source catalog source types) kinds → ArePlaced all place kinds → (own : List Ty) × Finer own types × SourceHasTypes all (materialized_source place source) own
  unfolding kinds_source
  source_finer place (table at width) types has kinds finer are = (types, finer_self types, (front at types has.0, has.1))
  source_finer place schema types has [] finer are = absurd finer
  source_finer place schema types has (kind ∷ kinds) finer are =
      (kind, finer.0, (are.0, sym (length_all_zip FitsType kind types finer.0 ∙ ap length has)))
  source_finer place (derived of) types has [] finer are = absurd finer
  source_finer place (derived of) types has (kind ∷ kinds) finer are =
      (kind, finer.0, (are.0, body_width-is catalog of types has ∙ sym (length_all_zip FitsType kind types finer.0)))

  from_finer : (answers : List Ty) (f : Term → Term) (still : (columns : List Ty) (t : Term) (ty : Ty) → HasType columns answers t ty → HasType columns [] (f t) ty)
      (place : ℕ) (from : From) (types : List Ty) (has : FromHasTypes catalog answers from types) (kinds : List (List Ty))
      → AllZip Coarser (kinds_from catalog answers from types has) kinds → ArePlaced all place kinds
      → (row : List Ty) × Finer row types × FromHasTypes all [] (materialized_from f place from) row
  unfolding kinds_from
  from_finer answers f still place nothing types has kinds finer are = ([], subst (Finer []) (sym has) tt, refl)
  from_finer answers f still place (joined from kind source on) types has kinds finer are =
      let own = kinds_from catalog answers from has.0 has.2 in
      let parts = zip_split Coarser own (kinds_source catalog source has.1) kinds finer in
      let placed = subst (ArePlaced all place) parts.2 are in
      let left = from_finer answers f still place from has.0 has.2 parts.0 parts.3 (first_placed all place parts.0 parts.1 placed) in
      let long : length parts.0 ≡ length (kept_in from) =
      sym (length_all_zip (SourceHasTypes catalog) (kept_in from) own (from_kinds catalog answers from has.0 has.2) ∙ length_all_zip Coarser own parts.0 parts.3) in
      let right = source_finer (place + length (kept_in from)) source has.1 has.3 parts.1 parts.4
      (subst (λ n. ArePlaced all (place + n) parts.1) long (last_placed all place parts.0 parts.1 placed)) in
      let row = left.0 ++ right.0 in
      let finer_row : Finer row types = subst (Finer row) (sym has.4) (zip_append FitsType left.0 has.0 right.0 has.1 left.1 right.1) in (
        row,
        finer_row,
        (left.0, right.0, left.2, right.2, refl, still row on Int (finer_term types row answers answers finer_row (finer_self answers) on Int has.5)),
      )
  from_finer answers f still place (with_inner from query) types has kinds finer are = from_finer answers f still place from types has kinds finer are

  module _ (w : Datum) (stand_in : IsOfType Int w) (db : Database) (fits : FitsCatalog catalog db) where
    still_given : (from : From) (own : List Ty) → AnswersHaveTypes catalog from own → (answers : List (List Datum)) → AllZip IsPermutation (answers_in w db from) answers
        → (columns : List Ty) (t : Term) (ty : Ty) → HasType columns own t ty → HasType columns [] (filled answers t) ty
    still_given from own has answers alike columns t ty is =
        filled_has_type columns own [] answers t ty
        (zip_permuted IsOfType own (answers_in w db from) answers (answers_typed w stand_in db catalog fits from own has) alike) is

    one_finer : (answers : List (List Datum)) (place : ℕ) (from : From) (s : Select) (types : List Ty) (has : BodyHasTypes catalog (select from s) types) (kinds : List (List Ty))
        → AllZip Coarser (kinds_from catalog has.0 from has.1 has.3) kinds → ArePlaced all place kinds → AllZip IsPermutation (answers_in w db from) answers
        → BodyHasTypes all (select (materialized_from (filled answers) place from) (mapped_select (filled answers) s)) types
    one_finer answers place from s types has kinds finer are alike =
        let still = still_given from has.0 has.2 answers alike in
        let row = from_finer has.0 (filled answers) still place from has.1 has.3 kinds finer are in (
          [],
          row.0,
          none_answered catalog all front (filled answers) place from,
          row.2,
          select_still has.0 (filled answers) still row.0 s types (finer_select has.0 has.0 has.1 row.0 (finer_self has.0) row.1 s types has.4),
        )

    pub body_finer : (answers : List (List Datum)) (place : ℕ) (of : Body) (types : List Ty) (has : BodyHasTypes catalog of types) (kinds : List (List Ty))
        → AllZip Coarser (kinds_of catalog of types has) kinds → ArePlaced all place kinds → AreAnswers w db of answers
        → BodyHasTypes all (materialized_body_with answers place of) types
    unfolding kinds_of
    body_finer answers place (select from s) types has kinds finer are alike =
        one_finer answers place from s types has kinds finer are (as_answers w db from answers alike)
    body_finer answers place (compound before operator from s) types has kinds finer are alike =
        let own = kinds_of catalog before types has.0 in
        let last = kinds_from catalog has.1.0 from has.1.1 has.1.3 in
        let parts = zip_split Coarser own last kinds finer in
        let placed = subst (ArePlaced all place) parts.2 are in
        let long : length parts.0 ≡ length (kept_of before) =
        sym (length_all_zip (SourceHasTypes catalog) (kept_of before) own (of_kinds catalog before types has.0) ∙ length_all_zip Coarser own parts.0 parts.3) in (
          body_finer (take (length (queries_of before)) answers) place before types has.0 parts.0 parts.3 (first_placed all place parts.0 parts.1 placed)
              (zip_front IsPermutation (answer_of w db) (queries_of before) (queries_in from) answers alike),
          one_finer (drop (length (queries_of before)) answers) (place + length (kept_of before)) from s types has.1 parts.1 parts.4
              (subst (λ n. ArePlaced all (place + n) parts.1) long (last_placed all place parts.0 parts.1 placed))
              (as_answers w db from (drop (length (queries_of before)) answers) (zip_back IsPermutation (answer_of w db) (queries_of before) (queries_in from) answers alike)),
        )

    term_finer : (answers : List (List Datum)) (place : ℕ) (from : From) (s : Select) (t : Term) (has : IsOrderTerm catalog (select from s) t) (kinds : List (List Ty))
        → AllZip Coarser (kinds_from catalog has.1.0 from has.1.1 has.1.4) kinds → ArePlaced all place kinds → AllZip IsPermutation (answers_in w db from) answers
        → IsOrderTerm all (select (materialized_from (filled answers) place from) (mapped_select (filled answers) s)) (filled answers t)
    term_finer answers place from s t has kinds finer are alike =
        let still = still_given from has.1.0 has.1.3 answers alike in
        let row = from_finer has.1.0 (filled answers) still place from has.1.1 has.1.4 kinds finer are in
        let computed = finer_computed has.1.0 has.1.0 has.1.1 row.0 (finer_self has.1.0) row.1 s has.1.2 has.1.5 in (
          has.0,
          (
            [],
            row.0,
            computed.0,
            none_answered catalog all front (filled answers) place from,
            row.2,
            computed_still has.1.0 (filled answers) still row.0 s computed.0 computed.2,
            (has.1.6.0, still computed.0 t has.1.6.0 (finer_term has.1.2 computed.0 has.1.0 has.1.0 computed.1 (finer_self has.1.0) t has.1.6.0 has.1.6.1)),
          ),
        )

-- ---- ORDER BY

module _ (catalog : List (List Ty)) (w : Datum) (stand_in : IsOfType Int w) (db : Database) (fits : FitsCatalog catalog db) where
  -- one typing of the sources that may stand for two
  both_kinds : (sources : List Source) (first second : List (List Ty)) → AllZip (SourceHasTypes catalog) sources first → AllZip (SourceHasTypes catalog) sources second
      → (kinds : List (List Ty)) × AllZip (SourceHasTypes catalog) sources kinds × AllZip Coarser first kinds × AllZip Coarser second kinds
  both_kinds [] [] [] p q = ([], tt, tt, tt)
  both_kinds [] [] (y ∷ ys) p q = absurd q
  both_kinds [] (x ∷ xs) ys p q = absurd p
  both_kinds (s ∷ ss) [] ys p q = absurd p
  both_kinds (s ∷ ss) (x ∷ xs) [] p q = absurd q
  both_kinds (s ∷ ss) (x ∷ xs) (y ∷ ys) p q =
      let rest = both_kinds ss xs ys p.1 q.1 in
      let long = sym (source_long catalog s x p.0) ∙ source_long catalog s y q.0 in
      (meets x y ∷ rest.0, (source_meet catalog s x y p.0 q.0, rest.1), (finer_left x y, rest.2), (finer_right x y long, rest.3))

  -- over these types of the sources, and over finer ones, a key of ORDER BY is typed
  abbrev KeyIsFlat : Body → List Ty → List (List Ty) → KeyTerm → Type 0
  KeyIsFlat of types kinds by = (answers : List (List Datum)) (more : List (List Ty)) → AllZip Coarser kinds more → AreAnswers w db of answers
      → IsKeyTerm (catalog ++ more) (materialized_body_with answers (length catalog) of) types (mapped_key_term (filled (last_answers answers of)) by)

  key_finer : (of : Body) (types : List Ty) (by : KeyTerm) → IsKeyTerm catalog of types by → (first : List (List Ty)) → AllZip (SourceHasTypes catalog) (kept_of of) first
      → (kinds : List (List Ty)) × AllZip (SourceHasTypes catalog) (kept_of of) kinds × AllZip Coarser first kinds × KeyIsFlat of types kinds by
  key_finer of types (KeyTerm.result at) has first typed = (first, typed, coarser_self first, λ answers more finer alike. has)
  key_finer (select from s) types (KeyTerm.term t) has first typed =
      let own = kinds_from catalog has.1.0 from has.1.1 has.1.4 in
      let both = both_kinds (kept_in from) first own typed (from_kinds catalog has.1.0 from has.1.1 has.1.4) in (
        both.0,
        both.1,
        both.2,
        λ answers more finer alike. term_finer catalog (catalog ++ more) (got_front catalog more) w stand_in db fits answers (length catalog) from s t has more
            (coarser_chain own both.0 more both.3 finer) (all_placed catalog (length catalog) more refl) (as_answers w db from answers alike),
      )
  key_finer (compound before operator from s) types (KeyTerm.term t) has first typed = absurd has

  order_finer : (of : Body) (types : List Ty) (order : List Key) → All (λ key. IsKeyTerm catalog of types key.by) order → (first : List (List Ty))
      → AllZip (SourceHasTypes catalog) (kept_of of) first
      → (kinds : List (List Ty)) × AllZip (SourceHasTypes catalog) (kept_of of) kinds × AllZip Coarser first kinds
      × ((answers : List (List Datum)) (more : List (List Ty)) → AllZip Coarser kinds more → AreAnswers w db of answers
      → All (λ key. IsKeyTerm (catalog ++ more) (materialized_body_with answers (length catalog) of) types key.by) (map (mapped_key (filled (last_answers answers of))) order))
  order_finer of types [] each first typed = (first, typed, coarser_self first, λ answers more finer alike. All-nil _)
  order_finer of types (key ∷ order) each first typed =
      let rest = order_finer of types order (All-tail (λ k. IsKeyTerm catalog of types k.by) key order each) first typed in
      let one = key_finer of types key.by (All-head (λ k. IsKeyTerm catalog of types k.by) key order each) rest.0 rest.1 in (
        one.0,
        one.1,
        coarser_chain first rest.0 one.0 rest.2 one.2,
        λ answers more finer alike. All-cons (λ k. IsKeyTerm (catalog ++ more) (materialized_body_with answers (length catalog) of) types k.by)
            (mapped_key (filled (last_answers answers of)) key) (map (mapped_key (filled (last_answers answers of))) order)
            (one.3 answers more finer alike) (rest.3 answers more (coarser_chain rest.0 one.0 more one.2 finer) alike),
      )

  fits_permuted : (kinds : List (List Ty)) (sources : List Source) → AllZip (SourceHasTypes catalog) sources kinds → (other : Database)
      → SameTables other (with_kept w db sources) → FitsCatalog (catalog ++ kinds) other
  fits_permuted kinds sources typed other same =
      let behind = map (source_rows w db) sources in
      let tables = zip_append FitTypes catalog db.tables kinds behind fits.tables (rows_typed catalog w stand_in db fits sources kinds typed) in
      record {
        schema = All-permutation (λ (row : Row). AllZip IsOfType schema_types row) db.schema other.schema (IsPermutation-sym other.schema db.schema same.schema) fits.schema;
        tables = zip_permuted (λ types (row : Row). AllZip IsOfType types row) (catalog ++ kinds) (db.tables ++ behind) other.tables tables
            (zip_turned other.tables (db.tables ++ behind) same.tables);
      }

  pub materialized_query_typed : (query : QueryData) (types : List Ty) → HasTypes catalog query types → IsFlatQueryTyped w db catalog query types
  materialized_query_typed query types has =
      let own = kinds_of catalog query.body types has.body in
      let common = order_finer query.body types query.order has.order own (of_kinds catalog query.body types has.body) in
      let kinds = common.0 in
      record {
        kinds = kinds;
        sources = common.1;
        typed = λ answers alike. record {
          body = body_finer catalog (catalog ++ kinds) (got_front catalog kinds) w stand_in db fits answers (length catalog) query.body types has.body kinds common.2
              (all_placed catalog (length catalog) kinds refl) alike;
          order = common.3 answers kinds (coarser_self kinds) alike;
        };
        fits = λ other same. fits_permuted kinds (kept_of query.body) common.1 other same;
      }
