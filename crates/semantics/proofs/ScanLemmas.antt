-- Queries that ask for no order, and those over one source.
use Rattle.std.proofs.Common.{◌≡◌, Bool, true, false, List, [], ◌∷◌, ◌++◌, map, refl, sym, ap, subst, ◌∙◌, append-nil, IsPermutation, ℕ}
use Rattle.std.specs.List.{filter}
use Rattle.std.proofs.lemmas.List.Sorted.{IsPermutation-map}
use Rattle.values.specs.Datum.{Datum}
use Rattle.expr.specs.operations.Operations.{truth}
use Rattle.expr.specs.Term.{Term}
use Rattle.semantics.specs.Query.{Body, Key, QueryData, Source, always, compound, of_columns, only, select}
use Rattle.values.specs.Row.{Row}
use Rattle.semantics.specs.Valuation.{Valuation, holds_on, kept, term_values, with_answers}
use Rattle.values.specs.Database.{Database}
use Rattle.semantics.specs.Body.{Output, body, body_rows, output, outputs, plain_outputs, rows_of, select_rows, source_rows, values_over}
use Rattle.semantics.specs.Windows.{numbered_after, windowed}
use Rattle.semantics.specs.Answer.{Begins, Permits, skipped, slice}
use Rattle.semantics.proofs.GroupLemmas.{map-map}
use Rattle.semantics.proofs.AnswerLemmas.{limited-map, skipped-map}

pub map-identity : {X : Type 0} (xs : List X) → map (λ x. x) xs ≡ xs
map-identity [] = refl
map-identity (x ∷ xs) = ap (λ rest. x ∷ rest) (map-identity xs)

pub filter-all : {X : Type 0} (p : X → Bool) → ((x : X) → p x ≡ true) → (xs : List X) → filter p xs ≡ xs
filter-all p all [] = refl
filter-all p all (x ∷ xs) = rw (all x) (ap (λ rest. x ∷ rest) (filter-all p all xs))

module _ (w : Datum) (answers : List (List Datum)) where
  pub always_holds : (row : Row) → holds_on (with_answers w answers) always row ≡ true
  unfolding truth
  always_holds row = refl

  pub kept-always : (rows : List Row) → kept (with_answers w answers) always rows ≡ rows
  kept-always rows = filter-all (holds_on (with_answers w answers) always) always_holds rows

module _ (w : Datum) (db : Database) where
  -- FROM of one source is the source
  pub from_one : (source : Source) → rows_of w db (only source) ≡ source_rows w db source
  from_one source = append-nil _ ∙ append-nil _ ∙ append-nil _ ∙ map-identity _ ∙ kept-always w [] (source_rows w db source)

  plain_outputs-rows : (value : Valuation) (order : List Key) (rows : List Row) → map (λ o. o.row) (plain_outputs value order rows) ≡ rows
  plain_outputs-rows value order rows = map-map (λ (o : Output). o.row) (λ shown. output value order shown []) rows ∙ map-identity rows

  -- the result rows of the outputs are those of the body
  pub outputs-rows : (order : List Key) (body : Body) → map (λ o. o.row) (outputs w db order body) ≡ body_rows w db body
  outputs-rows order (compound body operator from s) = plain_outputs-rows (values_over w db from) order (body_rows w db (compound body operator from s))
  outputs-rows order (select from s) = of_select s.distinct refl
    where
      of_select : (b : Bool) → s.distinct ≡ b → map (λ o. o.row) (outputs w db order (select from s)) ≡ body_rows w db (select from s)
      of_select true is = rw is (plain_outputs-rows (values_over w db from) order _)
      of_select false is = rw is
          (map-map (λ (o : Output). o.row) (λ row. output (values_over w db from) order (term_values (values_over w db from) s.columns row) row)
          (select_rows (values_over w db from) w s (rows_of w db from)))

abbrev bare : Row → Output
bare row = record { row = row; keys = [] }

-- outputs without ORDER BY have no keys
outputs-bare : (w : Datum) (db : Database) (body : Body) → outputs w db [] body ≡ map bare (body_rows w db body)
outputs-bare w db (compound body operator from s) = refl
outputs-bare w db (select from s) = of_select s.distinct refl
  where
    of_select : (b : Bool) → s.distinct ≡ b → outputs w db [] (select from s) ≡ map bare (body_rows w db (select from s))
    of_select true is = rw is refl
    of_select false is = rw is (sym (map-map bare (term_values (values_over w db from) s.columns) (select_rows (values_over w db from) w s (rows_of w db from))))

unordered-body : (w : Datum) (db : Database) (query : QueryData) → query.order ≡ [] → body w db query ≡ map bare (body_rows w db query.body)
unordered-body w db query unordered = ap (λ order. outputs w db order query.body) unordered ∙ outputs-bare w db query.body

shown_bare : (query : QueryData) (rows : List Row) → slice query rows ≡ map (λ o. o.row) (slice query (map bare rows))
shown_bare query rows = rw (skipped-map bare query.offset rows, limited-map bare query.limit (skipped query.offset rows))
    (sym (map-map (λ (o : Output). o.row) bare (slice query rows) ∙ map-identity (slice query rows)))

-- without ORDER BY every order of the result rows is permitted
pub unordered_permitted : (w : Datum) (db : Database) (query : QueryData) (rows : List Row) → query.order ≡ []
    → IsPermutation (body_rows w db query.body) rows → Permits w db query (slice query rows)
unordered_permitted w db query rows unordered same = record {
  ordered = map bare rows;
  same = rw (unordered-body w db query unordered) (IsPermutation-map bare _ _ same);
  ascends = rw unordered (λ k d low below. refl);
  shown = shown_bare query rows;
}

-- and each of its beginnings begins an answer
pub Begins-unordered : (w : Datum) (db : Database) (query : QueryData) (rows given rest : List Row) → query.order ≡ []
    → IsPermutation (body_rows w db query.body) rows → slice query rows ≡ given ++ rest → Begins w db query given
Begins-unordered w db query rows given rest unordered same parts =
    record { rest = rest; permitted = subst (Permits w db query) parts (unordered_permitted w db query rows unordered same) }

-- without a window call each row stays as it is
numbered_rows : (before rows : List Row) → map (λ (r : Row × ℕ). r.0 ++ []) (numbered_after before rows) ≡ rows
numbered_rows before [] = refl
numbered_rows before (row ∷ rows) = rw (append-nil row) (ap (λ rest. row ∷ rest) (numbered_rows (row ∷ before) rows))

pub windowed-none : (value : Valuation) (w : Datum) (rows : List Row) → windowed value w [] rows ≡ rows
windowed-none value w rows = numbered_rows [] rows

-- columns of one source, row by row
pub scan_rows : (w : Datum) (db : Database) (source : Source) (columns : List Term)
    → body_rows w db (select (only source) (of_columns columns)) ≡ map (term_values (with_answers w []) columns) (source_rows w db source)
scan_rows w db source columns =
    ap (map (term_values (with_answers w []) columns)) (windowed-none (with_answers w []) w _ ∙ kept-always w [] _ ∙ from_one w db source)
