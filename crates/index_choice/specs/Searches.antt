-- What a search with its values stands for: the rows on which its conjuncts are true.
use Rattle.std.specs.Prelude.{◌≡◌, ◌&&◌, Bool, true, false, ℕ, List, [], ◌∷◌, ◌++◌, All, IsPermutation, map, Option, Some, None, option_to_list, slice_index_or, ⊤}
use Rattle.std.specs.List.{Contains, filter, list_all}
use Rattle.values.specs.Datum.{Datum, null}
use Rattle.expr.specs.Conjuncts.{is_true}
use Rattle.expr.specs.Meaning.{run}
use Rattle.expr.specs.Term.{Term}
use Rattle.btree_cursor.specs.key_ranges.Ranges.{Edge, Range, from_cut, has_null, is_within, to_cut}
use Rattle.index_choice.specs.declared.comparisons.Side.{Side}
use Rattle.index_choice.specs.declared.comparisons.Side.TheVariants.{Equal, Lower, Upper}
use Rattle.index_choice.specs.ColumnBounds.{BoundTerm, bounds_of}

-- the conjuncts by which a search bounds its first columns, and the one behind them
pub record SearchTerms : Type 0 where
  pub equal : List Term
  pub lower : Option Term
  pub upper : Option Term

abbrev pub terms_of : SearchTerms → List Term
terms_of search = search.equal ++ (option_to_list search.lower ++ option_to_list search.upper)

-- o stands for results out of range, or nothing does
module _ (o : Option Datum) (row : List Datum) where
  abbrev pub are_true : List Term → Bool
  are_true = list_all (λ t. is_true (run o row t))

  -- on a row a conjunct bounds a column on a side by a value
  pub record IsBoundBy (side : Side) (c : ℕ) (strict : Bool) (value : Datum) (t : Term) : Type 0 where
    pub bound : BoundTerm
    pub among : Contains (bounds_of t) bound
    pub side_is : bound.side ≡ side
    pub column_is : bound.column ≡ c
    pub strict_is : bound.strict ≡ strict
    pub value_is : run o row bound.value ≡ Some value

  -- the first of some columns has this edge by a conjunct, or none
  abbrev pub IsEdgeBy : Side → List ℕ → Option Edge → Option Term → Type 0
  IsEdgeBy side columns None None = ⊤
  IsEdgeBy side (c ∷ columns) (Some edge) (Some t) = IsBoundBy side c edge.strict edge.value t
  IsEdgeBy side columns edge t = ⊥

  -- the first columns equal these values by these conjuncts, and the one behind them has these edges
  abbrev pub AreBoundsBy : List ℕ → List Datum → List Term → Option Edge → Option Edge → Option Term → Option Term → Type 0
  AreBoundsBy columns [] [] lower upper low up = IsEdgeBy Lower columns lower low × IsEdgeBy Upper columns upper up
  AreBoundsBy (c ∷ columns) (value ∷ equal) (t ∷ ts) lower upper low up =
      IsBoundBy Equal c false value t × AreBoundsBy columns equal ts lower upper low up
  AreBoundsBy columns equal ts lower upper low up = ⊥

  -- an entry begins with the values of these columns
  abbrev pub BeginsWith : List ℕ → List Datum → Type 0
  BeginsWith [] entry = ⊤
  BeginsWith (c ∷ columns) [] = ⊥
  BeginsWith (c ∷ columns) (x ∷ rest) = (x ≡ slice_index_or row c null) × BeginsWith columns rest

-- A search of a key with the values of its bounds, over the rows of a table: `full` puts a row among those of the sources
-- placed before it; `covered` tells whether the key has an entry for it, `entry_of` which, and `fetch` the row of an entry.
pub record IsPathOf (o : Option Datum) (full : List Datum → List Datum) (columns : List ℕ) (search : SearchTerms) (range : Range)
    (rows list : List (List Datum)) (covered : List Datum → Bool) (entry_of fetch : List Datum → List Datum) : Type 0 where
  pub entries : IsPermutation list (map entry_of (filter covered rows))
  pub bounds : All (λ row. AreBoundsBy o (full row) columns range.equal search.equal range.lower range.upper search.lower search.upper) rows
  pub begins : All (λ row. BeginsWith o (full row) columns (entry_of row)) rows
  pub back : All (λ row. fetch (entry_of row) ≡ row) rows

-- the rows of the entries that a search finds
abbrev pub found_by : List Bool → Range → (List Datum → List Datum) → List (List Datum) → List (List Datum)
found_by descends range fetch entries = map fetch (filter (is_within descends (from_cut descends range) (to_cut descends range)) entries)

-- It gives exactly the rows that its key covers on which its conjuncts are true, each as often; and where a bound is NULL there
-- is none.
abbrev pub PathGivesCovered : Type 0
PathGivesCovered = (descends : List Bool) (o : Option Datum) (full : List Datum → List Datum) (columns : List ℕ) (search : SearchTerms) (range : Range)
    (rows entries : List (List Datum)) (covered : List Datum → Bool) (entry_of fetch : List Datum → List Datum)
    → IsPathOf o full columns search range rows entries covered entry_of fetch → has_null range ≡ false
    → IsPermutation (found_by descends range fetch entries) (filter (λ row. covered row && are_true o (full row) (terms_of search)) rows)

-- So where these conjuncts imply that a row is covered, it gives exactly the rows on which they are true.
abbrev pub PathIsFilter : Type 0
PathIsFilter = (descends : List Bool) (o : Option Datum) (full : List Datum → List Datum) (columns : List ℕ) (search : SearchTerms) (range : Range)
    (rows entries : List (List Datum)) (covered : List Datum → Bool) (entry_of fetch : List Datum → List Datum)
    → IsPathOf o full columns search range rows entries covered entry_of fetch → has_null range ≡ false
    → All (λ row. are_true o (full row) (terms_of search) ≡ true → covered row ≡ true) rows
    → IsPermutation (found_by descends range fetch entries) (filter (λ row. are_true o (full row) (terms_of search)) rows)

-- A partial index may be served by other conjuncts than those of its search: where all conjuncts of a SELECT that are tested on the
-- row imply that it is covered, testing them on what the search gives keeps exactly the rows on which they are true. (Partial Indexes,
-- "Queries Using Partial Indexes")
abbrev pub PathServesTests : Type 0
PathServesTests = (descends : List Bool) (o : Option Datum) (full : List Datum → List Datum) (columns : List ℕ) (search : SearchTerms) (range : Range)
    (rows entries : List (List Datum)) (covered : List Datum → Bool) (entry_of fetch : List Datum → List Datum) (tests : List Term)
    → IsPathOf o full columns search range rows entries covered entry_of fetch → has_null range ≡ false
    → All (λ row. are_true o (full row) tests ≡ true → are_true o (full row) (terms_of search) ≡ true) rows
    → All (λ row. are_true o (full row) tests ≡ true → covered row ≡ true) rows
    → IsPermutation (filter (λ row. are_true o (full row) tests) (found_by descends range fetch entries)) (filter (λ row. are_true o (full row) tests) rows)

abbrev pub NullGivesNone : Type 0
NullGivesNone = (o : Option Datum) (row : List Datum) (columns : List ℕ) (search : SearchTerms) (range : Range) (entry : List Datum)
    → AreBoundsBy o row columns range.equal search.equal range.lower range.upper search.lower search.upper → BeginsWith o row columns entry
    → has_null range ≡ true → are_true o row (terms_of search) ≡ false
