-- The ways to read a source, by the conjuncts of its SELECT. (The SQLite Query Optimizer Overview; Partial Indexes)
use Rattle.std.specs.Prelude.{All, ◌≡◌, ◌<◌, Bool, true, false, take, ◌&&◌, ◌||◌, if◌then◌else◌, ℕ, ◌+◌, nat_eq, nat_lt, List, [], ◌∷◌, ◌++◌, length, option_to_list, Option, Some, None, slice_get}
use Rattle.std.specs.List.{HoldsAt, list_all, list_any}
use Rattle.std.specs.Option.{option_and_then}
use Rattle.index_choice.specs.declared.comparisons.Side.{Side}
use Rattle.index_choice.specs.declared.comparisons.Side.TheVariants.{Equal, Lower, Upper}
use Rattle.index_choice.specs.declared.choice.Search.{Search}
use Rattle.index_choice.specs.declared.choice.Path.{Path}
use Rattle.index_choice.specs.Bounds.{ConjunctData, are_known, first_bound}
use Rattle.index_choice.specs.Costs.{sharing, narrowed, search_cost}
use Rattle.index_choice.specs.Sources.{KeyData, SourceData}

-- A search of the key at a place of its source's. Its bounds are told by the places of their conjuncts: of equality for
-- the first columns, and the lower and the upper one of the column behind these.
pub record SearchData : Type 0 where
  pub key : ℕ
  pub equal : List ℕ
  pub lower : Option ℕ
  pub upper : Option ℕ

-- a way to read a source, all of it or a search, with the pages and the rows that are expected
pub record PathData : Type 0 where
  pub search : Option SearchData
  pub cost : ℕ
  pub rows : ℕ

abbrev pub search_data : Search → SearchData
search_data s = record { key = s.key; equal = s.equal.items; lower = s.lower; upper = s.upper }

abbrev pub search_option : Option Search → Option SearchData
search_option None = None
search_option (Some s) = Some (search_data s)

abbrev pub path_data : Path → PathData
path_data p = record { search = search_option p.search; cost = p.cost; rows = p.rows }

-- ---- one search

abbrev pub run_from : Option ℕ → List ℕ → List ℕ
run_from None rest = []
run_from (Some conjunct) rest = conjunct ∷ rest

module _ (known : List Bool) (conjuncts : List ConjunctData) where
  -- equality bounds of the longest run of columns from the first on
  abbrev pub equal_run : List ℕ → List ℕ
  equal_run [] = []
  equal_run (column ∷ more) = run_from (first_bound known conjuncts Equal column) (equal_run more)

  -- a bound of the column behind so many
  abbrev pub next_bound : Side → List ℕ → ℕ → Option ℕ
  next_bound side columns at = option_and_then (first_bound known conjuncts side) (slice_get columns at)

abbrev pub search_of : List Bool → List ConjunctData → ℕ → KeyData → SearchData
search_of known conjuncts at key = record {
  key = at;
  equal = equal_run known conjuncts key.columns;
  lower = next_bound known conjuncts Lower key.columns (length (equal_run known conjuncts key.columns));
  upper = next_bound known conjuncts Upper key.columns (length (equal_run known conjuncts key.columns));
}

abbrev pub bound_count : Option ℕ → ℕ
bound_count None = 0
bound_count (Some conjunct) = 1

abbrev pub range_bounds : SearchData → ℕ
range_bounds search = bound_count search.lower + bound_count search.upper

abbrev pub search_rows : KeyData → SearchData → ℕ
search_rows key search = narrowed (sharing key.entries key.distinct (length search.equal)) (range_bounds search)

abbrev pub path_of : KeyData → SearchData → PathData
path_of key search = record { search = Some search; cost = search_cost key.depth key.fetch (search_rows key search); rows = search_rows key search }

-- ---- the keys that serve

abbrev pub is_bounded : SearchData → Bool
is_bounded search = nat_lt 0 (length search.equal + range_bounds search)

abbrev pub usable_one : List Bool → Option ConjunctData → Bool
usable_one usable None = false
usable_one usable (Some conjunct) = are_known usable conjunct.names

-- the conjunct at a place names usable columns alone
abbrev pub is_usable : List Bool → List ConjunctData → ℕ → Bool
is_usable usable conjuncts at = usable_one usable (slice_get conjuncts at)

-- A condition of a partial index is implied by one of these conjuncts. (Partial Indexes, section 3.1)
abbrev pub is_implied : List Bool → List ConjunctData → List ℕ → Bool
is_implied usable conjuncts implying = list_any (is_usable usable conjuncts) implying

abbrev pub serves : List Bool → List Bool → List ConjunctData → KeyData → SearchData → Bool
serves known usable conjuncts key search = list_all (is_implied usable conjuncts) key.conditions && is_bounded search

-- the search of a key, where it serves
abbrev pub served : List Bool → List Bool → List ConjunctData → ℕ → KeyData → Option PathData
served known usable conjuncts at key =
    if serves known usable conjuncts key (search_of known conjuncts at key) then Some (path_of key (search_of known conjuncts at key)) else None

-- the searches of keys from a place on, in their order
abbrev pub searches : List Bool → List Bool → List ConjunctData → ℕ → List KeyData → List PathData
searches known usable conjuncts at [] = []
searches known usable conjuncts at (key ∷ more) = option_to_list (served known usable conjuncts at key) ++ searches known usable conjuncts (at + 1) more

abbrev pub scan_of : SourceData → PathData
scan_of source = record { search = None; cost = source.pages; rows = source.rows }

-- the paths of a source by their rank: the scan, and the searches in the order of its keys
abbrev pub paths_of : List Bool → List Bool → List ConjunctData → SourceData → List PathData
paths_of known usable conjuncts source = scan_of source ∷ searches known usable conjuncts 0 source.keys

-- a path is taken rather than one of a lower rank: it costs less, or the same and gives fewer rows
abbrev pub is_taken : PathData → PathData → Bool
is_taken path other = nat_lt path.cost other.cost || (nat_eq path.cost other.cost && nat_lt path.rows other.rows)

-- the least by cost, rows and rank
abbrev pub least_of : PathData → List PathData → PathData
least_of path [] = path
least_of path (other ∷ rest) = least_of (if is_taken other path then other else path) rest

abbrev pub no_path : PathData
no_path = record { search = None; cost = 0; rows = 0 }

abbrev pub least_path : List PathData → PathData
least_path [] = no_path
least_path (path ∷ rest) = least_of path rest

-- The least of some paths: one of them, at this rank; none of them is taken before it, and it is taken before each one
-- of a lower rank.
pub record IsLeastPath (paths : List PathData) (path : PathData) : Type 0 where
  pub rank : ℕ
  pub within : rank < length paths
  pub there : HoldsAt (λ other. other ≡ path) paths rank
  pub none_before : All (λ other. is_taken other path ≡ false) paths
  pub first : All (λ other. is_taken path other ≡ true) (take rank paths)
