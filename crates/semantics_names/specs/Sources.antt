-- The sources of a FROM and the columns that they show together. (SELECT, "Determination of input data"; WITH)
use Rattle.std.specs.Prelude.{Bool, false, ℕ, suc, List, [], ◌∷◌, ◌++◌, length, map, Option, Some, None, Result, Ok, Err, if◌then◌else◌}
use Rattle.std.specs.List.{list_any}
use Rattle.std.specs.Str.{str_eq_ignore_ascii_case}
use Rattle.values.specs.declared.fault.Fault.{Fault}
use Rattle.values.specs.declared.fault.Fault.TheVariants.{DuplicateName, UnknownTable}
use Rattle.expr.specs.Term.{Term, and, compare}
use Rattle.expr.specs.declared.operations.kinds.Comparison.TheVariants.{Eq}
use Rattle.sql_reader_syntax.specs.ExprTree.{OnTree}
use Rattle.sql_reader_syntax.specs.Tree.{Name}
use Rattle.sql_reader_syntax.specs.declared.query.Join.{Join}
use Rattle.sql_reader_syntax.specs.declared.query.Join.TheVariants as joins
use Rattle.semantics_names.specs.Expression.{Answers, term_of}
use Rattle.semantics_names.specs.Outcome.{also, followed}
use Rattle.semantics_names.specs.Places.{columns_say}
use Rattle.semantics.specs.Query.{always, Body, JoinKind, Source, From}
use Rattle.semantics_names.specs.Scope.{Scope, bare_term, is_called, places_of}

-- A name that FROM may mention: the table of the catalog, or the item of WITH, and its columns' names. An item of more
-- sources than a query may have gives a fault where it is mentioned.
pub record Known : Type 0 where
  pub name : Name
  pub source : Result Source Fault
  pub columns : List Name

-- the first that is named so: the items of WITH stand before the tables, and so hide them
abbrev pub known_as : List Known → Name → Result Known Fault
known_as [] name = Err UnknownTable
known_as (k ∷ ks) name = if str_eq_ignore_ascii_case k.name name then Ok k else known_as ks name

-- A source, what it is called, if anything, and its columns' names. Beside it stands what is written in it and has to be
-- typed by itself.
pub record Given : Type 0 where
  pub source : Source
  pub name : Option Name
  pub columns : List Name
  pub beside : List Body

-- FROM so far: its sources, what they are called, and the columns that they show
pub record Sources : Type 0 where
  pub from : From
  pub names : List (Option Name)
  pub scope : Scope
  pub beside : List Body

abbrev pub no_sources : Sources
no_sources = record { from = From.nothing; names = []; scope = []; beside = [] }

-- the columns of one source, from this place on
abbrev pub shown_from : Option Name → ℕ → List Name → Scope
shown_from source first [] = []
shown_from source first (name ∷ names) = record { source = source; name = name; places = first ∷ [] } ∷ shown_from source (suc first) names

-- ---- USING

-- the column of the left side looks at these places too
abbrev pub merged : Name → List ℕ → Scope → Scope
merged name places scope =
    map (λ s. if is_called None name s then record { source = s.source; name = s.name; places = s.places ++ places } else s) scope

-- the bare name is no longer that of the right side's column
abbrev pub hidden : Name → Scope → Scope
hidden name scope = map (λ s. if is_called None name s then record { source = s.source; name = s.name; places = [] } else s) scope

abbrev pub equal : List ℕ → List ℕ → Term
equal left right = compare Eq (bare_term left) (bare_term right)

-- all of these
abbrev pub all_of : Term → List Term → Term
all_of t [] = t
all_of t (u ∷ us) = all_of (and t u) us

abbrev pub conjunction : List Term → Term
conjunction [] = always
conjunction (t ∷ ts) = all_of t ts

-- what the columns of both sides show, and the equalities of those that USING names
pub record Using : Type 0 where
  pub left : Scope
  pub right : Scope
  pub equalities : List Term

-- `theirs` are the right side's columns as their source has them
abbrev pub used : Scope → Scope → Scope → List Name → Result Using Fault
used theirs left right [] = Ok (record { left = left; right = right; equalities = [] })
used theirs left right (name ∷ names) =
    followed (places_of left None name) (λ mine.
    followed (places_of theirs None name) (λ places.
    also (λ u. record { left = u.left; right = u.right; equalities = equal mine places ∷ u.equalities })
    (used theirs (merged name places left) (hidden name right) names)))

-- ---- joins

abbrev pub kind_of : Join → JoinKind
kind_of joins.Inner = JoinKind.inner
kind_of joins.Left = JoinKind.left
kind_of joins.Right = JoinKind.right
kind_of joins.Full = JoinKind.full

-- two sources are called the same
abbrev pub is_same_source : Option Name → Option Name → Bool
is_same_source (Some a) (Some b) = str_eq_ignore_ascii_case a b
is_same_source _ _ = false

-- the columns that both sides show, and the condition of the join
pub record Condition : Type 0 where
  pub scope : Scope
  pub term : Term

module _ (answers : Answers) where
  -- ON sees the columns of the sources up to its own
  abbrev pub joined_on : OnTree → Scope → Scope → Result Condition Fault
  joined_on OnTree.Always left right = Ok (record { scope = left ++ right; term = always })
  joined_on (OnTree.On e) left right =
      also (λ t. record { scope = left ++ right; term = t }) (term_of answers (columns_say (left ++ right)) e)
  joined_on (OnTree.Using names) left right =
      also (λ u. record { scope = u.left ++ u.right; term = conjunction u.equalities }) (used right left right names)

  -- no two sources of a FROM are called the same
  abbrev pub joined : Sources → JoinKind → OnTree → Given → Result Sources Fault
  joined left kind on given =
      if list_any (is_same_source given.name) left.names then Err DuplicateName
      else also (λ c. record {
        from = From.joined left.from kind given.source c.term;
        names = left.names ++ given.name ∷ [];
        scope = c.scope;
        beside = left.beside ++ given.beside;
      }) (joined_on on left.scope (shown_from given.name (length left.scope) given.columns))
