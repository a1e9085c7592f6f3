-- The sources of a FROM, or why it has none.
use Rattle.std.proofs.Common.{◌≡◌, Bool, true, false, List, [], ◌∷◌, ◌++◌, length, if◌then◌else◌, Option, Some, None, Result, Ok, Err, Contains, ap, ap₂, refl, sym, ◌∙◌, subst}
use Rattle.std.specs.List.{list_any}
use Rattle.std.proofs.lemmas.List.{map-append}
use Rattle.std.proofs.lemmas.List.Elements.{Contains-append_left, Contains-push}
use Rattle.values.specs.declared.fault.Fault.{Fault}
use Rattle.values.specs.declared.fault.Fault.TheVariants.{DuplicateName, WrongPlace}
use Rattle.semantics.specs.Query.{From, JoinKind}
use Rattle.sql_reader_syntax.specs.ExprTree.{ExprTree, FromTree, OnTree, QueryTree, SourceTree}
use Rattle.sql_reader_syntax.specs.Tree.{Name}
use Rattle.sql_reader_syntax.specs.declared.query.Join.{Join}
use Rattle.semantics_names.specs.Expression.{Answers, InnerTree, term_of}
use Rattle.semantics_names.specs.Outcome.{also}
use Rattle.semantics_names.specs.Laws.{IsScalar}
use Rattle.semantics_names.specs.Parts.{from_parts, inner_tree, on_parts, parts}
use Rattle.semantics_names.specs.Places.{columns_say}
use Rattle.semantics_names.specs.Scope.{Scope, column_of}
use Rattle.semantics_names.specs.Sources.{Condition, Given, Known, Sources, is_same_source, joined, joined_on, kind_of, known_as, no_sources, shown_from, used}
use Rattle.semantics_names.specs.Statement.{Queried, alias_or, from_of, given_known, given_query, source_of}
use Rattle.semantics_names.proofs.OutcomeLemmas.{also-ok, followed-ok}
use Rattle.semantics_refusals.specs.Columns.{HasNames, Offers, Shows}
use Rattle.semantics_refusals.specs.Written.{BeginsFrom, IsDerived, called_so, names_of_sources, sources_in}
use Rattle.semantics_refusals.proofs.NameLemmas.{from_shows, listed_of, source_offers}
use Rattle.semantics_refusals.proofs.OutcomeLemmas.{Gives, Only, Takes, also_only, followed_gives, followed_only, if_only, known_only, ok, refused}
use Rattle.semantics_refusals.proofs.PartLemmas.{Each, back, first, front, more, none, rest}
use Rattle.semantics_refusals.proofs.PlaceLemmas.{plainly}
use Rattle.semantics_refusals.proofs.TermLemmas.{Base, IsFineCall, term_only}

-- a name of a column in an expression
pub record IsFineColumn (F : Fault → Type 0) (scope : Scope) (part : ExprTree) : Type 0 where
  pub is : (table : Option Name) (name : Name) → part ≡ ExprTree.Column table name → Only F (column_of scope table name)

-- the answer of a query that stands in an expression, and its window, where the SELECT defines windows of these names
pub record IsFineAnswer (F : Fault → Type 0) (windows : List Name) (answers : Answers) (part : ExprTree) : Type 0 where
  pub is : (tree : InnerTree) → inner_tree part ≡ Some tree → Only F (answers tree)
  pub framed : IsFineCall F windows part

columns_only : (F : Fault → Type 0) (scope : Scope) (part : ExprTree) → IsFineColumn F scope part → Only F (columns_say scope part)
columns_only F scope (ExprTree.Column table name) fine = also_only Some (column_of scope table name) (fine.is table name refl)
columns_only F scope _ fine = ok None

pub base_of : (F : Fault → Type 0) (windows : List Name) (answers : Answers) (scope : Scope) (part : ExprTree) → IsFineColumn F scope part
    → IsFineAnswer F windows answers part → Base F windows answers scope part
base_of F windows answers scope part column answer =
    record { said = columns_only F scope part column; answered = answer.is; framed = answer.framed }

pub with_answers : (F : Fault → Type 0) (windows : List Name) (answers : Answers) (scope : Scope) (xs : List ExprTree) → Each (IsFineColumn F scope) xs
    → Each (IsFineAnswer F windows answers) xs → Each (Base F windows answers scope) xs
with_answers F windows answers scope [] columns all = none
with_answers F windows answers scope (x ∷ xs) columns all =
    more x xs (base_of F windows answers scope x (first columns) (first all)) (with_answers F windows answers scope xs (rest columns) (rest all))

-- what FROM may mention is a source, or too large
pub record IsFineSource (F : Fault → Type 0) (known : List Known) (source : SourceTree) : Type 0 where
  pub named : (name : Name) (alias : Option Name) → source ≡ SourceTree.Named name alias → Gives F (λ k. Only F k.source) (known_as known name)

-- a join: its condition, and that it has not a name twice
pub record IsFineJoin (F : Fault → Type 0) (left : Scope) (names : List (Option Name)) (on : OnTree) (called : Option Name) (columns : List Name) : Type 0 where
  pub twice : list_any (is_same_source called) names ≡ true → F DuplicateName
  pub parts : Each (IsFineColumn F (left ++ shown_from called (length left) columns)) (on_parts on)
  pub merged : (using : List Name) → on ≡ OnTree.Using using
      → Only F (used (shown_from called (length left) columns) left (shown_from called (length left) columns) using)

-- ---- names of sources

module _ (known : List Known) (queries : QueryTree → Result Queried Fault) where
  pub source_called : (source : SourceTree) (g : Given) → source_of known queries source ≡ Ok g → called_so source ≡ g.name
  source_called (SourceTree.Named name alias) g e =
      let (k, is, more) = followed-ok (known_as known name) (given_known (alias_or name alias)) g e in
      let (source, of, same) = also-ok _ k.source g more in ap (λ (g : Given). g.name) same
  source_called (SourceTree.Derived query alias) g e =
      let (q, is, same) = also-ok (given_query alias) (queries query) g e in ap (λ (g : Given). g.name) same

  given_called : (answers : Answers) (left : Sources) (kind : JoinKind) (on : OnTree) (given : Given) (f : Sources) → joined answers left kind on given ≡ Ok f
      → f.names ≡ left.names ++ given.name ∷ []
  given_called answers left kind on given f e = by (list_any (is_same_source given.name) left.names) e
    where
      by : (b : Bool) → (if b then Err DuplicateName else also (λ (c : Condition). record {
        from = From.joined left.from kind given.source c.term;
        names = left.names ++ given.name ∷ [];
        scope = c.scope;
        beside = left.beside ++ given.beside;
      }) (joined_on answers on left.scope (shown_from given.name (length left.scope) given.columns))) ≡ Ok f → f.names ≡ left.names ++ given.name ∷ []
      by true is = absurd cc
      by false is =
          let (c, of, same) = also-ok _ (joined_on answers on left.scope (shown_from given.name (length left.scope) given.columns)) f is in
          ap (λ (f : Sources). f.names) (sym same)

  pub from_called : (answers : Answers) (from : FromTree) (f : Sources) → from_of known queries answers from ≡ Ok f → f.names ≡ names_of_sources from
  from_called answers FromTree.No_source f e = let same : no_sources ≡ f = cc in ap (λ (f : Sources). f.names) (sym same)
  from_called answers (FromTree.First source) f e =
      let (g, is, more) = followed-ok (source_of known queries source) (joined answers no_sources JoinKind.inner OnTree.Always) f e in
      given_called answers no_sources JoinKind.inner OnTree.Always g f more ∙ ap (λ (o : Option Name). o ∷ []) (sym (source_called source g is))
  from_called answers (FromTree.Joined from join source on) f e =
      let (left, first, more) = followed-ok (from_of known queries answers from) _ f e in
      let (g, is, rest) = followed-ok (source_of known queries source) (joined answers left (kind_of join) on) f more in
      given_called answers left (kind_of join) on g f rest
      ∙ ap₂ (λ (names : List (Option Name)) (o : Option Name). names ++ o ∷ []) (from_called answers from left first) (sym (source_called source g is))
      ∙ sym (map-append called_so (sources_in from) (source ∷ []))

-- ---- why a FROM is none

module _ (F : Fault → Type 0) (takes : Takes F) (windows : List Name) (answers : Answers) where
  on_only : (on : OnTree) (left : Scope) (names : List (Option Name)) (called : Option Name) (columns : List Name) → IsFineJoin F left names on called columns
      → Each (IsFineAnswer F windows answers) (on_parts on) → Each (λ part. ¬ IsScalar part → F WrongPlace) (on_parts on)
      → Only F (joined_on answers on left (shown_from called (length left) columns))
  on_only OnTree.Always left names called columns fine all fits = ok _
  on_only (OnTree.On e) left names called columns fine all fits =
      let right = shown_from called (length left) columns in
      also_only _ (term_of answers (columns_say (left ++ right)) e)
      (term_only F windows answers (columns_say (left ++ right)) e
      (plainly F windows answers (left ++ right) (parts e) (with_answers F windows answers (left ++ right) (parts e) fine.parts all) fits))
  on_only (OnTree.Using using) left names called columns fine all fits =
      let right = shown_from called (length left) columns in
      also_only _ (used right left right using) (fine.merged using refl)

  joined_only : (left : Sources) (kind : JoinKind) (on : OnTree) (given : Given) → IsFineJoin F left.scope left.names on given.name given.columns
      → Each (IsFineAnswer F windows answers) (on_parts on) → Each (λ part. ¬ IsScalar part → F WrongPlace) (on_parts on)
      → Only F (joined answers left kind on given)
  joined_only left kind on given fine all fits =
      if_only (list_any (is_same_source given.name) left.names) (Err DuplicateName) _ (λ same. refused DuplicateName (fine.twice same))
      (also_only _ (joined_on answers on left.scope (shown_from given.name (length left.scope) given.columns))
      (on_only on left.scope left.names given.name given.columns fine all fits))

  first_only : (given : Given) → Only F (joined answers no_sources JoinKind.inner OnTree.Always given)
  first_only given = ok _

  module _ (known : List Known) (queries : QueryTree → Result Queried Fault) where
    source_only : (source : SourceTree) → IsFineSource F known source → ((query : QueryTree) → IsDerived source query → Only F (queries query))
        → Only F (source_of known queries source)
    source_only (SourceTree.Named name alias) fine inside =
        followed_gives (λ k. Only F k.source) (λ _. Unit {0}) (known_as known name) (given_known (alias_or name alias)) (fine.named name alias refl)
        (λ k is. also_only _ k.source is)
    source_only (SourceTree.Derived query alias) fine inside = also_only (given_query alias) (queries query) (inside query IsDerived.query)

    module _ (names : (tree : QueryTree) (q : Queried) → queries tree ≡ Ok q → HasNames (listed_of known) tree q.names) where
      pub from_only : (from : FromTree) → Each (IsFineSource F known) (sources_in from)
          → ((source : SourceTree) (query : QueryTree) → Contains (sources_in from) source → IsDerived source query → Only F (queries query))
          → ((left : FromTree) (join : Join) (source : SourceTree) (on : OnTree) → BeginsFrom (FromTree.Joined left join source on) from
          → (scope : Scope) (called : Option Name) (columns : List Name) → Shows (listed_of known) left scope → Offers (listed_of known) source called columns
          → IsFineJoin F scope (names_of_sources left) on called columns)
          → Each (IsFineAnswer F windows answers) (from_parts from) → Each (λ part. ¬ IsScalar part → F WrongPlace) (from_parts from)
          → Only F (from_of known queries answers from)
      from_only FromTree.No_source sources inside joins all fits = ok _
      from_only (FromTree.First source) sources inside joins all fits =
          followed_only (source_of known queries source) _ (source_only source (first sources) (λ query is. inside source query (Contains-push [] source) is))
          first_only
      from_only (FromTree.Joined from join source on) sources inside joins all fits =
          known_only (from_of known queries answers from) _
          (from_only from (front (sources_in from) (source ∷ []) sources)
          (λ other query there is. inside other query (Contains-append_left (sources_in from) (source ∷ []) other there) is)
          (λ left kind other condition begins. joins left kind other condition (BeginsFrom.more begins)) (front (from_parts from) (on_parts on) all)
          (front (from_parts from) (on_parts on) fits))
          (λ left taken. known_only (source_of known queries source) (joined answers left (kind_of join) on)
          (source_only source (first (back (sources_in from) (source ∷ []) sources))
          (λ query is. inside source query (Contains-push (sources_in from) source) is))
          (λ given is. joined_only left (kind_of join) on given
          (subst (λ all. IsFineJoin F left.scope all on given.name given.columns) (sym (from_called known queries answers from left taken))
          (joins from join source on BeginsFrom.whole left.scope given.name given.columns (from_shows known queries names answers from left taken)
          (source_offers known queries names source given is))) (back (from_parts from) (on_parts on) all)
          (back (from_parts from) (on_parts on) fits)))
