-- A statement in which a name stands twice is no query.
use Rattle.std.proofs.Common.{◌≡◌, ◌||◌, Bool, true, false, true≢false, if◌then◌else◌, List, [], ◌∷◌, ◌++◌, length, map, Option, Some, None, Result, Ok, Err, All, nat_eq, refl, sym, subst, ◌∙◌}
use Rattle.std.specs.List.{list_any}
use Rattle.std.proofs.lemmas.List.Elements.{All-contains, All-cons, All-nil}
use Rattle.values.specs.declared.fault.Fault.{Fault}
use Rattle.values.specs.declared.fault.Fault.TheVariants.{ColumnCount, DuplicateName}
use Rattle.semantics.specs.Query.{From, JoinKind}
use Rattle.sql_reader_syntax.specs.ExprTree.{CoreTree, FromTree, OnTree, QueryTree, SourceTree, TermTrees}
use Rattle.sql_reader_syntax.specs.StatementTree.{ItemTree}
use Rattle.sql_reader_syntax.specs.Tree.{Name}
use Rattle.sql_reader_syntax.specs.declared.query.Join.{Join}
use Rattle.semantics_names.specs.Expression.{Answers}
use Rattle.semantics_names.specs.Laws.{AreDistinctInAnyCase, AreSameSources, DistinctIsSaid}
use Rattle.semantics_names.specs.Outcome.{also}
use Rattle.semantics_names.specs.Sources.{Condition, Given, Known, Sources, is_same_source, joined, joined_on, kind_of, shown_from}
use Rattle.semantics_names.specs.Statement.{Named, Queried, are_distinct, from_of, item_columns, named, source_of, window_names}
use Rattle.semantics_names.specs.Typed.{column_types, known_tables, with_types}
use Rattle.semantics_names.proofs.OutcomeLemmas.{checked-ok, followed-ok}
use Rattle.semantics_refusals.specs.RepeatedNames.{HasRepeatedName, RepeatedIsRefused, Repeats}
use Rattle.semantics_refusals.specs.Written.{HasSelect, called_so, names_of_sources, windows_in}
use Rattle.semantics_refusals.proofs.SourceLemmas.{from_called, source_called}
use Rattle.semantics_refusals.proofs.SelectLemmas.{TakenSelect, begins_taken, core_apart, item_at, part_taken, select_taken}
use Rattle.semantics_refusals.proofs.TakenLemmas.{answers_with, inside}

distinct_none : (said : DistinctIsSaid) (names : List Name) → ¬ AreDistinctInAnyCase names → are_distinct names ≡ true → ⊥
distinct_none said names twice e = twice ((said names).0 e)

-- no source before it is called the same
module _ (called : Option Name) where
  apart_all : (names : List (Option Name)) → list_any (is_same_source called) names ≡ false → All (λ other. ¬ AreSameSources other called) names
  apart_all [] e = All-nil (λ other. ¬ AreSameSources other called)
  apart_all (other ∷ names) e =
      let (one, more) = by (is_same_source called other) refl e in
      All-cons (λ other. ¬ AreSameSources other called) other names one (apart_all names more)
    where
      same : (a b : Option Name) → AreSameSources b a → is_same_source a b ≡ true
      same (Some a) (Some b) e = e
      same (Some a) None e = absurd e
      same None (Some b) e = absurd e
      same None None e = absurd e

      by : (b : Bool) → is_same_source called other ≡ b → (b || list_any (is_same_source called) names) ≡ false
          → (¬ AreSameSources other called) × (list_any (is_same_source called) names ≡ false)
      by true is e = absurd cc
      by false is e = (λ are. absurd (true≢false (sym (same called other are) ∙ is)), e)

joined_apart : (answers : Answers) (left : Sources) (kind : JoinKind) (on : OnTree) (given : Given) (f : Sources) → joined answers left kind on given ≡ Ok f
    → list_any (is_same_source given.name) left.names ≡ false
joined_apart answers left kind on given f e = by (list_any (is_same_source given.name) left.names) refl e
  where
    by : (b : Bool) → list_any (is_same_source given.name) left.names ≡ b → (if b then Err DuplicateName else also (λ (c : Condition). record {
      from = From.joined left.from kind given.source c.term;
      names = left.names ++ given.name ∷ [];
      scope = c.scope;
      beside = left.beside ++ given.beside;
    }) (joined_on answers on left.scope (shown_from given.name (length left.scope) given.columns))) ≡ Ok f
        → list_any (is_same_source given.name) left.names ≡ false
    by true is e = absurd cc
    by false is e = is

source_apart : (known : List Known) (queries : QueryTree → Result Queried Fault) (answers : Answers) (left : FromTree) (join : Join) (source : SourceTree)
    (on : OnTree) (f : Sources) → from_of known queries answers (FromTree.Joined left join source on) ≡ Ok f
    → All (λ other. ¬ AreSameSources other (called_so source)) (names_of_sources left)
source_apart known queries answers left join source on f e =
    let (l, first, more) = followed-ok (from_of known queries answers left) _ f e in
    let (g, is, rest) = followed-ok (source_of known queries source) (joined answers l (kind_of join) on) f more in
    let apart = apart_all g.name l.names (joined_apart answers l (kind_of join) on g f rest) in
    subst (λ called. All (λ other. ¬ AreSameSources other called) (names_of_sources left)) (sym (source_called known queries source g is))
    (subst (All (λ other. ¬ AreSameSources other g.name)) (from_called known queries answers left l first) apart)

select_apart : (said : DistinctIsSaid) (known : List Known) (items : List ItemTree) (core : CoreTree) (by : TermTrees) → TakenSelect known core by
    → Repeats items core by → ⊥
select_apart said known items core by taken (Repeats.source left join source on other begins there same) =
    let (f, from) = begins_taken known (inside taken.deep known) (answers_with known (inside taken.deep known) taken.inners) begins taken.sources taken.from in
    All-contains (λ other. ¬ AreSameSources other (called_so source)) (names_of_sources left) other
    (source_apart known (inside taken.deep known) (answers_with known (inside taken.deep known) taken.inners) left join source on f from) there same
select_apart said known items core by taken (Repeats.window twice) =
    distinct_none said (window_names (windows_in core)) twice
    (core_apart (answers_with known (inside taken.deep known) taken.inners) taken.sources.scope core by taken.made taken.is)

columns_apart : (said : DistinctIsSaid) (written names columns : List Name) → item_columns written names ≡ Ok columns → AreDistinctInAnyCase written
columns_apart said [] names columns e = (said []).0 refl
columns_apart said (n ∷ ns) names columns e =
    let (even, rest) = checked-ok (nat_eq (length (n ∷ ns)) (length names)) ColumnCount _ columns e in
    let (apart, last) = checked-ok (are_distinct (n ∷ ns)) DuplicateName (Ok (n ∷ ns)) columns rest in
    (said (n ∷ ns)).0 apart

pub repeated_is_refused : DistinctIsSaid → RepeatedIsRefused
repeated_is_refused said tables tree n has e =
    let (found, names, so) = followed-ok (named (known_tables tables) tree) (with_types (column_types tables)) n e in
    by found names has
  where
    by : (found : Named) → named (known_tables tables) tree ≡ Ok found → HasRepeatedName tree → ⊥
    by found names (HasRepeatedName.items twice) =
        let (apart, rest) = checked-ok (are_distinct (map (λ (i : ItemTree). i.name) tree.items)) DuplicateName _ found names in
        distinct_none said (map (λ (i : ItemTree). i.name) tree.items) twice apart
    by found names (HasRepeatedName.columns before i after stand twice) =
        let (w, q, columns, begun, taken, called) = item_at (known_tables tables) tree found before i after stand names in
        twice (columns_apart said i.columns q.names columns called)
    by found names (HasRepeatedName.select has) =
        let (w, items, taken) = part_taken tables tree found (HasSelect Repeats) has names in
        let here = has.is in
        select_apart said w.known has.items here.core here.by (select_taken w.known has.query has.order here.core here.by taken here.select) here.is
