-- A statement that is refused by its names has what the fault says.
use Rattle.std.proofs.Common.{◌≡◌, ◌∷◌, ◌++◌, Bool, true, false, if◌then◌else◌, ◌⊎◌, inl, inr, ℕ, zero, suc, ◌+◌, ℤ, pos, negsuc, ◌<◌, List, [], length, map, Option, Some, None, Result, Ok, Err, All, Contains, nat_eq, nat_le, ap, refl, sym, subst, ◌∙◌, arith}
use Rattle.std.specs.List.{list_any}
use Rattle.std.proofs.lemmas.Bool.{eqb-false, leb-false}
use Rattle.std.proofs.lemmas.List.Elements.{All-cons, All-nil, All-weaker}
use Rattle.values.specs.declared.fault.Fault.{Fault}
use Rattle.values.specs.declared.fault.Fault.TheVariants.{Ambiguous, BadFrame, BareColumn, ColumnCount, DuplicateName, Limit, UnknownColumn, UnknownTable, WrongPlace}
use Rattle.semantics.specs.Query.{Source}
use Rattle.sql_reader_syntax.specs.ExprTree.{CoreTree, ExprTree, FromTree, OnTree, QueryTree, SourceTree, TermTrees, WindowTree}
use Rattle.sql_reader_syntax.specs.StatementTree.{ItemTree, StatementTree}
use Rattle.sql_reader_syntax.specs.Tree.{Name}
use Rattle.sql_reader_syntax.specs.declared.query.Edge as written_edge
use Rattle.sql_reader_syntax.specs.declared.query.Edge.TheVariants as edges
use Rattle.sql_reader_syntax.specs.declared.query.Join.{Join}
use Rattle.semantics_names.specs.Expression.{InnerTree}
use Rattle.semantics_names.specs.Laws.{AreDistinctInAnyCase, AreSameSources, ColumnsAreScalar, IsSameInAnyCase, IsScalar, NameIsColumn, SameIsEqual}
use Rattle.semantics_names.specs.Outcome.{also, each, found_or}
use Rattle.semantics_names.specs.Parts.{core_parts, from_parts, inner_tree, inner_trees, on_parts, parts}
use Rattle.semantics_names.specs.Places.{edge_of, frame_between, frame_of, place_of}
use Rattle.semantics_names.specs.Same.{is_same_inner}
use Rattle.semantics_names.specs.Scope.{Scope, bare_term, column_of, is_bare}
use Rattle.semantics_names.specs.Sources.{Known, is_same_source, known_as, shown_from, used}
use Rattle.semantics_names.specs.Statement.{Inner, Queried, With, answer_at, answers_of, are_distinct, core_of, from_tree, inner_of, item_columns, max_columns, max_levels, max_sources, named, named_at, queried, result, sources_of_body, starred, window_names, with_items}
use Rattle.semantics_names.specs.Typed.{Table, known_tables, typed_query}
use Rattle.semantics_refusals.specs.BadFrames.{HasEdgeBelowZero, HasNoWindow, HasWindow, IsBelowZero, defined_in}
use Rattle.semantics_refusals.specs.BareColumns.{GroupsBarely, HasBareColumn}
use Rattle.semantics_refusals.specs.Columns.{AreListed, HasNames, JoinsScopes, ListedTable, Offers, Shows, names_of_results, results_in}
use Rattle.semantics_refusals.specs.Limits.{AreCounted, Counted, IsBeyondLimit, IsCounted, IsWide, MentionsLarge}
use Rattle.semantics_refusals.specs.RepeatedNames.{HasRepeatedName, Repeats}
use Rattle.semantics_refusals.specs.UnevenColumns.{HasUnevenColumns, HasWideMembers, IsUneven}
use Rattle.semantics_refusals.specs.UnknownColumns.{HasAmbiguousColumn, HasUnknownColumn, InSelect, IsAmbiguous, IsNamedAt, IsNoResult, IsTwofold, IsUnknown, NamesColumn, NamesUnknownColumn}
use Rattle.semantics_refusals.specs.UnknownSources.{HasUnknownSource, IsNoSource, NamesNoSource}
use Rattle.semantics_refusals.specs.WrongPlaces.{GroupsByNumber, HasAnyWrongPlace, HasStar, HasWrongPlace, InQuery, IsNumber, Misplaces, MisplacesInGroups, SortsWrongly, StarsNothing, groups_in, plain_parts}
use Rattle.semantics_refusals.specs.Written.{BeginsFrom, HasQuery, HasQueryWith, HasSelect, HasSelectWith, IsQueryOf, IsSelect, called_so, levels_around, names_of_sources, sources_in, spoken_in, stars_in, terms_in, windows_in}
use Rattle.semantics_refusals.proofs.BareCoreLemmas.{core_bare}
use Rattle.semantics_refusals.proofs.BareTraceLemmas.{IsAnswered}
use Rattle.semantics_refusals.proofs.CountLemmas.{IsCountOf, known_counted, name_counted, queried_counts}
use Rattle.semantics_refusals.proofs.CoreLemmas.{IsFineCore, IsFineOrder, IsFineStar, IsFineTerm}
use Rattle.semantics_refusals.proofs.NameLemmas.{listed_of}
use Rattle.semantics_refusals.proofs.OutcomeLemmas.{Only, Takes, both_only, checked_only, ok, or_else, refused}
use Rattle.semantics_refusals.proofs.OkLemmas.{IsGiven, each-ok, filtered}
use Rattle.semantics_refusals.proofs.PartLemmas.{Each, each_itself, weaker}
use Rattle.semantics_refusals.proofs.QueryLemmas.{IsFineQuery, IsFineSelect}
use Rattle.semantics_refusals.proofs.ScopeLemmas.{Says, column_only, named_none, named_some, named_two, same_there, star_of_none, used_only}
use Rattle.semantics_refusals.proofs.SourceLemmas.{IsFineColumn, IsFineJoin, IsFineSource}
use Rattle.semantics_refusals.proofs.StatementLemmas.{IsFineStatement, known_gives, known_listed, named_only, typed_only}
use Rattle.semantics_refusals.proofs.TakenLemmas.{inside}
use Rattle.semantics_refusals.proofs.TermLemmas.{IsFineCall, frame_in}
use Rattle.semantics_refusals.proofs.TypeLemmas.{TakesTypes}
use Rattle.semantics_refusals.proofs.WithLemmas.{IsOther, items_back, no_items, tables_back}

-- what has to be written, so that of the fault this holds
pub record HasReasons (F : Fault → Type 0) (tables : List Table) (tree : StatementTree) : Type 0 where
  pub takes : Takes F
  pub unknown_table : HasUnknownSource tables tree → F UnknownTable
  pub unknown_column : HasUnknownColumn tables tree → F UnknownColumn
  pub ambiguous : HasAmbiguousColumn tables tree → F Ambiguous
  pub duplicate : HasRepeatedName tree → F DuplicateName
  pub column_count : HasUnevenColumns tables tree → F ColumnCount
  pub limit : IsBeyondLimit tables tree → F Limit
  pub frame : HasSelectWith tree HasNoWindow → F BadFrame
  pub wrong_place : HasAnyWrongPlace tables tree → F WrongPlace
  pub bare_laws : (SameIsEqual × NameIsColumn × ColumnsAreScalar) ⊎ F BareColumn
  pub bare_column : HasBareColumn tables tree → F BareColumn

offers_called : {listed : List ListedTable} {source : SourceTree} {called : Option Name} {columns : List Name} → Offers listed source called columns
    → called ≡ called_so source
offers_called (Offers.named is) = refl
offers_called (Offers.derived is) = refl

-- the columns that ON sees are those that the join shows
on_parts_of : (on : OnTree) (e : ExprTree) (table : Option Name) (name : Name) → Contains (on_parts on) (ExprTree.Column table name)
    → (e : ExprTree) × (on ≡ OnTree.On e) × Contains (parts e) (ExprTree.Column table name)
on_parts_of (OnTree.On e) _ table name there = (e, refl, there)
on_parts_of OnTree.Always _ table name (at, short, is) = absurd (omega arith)
on_parts_of (OnTree.Using names) _ table name (at, short, is) = absurd (omega arith)

-- the query of an IN
members_of : (part : ExprTree) (query : QueryTree) → inner_tree part ≡ Some (InnerTree.values_in query)
    → (not : Bool) × (x : ExprTree) × (part ≡ ExprTree.InQuery not x query)
members_of (ExprTree.InQuery not x inner) query e = let same : inner ≡ query = cc in (not, x, ap (ExprTree.InQuery not x) same)
members_of _ query e = absurd cc

-- no column has a name of its own, where `*` is none
all_hidden : (scope : Scope) → starred scope ≡ [] → All (λ shown. shown.places ≡ []) scope
all_hidden [] e = All-nil (λ shown. shown.places ≡ [])
all_hidden (s ∷ ss) e =
    let (none, rest) = by (is_bare s.places) refl e in
    All-cons (λ shown. shown.places ≡ []) s ss none (all_hidden ss rest)
  where
    no_place : (places : List ℕ) → is_bare places ≡ false → places ≡ []
    no_place [] e = refl
    no_place (at ∷ places) e = absurd cc

    by : (b : Bool) → is_bare s.places ≡ b → (if b then result s.name (bare_term s.places) ∷ starred ss else starred ss) ≡ []
        → (s.places ≡ []) × (starred ss ≡ [])
    by true bare e = absurd cc
    by false bare e = (no_place s.places bare, e)

-- more than 65, as one more than 64 and more
above : (n : ℕ) → suc max_sources < n → (m : ℕ) × (n ≡ suc m) × (64 < m)
above zero many = absurd (omega (arith, many))
above (suc m) many = (m, refl, omega (arith, many))

module _ (F : Fault → Type 0) (tables : List Table) (tree : StatementTree) (says : Says F) (reasons : HasReasons F tables tree) where
  module _ (items : List ItemTree) (outer : QueryTree) (outer_order : TermTrees) (of : IsQueryOf tree items outer outer_order) (w : With)
      (begun : with_items (no_items (known_tables tables)) items ≡ Ok w) (query : QueryTree) (order : TermTrees)
      (has : HasQuery outer outer_order query order) (more : ℕ) (room : suc (levels_around has + more) ≡ max_levels) where
    abbrev queries : QueryTree → Result Queried Fault
    queries = inside more w.known

    here : (Is : List ItemTree → QueryTree → TermTrees → Type 0) → Is items query order → HasQueryWith tree Is
    here Is is = record { items = items; outer = outer; outer_order = outer_order; of = of; query = query; order = order; has = has; is = is }

    are : AreListed tables items (listed_of w.known)
    are = known_listed tables items w begun

    no_source : (name : Name) → All (IsOther name) w.known → IsNoSource tables items name
    no_source name none =
        let (apart, others) = items_back (λ other. ¬ IsSameInAnyCase other name) items (no_items (known_tables tables)) w begun none in
        record { no_item = apart; no_table = tables_back (λ other. ¬ IsSameInAnyCase other name) tables others }

    module _ (core : CoreTree) (by : TermTrees) (select : IsSelect query order core by) where
      abbrev at_select : (Is : List ItemTree → CoreTree → TermTrees → Type 0) → Is items core by → HasQueryWith tree (HasSelect Is)
      at_select Is is = here (HasSelect Is) (record { core = core; by = by; select = select; is = is })

      abbrev in_select : (Is : List ListedTable → CoreTree → TermTrees → Type 0) → Is (listed_of w.known) core by → InSelect tables Is items query order
      in_select Is is = record { listed = listed_of w.known; are = are; core = core; by = by; select = select; is = is }

      unknown : NamesUnknownColumn (listed_of w.known) core by → F UnknownColumn
      unknown is = reasons.unknown_column (here (InSelect tables NamesUnknownColumn) (in_select NamesUnknownColumn is))

      twofold : NamesColumn IsAmbiguous (listed_of w.known) core by → F Ambiguous
      twofold is = reasons.ambiguous (here (IsTwofold tables) (IsTwofold.column (in_select (NamesColumn IsAmbiguous) is)))

      named_here : (scope : Scope) (table : Option Name) (name : Name)
          → ((Is : Scope → Option Name → Name → Type 0) → Is scope table name → NamesColumn Is (listed_of w.known) core by)
          → Only F (column_of scope table name)
      named_here scope table name so =
          column_only F says scope table name (λ u. unknown (NamesUnknownColumn.mention (so IsUnknown u))) (λ t. twofold (so IsAmbiguous t))

      fine_columns : (scope : Scope) → Shows (listed_of w.known) (from_tree core) scope → Each (IsFineColumn F scope) (spoken_in core)
      fine_columns scope shows =
          weaker (λ part there. record {
            is = λ table name e.
                named_here scope table name (λ Is is. NamesColumn.in_expression scope table name shows (subst (Contains (spoken_in core)) e there) is);
          })
          (each_itself (spoken_in core))

      module _ (scope : Scope) (shows : Shows (listed_of w.known) (from_tree core) scope) where
        fine_parts : (e : ExprTree) → Contains (terms_in by) e → IsNoResult (names_of_results scope (results_in core)) e
            → IsFineTerm (IsFineColumn F scope) (names_of_results scope (results_in core)) e
        fine_parts e there apart = record {
          is = inr (weaker (λ part stands. record {
            is = λ table name same.
                named_here scope table name (λ Is is.
                NamesColumn.in_order scope e table name shows there apart (subst (Contains (parts e)) same stands) is);
          }) (each_itself (parts e)));
        }

        fine_term : (e : ExprTree) → Contains (terms_in by) e → IsFineTerm (IsFineColumn F scope) (names_of_results scope (results_in core)) e
        fine_term (ExprTree.Column None name) there = at_places (named_at name 0 (names_of_results scope (results_in core))) refl
          where
            at_places : (places : List ℕ) → named_at name 0 (names_of_results scope (results_in core)) ≡ places
                → IsFineTerm (IsFineColumn F scope) (names_of_results scope (results_in core)) (ExprTree.Column None name)
            at_places [] e =
                fine_parts (ExprTree.Column None name) there (λ alone at same is.
                let called : alone ≡ name = cc in
                named_none name 0 (names_of_results scope (results_in core)) e at
                (subst (λ n. IsNamedAt (names_of_results scope (results_in core)) n at) called is))
            at_places (at ∷ more) e =
                let (k, is) = named_some name 0 (names_of_results scope (results_in core)) at more e in record { is = inl (name, k, refl, is) }
        fine_term e there = fine_parts e there (λ alone at same is. absurd cc)

        fine_terms : Each (IsFineTerm (IsFineColumn F scope) (names_of_results scope (results_in core))) (terms_in by)
        fine_terms = weaker (λ e there. fine_term e there) (each_itself (terms_in by))

      fine_stars : (scope : Scope) → Shows (listed_of w.known) (from_tree core) scope → Each (IsFineStar F scope) (stars_in (results_in core))
      fine_stars scope shows =
          weaker (λ table there. record { is = λ e. unknown (NamesUnknownColumn.star scope table shows there (star_of_none table 0 scope e)) })
          (each_itself (stars_in (results_in core)))

      -- an item of WITH that is mentioned has few enough sources
      mentioned : (name : Name) (alias : Option Name) → Contains (sources_in (from_tree core)) (SourceTree.Named name alias) → (k : Known)
          → known_as w.known name ≡ Ok k → Only F k.source
      mentioned name alias there k is =
          let h = known_counted tables items w begun in
          let (c, stands, count) = name_counted w.known h.counted h.counts name k is in
          counts_so h.counted h.are c stands count k.source refl
        where
          counts_so : (counted : List Counted) → AreCounted tables items counted → (c : Counted) → IsCounted name counted c.count → IsCountOf k c
              → (r : Result Source Fault) → k.source ≡ r → Only F r
          counts_so counted listed c stands count (Ok source) e = ok source
          counts_so counted listed c stands count (Err fault) e =
              let (limit, many) = count.many fault e in
              let (sources, number, large) = above c.count many in
              refused fault (subst F (sym limit) (reasons.limit (IsBeyondLimit.mention (at_select (MentionsLarge tables) (record {
                name = name;
                alias = alias;
                written = there;
                counted = counted;
                are = listed;
                sources = sources;
                mentioned = subst (IsCounted name counted) number stands;
                large = large;
              })))))

      fine_sources : Each (IsFineSource F w.known) (sources_in (from_tree core))
      fine_sources =
          weaker (λ source there. record {
            named = λ name alias e.
                known_gives F reasons.takes w.known name (mentioned name alias (subst (Contains (sources_in (from_tree core))) e there))
                (λ none. reasons.unknown_table (at_select (NamesNoSource tables) (record {
                  name = name;
                  alias = alias;
                  written = subst (Contains (sources_in (from_tree core))) e there;
                  unknown = no_source name none;
                })));
          }) (each_itself (sources_in (from_tree core)))

      fine_windows : are_distinct (window_names (windows_in core)) ≡ false → F DuplicateName
      fine_windows e =
          says.repeated (window_names (windows_in core)) e (λ apart. reasons.duplicate (HasRepeatedName.select (at_select Repeats (Repeats.window apart))))

      module _ (left : FromTree) (join : Join) (source : SourceTree) (on : OnTree) (begins : BeginsFrom (FromTree.Joined left join source on) (from_tree core))
          (scope : Scope) (called : Option Name) (columns : List Name) (shows : Shows (listed_of w.known) left scope)
          (offers : Offers (listed_of w.known) source called columns) where
        fine_twice : list_any (is_same_source called) (names_of_sources left) ≡ true → F DuplicateName
        fine_twice e =
            let (other, there, same) = same_there called (names_of_sources left) e in
            reasons.duplicate (HasRepeatedName.select (at_select Repeats
            (Repeats.source left join source on other begins there (subst (AreSameSources other) (offers_called offers) same))))

        fine_on : Each (IsFineColumn F (scope ++ shown_from called (length scope) columns)) (on_parts on)
        fine_on =
            weaker (λ part there. record {
              is = λ table name same.
                  let (e, is, stands) = on_parts_of on part table name (subst (Contains (on_parts on)) same there) in
                  named_here (scope ++ shown_from called (length scope) columns) table name (λ Is so.
                  NamesColumn.in_on left join source e (scope ++ shown_from called (length scope) columns) table name
                  (subst (λ on. BeginsFrom (FromTree.Joined left join source on) (from_tree core)) is begins) (Shows.joined shows offers JoinsScopes.on) stands so);
            })
            (each_itself (on_parts on))

        fine_using : (using : List Name) → on ≡ OnTree.Using using
            → Only F (used (shown_from called (length scope) columns) scope (shown_from called (length scope) columns) using)
        fine_using using is =
            let begun = subst (λ on. BeginsFrom (FromTree.Joined left join source on) (from_tree core)) is begins in
            let theirs = shown_from called (length scope) columns in
            used_only F says theirs scope theirs using
            (λ name there. record {
              unknown = λ u. unknown
                  (NamesUnknownColumn.mention (NamesColumn.in_using left join source using scope called columns name begun shows offers there (inl u)));
              twice = λ t. twofold (NamesColumn.in_using left join source using scope called columns name begun shows offers there (inl t));
            })
            (λ name there. record {
              unknown = λ u. unknown
                  (NamesUnknownColumn.mention (NamesColumn.in_using left join source using scope called columns name begun shows offers there (inr u)));
              twice = λ t. twofold (NamesColumn.in_using left join source using scope called columns name begun shows offers there (inr t));
            })

        fine_join : IsFineJoin F scope (names_of_sources left) on called columns
        fine_join = record { twice = fine_twice; parts = fine_on; merged = fine_using }

      fine_members : (query : QueryTree) (part : ExprTree) (names : List Name) → Contains (core_parts core by) part
          → inner_tree part ≡ Some (InnerTree.values_in query) → HasNames (listed_of w.known) query names → nat_eq (length names) 1 ≡ false → F ColumnCount
      fine_members query part names there is called e =
          let (not, x, same) = members_of part query is in
          reasons.column_count (HasUnevenColumns.query (here (IsUneven tables) (IsUneven.members (in_select HasWideMembers (record {
            not = not;
            x = x;
            query = query;
            written = subst (Contains (core_parts core by)) same there;
            names = names;
            are = called;
            wide = eqb-false (length names) 1 e;
          })))))

      fine_narrow : (scope : Scope) → Shows (listed_of w.known) (from_tree core) scope
          → nat_le (length (names_of_results scope (results_in core))) max_columns ≡ false → F Limit
      fine_narrow scope shows e =
          reasons.limit (IsBeyondLimit.columns (here (InSelect tables IsWide) (in_select IsWide (record {
            scope = scope;
            shows = shows;
            wide = leb-false (length (names_of_results scope (results_in core))) max_columns e;
          }))))

      edge_so : (e : written_edge.Edge) → (IsBelowZero e → F BadFrame) → Only F (found_or BadFrame (edge_of e))
      edge_so edges.UnboundedPreceding is = ok _
      edge_so (edges.Preceding (pos n)) is = ok _
      edge_so (edges.Preceding (negsuc n)) is = refused BadFrame (is IsBelowZero.preceding)
      edge_so edges.CurrentRow is = ok _
      edge_so (edges.Following (pos n)) is = ok _
      edge_so (edges.Following (negsuc n)) is = refused BadFrame (is IsBelowZero.following)
      edge_so edges.UnboundedFollowing is = ok _

      below : (w : WindowTree) → HasWindow core by w → HasEdgeBelowZero w → F BadFrame
      below w is edge = reasons.frame (at_select HasNoWindow (HasNoWindow.distance w is edge))

      frame_so : (w : WindowTree) → HasWindow core by w → Only F (frame_of (frame_in w))
      frame_so (WindowTree.Window partition order None) is = ok _
      frame_so (WindowTree.Window partition order (Some frame)) is =
          both_only (frame_between frame) (found_or BadFrame (edge_of frame.start)) (found_or BadFrame (edge_of frame.end))
          (edge_so frame.start (λ edge. below (WindowTree.Window partition order (Some frame)) is (HasEdgeBelowZero.start edge)))
          (edge_so frame.end (λ edge. below (WindowTree.Window partition order (Some frame)) is (HasEdgeBelowZero.end edge)))

      plainly_misplaced : Misplaces items core by → F WrongPlace
      plainly_misplaced is = reasons.wrong_place (HasAnyWrongPlace.is (HasWrongPlace.call (at_select Misplaces is)))

      misplaced : MisplacesInGroups items core by → F WrongPlace
      misplaced is = reasons.wrong_place (HasAnyWrongPlace.call (at_select MisplacesInGroups is))

      fine_conditions : Each (λ part. ¬ IsScalar part → F WrongPlace) (from_parts (from_tree core))
      fine_conditions =
          weaker (λ part there apart. plainly_misplaced (Misplaces.on part there apart)) (each_itself (from_parts (from_tree core)))

      fine_calls : IsFineCore F core by
      fine_calls = record {
        placed = record {
          aggregate = λ outer part there is inside apart. plainly_misplaced (Misplaces.in_aggregate outer part there is inside apart);
          window = λ outer part there is inside apart loose. misplaced (MisplacesInGroups.in_window outer part there is inside apart loose);
        };
        in_plain =
            weaker (λ part there apart. plainly_misplaced (Misplaces.plain part there apart)) (each_itself (plain_parts core));
        in_groups = λ part there apart loose. misplaced (MisplacesInGroups.in_groups part there apart loose);
        in_row = λ part there apart loose over. misplaced (MisplacesInGroups.in_row part there apart loose over);
      }

      answered : (inners : List Inner) → each (inner_of w.known queries) (inner_trees core by) ≡ Ok inners
          → Each (IsAnswered (answers_of w.known queries (map (λ (i : Inner). i.query) inners))) (core_parts core by)
      answered inners are = record {
        is = All-weaker (λ part. (tree : InnerTree) → inner_tree part ≡ Some tree → IsGiven (inner_of w.known queries tree))
            (IsAnswered (answers_of w.known queries (map (λ (i : Inner). i.query) inners)))
            (λ part given. record {
              is = λ tree same.
                  let (i, is) = given tree same in
                  (_, ap (also (λ (i : Inner). answer_at (place_of is_same_inner i.query (map (λ (i : Inner). i.query) inners)))) is);
            })
            (core_parts core by)
            (filtered (λ tree. IsGiven (inner_of w.known queries tree)) inner_tree (core_parts core by)
            (each-ok (inner_of w.known queries) (inner_trees core by) inners are));
      }

      fine_bare : (scope : Scope) → Shows (listed_of w.known) (from_tree core) scope → (inners : List Inner)
          → each (inner_of w.known queries) (inner_trees core by) ≡ Ok inners
          → core_of (answers_of w.known queries (map (λ (i : Inner). i.query) inners)) scope core by ≡ Err BareColumn → F BareColumn
      fine_bare scope shows inners given e =
          or_else reasons.bare_laws (λ laws.
          let (groups, bare) =
          core_bare laws.0 laws.1 laws.2 (answers_of w.known queries (map (λ (i : Inner). i.query) inners)) scope core by (answered inners given) e in
          reasons.bare_column (record {
            items = items;
            outer = outer;
            outer_order = outer_order;
            of = of;
            query = query;
            order = order;
            has = has;
            is = in_select (GroupsBarely tables (levels_around has) items) (record {
              scope = scope;
              shows = shows;
              operands = record { deep = more; left = room; w = w; mentioned = begun; inners = inners; are = given };
              groups = groups;
              bare = bare;
            });
          }))

      fine_framed : Each (IsFineCall F (window_names (windows_in core))) (core_parts core by)
      fine_framed =
          weaker (λ part there. record {
            frame = λ w over. frame_so w (HasWindow.over part there over);
            defined = λ name over apart. reasons.frame (at_select HasNoWindow (HasNoWindow.unnamed part name there over apart));
            function = λ over apart. plainly_misplaced (Misplaces.over part there over apart);
            counted = λ function es after same few.
                misplaced (MisplacesInGroups.arguments function es after (subst (Contains (core_parts core by)) same there) few);
          }) (each_itself (core_parts core by))

      fine_frames : Each (λ w. Only F (frame_of (frame_in w))) (defined_in (windows_in core))
      fine_frames = weaker (λ w there. frame_so w (HasWindow.defined there)) (each_itself (defined_in (windows_in core)))

      fine_nothing : (scope : Scope) → Shows (listed_of w.known) (from_tree core) scope → HasStar (results_in core) → starred scope ≡ [] → F WrongPlace
      fine_nothing scope shows star e =
          reasons.wrong_place (HasAnyWrongPlace.is (HasWrongPlace.star (here (InSelect tables StarsNothing) (in_select StarsNothing (record {
            star = star;
            scope = scope;
            shows = shows;
            none = all_hidden scope e;
          })))))

      fine_keyless : (e : ExprTree) (z : ℤ) → Contains (groups_in core) e → IsNumber e z → F WrongPlace
      fine_keyless e z there is =
          reasons.wrong_place (HasAnyWrongPlace.is (HasWrongPlace.group (at_select GroupsByNumber (record { e = e; z = z; written = there; is = is }))))

      fine_select : IsFineSelect F w.known queries core by
      fine_select = record {
        sources = fine_sources;
        joins = fine_join;
        columns = fine_columns;
        terms = fine_terms;
        stars = fine_stars;
        windows = fine_windows;
        narrow = fine_narrow;
        on = fine_conditions;
        calls = fine_calls;
        bare = fine_bare;
        nothing = fine_nothing;
        keyless = fine_keyless;
        framed = fine_framed;
        frames = fine_frames;
        members = fine_members;
      }

    sorts : SortsWrongly (listed_of w.known) query order → F WrongPlace
    sorts is =
        reasons.wrong_place (HasAnyWrongPlace.is (HasWrongPlace.order (here (InQuery tables SortsWrongly) (record {
          listed = listed_of w.known;
          are = are;
          is = is;
        }))))

    fine_order : (names : List Name) → HasNames (listed_of w.known) query names → IsFineOrder F order names
    fine_order names called = record {
      two = λ name there at other more e.
          let (first, second, apart, one, another) = named_two name 0 names at other more e in
          reasons.ambiguous (here (IsTwofold tables) (IsTwofold.result (listed_of w.known) are (record {
            names = names;
            are = called;
            name = name;
            written = there;
            first = first;
            second = second;
            apart = apart;
            one = one;
            other = another;
          })));
      number = λ e z there is out. sorts (SortsWrongly.number names e z called there is out);
    }

    fine_query : IsFineQuery F w.known queries query order
    fine_query = record {
      selects = fine_select;
      in_order = fine_order;
      rowless = λ names called none e there plainly apart. sorts (SortsWrongly.expression names e called there plainly apart none);
      even = λ left operator core begins names others called more e.
          reasons.column_count (HasUnevenColumns.query (here (IsUneven tables)
          (IsUneven.compound (listed_of w.known) left operator core names others are begins called more (eqb-false (length names) (length others) e))));
    }

  fine_item : (i : ItemTree) (before after : List ItemTree) → tree.items ≡ before ++ i ∷ after → (w : With)
      → with_items (no_items (known_tables tables)) before ≡ Ok w → (written names : List Name) → HasNames (listed_of w.known) i.query names
      → i.columns ≡ written → Only F (item_columns written names)
  fine_item i before after stand w begun [] names called same = ok names
  fine_item i before after stand w begun (n ∷ ns) names called same =
      checked_only (nat_eq (length (n ∷ ns)) (length names)) ColumnCount _
      (λ e. reasons.column_count (HasUnevenColumns.item before i after (listed_of w.known) names stand (known_listed tables before w begun) called
      (λ none. some n ns (sym same ∙ none)) (λ alike. eqb-false (length (n ∷ ns)) (length names) e (ap length (sym same) ∙ alike))))
      (checked_only (are_distinct (n ∷ ns)) DuplicateName _
      (λ e. says.repeated (n ∷ ns) e (λ apart.
      reasons.duplicate (HasRepeatedName.columns before i after stand (subst (λ names. ¬ AreDistinctInAnyCase names) (sym same) apart)))) (ok (n ∷ ns)))
    where
      some : (n : Name) (ns : List Name) → n ∷ ns ≡ [] → ⊥
      some n ns e = absurd cc

  fine_size : (w : With) → with_items (no_items (known_tables tables)) tree.items ≡ Ok w → (q : Queried)
      → queried max_levels w.known tree.query tree.order ≡ Ok q → nat_le (sources_of_body q.body) max_sources ≡ false → F Limit
  fine_size w begun q is e =
      let h = known_counted tables tree.items w begun in
      reasons.limit (IsBeyondLimit.sources h.counted (sources_of_body q.body) h.are
      (queried_counts max_levels w.known h.counted h.counts tree.query tree.order q is) (leb-false (sources_of_body q.body) max_sources e))

  fine_statement : IsFineStatement F reasons.takes tables tree
  fine_statement = record {
    items = λ e. says.repeated (map (λ (i : ItemTree). i.name) tree.items) e (λ apart. reasons.duplicate (HasRepeatedName.items apart));
    queries = λ {items} {query} {order} of w begun inner by has more left. fine_query items query order of w begun inner by has more left;
    columns = λ i before after stand w begun names called. fine_item i before after stand w begun i.columns names called refl;
    deep = λ {items} {query} {order} of is. reasons.limit (IsBeyondLimit.levels items query order of is);
    sources = fine_size;
  }

  pub names_for_reasons : Only F (named (known_tables tables) tree)
  names_for_reasons = named_only F reasons.takes tables tree fine_statement

  pub only_for_reasons : F WrongPlace → TakesTypes F → Only F (typed_query tables tree)
  only_for_reasons place types = typed_only F reasons.takes tables tree fine_statement place types
