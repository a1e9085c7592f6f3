-- A query by its names, or why it is none.
use Rattle.std.proofs.Common.{◌≡◌, ◌⊎◌, inl, inr, true, false, ℕ, zero, suc, ◌+◌, ℤ, List, [], ◌∷◌, ◌++◌, length, map, Option, Some, None, Result, Ok, Err, Contains, nat_eq, nat_le, ap, refl, subst, arith}
use Rattle.std.specs.List.{cons_option, filter_map}
use Rattle.values.specs.declared.fault.Fault.{Fault}
use Rattle.values.specs.declared.fault.Fault.TheVariants.{BareColumn, ColumnCount, DuplicateName, Limit, WrongPlace}
use Rattle.sql_reader_syntax.specs.ExprTree.{CoreTree, ExprTree, FromTree, OnTree, QueryTree, SourceTree, TermTrees}
use Rattle.sql_reader_syntax.specs.Tree.{Name}
use Rattle.sql_reader_syntax.specs.declared.query.CompoundOperator.{CompoundOperator}
use Rattle.sql_reader_syntax.specs.declared.query.Join.{Join}
use Rattle.semantics.specs.Query.{InnerQuery}
use Rattle.semantics_names.specs.Expression.{Answers, InnerTree}
use Rattle.semantics_names.specs.Laws.{IsScalar}
use Rattle.semantics_names.specs.Outcome.{also, each}
use Rattle.semantics_names.specs.Parts.{all_parts, core_parts, definitions_parts, from_parts, inner_tree, inner_trees, maybe_parts, parts, results_parts, terms_parts}
use Rattle.semantics_names.specs.Places.{frame_of}
use Rattle.semantics_names.specs.Scope.{Scope}
use Rattle.semantics_names.specs.Sources.{Known}
use Rattle.semantics_names.specs.Statement.{Inner, Queried, Single, answers_of, are_distinct, compounded, core_of, exists_inner, from_of, from_tree, inner_of, keys_of, max_columns, no_row, queried, query_of, simple, single, single_of, starred, values_inner, window_names, with_inners}
use Rattle.semantics_refusals.specs.BadFrames.{defined_in}
use Rattle.semantics_refusals.specs.Columns.{HasNames, Offers, Shows, names_of_results, results_in}
use Rattle.semantics_refusals.specs.Limits.{IsDeep}
use Rattle.semantics_refusals.specs.UnknownColumns.{IsNamedAt, IsNoResult}
use Rattle.semantics_refusals.specs.WrongPlaces.{HasNoRow, HasStar, IsNoNumber, IsNumber, groups_in}
use Rattle.semantics_refusals.specs.Written.{BeginsFrom, BeginsQuery, HasQuery, IsDerived, IsOperand, IsSelect, StandsIn, levels_around, names_of_sources, sources_in, spoken_in, stars_in, terms_in, windows_in}
use Rattle.semantics_refusals.proofs.CoreLemmas.{IsFineCore, IsFineOrder, IsFineStar, IsFineTerm, core_only, is_distinct, keys_only, no_row_only}
use Rattle.semantics_refusals.proofs.NameLemmas.{from_shows, listed_of, queried_names, query_names}
use Rattle.semantics_refusals.proofs.OutcomeLemmas.{Only, Takes, also_only, checked_only, each_only, known_only, ok, refused}
use Rattle.semantics_refusals.proofs.PartLemmas.{Each, among, back, each_itself, first, front, join, more, none, rest, weaker}
use Rattle.semantics_refusals.proofs.SourceLemmas.{IsFineAnswer, IsFineColumn, IsFineJoin, IsFineSource, from_only, with_answers}
use Rattle.semantics_refusals.proofs.TakenLemmas.{inside}
use Rattle.semantics_refusals.proofs.TermLemmas.{Base, IsFineCall, frame_in}
use Rattle.semantics_refusals.proofs.WiderLemmas.{OrBare, base_wider, core_wider, only_or, only_wider, or_bare_so, order_wider, star_wider, takes_wider, term_wider}

-- what has to hold of a SELECT, so that of its fault this holds
pub record IsFineSelect (F : Fault → Type 0) (known : List Known) (queries : QueryTree → Result Queried Fault) (core : CoreTree) (by : TermTrees) : Type 0 where
  pub sources : Each (IsFineSource F known) (sources_in (from_tree core))
  pub joins : (left : FromTree) (join : Join) (source : SourceTree) (on : OnTree) → BeginsFrom (FromTree.Joined left join source on) (from_tree core)
      → (scope : Scope) (called : Option Name) (columns : List Name) → Shows (listed_of known) left scope → Offers (listed_of known) source called columns
      → IsFineJoin F scope (names_of_sources left) on called columns
  pub columns : (scope : Scope) → Shows (listed_of known) (from_tree core) scope → Each (IsFineColumn F scope) (spoken_in core)
  pub terms : (scope : Scope) → Shows (listed_of known) (from_tree core) scope
      → Each (IsFineTerm (IsFineColumn F scope) (names_of_results scope (results_in core))) (terms_in by)
  pub stars : (scope : Scope) → Shows (listed_of known) (from_tree core) scope → Each (IsFineStar F scope) (stars_in (results_in core))
  pub windows : are_distinct (window_names (windows_in core)) ≡ false → F DuplicateName
  pub narrow : (scope : Scope) → Shows (listed_of known) (from_tree core) scope
      → nat_le (length (names_of_results scope (results_in core))) max_columns ≡ false → F Limit
  pub nothing : (scope : Scope) → Shows (listed_of known) (from_tree core) scope → HasStar (results_in core) → starred scope ≡ [] → F WrongPlace
  pub keyless : (e : ExprTree) (z : ℤ) → Contains (groups_in core) e → IsNumber e z → F WrongPlace
  pub on : Each (λ part. ¬ IsScalar part → F WrongPlace) (from_parts (from_tree core))
  pub calls : IsFineCore F core by
  pub bare : (scope : Scope) → Shows (listed_of known) (from_tree core) scope → (inners : List Inner)
      → each (inner_of known queries) (inner_trees core by) ≡ Ok inners
      → core_of (answers_of known queries (map (λ (i : Inner). i.query) inners)) scope core by ≡ Err BareColumn → F BareColumn
  pub framed : Each (IsFineCall F (window_names (windows_in core))) (core_parts core by)
  pub frames : Each (λ w. Only F (frame_of (frame_in w))) (defined_in (windows_in core))
  pub members : (query : QueryTree) (part : ExprTree) (names : List Name) → Contains (core_parts core by) part
      → inner_tree part ≡ Some (InnerTree.values_in query)
      → HasNames (listed_of known) query names → nat_eq (length names) 1 ≡ false → F ColumnCount

-- and of a query
pub record IsFineQuery (F : Fault → Type 0) (known : List Known) (queries : QueryTree → Result Queried Fault) (query : QueryTree) (order : TermTrees) : Type 0 where
  pub selects : (core : CoreTree) (by : TermTrees) → IsSelect query order core by → IsFineSelect F known queries core by
  pub in_order : (names : List Name) → HasNames (listed_of known) query names → IsFineOrder F order names
  pub rowless : (names : List Name) → HasNames (listed_of known) query names → HasNoRow query → (e : ExprTree) → Contains (terms_in order) e
      → IsNoNumber e → IsNoResult names e → F WrongPlace
  pub even : (left : QueryTree) (operator : CompoundOperator) (core : CoreTree) → BeginsQuery (QueryTree.Compound left operator core) query
      → (names others : List Name) → HasNames (listed_of known) left names → HasNames (listed_of known) (QueryTree.Core core) others
      → nat_eq (length names) (length others) ≡ false → F ColumnCount

-- what holds of the queries that stand in expressions
gathered : (P : InnerTree → Type 0) (xs : List ExprTree) → Each (λ part. (tree : InnerTree) → inner_tree part ≡ Some tree → P tree) xs
    → Each P (filter_map inner_tree xs)
gathered P [] all = none
gathered P (x ∷ xs) all = by (inner_tree x) (first all) (gathered P xs (rest all))
  where
    by : (o : Option InnerTree) → ((tree : InnerTree) → o ≡ Some tree → P tree) → Each P (filter_map inner_tree xs)
        → Each P (cons_option o (filter_map inner_tree xs))
    by None so others = others
    by (Some tree) so others = more tree (filter_map inner_tree xs) (so tree refl) others

all_units : {X : Type 0} (xs : List X) → Each (λ _. Unit {0}) xs
all_units xs = record { is = λ k d short. tt }

all_terms : (names : List Name) (xs : List ExprTree) → Each (IsFineTerm (λ _. Unit {0}) names) xs
all_terms names xs = weaker (λ e _. record { is = inr (all_units (parts e)) }) (each_itself xs)

nothing_there : {X : Type 0} (x : X) → Contains [] x → ⊥
nothing_there x (at, short, is) = omega arith

no_order : (F : Fault → Type 0) (names : List Name) → IsFineOrder F TermTrees.No_term names
no_order F names = record {
  two = λ name there at other more same. absurd (nothing_there (ExprTree.Column None name) there);
  number = λ e z there. absurd (nothing_there e there);
}

distinct_rows : (core : CoreTree) → is_distinct core ≡ true → HasNoRow (QueryTree.Core core)
distinct_rows (CoreTree.Select true results from condition by having windows) e = HasNoRow.distinct
distinct_rows (CoreTree.Select false results from condition by having windows) e = absurd cc

module _ (F : Fault → Type 0) (takes : Takes F) (known : List Known) (queries : QueryTree → Result Queried Fault)
    (names : (tree : QueryTree) (q : Queried) → queries tree ≡ Ok q → HasNames (listed_of known) tree q.names) where
  module _ (core : CoreTree) (by : TermTrees) (fine : IsFineSelect F known queries core by)
      (operands : (part : ExprTree) (inner : QueryTree) → Contains (core_parts core by) part → IsOperand part inner → Only F (queries inner)) where
    abbrev windows : List Name
    windows = window_names (windows_in core)

    inner_only : (part : ExprTree) → Contains (core_parts core by) part → (tree : InnerTree) → inner_tree part ≡ Some tree
        → Only F (inner_of known queries tree)
    inner_only (ExprTree.InQuery not x query) there tree e =
        let same : InnerTree.values_in query ≡ tree = cc in
        subst (λ tree. Only F (inner_of known queries tree)) same
        (known_only (queries query) values_inner (operands (ExprTree.InQuery not x query) query there IsOperand.members) (λ q is.
        checked_only (nat_eq (length q.names) 1) ColumnCount _
        (fine.members query (ExprTree.InQuery not x query) q.names there refl (names query q is)) (ok _)))
    inner_only (ExprTree.Exists query) there tree e =
        let same : InnerTree.exists_in query ≡ tree = cc in
        subst (λ tree. Only F (inner_of known queries tree)) same
        (also_only exists_inner (queries query) (operands (ExprTree.Exists query) query there IsOperand.tested))
    inner_only _ there tree e = absurd cc

    answers_only : (inners : List InnerQuery) → Each (IsFineAnswer F windows (answers_of known queries inners)) (core_parts core by)
    answers_only inners =
        weaker (λ part there. record {
          is = λ tree e. also_only _ (inner_of known queries tree) (inner_only part there tree e);
          framed = among fine.framed there;
        })
        (each_itself (core_parts core by))

    in_from : (answers : Answers) → Each (IsFineAnswer F windows answers) (core_parts core by) → Each (IsFineAnswer F windows answers) (from_parts (from_tree core))
    in_from = from_of_core core by
      where
        from_of_core : (core : CoreTree) (by : TermTrees) (answers : Answers) → Each (IsFineAnswer F windows answers) (core_parts core by)
            → Each (IsFineAnswer F windows answers) (from_parts (from_tree core))
        from_of_core (CoreTree.Select distinct results from condition groups having windows) by answers all =
            back (results_parts results) (from_parts from) (front (results_parts results ++ from_parts from) (maybe_parts condition)
            (front _ (all_parts groups) (front _ (maybe_parts having) (front _ (definitions_parts windows) (front _ (terms_parts by) all)))))

    in_spoken : (answers : Answers) → Each (IsFineAnswer F windows answers) (core_parts core by)
        → Each (IsFineAnswer F windows answers) (spoken_in core) × Each (IsFineAnswer F windows answers) (terms_parts by)
    in_spoken = spoken_of_core core by
      where
        spoken_of_core : (core : CoreTree) (by : TermTrees) (answers : Answers) → Each (IsFineAnswer F windows answers) (core_parts core by)
            → Each (IsFineAnswer F windows answers) (spoken_in core) × Each (IsFineAnswer F windows answers) (terms_parts by)
        spoken_of_core (CoreTree.Select distinct results from condition groups having windows) by answers all =
            let r = results_parts results in
            let c = maybe_parts condition in
            let g = all_parts groups in
            let h = maybe_parts having in
            let d = definitions_parts windows in
            let to_windows = front (r ++ from_parts from ++ c ++ g ++ h ++ d) (terms_parts by) all in
            let to_having = front (r ++ from_parts from ++ c ++ g ++ h) d to_windows in
            let to_groups = front (r ++ from_parts from ++ c ++ g) h to_having in
            let to_condition = front (r ++ from_parts from ++ c) g to_groups in
            let in_condition = back (r ++ from_parts from) c to_condition in
            let in_results = front r (from_parts from) (front (r ++ from_parts from) c to_condition) in
            let spoken = join (r ++ c ++ g ++ h) d (join (r ++ c ++ g) h (join (r ++ c) g (join r c in_results in_condition)
            (back (r ++ from_parts from ++ c) g to_groups)) (back (r ++ from_parts from ++ c ++ g) h to_having))
            (back (r ++ from_parts from ++ c ++ g ++ h) d to_windows) in
            (spoken, back (r ++ from_parts from ++ c ++ g ++ h ++ d) (terms_parts by) all)

    in_terms : (answers : Answers) (scope : Scope) (names : List Name) (order : TermTrees) → Each (IsFineTerm (IsFineColumn F scope) names) (terms_in order)
        → Each (IsFineAnswer F windows answers) (terms_parts order) → Each (IsFineTerm (Base F windows answers scope) names) (terms_in order)
    in_terms answers scope names TermTrees.No_term terms all = none
    in_terms answers scope names (TermTrees.Term e direction others) terms all =
        more e (terms_in others) (record { is = of (first terms).is })
        (in_terms answers scope names others (rest terms) (back (parts e) (terms_parts others) all))
      where
        of : ((alone : Name) × (at : ℕ) × (e ≡ ExprTree.Column None alone) × IsNamedAt names alone at) ⊎ Each (IsFineColumn F scope) (parts e)
            → ((alone : Name) × (at : ℕ) × (e ≡ ExprTree.Column None alone) × IsNamedAt names alone at) ⊎ Each (Base F windows answers scope) (parts e)
        of (inl result) = inl result
        of (inr columns) = inr (with_answers F windows answers scope (parts e) columns (front (parts e) (terms_parts others) all))

    single_only : ((names : List Name) → HasNames (listed_of known) (QueryTree.Core core) names → IsFineOrder F by names)
        → ((names : List Name) → HasNames (listed_of known) (QueryTree.Core core) names → HasNoRow (QueryTree.Core core) → (e : ExprTree)
        → Contains (terms_in by) e → IsNoNumber e → IsNoResult names e → F WrongPlace)
        → ((source : SourceTree) (query : QueryTree) → Contains (sources_in (from_tree core)) source → IsDerived source query → Only F (queries query))
        → Only F (single_of known queries core by)
    single_only in_order rowless derived =
        known_only (each (inner_of known queries) (inner_trees core by)) (with_inners known queries core by)
        (each_only (inner_of known queries) (inner_trees core by) (gathered (λ tree. Only F (inner_of known queries tree)) (core_parts core by)
        (weaker (λ part there tree e. inner_only part there tree e) (each_itself (core_parts core by)))))
        (λ inners are.
        let queries_of : List InnerQuery = map (λ (i : Inner). i.query) inners in
        let answers : Answers = answers_of known queries queries_of in
        let all = answers_only queries_of in
        known_only (from_of known queries answers (from_tree core)) _
        (from_only F takes windows answers known queries names (from_tree core) fine.sources derived fine.joins (in_from answers all) fine.on)
        (λ f taken.
        let shows = from_shows known queries names answers (from_tree core) f taken in
        also_only (single inners f) (core_of answers f.scope core by)
        (only_or F (core_of answers f.scope core by)
        (core_only (OrBare F) (takes_wider F (OrBare F) (or_bare_so F) takes) windows answers f.scope core by
        (core_wider F (OrBare F) (or_bare_so F) core by fine.calls)
        (weaker (λ part base. base_wider F (OrBare F) (or_bare_so F) windows answers f.scope part base)
        (with_answers F windows answers f.scope (spoken_in core) (fine.columns f.scope shows) ((in_spoken answers all).0)))
        (weaker (λ e is. term_wider F (OrBare F) (or_bare_so F) windows answers f.scope (names_of_results f.scope (results_in core)) e is)
        (in_terms answers f.scope (names_of_results f.scope (results_in core)) by (fine.terms f.scope shows) ((in_spoken answers all).1)))
        (weaker (λ table is. star_wider F (OrBare F) (or_bare_so F) f.scope table is) (fine.stars f.scope shows)) (λ d. inl (fine.windows d))
        (order_wider F (OrBare F) (or_bare_so F) by (names_of_results f.scope (results_in core))
        (in_order (names_of_results f.scope (results_in core)) (HasNames.alone shows)))
        (λ star d. inl (fine.nothing f.scope shows star d))
        (λ d e there plainly apart.
        inl (rowless (names_of_results f.scope (results_in core)) (HasNames.alone shows) (distinct_rows core d) e there plainly apart))
        (λ e z there is. inl (fine.keyless e z there is)) (λ d. inl (fine.narrow f.scope shows d))
        (weaker (λ w o. only_wider F (OrBare F) (or_bare_so F) (frame_of (frame_in w)) o) fine.frames) refl (inr refl))
        (λ d. fine.bare f.scope shows inners are d))))

  compounded_only : (order : TermTrees) (left : Queried) (operator : CompoundOperator) (s : Single)
      → (nat_eq (length left.names) (length s.core.names) ≡ false → F ColumnCount)
      → IsFineOrder F order left.names
      → ((e : ExprTree) → Contains (terms_in order) e → IsNoNumber e → IsNoResult left.names e → F WrongPlace)
      → Only F (compounded order left operator s)
  compounded_only order left operator s even in_order rowless =
      checked_only (nat_eq (length left.names) (length s.core.names)) ColumnCount _ even
      (also_only _ (keys_of left.names no_row order)
      (keys_only F takes left.names no_row (λ _. Unit {0}) (Contains (terms_in order))
      (λ e there plainly apart all. no_row_only F takes e (rowless e there plainly apart)) order (each_itself (terms_in order)) in_order
      (all_terms left.names (terms_in order))))

  in_compound : (left : QueryTree) (operator : CompoundOperator) (core : CoreTree) (order : TermTrees) {inner : QueryTree}
      → StandsIn left TermTrees.No_term inner
      → StandsIn (QueryTree.Compound left operator core) order inner
  in_compound left operator core order (StandsIn.derived other by inner source select there is) =
      StandsIn.derived other by inner source (IsSelect.before select) there is
  in_compound left operator core order (StandsIn.operand other by inner part select there is) =
      StandsIn.operand other by inner part (IsSelect.before select) there is
  in_compound left operator core order (StandsIn.sorted inner part there is) = absurd (nothing_there part there)

  query_only : (query : QueryTree) (order : TermTrees) → IsFineQuery F known queries query order
      → ((inner : QueryTree) → StandsIn query order inner → Only F (queries inner))
      → Only F (query_of known queries query order)
  query_only (QueryTree.Core core) order fine stands =
      also_only simple (single_of known queries core order)
      (single_only core order (fine.selects core order IsSelect.alone)
      (λ part inner there is. stands inner (StandsIn.operand core order inner part IsSelect.alone there is)) fine.in_order fine.rowless
      (λ source inner there is. stands inner (StandsIn.derived core order inner source IsSelect.alone there is)))
  query_only (QueryTree.Compound left operator core) order fine stands =
      known_only (query_of known queries left TermTrees.No_term) _
      (query_only left TermTrees.No_term (record {
        selects = λ other by select. fine.selects other by (IsSelect.before select);
        in_order = λ names are. no_order F names;
        rowless = λ names are none e there. absurd (nothing_there e there);
        even = λ begin joined other begins. fine.even begin joined other (BeginsQuery.more begins);
      }) (λ inner is. stands inner (in_compound left operator core order is)))
      (λ l is.
      let named = query_names known queries names left TermTrees.No_term l is in
      known_only (single_of known queries core TermTrees.No_term) (compounded order l operator)
      (single_only core TermTrees.No_term (fine.selects core TermTrees.No_term IsSelect.last)
      (λ part inner there of. stands inner (StandsIn.operand core TermTrees.No_term inner part IsSelect.last there of)) (λ names are. no_order F names)
      (λ names are none e there. absurd (nothing_there e there))
      (λ source inner there of. stands inner (StandsIn.derived core TermTrees.No_term inner source IsSelect.last there of)))
      (λ s single. compounded_only order l operator s
      (fine.even left operator core BeginsQuery.whole l.names s.core.names named
      (query_names known queries names (QueryTree.Core core) TermTrees.No_term (simple s) (ap (also simple) single)))
      (fine.in_order l.names (HasNames.compound named)) (fine.rowless l.names (HasNames.compound named) HasNoRow.compound)))

pub queried_only : (F : Fault → Type 0) (takes : Takes F) (deep : ℕ) (known : List Known) (query : QueryTree) (order : TermTrees)
    → ((inner : QueryTree) (by : TermTrees) (has : HasQuery query order inner by) (more : ℕ) → suc (levels_around has + more) ≡ deep
    → IsFineQuery F known (inside more known) inner by) → (IsDeep deep query order → F Limit) → Only F (queried deep known query order)
queried_only F takes zero known query order fine deeply = refused Limit (deeply IsDeep.any)
queried_only F takes (suc deep) known query order fine deeply =
    query_only F takes known (inside deep known) (λ tree q is. queried_names deep known tree TermTrees.No_term q is) query order
    (fine query order HasQuery.own deep (omega arith))
    (λ inner stands. queried_only F takes deep known inner TermTrees.No_term (λ q by has more same.
    fine q by (HasQuery.inside inner stands has) more (omega (arith, same)))
    (λ is. deeply (IsDeep.inside inner stands is)))
