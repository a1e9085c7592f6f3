-- What spells a window, a SELECT or a query is read, with its levels: each production, where its parts are read.
use Rattle.std.proofs.Common.{◌≡◌, ◌≢◌, Bool, true, false, ℕ, zero, suc, ◌+◌, ◌-◌, ◌<◌, ◌≤◌, max, List, [], ◌∷◌, length, Option, Some, None, Ok, Err, refl, sym, ap, ◌∙◌, arith, subst}
use mathlib.Core.Logic.{inl, inr}
use Rattle.std.proofs.lemmas.Bool.{cases_lt, cond-true, lt-ltb}
use Rattle.sql_reader_tokens.specs.Lexeme.{Lexeme}
use Rattle.sql_reader_tokens.specs.declared.keywords.keyword.Keyword.TheVariants as k
use Rattle.sql_reader_tokens.specs.declared.sign.Sign.TheVariants as s
use Rattle.sql_reader_tokens.specs.declared.token.Quoting.{Quoting}
use Rattle.sql_reader_grammar.specs.phrases.Lists.{Listed}
use Rattle.sql_reader_grammar.specs.phrases.Outcomes.{Outcome, Read, Refusal, ◌>>=◌, read, series}
use Rattle.sql_reader_grammar.specs.phrases.Steps.{Rest, after_close, after_comma, after_keyword, after_open}
use Rattle.sql_reader_grammar.proofs.lemmas.phrases.OutcomeLemmas.{fits, fits_bind, fits_both, fits_in, fits_out, fits_same, fits_suc, step_last}
use Rattle.sql_reader_syntax.specs.ExprTree.{
  BehindTree,
  CoreTree,
  DefinitionTrees,
  ExprTree,
  ExprTrees,
  FromTree,
  MaybeExpr,
  NameTree,
  OnTree,
  OverTree,
  QueryTree,
  ResultTree,
  ResultTrees,
  SourceTree,
  TermTrees,
  WindowTree,
}
use Rattle.sql_reader_syntax.specs.Tree.{Name}
use Rattle.sql_reader_syntax.specs.declared.query.CompoundOperator.{CompoundOperator}
use Rattle.sql_reader_syntax.specs.declared.query.Direction.{Direction}
use Rattle.sql_reader_syntax.specs.declared.query.Frame.{Frame}
use Rattle.sql_reader_syntax.specs.declared.query.Join.{Join}
use Rattle.sql_reader_grammar.specs.Clauses.{Aliases, Directs, Frames, Joins, Names, Quantifies, Titles, Wants, may_have, may_lack}
use Rattle.sql_reader_grammar.specs.Fronts.{Beginning, Opening, beginning, binds, compound, join_at, opening, quantifier}
use Rattle.sql_reader_grammar.specs.Queries.{nowhere}
use Rattle.sql_reader_grammar.specs.Reading.{a_name, a_source, absent_on, alias, behind, both, closed, compounded, compounds, condition, core, counted, definition, definitions, definitions_of, direction, expr, filter, filter_at, frame, from, groups, having, inner, made, next_source, on, on_at, one, operand_at, order, over, over_at, partition, parts, present, query_by, raised, result, result_at, results, results_of, selected, some, source_at, sources, sources_from, standing, term, terms, terms_of, title, using_at, window, windowed, windows}
use Rattle.sql_reader_grammar.proofs.Clauses.{TermEnds, alias_read, comma_term, direction_read, frame_read, join_read, name_read, names_read, title_read, title_stops}
use Rattle.sql_reader_grammar.proofs.CompleteExprs.{Ends, Reads, ReadsAll, ReadsBehind, ReadsCore, ReadsQuery, expr_is, reads_one, reads_present, reads_some}
use Rattle.sql_reader_grammar.proofs.Got.{Comes, Got, comes_both, comes_counted, comes_flat, comes_last, comes_levels, comes_made, comes_more, got_absent, got_both, got_closed, got_flat, got_inner, got_last, got_levels, got_made, got_more, got_same}
use Rattle.sql_reader_grammar.proofs.Stages.{
  no_alias,
  no_comma,
  no_compound,
  no_from,
  no_group_by,
  no_having,
  no_join,
  no_nulls,
  no_on,
  no_operator,
  no_order_by,
  no_partition_by,
  no_title,
  no_turn,
  no_using,
  no_where,
  no_window,
  stage,
}
use Rattle.sql_reader_grammar.proofs.Turns.{climb_stops, compounded_full, compounds_step, compounds_stops}

-- Lists of trees

abbrev pub terms_list : TermTrees → List (ExprTree × Direction)
terms_list TermTrees.No_term = []
terms_list (TermTrees.Term e d terms) = (e, d) ∷ terms_list terms

pub terms_of_list : (terms : TermTrees) → terms_of (terms_list terms) ≡ terms
terms_of_list TermTrees.No_term = refl
terms_of_list (TermTrees.Term e d terms) = ap (TermTrees.Term e d) (terms_of_list terms)

abbrev pub results_list : ResultTrees → List ResultTree
results_list ResultTrees.No_result = []
results_list (ResultTrees.Result r rs) = r ∷ results_list rs

pub results_of_list : (rs : ResultTrees) → results_of (results_list rs) ≡ rs
results_of_list ResultTrees.No_result = refl
results_of_list (ResultTrees.Result r rs) = ap (ResultTrees.Result r) (results_of_list rs)

abbrev pub definitions_list : DefinitionTrees → List (Name × WindowTree)
definitions_list DefinitionTrees.No_definition = []
definitions_list (DefinitionTrees.Definition n w ws) = (n, w) ∷ definitions_list ws

pub definitions_of_list : (ws : DefinitionTrees) → definitions_of (definitions_list ws) ≡ ws
definitions_of_list DefinitionTrees.No_definition = refl
definitions_of_list (DefinitionTrees.Definition n w ws) = ap (DefinitionTrees.Definition n w) (definitions_of_list ws)

-- What stands behind

-- a later clause ends a list of expressions
pub stage_ends : (after : Rest) → 1 ≤ stage after → Ends after
stage_ends after h = record { no_operator = no_operator after h; no_comma = no_comma after h }

pub stage_term : (after : Rest) → 1 ≤ stage after → TermEnds after
stage_term after h = record { no_operator = no_operator after h; no_turn = no_turn after h; no_nulls = λ d. no_nulls d after h }

no_over : (ts : Rest) → binds ts ≤ 11 → after_keyword k.Over ts ≡ None
no_over (Lexeme.Reserved k.Over ∷ ts) h = absurd (omega (arith, h))
no_over _ h = refl

no_filter : (ts : Rest) → binds ts ≤ 11 → after_keyword k.Filter ts ≡ None
no_filter (Lexeme.Reserved k.Filter ∷ ts) h = absurd (omega (arith, h))
no_filter _ h = refl

module _ (source : ℕ → ℕ → List ℕ) where
  -- Windows

  abbrev pub ReadsPartition : ℕ → ExprTrees → Rest → Rest → Type 0
  ReadsPartition h es from after = (d : ℕ) → 7 ≤ stage after → Got d h (partition source (inner source d) d from) es after

  pub no_partition_reads : (after : Rest) → ReadsPartition 0 ExprTrees.No_more after after
  no_partition_reads after d st =
      got_absent d ExprTrees.No_more (some source (inner source d) d) after _ (no_partition_by after st)

  pub partition_reads : (h : ℕ) (es : ExprTrees) (from after : Rest) → ReadsAll source nowhere 0 h es from after
      → ReadsPartition h es (Lexeme.Reserved k.Partition ∷ Lexeme.Reserved k.By ∷ from) after
  partition_reads h es from after xs d st =
      got_inner d h _ es after
      (reads_some source h es from after xs d (stage_ends after (omega (arith, st))))

  abbrev pub ReadsTerms : ℕ → TermTrees → Rest → Rest → Type 0
  ReadsTerms h terms from after =
      (d n place : ℕ) → length from < n → TermEnds after → after_comma after ≡ None
      → Comes d (suc h) (series (λ place. term source (inner source d) d) after_comma n place from) (terms_list terms) after

  term_reads : (h : ℕ) (e : ExprTree) (dir : Direction) (from mid after : Rest) → Reads source 1 h e from mid
      → Directs dir mid after → (d : ℕ) → TermEnds after
      → Comes d (max (suc h) 0) (term source (inner source d) d from) (e, dir) after
  term_reads h e dir from mid after x t d ends =
      let r = direction_read t ends in
      comes_both d (suc h) 0 _ direction e dir mid after (reads_one source h e from mid x d r.1)
      (comes_flat d (direction mid) dir after r.0)

  pub last_term_reads : (h : ℕ) (e : ExprTree) (dir : Direction) (from mid after : Rest) → Reads source 1 h e from mid
      → Directs dir mid after → ReadsTerms h (TermTrees.Term e dir TermTrees.No_term) from after
  last_term_reads h e dir from mid after x t d zero place less ends stop = absurd (omega (arith, less))
  last_term_reads h e dir from mid after x t d (suc n) place less ends stop =
      comes_levels d (max (max (suc h) 0) 0) (suc h) _ _ after (omega arith)
      (comes_last d (max (suc h) 0) (λ place. term source (inner source d) d) after_comma n place (e, dir) from after
      (term_reads h e dir from mid after x t d ends) stop)

  pub more_terms_reads : (h i : ℕ) (e : ExprTree) (dir : Direction) (terms : TermTrees) (from mid rest after : Rest)
      → length rest < length from → Reads source 1 h e from mid → Directs dir mid (Lexeme.Punctuation s.Comma ∷ rest)
      → ReadsTerms i terms rest after → ReadsTerms (max h i) (TermTrees.Term e dir terms) from after
  more_terms_reads h i e dir terms from mid rest after shorter x t xs d zero place less ends stop = absurd (omega (arith, less))
  more_terms_reads h i e dir terms from mid rest after shorter x t xs d (suc n) place less ends stop =
      comes_levels d (max (max (suc h) 0) (suc i)) (suc (max h i)) _ _ after (omega arith)
      (comes_more d (max (suc h) 0) (suc i) (λ place. term source (inner source d) d) after_comma n place (e, dir)
      (terms_list terms) from (Lexeme.Punctuation s.Comma ∷ rest) rest after
      (term_reads h e dir from mid (Lexeme.Punctuation s.Comma ∷ rest) x t d (comma_term rest)) refl
      (xs d n (suc place) (omega (arith, less, shorter)) ends stop))

  abbrev pub ReadsOrder : ℕ → TermTrees → Rest → Rest → Type 0
  ReadsOrder h ts from after = (d : ℕ) → 8 ≤ stage after → Got d h (order source (inner source d) d from) ts after

  pub no_order_reads : (after : Rest) → ReadsOrder 0 TermTrees.No_term after after
  no_order_reads after d st =
      got_absent d TermTrees.No_term (terms source (inner source d) d) after _ (no_order_by after st)

  pub order_reads : (h : ℕ) (ts : TermTrees) (from after : Rest) → ReadsTerms h ts from after
      → ReadsOrder h ts (Lexeme.Reserved k.Order ∷ Lexeme.Reserved k.By ∷ from) after
  order_reads h ts from after xs d st =
      got_inner d h _ ts after
      (comes_made d (suc h) terms_of _ (terms_list ts) after
      (xs d (suc (length from)) 0 (omega arith) (stage_term after (omega (arith, st))) (no_comma after (omega (arith, st))))
      ∙ ap (λ ts. fits d (suc h) (Ok (read ts (suc h) after))) (terms_of_list ts))

  abbrev pub ReadsWindow : ℕ → WindowTree → Rest → Rest → Type 0
  ReadsWindow h w from after = (d : ℕ) → Got d h (window source (inner source d) d from) w after

  pub window_reads : (h i : ℕ) (es : ExprTrees) (ts : TermTrees) (f : Option Frame) (from mid rest after : Rest)
      → 7 ≤ stage mid → ReadsPartition h es from mid → ReadsOrder i ts mid rest
      → Frames f rest (Lexeme.Punctuation s.Close ∷ after)
      → ReadsWindow (max h i) (WindowTree.Window es ts f) (Lexeme.Punctuation s.Open ∷ from) after
  unfolding window
  window_reads h i es ts f from mid rest after st x y z d =
      let fr = frame_read z (omega arith) in
      got_levels d (max h (max i 0)) (max h i) _ _ after (omega arith)
      (got_made d (max h (max i 0)) (windowed source (inner source d) d) _ (es, (ts, f)) after
      (got_closed d (max h (max i 0)) after_close _ (es, (ts, f)) (Lexeme.Punctuation s.Close ∷ after) after
      (got_both d h (max i 0) _ _ es (ts, f) mid (Lexeme.Punctuation s.Close ∷ after) (x d st)
      (got_both d i 0 _ frame ts f rest (Lexeme.Punctuation s.Close ∷ after) (y d fr.1)
      (got_flat d (frame rest) f (Lexeme.Punctuation s.Close ∷ after) fr.0))) refl))

  -- What stands behind a call

  abbrev pub ReadsOver : ℕ → OverTree → Rest → Rest → Type 0
  ReadsOver h o from after =
      (d : ℕ) → binds after ≤ 11
      → Got d h (over source (inner source d) d from) o after × (after_keyword k.Filter from ≡ None)

  pub no_over_reads : (after : Rest) → ReadsOver 0 OverTree.No_over after after
  no_over_reads after d stop =
      (got_absent d OverTree.No_over (over_at source (inner source d) d) after _ (no_over after stop), no_filter after stop)

  pub over_name_reads : (q : Quoting) (n : Name) (after : Rest)
      → ReadsOver 0 (OverTree.OverName n) (Lexeme.Reserved k.Over ∷ Lexeme.Name q n ∷ after) after
  over_name_reads q n after d stop = (got_flat d _ _ after refl, refl)

  pub over_reads : (h : ℕ) (w : WindowTree) (from rest after : Rest) → from ≡ Lexeme.Punctuation s.Open ∷ rest
      → ReadsWindow h w from after → ReadsOver h (OverTree.Over w) (Lexeme.Reserved k.Over ∷ from) after
  over_reads h w from rest after is x d stop = (
    got_same d h (made (λ w. OverTree.Over w) (window source (inner source d) d from)) _ (OverTree.Over w) after
        (ap (over_at source (inner source d) d) is
        ∙ sym (ap (λ ts. made (λ w. OverTree.Over w) (window source (inner source d) d ts)) is))
        (got_made d h (λ w. OverTree.Over w) _ w after (x d)),
    refl,
  )

  abbrev pub ReadsFilter : ℕ → MaybeExpr → Rest → Rest → Type 0
  ReadsFilter h e from after =
      (d : ℕ) → after_keyword k.Filter after ≡ None → Got d h (filter source (inner source d) d from) e after

  pub no_filter_reads : (after : Rest) → ReadsFilter 0 MaybeExpr.Absent after after
  no_filter_reads after d none = got_absent d MaybeExpr.Absent (filter_at source (inner source d) d) after _ none

  pub filter_reads : (h : ℕ) (e : ExprTree) (from after : Rest) → Reads source 1 h e from (Lexeme.Punctuation s.Close ∷ after)
      → ReadsFilter h (MaybeExpr.Present e)
      (Lexeme.Reserved k.Filter ∷ Lexeme.Punctuation s.Open ∷ Lexeme.Reserved k.Where ∷ from) after
  filter_reads h e from after x d none =
      got_closed d h after_close _ (MaybeExpr.Present e) (Lexeme.Punctuation s.Close ∷ after) after
      (reads_present source h e from (Lexeme.Punctuation s.Close ∷ after) x d refl) refl

  pub behind_reads : (h i : ℕ) (e : MaybeExpr) (o : OverTree) (from mid after : Rest) → ReadsFilter h e from mid
      → ReadsOver i o mid after → ReadsBehind source (max h i) (BehindTree.Behind e o) from after
  unfolding behind
  behind_reads h i e o from mid after x y d stop =
      let r = y d stop in
      got_made d (max h i) (standing source (inner source d) d) _ (e, o) after
      (got_both d h i _ (over source (inner source d) d) e o mid after (x d r.1) r.0)

  -- Result columns

  -- what may stand behind a result column
  pub record ResultEnds (after : Rest) : Type 0 where
    pub no_operator : binds after ≡ 0
    pub no_title : (text : List ℕ) → title text after ≡ Ok (read (NameTree.SourceText text) 0 after)

  pub comma_result : (rest : Rest) → ResultEnds (Lexeme.Punctuation s.Comma ∷ rest)
  comma_result rest = record { no_operator = refl; no_title = λ text. refl }

  pub stage_result : (after : Rest) → 1 ≤ stage after → ResultEnds after
  stage_result after h = record { no_operator = no_operator after h; no_title = λ text. no_title text after h }

  -- no table's name with a dot and a star is an expression
  no_table_star : (d : ℕ) (q : Quoting) (n : Name) (ts : Rest)
      → expr source d 1 (Lexeme.Name q n ∷ Lexeme.Punctuation s.Dot ∷ Lexeme.Punctuation s.Star ∷ ts) ≡ Err Refusal.Syntax
  unfolding operand_at
  no_table_star d q n ts =
      expr_is source d 1 (Lexeme.Name q n ∷ Lexeme.Punctuation s.Dot ∷ Lexeme.Punctuation s.Star ∷ ts)

  reads_nothing : (h : ℕ) (e : ExprTree) (from after : Rest) → Reads source 1 h e from after → binds after ≡ 0
      → expr source h 1 from ≢ Err Refusal.Syntax
  reads_nothing h e from after x stop wrong =
      let i = x h 1 (omega arith) (omega arith) (omega (arith, stop))
      ∙ (ap (fits h h) (climb_stops source (inner source h) h h 1 (read e h after) (omega (arith, stop)))
      ∙ fits_in h h _ (omega arith)) in
      let j = sym i ∙ wrong in absurd cc

  begins_expression : (ts : Rest) → opening ts ≢ Opening.Nothing
      → ((q : Quoting) (n : Name) (us : Rest)
      → ts ≢ Lexeme.Name q n ∷ Lexeme.Punctuation s.Dot ∷ Lexeme.Punctuation s.Star ∷ us)
      → beginning ts ≡ Beginning.Expression
  begins_expression (Lexeme.Punctuation s.Star ∷ ts) h other = absurd (h refl)
  begins_expression (Lexeme.Name q n ∷ Lexeme.Punctuation s.Dot ∷ Lexeme.Punctuation s.Star ∷ ts) h other =
      absurd (other q n ts refl)
  begins_expression _ h other = refl

  abbrev pub ReadsResult : ℕ → ResultTree → Rest → Rest → Type 0
  ReadsResult h r from after = (d : ℕ) → ResultEnds after → Got d h (result source (inner source d) d from) r after

  pub all_reads : (after : Rest) → ReadsResult 0 ResultTree.All (Lexeme.Punctuation s.Star ∷ after) after
  all_reads after d ends = got_flat d _ _ after refl

  pub all_of_reads : (q : Quoting) (table : Name) (after : Rest)
      → ReadsResult 0 (ResultTree.AllOf table)
      (Lexeme.Name q table ∷ Lexeme.Punctuation s.Dot ∷ Lexeme.Punctuation s.Star ∷ after) after
  all_of_reads q table after d ends = got_flat d _ _ after refl

  pub value_reads : (h : ℕ) (e : ExprTree) (t : NameTree) (from mid after : Rest) → opening from ≢ Opening.Nothing
      → Reads source 1 h e from mid → Titles (source (length from) (length mid)) t mid after
      → ReadsResult h (ResultTree.Value e t) from after
  value_reads h e t from mid after begins x named d ends =
      let stop = title_stops named ends.no_operator in
      let is = begins_expression from begins (λ q n us e_is. reads_nothing h e from mid x stop
      (subst (λ ts. expr source h 1 ts ≡ Err Refusal.Syntax) (sym e_is) (no_table_star h q n us))) in
      got_inner d h _ (ResultTree.Value e t) after
      (ap (result_at source (inner source d) d from) is
      ∙ step_last d (suc h) (one source (inner source d) d from) (read e (suc h) mid)
      (λ x. title (source (length from) (length x.rest)) x.rest
      >>= λ t. Ok (read (ResultTree.Value x.tree t.tree) x.levels t.rest))
      (read (ResultTree.Value e t) (suc h) after) (reads_one source h e from mid x d stop)
      (ap (λ r. r >>= λ t. Ok (read (ResultTree.Value e t.tree) (suc h) t.rest))
      (title_read named (ends.no_title (source (length from) (length mid))))))

  abbrev pub ReadsResults : ℕ → ResultTrees → Rest → Rest → Type 0
  ReadsResults h rs from after =
      (d n place : ℕ) → length from < n → ResultEnds after → after_comma after ≡ None
      → Got d h (series (λ place. result source (inner source d) d) after_comma n place from) (results_list rs) after

  pub last_result_reads : (h : ℕ) (r : ResultTree) (from after : Rest) → ReadsResult h r from after
      → ReadsResults h (ResultTrees.Result r ResultTrees.No_result) from after
  last_result_reads h r from after x d zero place less ends stop = absurd (omega (arith, less))
  last_result_reads h r from after x d (suc n) place less ends stop =
      got_last d h (λ place. result source (inner source d) d) after_comma n place r from after (x d ends) stop

  pub more_results_reads : (h i : ℕ) (r : ResultTree) (rs : ResultTrees) (from rest after : Rest)
      → length rest < length from → ReadsResult h r from (Lexeme.Punctuation s.Comma ∷ rest)
      → ReadsResults i rs rest after → ReadsResults (max h i) (ResultTrees.Result r rs) from after
  more_results_reads h i r rs from rest after shorter x xs d zero place less ends stop = absurd (omega (arith, less))
  more_results_reads h i r rs from rest after shorter x xs d (suc n) place less ends stop =
      got_more d h i (λ place. result source (inner source d) d) after_comma n place r (results_list rs) from
      (Lexeme.Punctuation s.Comma ∷ rest) rest after (x d (comma_result rest)) refl
      (xs d n (suc place) (omega (arith, less, shorter)) ends stop)

  -- all of them, before a later clause
  pub results_reads : (h : ℕ) (rs : ResultTrees) (from after : Rest) → ReadsResults h rs from after → (d : ℕ)
      → 1 ≤ stage after → Got d h (results source (inner source d) d from) rs after
  unfolding results
  results_reads h rs from after xs d st =
      let g = got_made d h results_of _ (results_list rs) after
      (xs d (suc (length from)) 0 (omega arith) (stage_result after st) (no_comma after st)) in
      record {
        levels = g.levels;
        is = g.is;
        gives = g.gives ∙ ap (λ rs. fits d g.levels (Ok (read rs g.levels after))) (results_of_list rs);
      }

  -- Sources

  abbrev pub ReadsSource : ℕ → SourceTree → Rest → Rest → Type 0
  ReadsSource h t from after =
      (d : ℕ) → alias after ≡ Ok (read None 0 after) → Got d h (a_source source (inner source d) d from) t after

  name_no_open : {n : Name} {from after : Rest} → Names n from after → after_open from ≡ None
  name_no_open Names.name = refl

  pub table_reads : (n : Name) (a : Option Name) (from mid after : Rest) → Names n from mid → Aliases a mid after
      → ReadsSource 0 (SourceTree.Named n a) from after
  table_reads n a from mid after x y d stop =
      got_same d 0 _ _ _ after (ap (source_at source (inner source d) d from) (name_no_open x))
      (got_levels d (max 0 0) 0 _ _ after refl
      (got_made d (max 0 0) (λ (r : Name × Option Name). SourceTree.Named r.0 r.1) _ (n, a) after
      (got_both d 0 0 (a_name from) alias n a mid after (got_flat d _ n mid (name_read x))
      (got_flat d _ a after (alias_read y stop)))))

  pub derived_reads : (h : ℕ) (query : QueryTree) (a : Option Name) (from mid after : Rest)
      → ReadsQuery source h query from (Lexeme.Punctuation s.Close ∷ mid) → Aliases a mid after
      → ReadsSource h (SourceTree.Derived query a) (Lexeme.Punctuation s.Open ∷ from) after
  derived_reads h query a from mid after x y d stop =
      got_levels d (max h 0) h _ _ after (omega arith)
      (got_made d (max h 0) (λ (r : QueryTree × Option Name). SourceTree.Derived r.0 r.1) _ (query, a) after
      (got_both d h 0 _ alias query a mid after
      (got_closed d h after_close _ query (Lexeme.Punctuation s.Close ∷ mid) mid (got_inner d h _ query _ (x d)) refl)
      (got_flat d (alias mid) a after (alias_read y stop))))

  -- what may stand behind a source and its condition
  pub record SourceEnds (after : Rest) : Type 0 where
    pub no_operator : binds after ≡ 0
    pub no_alias : alias after ≡ Ok (read None 0 after)
    pub no_on : after_keyword k.On after ≡ None
    pub no_using : after_keyword k.Using after ≡ None

  pub stage_source : (after : Rest) → 1 ≤ stage after → SourceEnds after
  stage_source after h = record {
    no_operator = no_operator after h;
    no_alias = no_alias after h;
    no_on = no_on after h;
    no_using = no_using after h;
  }

  pub join_source : {join : Join} {wants : Wants} {from after : Rest} → Joins join wants from after → SourceEnds from
  join_source Joins.comma = record { no_operator = refl; no_alias = refl; no_on = refl; no_using = refl }
  join_source Joins.cross = record { no_operator = refl; no_alias = refl; no_on = refl; no_using = refl }
  join_source Joins.join = record { no_operator = refl; no_alias = refl; no_on = refl; no_using = refl }
  join_source Joins.inner = record { no_operator = refl; no_alias = refl; no_on = refl; no_using = refl }
  join_source (Joins.left x) = record { no_operator = refl; no_alias = refl; no_on = refl; no_using = refl }
  join_source (Joins.right x) = record { no_operator = refl; no_alias = refl; no_on = refl; no_using = refl }
  join_source (Joins.full x) = record { no_operator = refl; no_alias = refl; no_on = refl; no_using = refl }

  abbrev pub ReadsOn : Wants → ℕ → OnTree → Rest → Rest → Type 0
  ReadsOn wants h t from after =
      (d : ℕ) → SourceEnds after
      → Got d h (on source (inner source d) d wants from) t after × (alias from ≡ Ok (read None 0 from))

  absent_is : (d : ℕ) (wants : Wants) (ts : Rest) → may_lack wants ≡ true
      → absent_on source (inner source d) d wants ts ≡ Ok (read OnTree.Always 0 ts)
  absent_is d wants ts lack = cond-true _ _ _ lack

  pub always_reads : (wants : Wants) (after : Rest) → may_lack wants ≡ true → ReadsOn wants 0 OnTree.Always after after
  always_reads Wants.Never after lack d ends =
      (got_flat d _ OnTree.Always after (absent_is d Wants.Never after lack), ends.no_alias)
  always_reads Wants.Maybe after lack d ends = (
    got_flat d _ OnTree.Always after
        (ap (on_at source (inner source d) d Wants.Maybe after) ends.no_on
        ∙ (ap (using_at source (inner source d) d Wants.Maybe after) ends.no_using
        ∙ absent_is d Wants.Maybe after lack)),
    ends.no_alias,
  )
  always_reads Wants.Always after lack d ends = absurd cc

  pub on_reads : (wants : Wants) (h : ℕ) (e : ExprTree) (from after : Rest) → may_have wants ≡ true
      → Reads source 1 h e from after → ReadsOn wants h (OnTree.On e) (Lexeme.Reserved k.On ∷ from) after
  on_reads wants h e from after have x d ends = (
    got_same d h _ _ (OnTree.On e) after (cond-true _ _ _ have)
        (got_made d h (λ e. OnTree.On e) _ e after
        (got_inner d h _ e after (reads_one source h e from after x d ends.no_operator))),
    refl,
  )

  pub using_reads : (wants : Wants) (ns : List Name) (from after : Rest) → may_have wants ≡ true
      → Listed Names ns from (Lexeme.Punctuation s.Close ∷ after)
      → ReadsOn wants 0 (OnTree.Using ns) (Lexeme.Reserved k.Using ∷ Lexeme.Punctuation s.Open ∷ from) after
  using_reads wants ns from after have x d ends = (
    got_flat d _ (OnTree.Using ns) after
        (cond-true _ _ _ have
        ∙ ap (λ r. made (λ names. OnTree.Using names) (closed after_close r)) (names_read x refl)),
    refl,
  )

  -- the reader of sources, in at most so many turns
  abbrev pub sources_in : ℕ → ℕ → Rest → Outcome (Read FromTree)
  sources_in d fuel ts =
      made (λ source. FromTree.First source) (a_source source (inner source d) d ts)
      >>= sources_from source (inner source d) d fuel

  -- from these sources the reader goes on in n turns
  pub record GoesFrom (d n h : ℕ) (whole : Outcome (Read FromTree)) (t : FromTree) (mid : Rest) : Type 0 where
    pub levels : ℕ
    pub is : max 1 levels ≡ suc h
    pub gives : whole ≡ fits d levels (sources_from source (inner source d) d n (read t levels mid))

  -- Sources are read in so many turns, and any number may be left.
  pub record ReadsSources (h : ℕ) (t : FromTree) (start mid : Rest) : Type 0 where
    pub turns : ℕ
    pub few : turns + length mid < length start
    pub reads : (d fuel n : ℕ) → fuel ≡ turns + n → SourceEnds mid → GoesFrom d n h (sources_in d fuel start) t mid

  pub first_reads : (h : ℕ) (x : SourceTree) (start mid : Rest) → length mid < length start → ReadsSource h x start mid
      → ReadsSources h (FromTree.First x) start mid
  first_reads h x start mid shorter r = record {
    turns = 0;
    few = omega (arith, shorter);
    reads = λ d fuel n is ends.
        let g = got_made d h (λ source. FromTree.First source) _ x mid (r d ends.no_alias) in
        let e : fuel ≡ n = omega (arith, is) in
        record {
          levels = g.levels;
          is = g.is;
          gives = ap (λ r. r >>= sources_from source (inner source d) d fuel) g.gives
              ∙ (fits_bind d g.levels (read (FromTree.First x) g.levels mid) (sources_from source (inner source d) d fuel)
              ∙ ap (λ n. fits d g.levels (sources_from source (inner source d) d n (read (FromTree.First x) g.levels mid))) e);
        };
  }

  -- a source more
  one_more : (d n m i j : ℕ) (f : FromTree) (join : Join) (wants : Wants) (x : SourceTree) (on_tree : OnTree)
      (mid right rest after : Rest) → join_at mid ≡ Some (record { join = join; wants = wants; rest = right })
      → Got d i (a_source source (inner source d) d right) x rest
      → Got d j (on source (inner source d) d wants rest) on_tree after
      → (m2 : ℕ) × (max 1 m2 ≡ suc (max i j))
      × (sources_from source (inner source d) d (suc n) (read f m mid)
      ≡ fits d m2 (sources_from source (inner source d) d n (read (FromTree.Joined f join x on_tree) (max m m2) after)))
  unfolding sources_from
  one_more d n m i j f join wants x on_tree mid right rest after is gx go =
      let g = got_both d i j _ (on source (inner source d) d wants) x on_tree rest after gx go in (
        g.levels,
        g.is,
        ap (next_source source (inner source d) d (sources_from source (inner source d) d n) (read f m mid)) is
            ∙ (ap (λ r. r >>= sources_from source (inner source d) d n)
            (step_last d g.levels (both (a_source source (inner source d) d right) (on source (inner source d) d wants))
            (read (x, on_tree) g.levels after)
            (λ y. Ok (read (FromTree.Joined f join y.tree.0 y.tree.1) (max m y.levels) y.rest))
            (read (FromTree.Joined f join x on_tree) (max m g.levels) after) g.gives refl)
            ∙ fits_bind d g.levels (read (FromTree.Joined f join x on_tree) (max m g.levels) after)
            (sources_from source (inner source d) d n)),
      )

  pub joined_reads : (h i j : ℕ) (f : FromTree) (join : Join) (wants : Wants) (x : SourceTree) (on_tree : OnTree)
      (start mid right rest after : Rest) → length after < length mid → Joins join wants mid right
      → ReadsSources h f start mid → ReadsSource i x right rest → ReadsOn wants j on_tree rest after
      → ReadsSources (max h (max i j)) (FromTree.Joined f join x on_tree) start after
  joined_reads h i j f join wants x on_tree start mid right rest after shorter words fs xs os = record {
    turns = suc fs.turns;
    few = omega (arith, fs.few, shorter);
    reads = λ d fuel n is ends.
        let g = fs.reads d fuel (suc n) (omega (arith, is)) (join_source words) in
        let o = os d ends in
        let r = one_more d n g.levels i j f join wants x on_tree mid right rest after (join_read words) (xs d o.1) o.0 in
        record {
          levels = max g.levels r.0;
          is = omega (arith, g.is, r.1);
          gives = g.gives ∙ (ap (fits d g.levels) r.2 ∙ fits_both d g.levels r.0 _);
        };
  }

  sources_stop : (d n : ℕ) (x : Read FromTree) → join_at x.rest ≡ None → sources_from source (inner source d) d n x ≡ Ok x
  unfolding sources_from
  sources_stop d zero x e = ap (next_source source (inner source d) d (λ y. Err Refusal.Syntax) x) e
  sources_stop d (suc n) x e = ap (next_source source (inner source d) d (sources_from source (inner source d) d n) x) e

  abbrev pub ReadsFrom : ℕ → FromTree → Rest → Rest → Type 0
  ReadsFrom h f ts after = (d : ℕ) → 2 ≤ stage after → Got d h (from source (inner source d) d ts) f after

  pub no_sources_reads : (after : Rest) → ReadsFrom 0 FromTree.No_source after after
  no_sources_reads after d st =
      got_absent d FromTree.No_source (sources source (inner source d) d) after _ (no_from after st)

  pub sources_reads : (h : ℕ) (f : FromTree) (ts after : Rest) → ReadsSources h f ts after
      → ReadsFrom h f (Lexeme.Reserved k.From ∷ ts) after
  sources_reads h f ts after fs d st =
      let g = fs.reads d (length ts) (length ts - fs.turns) (omega (arith, fs.few)) (stage_source after (omega (arith, st))) in
      record {
        levels = g.levels;
        is = g.is;
        gives = g.gives
            ∙ ap (fits d g.levels)
            (sources_stop d (length ts - fs.turns) (read f g.levels after) (no_join after (omega (arith, st))));
      }

  -- The other clauses

  abbrev pub ReadsCondition : ℕ → MaybeExpr → Rest → Rest → Type 0
  ReadsCondition h e ts after = (d : ℕ) → 3 ≤ stage after → Got d h (condition source (inner source d) d ts) e after

  pub no_condition_reads : (after : Rest) → ReadsCondition 0 MaybeExpr.Absent after after
  no_condition_reads after d st =
      got_absent d MaybeExpr.Absent (present source (inner source d) d) after _ (no_where after st)

  pub condition_reads : (h : ℕ) (e : ExprTree) (ts after : Rest) → Reads source 1 h e ts after
      → ReadsCondition h (MaybeExpr.Present e) (Lexeme.Reserved k.Where ∷ ts) after
  condition_reads h e ts after x d st = reads_present source h e ts after x d (no_operator after (omega (arith, st)))

  abbrev pub ReadsHaving : ℕ → MaybeExpr → Rest → Rest → Type 0
  ReadsHaving h e ts after = (d : ℕ) → 5 ≤ stage after → Got d h (having source (inner source d) d ts) e after

  pub no_having_reads : (after : Rest) → ReadsHaving 0 MaybeExpr.Absent after after
  no_having_reads after d st =
      got_absent d MaybeExpr.Absent (present source (inner source d) d) after _ (no_having after st)

  pub having_reads : (h : ℕ) (e : ExprTree) (ts after : Rest) → Reads source 1 h e ts after
      → ReadsHaving h (MaybeExpr.Present e) (Lexeme.Reserved k.Having ∷ ts) after
  having_reads h e ts after x d st = reads_present source h e ts after x d (no_operator after (omega (arith, st)))

  abbrev pub ReadsGroups : ℕ → ExprTrees → MaybeExpr → Rest → Rest → Type 0
  ReadsGroups h es e ts after = (d : ℕ) → 5 ≤ stage after → Got d h (groups source (inner source d) d ts) (es, e) after

  pub no_groups_reads : (after : Rest) → ReadsGroups 0 ExprTrees.No_more MaybeExpr.Absent after after
  no_groups_reads after d st =
      got_absent d (ExprTrees.No_more, MaybeExpr.Absent)
      (λ rest. both (some source (inner source d) d rest) (having source (inner source d) d)) after _
      (no_group_by after (omega (arith, st)))

  pub groups_reads : (h i : ℕ) (es : ExprTrees) (e : MaybeExpr) (ts mid after : Rest) → 1 ≤ stage mid
      → ReadsAll source nowhere 0 h es ts mid → ReadsHaving i e mid after
      → ReadsGroups (max h i) es e (Lexeme.Reserved k.Group ∷ Lexeme.Reserved k.By ∷ ts) after
  groups_reads h i es e ts mid after begins xs y d st =
      got_both d h i _ (having source (inner source d) d) es e mid after
      (got_inner d h _ es mid (reads_some source h es ts mid xs d (stage_ends mid begins))) (y d st)

  abbrev pub ReadsDefinitions : ℕ → DefinitionTrees → Rest → Rest → Type 0
  ReadsDefinitions h ws ts after =
      (d n place : ℕ) → length ts < n → after_comma after ≡ None
      → Got d h (series (λ place. definition source (inner source d) d) after_comma n place ts) (definitions_list ws) after

  definition_reads : (h : ℕ) (q : Quoting) (n : Name) (w : WindowTree) (ts after : Rest) → ReadsWindow h w ts after → (d : ℕ)
      → Got d h (definition source (inner source d) d (Lexeme.Name q n ∷ Lexeme.Reserved k.As ∷ ts)) (n, w) after
  definition_reads h q n w ts after x d =
      got_levels d (max 0 h) h _ _ after (omega arith)
      (got_both d 0 h _ (window source (inner source d) d) n w ts after
      (got_flat d _ n ts refl) (x d))

  pub last_window_reads : (h : ℕ) (q : Quoting) (n : Name) (w : WindowTree) (ts after : Rest) → ReadsWindow h w ts after
      → ReadsDefinitions h (DefinitionTrees.Definition n w DefinitionTrees.No_definition)
      (Lexeme.Name q n ∷ Lexeme.Reserved k.As ∷ ts) after
  last_window_reads h q n w ts after x d zero place less stop = absurd (omega (arith, less))
  last_window_reads h q n w ts after x d (suc m) place less stop =
      got_last d h (λ place. definition source (inner source d) d) after_comma m place (n, w) _ after
      (definition_reads h q n w ts after x d) stop

  pub more_windows_reads : (h i : ℕ) (q : Quoting) (n : Name) (w : WindowTree) (ws : DefinitionTrees) (ts rest after : Rest)
      → length rest < length ts → ReadsWindow h w ts (Lexeme.Punctuation s.Comma ∷ rest) → ReadsDefinitions i ws rest after
      → ReadsDefinitions (max h i) (DefinitionTrees.Definition n w ws) (Lexeme.Name q n ∷ Lexeme.Reserved k.As ∷ ts) after
  more_windows_reads h i q n w ws ts rest after shorter x xs d zero place less stop = absurd (omega (arith, less))
  more_windows_reads h i q n w ws ts rest after shorter x xs d (suc m) place less stop =
      got_more d h i (λ place. definition source (inner source d) d) after_comma m place (n, w) (definitions_list ws) _
      (Lexeme.Punctuation s.Comma ∷ rest) rest after
      (definition_reads h q n w ts (Lexeme.Punctuation s.Comma ∷ rest) x d) refl
      (xs d m (suc place) (omega (arith, less, shorter)) stop)

  abbrev pub ReadsWindows : ℕ → DefinitionTrees → Rest → Rest → Type 0
  ReadsWindows h ws ts after = (d : ℕ) → 6 ≤ stage after → Got d h (windows source (inner source d) d ts) ws after

  pub no_windows_reads : (after : Rest) → ReadsWindows 0 DefinitionTrees.No_definition after after
  no_windows_reads after d st =
      got_absent d DefinitionTrees.No_definition (definitions source (inner source d) d) after _ (no_window after st)

  pub windows_reads : (h : ℕ) (ws : DefinitionTrees) (ts after : Rest) → ReadsDefinitions h ws ts after
      → ReadsWindows h ws (Lexeme.Reserved k.Window ∷ ts) after
  windows_reads h ws ts after xs d st =
      let g = got_made d h definitions_of _ (definitions_list ws) after
      (xs d (suc (length ts)) 0 (omega arith) (no_comma after (omega (arith, st)))) in
      record {
        levels = g.levels;
        is = g.is;
        gives = g.gives ∙ ap (λ ws. fits d g.levels (Ok (read ws g.levels after))) (definitions_of_list ws);
      }

  -- SELECTs

  pub quantified : {b : Bool} {ts items : Rest} → Quantifies b ts items → quantifier items ≡ (false, items)
      → quantifier ts ≡ (b, items)
  quantified Quantifies.plain h = h
  quantified Quantifies.all h = refl
  quantified Quantifies.distinct h = refl

  abbrev pub ReadsSelect : ℕ → CoreTree → Rest → Rest → Type 0
  ReadsSelect h c ts after = (d : ℕ) → 6 ≤ stage after → Comes d h (core source (inner source d) d ts) c after

  pub select_reads : (h i j l m : ℕ) (distinct : Bool) (rs : ResultTrees) (f : FromTree) (e g : MaybeExpr) (es : ExprTrees)
      (ws : DefinitionTrees) (ts items joined tested grouped named after : Rest) → Quantifies distinct ts items
      → quantifier items ≡ (false, items) → 1 ≤ stage joined → 2 ≤ stage tested → 3 ≤ stage grouped → 5 ≤ stage named
      → ReadsResults h rs items joined → ReadsFrom i f joined tested → ReadsCondition j e tested grouped
      → ReadsGroups l es g grouped named → ReadsWindows m ws named after
      → ReadsSelect (suc (max h (max i (max j (max l m))))) (CoreTree.Select distinct rs f e es g ws)
      (Lexeme.Reserved k.Select ∷ ts) after
  unfolding core
  select_reads h i j l m distinct rs f e g es ws ts items joined tested grouped named after qs plain s1 s2 s3 s5 xs fs cs gs ns d st =
      ap (λ (q : Bool × Rest). counted source (inner source d) d
      (made (selected source (inner source d) d q.0) (parts source (inner source d) d q.1))) (quantified qs plain)
      ∙ comes_counted source (inner source d) d (max h (max i (max j (max l m)))) _ (CoreTree.Select distinct rs f e es g ws) after
      (got_made d (max h (max i (max j (max l m)))) (selected source (inner source d) d distinct) _
      (rs, (f, (e, ((es, g), ws)))) after
      (got_both d h (max i (max j (max l m))) _ _ rs (f, (e, ((es, g), ws))) joined after
      (results_reads h rs items joined xs d s1)
      (got_both d i (max j (max l m)) _ _ f (e, ((es, g), ws)) tested after (fs d s2)
      (got_both d j (max l m) _ _ e ((es, g), ws) grouped after (cs d s3)
      (got_both d l m _ _ (es, g) ws named after (gs d s5) (ns d st))))))

  pub inner_core : (h : ℕ) (c : CoreTree) (ts after : Rest) → ReadsSelect h c ts after → 6 ≤ stage after
      → ReadsCore source h c ts after
  unfolding inner
  inner_core h c ts after x st zero = sym (fits_out 0 (suc h) _ (omega arith))
  inner_core h c ts after x st (suc d) =
      ap (raised source) (x d st) ∙ (fits_bind d h (read c h after) _ ∙ fits_suc d h (Ok (read c (suc h) after)))

  -- From these tokens the reader comes to this query and goes on behind it.
  abbrev pub ReadsQueries : ℕ → QueryTree → Rest → Rest → Type 0
  ReadsQueries h query ts after =
      (d : ℕ) → 6 ≤ stage after
      → query_by source (inner source d) d ts ≡ fits d h (compounds source (inner source d) d d (read query h after))

  pub core_reads : (h : ℕ) (c : CoreTree) (ts after : Rest) → ReadsSelect h c ts after
      → ReadsQueries h (QueryTree.Core c) ts after
  unfolding query_by
  core_reads h c ts after x d st =
      ap (λ r. r >>= compounds source (inner source d) d d) (comes_made d h (λ c. QueryTree.Core c) _ c after (x d st))
      ∙ fits_bind d h (read (QueryTree.Core c) h after) (compounds source (inner source d) d d)

  -- a SELECT behind a query that leaves room for it
  comes_compounded : (d h i : ℕ) (query : QueryTree) (op : CompoundOperator) (c : CoreTree) (mid right after : Rest) → h < d
      → Comes d (suc i) ((inner source d).core right) c after
      → Comes d (suc (max h i)) (compounded source (inner source d) d (read query h mid) (op, right))
      (QueryTree.Compound query op c) after
  comes_compounded d h i query op c mid right after room x =
      cond-true _ _ _ (lt-ltb h d room)
      ∙ (step_last d (suc i) ((inner source d).core right) (read c (suc i) after)
      (λ y. Ok (read (QueryTree.Compound query op y.tree) (max (suc h) y.levels) y.rest))
      (read (QueryTree.Compound query op c) (max (suc h) (suc i)) after) x refl
      ∙ fits_same d (suc i) (suc (max h i)) _ _ (λ k. omega (arith, room, k)) (λ k. omega (arith, k))
      (λ k. ap (λ n. Ok (read (QueryTree.Compound query op c) n after)) (omega arith)))

  pub compound_reads : (h i : ℕ) (query : QueryTree) (op : CompoundOperator) (c : CoreTree) (ts mid right after : Rest)
      → compound mid ≡ Some (op, right) → 6 ≤ stage mid → ReadsQueries h query ts mid → ReadsSelect i c right after
      → ReadsQueries (suc (max h i)) (QueryTree.Compound query op c) ts after
  compound_reads h i query op c ts mid right after is st x y d last =
      x d st
      ∙ elim (cases_lt d h) [
        | inl k ↦ fits_out d h _ k ∙ sym (fits_out d (suc (max h i)) _ (omega (arith, k)))
        | inr k ↦
            fits_in d h _ k
            ∙ (compounds_step source (inner source d) d d (read query h mid) (op, right) (omega arith) is
            ∙ elim (cases_lt h d) [
              | inl room ↦
                  ap (λ r. r >>= compounds source (inner source d) d d)
                  (comes_compounded d h i query op c mid right after room (inner_core i c right after y last d))
                  ∙ fits_bind d (suc (max h i)) (read (QueryTree.Compound query op c) (suc (max h i)) after)
                  (compounds source (inner source d) d d)
              | inr full ↦
                  ap (λ r. r >>= compounds source (inner source d) d d)
                  (compounded_full source (inner source d) d (read query h mid) (op, right) full)
                  ∙ sym (fits_out d (suc (max h i)) _ (omega (arith, full)))
            ])
      ]

  -- a query that no other SELECT goes on
  pub query_reads : (h : ℕ) (query : QueryTree) (ts after : Rest) → ReadsQueries h query ts after → 7 ≤ stage after
      → (d : ℕ) → Comes d h (query_by source (inner source d) d ts) query after
  query_reads h query ts after x st d =
      x d (omega (arith, st))
      ∙ ap (fits d h) (compounds_stops source (inner source d) d d (read query h after) (no_compound after st))

  pub inner_query : (h : ℕ) (query : QueryTree) (ts after : Rest) → ReadsQueries h query ts after → 7 ≤ stage after
      → ReadsQuery source h query ts after
  unfolding inner
  inner_query h query ts after x st zero = sym (fits_out 0 (suc h) _ (omega arith))
  inner_query h query ts after x st (suc d) =
      ap (raised source) (query_reads h query ts after x st d)
      ∙ (fits_bind d h (read query h after) _ ∙ fits_suc d h (Ok (read query (suc h) after)))
