-- In a statement that is spelt HAVING stands behind GROUP BY alone, since the grammar has it nowhere else.
use Rattle.std.proofs.Common.{Bool, ℕ, List, [], ◌∷◌, Some, None, subst}
use Rattle.sql_reader_syntax.specs.ExprTree.{
  ArmTrees,
  BehindTree,
  CoreTree,
  DefinitionTrees,
  ExprTree,
  ExprTrees,
  FromTree,
  MaybeExpr,
  OnTree,
  OverTree,
  QueryTree,
  ResultTree,
  ResultTrees,
  SourceTree,
  TermTrees,
  WindowTree,
}
use Rattle.sql_reader_syntax.specs.StatementTree.{ItemTree, StatementTree}
use Rattle.sql_reader_grammar.specs.Clauses.{Tokens, Wants}
use Rattle.sql_reader_grammar.specs.Operators.{IsLiteral}
use Rattle.sql_reader_grammar.specs.Queries.{
  Defines,
  DefinesAll,
  Expresses,
  ExpressesAll,
  ExpressesArms,
  ExpressesElse,
  ExpressesItem,
  ExpressesOperand,
  Filters,
  Froms,
  Groups,
  Havings,
  IsResult,
  IsSource,
  Ons,
  Orders,
  Overs,
  Partitions,
  Queries,
  Results,
  Selects,
  Sources,
  StandsBehind,
  Terms,
  Wheres,
  Windows,
}
use Rattle.sql_reader_grammar.specs.Statements.{IsItem, Items, States, Withs}
use Rattle.semantics_names.specs.Laws.{AmbiguousIsTwo, UnknownIsNone}
use Rattle.semantics_names.specs.Parts.{
  all_parts,
  arms_parts,
  behind_parts,
  definitions_parts,
  from_parts,
  maybe_parts,
  on_parts,
  over_parts,
  parts,
  result_parts,
  results_parts,
  terms_parts,
  window_parts,
}
use Rattle.semantics_refusals.specs.Spelt.{SpeltAmbiguousColumnIsRefused, SpeltHavingHasGroups, SpeltUnknownColumnIsRefused}
use Rattle.semantics_refusals.specs.Written.{IsLooseHaving, IsQueryOf, sources_in}
use Rattle.semantics_refusals.proofs.PartLemmas.{Each, back, first, join, more, none, one}
use Rattle.semantics_refusals.proofs.TightLemmas.{
  AreTight,
  AreTightParts,
  IsTight,
  IsTightSelect,
  SourceIsTight,
  both,
  derived,
  members,
  no_query,
  plain,
  tested,
  tight_compound,
  tight_core,
  tight_query,
}
use Rattle.semantics_refusals.proofs.UnknownColumnLemmas.{ambiguous_column_is_refused, unknown_column_is_refused}

module _ (source : ℕ → ℕ → List ℕ) where
  -- ---- the HAVING of a SELECT

  listed_groups : {numbers : ℕ → Bool} {place h : ℕ} {by : ExprTrees} {from after : Tokens}
      → ExpressesAll source numbers place h by from after
      → (distinct : Bool) (results : ResultTrees) (sources : FromTree) (condition having : MaybeExpr) (windows : DefinitionTrees)
      → ¬ IsLooseHaving (CoreTree.Select distinct results sources condition by having windows)
  listed_groups (ExpressesAll.last x) distinct results sources condition having windows = λ loose. loose
  listed_groups (ExpressesAll.more x xs) distinct results sources condition having windows = λ loose. loose

  having_groups : {h : ℕ} {by : ExprTrees} {having : MaybeExpr} {from after : Tokens} → Groups source h by having from after
      → (distinct : Bool) (results : ResultTrees) (sources : FromTree) (condition : MaybeExpr) (windows : DefinitionTrees)
      → ¬ IsLooseHaving (CoreTree.Select distinct results sources condition by having windows)
  having_groups Groups.no_groups distinct results sources condition windows = λ loose. loose
  having_groups (Groups.groups {having = having} xs x) distinct results sources condition windows =
      listed_groups xs distinct results sources condition having windows

  -- ---- expressions and queries

  mutual
    -- the queries in the parts of an expression
    tight : {q h : ℕ} {e : ExprTree} {from after : Tokens} → Expresses source q h e from after → AreTightParts (parts e)
    tight (Expresses.tighter x) = tight x
    tight (Expresses.binary {x = a} {y = b} {op = op} x j y) = both (both (tight x) (tight y)) (plain (ExprTree.Binary op a b) tt)
    tight (Expresses.between {n = n} {e = e} {x = a} {y = b} x not y z) =
        both (both (both (tight x) (tight y)) (tight z)) (plain (ExprTree.Between n e a b) tt)
    tight (Expresses.in_none {n = n} {e = e} x not) = both (both (tight x) none) (plain (ExprTree.In n e ExprTrees.No_more) tt)
    tight (Expresses.in_list {n = n} {e = e} {es = es} x not xs) =
        both (both (tight x) (tight_all xs)) (plain (ExprTree.In n e es) tt)
    tight (Expresses.in_query {n = n} {e = e} x not y) = both (tight x) (members n e (tight_query (tight_selects y) none))
    tight (Expresses.postfix {op = op} {e = e} x w) = both (tight x) (plain (ExprTree.Postfix op e) tt)
    tight (Expresses.prefix {op = op} {e = e} w x) = both (tight x) (plain (ExprTree.Prefix op e) tt)
    tight (Expresses.literal (IsLiteral.number {n = n})) = plain (ExprTree.Number n) tt
    tight (Expresses.literal (IsLiteral.text {content = content})) = plain (ExprTree.Text content) tt
    tight (Expresses.literal (IsLiteral.blob {bytes = bytes})) = plain (ExprTree.Blob bytes) tt
    tight (Expresses.literal IsLiteral.null) = plain ExprTree.Null tt
    tight (Expresses.column {name = name}) = plain (ExprTree.Column None name) tt
    tight (Expresses.column_of {table = table} {name = name}) = plain (ExprTree.Column (Some table) name) tt
    tight (Expresses.parentheses x) = tight x
    tight (Expresses.exists x) = tested (tight_query (tight_selects x) none)
    tight (Expresses.count_rows {behind = behind} f b) = both (tight_behind b) (plain (ExprTree.CountRows behind) tt)
    tight (Expresses.call_none {function = function} {behind = behind} f t b) =
        both (both none (tight_behind b)) (plain (ExprTree.Call function ExprTrees.No_more behind) tt)
    tight (Expresses.call {function = function} {es = es} {behind = behind} f xs t b) =
        both (both (tight_all xs) (tight_behind b)) (plain (ExprTree.Call function es behind) tt)
    tight (Expresses.choice {base = base} {other = other} {arms = arms} x xs y) =
        both (both (both (tight_operand x) (tight_arms xs)) (tight_else y)) (plain (ExprTree.Case base arms other) tt)

    tight_all : {numbers : ℕ → Bool} {place h : ℕ} {es : ExprTrees} {from after : Tokens}
        → ExpressesAll source numbers place h es from after → AreTightParts (all_parts es)
    tight_all (ExpressesAll.last x) = both (tight_item x) none
    tight_all (ExpressesAll.more x xs) = both (tight_item x) (tight_all xs)

    tight_item : {b : Bool} {h : ℕ} {e : ExprTree} {from after : Tokens} → ExpressesItem source b h e from after
        → AreTightParts (parts e)
    tight_item (ExpressesItem.expression x) = tight x
    tight_item (ExpressesItem.number {n = n}) = plain (ExprTree.Number n) tt

    tight_operand : {h : ℕ} {e : MaybeExpr} {from after : Tokens} → ExpressesOperand source h e from after
        → AreTightParts (maybe_parts e)
    tight_operand ExpressesOperand.no_operand = none
    tight_operand (ExpressesOperand.operand x) = tight x

    tight_arms : {h : ℕ} {arms : ArmTrees} {from after : Tokens} → ExpressesArms source h arms from after
        → AreTightParts (arms_parts arms)
    tight_arms (ExpressesArms.last_arm x y) = both (both (tight x) (tight y)) none
    tight_arms (ExpressesArms.more_arms x y xs) = both (both (tight x) (tight y)) (tight_arms xs)

    tight_else : {h : ℕ} {e : MaybeExpr} {from after : Tokens} → ExpressesElse source h e from after
        → AreTightParts (maybe_parts e)
    tight_else ExpressesElse.no_else = none
    tight_else (ExpressesElse.otherwise x) = tight x

    tight_behind : {h : ℕ} {b : BehindTree} {from after : Tokens} → StandsBehind source h b from after
        → AreTightParts (behind_parts b)
    tight_behind (StandsBehind.behind x y) = both (tight_filter x) (tight_over y)

    tight_filter : {h : ℕ} {e : MaybeExpr} {from after : Tokens} → Filters source h e from after → AreTightParts (maybe_parts e)
    tight_filter Filters.no_filter = none
    tight_filter (Filters.filter x) = tight x

    tight_over : {h : ℕ} {o : OverTree} {from after : Tokens} → Overs source h o from after → AreTightParts (over_parts o)
    tight_over Overs.no_over = none
    tight_over Overs.over_name = none
    tight_over (Overs.over x) = tight_window x

    tight_window : {h : ℕ} {w : WindowTree} {from after : Tokens} → Windows source h w from after → AreTightParts (window_parts w)
    tight_window (Windows.window x y z) = both (tight_partition x) (tight_order y)

    tight_partition : {h : ℕ} {es : ExprTrees} {from after : Tokens} → Partitions source h es from after
        → AreTightParts (all_parts es)
    tight_partition Partitions.no_partition = none
    tight_partition (Partitions.partition x) = tight_all x

    tight_order : {h : ℕ} {terms : TermTrees} {from after : Tokens} → Orders source h terms from after
        → AreTightParts (terms_parts terms)
    tight_order Orders.no_order = none
    tight_order (Orders.order x) = tight_terms x

    tight_terms : {h : ℕ} {terms : TermTrees} {from after : Tokens} → Terms source h terms from after
        → AreTightParts (terms_parts terms)
    tight_terms (Terms.last_term x d) = both (tight x) none
    tight_terms (Terms.more_terms x d xs) = both (tight x) (tight_terms xs)

    -- the SELECTs of a query
    tight_selects : {h : ℕ} {query : QueryTree} {from after : Tokens} → Queries source h query from after → AreTight query
    tight_selects (Queries.core x) = tight_core (tight_select x)
    tight_selects (Queries.compound {op = op} x o y) = tight_compound op (tight_selects x) (tight_select y)

    tight_select : {h : ℕ} {core : CoreTree} {from after : Tokens} → Selects source h core from after → IsTightSelect core
    tight_select (Selects.select {distinct = distinct} {results = results} {sources = sources} {condition = condition}
        {windows = windows} q rs f w g ws) =
        let before = both (both (both (tight_results rs) (tight_joins f)) (tight_where w)) (tight_keys g) in
        let all = both (both before (tight_having g)) (tight_defines ws) in
        record {
          having = having_groups g distinct results sources condition windows;
          sources = tight_sources f;
          parts = λ by terms. both all terms;
        }

    tight_results : {h : ℕ} {rs : ResultTrees} {from after : Tokens} → Results source h rs from after
        → AreTightParts (results_parts rs)
    tight_results (Results.last_result x) = both (tight_result x) none
    tight_results (Results.more_results x xs) = both (tight_result x) (tight_results xs)

    tight_result : {h : ℕ} {r : ResultTree} {from after : Tokens} → IsResult source h r from after
        → AreTightParts (result_parts r)
    tight_result IsResult.all = none
    tight_result IsResult.all_of = none
    tight_result (IsResult.value x t) = tight x

    -- the sources of FROM, and the conditions behind ON
    tight_sources : {h : ℕ} {f : FromTree} {from after : Tokens} → Froms source h f from after → Each SourceIsTight (sources_in f)
    tight_sources Froms.no_sources = none
    tight_sources (Froms.sources x) = tight_joined x

    tight_joined : {h : ℕ} {f : FromTree} {from after : Tokens} → Sources source h f from after
        → Each SourceIsTight (sources_in f)
    tight_joined (Sources.first x) = one (tight_source x)
    tight_joined (Sources.joined {sources = sources} {source = other} x j y z) =
        join (sources_in sources) (other ∷ []) (tight_joined x) (one (tight_source y))

    tight_source : {h : ℕ} {x : SourceTree} {from after : Tokens} → IsSource source h x from after → SourceIsTight x
    tight_source (IsSource.table x a) = no_query
    tight_source (IsSource.derived x a) = derived (tight_query (tight_selects x) none)

    tight_joins : {h : ℕ} {f : FromTree} {from after : Tokens} → Froms source h f from after → AreTightParts (from_parts f)
    tight_joins Froms.no_sources = none
    tight_joins (Froms.sources x) = tight_conditions x

    tight_conditions : {h : ℕ} {f : FromTree} {from after : Tokens} → Sources source h f from after → AreTightParts (from_parts f)
    tight_conditions (Sources.first x) = none
    tight_conditions (Sources.joined x j y z) = both (tight_conditions x) (tight_on z)

    tight_on : {wants : Wants} {h : ℕ} {x : OnTree} {from after : Tokens} → Ons source wants h x from after
        → AreTightParts (on_parts x)
    tight_on (Ons.always l) = none
    tight_on (Ons.on m x) = tight x
    tight_on (Ons.using m xs) = none

    tight_where : {h : ℕ} {e : MaybeExpr} {from after : Tokens} → Wheres source h e from after → AreTightParts (maybe_parts e)
    tight_where Wheres.no_condition = none
    tight_where (Wheres.condition x) = tight x

    -- GROUP BY, and then HAVING
    tight_keys : {h : ℕ} {es : ExprTrees} {e : MaybeExpr} {from after : Tokens} → Groups source h es e from after
        → AreTightParts (all_parts es)
    tight_keys Groups.no_groups = none
    tight_keys (Groups.groups xs x) = tight_all xs

    tight_having : {h : ℕ} {es : ExprTrees} {e : MaybeExpr} {from after : Tokens} → Groups source h es e from after
        → AreTightParts (maybe_parts e)
    tight_having Groups.no_groups = none
    tight_having (Groups.groups xs x) = tight_kept x

    tight_kept : {h : ℕ} {e : MaybeExpr} {from after : Tokens} → Havings source h e from after → AreTightParts (maybe_parts e)
    tight_kept Havings.no_having = none
    tight_kept (Havings.having x) = tight x

    tight_defines : {h : ℕ} {ws : DefinitionTrees} {from after : Tokens} → Defines source h ws from after
        → AreTightParts (definitions_parts ws)
    tight_defines Defines.no_windows = none
    tight_defines (Defines.windows x) = tight_definitions x

    tight_definitions : {h : ℕ} {ws : DefinitionTrees} {from after : Tokens} → DefinesAll source h ws from after
        → AreTightParts (definitions_parts ws)
    tight_definitions (DefinesAll.last_window x) = both (tight_window x) none
    tight_definitions (DefinesAll.more_windows x xs) = both (tight_window x) (tight_definitions xs)

  -- ---- statements

  abbrev ItemIsTight : ItemTree → Type 0
  ItemIsTight i = IsTight i.query TermTrees.No_term

  tight_item_query : {h : ℕ} {i : ItemTree} {from after : Tokens} → IsItem source h i from after → ItemIsTight i
  tight_item_query (IsItem.item x cs y) = tight_query (tight_selects y) none

  tight_items : {h : ℕ} {items : List ItemTree} {from after : Tokens} → Items source h items from after → Each ItemIsTight items
  tight_items (Items.last_item x) = one (tight_item_query x)
  tight_items (Items.more_items {i = i} {items = items} x xs) = more i items (tight_item_query x) (tight_items xs)

  tight_with : {h : ℕ} {items : List ItemTree} {from after : Tokens} → Withs source h items from after → Each ItemIsTight items
  tight_with Withs.no_items = none
  tight_with (Withs.items x) = tight_items x

  tight_statement : {h : ℕ} {tree : StatementTree} {tokens : Tokens} → States source h tree tokens
      → {items : List ItemTree} {query : QueryTree} {order : TermTrees} → IsQueryOf tree items query order → IsTight query order
  tight_statement (States.states x w y o l e) (IsQueryOf.item before i after are) =
      first (back before (i ∷ after) (subst (λ items. Each ItemIsTight items) are (tight_with w)))
  tight_statement (States.states x w y o l e) IsQueryOf.whole = tight_query (tight_selects y) (tight_order o)

pub spelt_having_has_groups : SpeltHavingHasGroups
spelt_having_has_groups source h tree tokens spelt loose =
    let tight : IsTight loose.outer loose.outer_order = tight_statement source spelt loose.of in
    tight.is loose.has loose.is.select loose.is.is

-- ---- refusals

pub spelt_unknown_column_is_refused : UnknownIsNone → SpeltUnknownColumnIsRefused
spelt_unknown_column_is_refused none source h tokens tables tree n spelt has =
    unknown_column_is_refused none tables tree n has (spelt_having_has_groups source h tree tokens spelt)

pub spelt_ambiguous_column_is_refused : AmbiguousIsTwo → SpeltAmbiguousColumnIsRefused
spelt_ambiguous_column_is_refused two source h tokens tables tree n spelt has =
    ambiguous_column_is_refused two tables tree n has (spelt_having_has_groups source h tree tokens spelt)
