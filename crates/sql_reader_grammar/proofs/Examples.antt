-- Worked statements.
use Rattle.std.proofs.Common.{◌≡◌, ℕ, suc, max, [], ◌∷◌, Some, None, Err, codes, refl, arith}
use Rattle.sql_reader_tokens.specs.declared.keywords.keyword.Keyword.TheVariants as k
use Rattle.sql_reader_tokens.specs.declared.sign.Sign.TheVariants as s
use Rattle.sql_reader_grammar.specs.phrases.Lists.{AfterComma, Listed, Many}
use Rattle.sql_reader_grammar.specs.phrases.Outcomes.{Refusal, series}
use Rattle.sql_reader_syntax.specs.ExprTree.{ExprTree, FromTree}
use Rattle.sql_reader_syntax.specs.Functions.{function_of}
use Rattle.sql_reader_syntax.specs.Tree.{Name}
use Rattle.sql_reader_syntax.specs.declared.expr.Function.TheVariants as f
use Rattle.sql_reader_grammar.specs.Clauses.{Aliases, Compounds, Directs, Edges, Ends, Excludes, Frames, Joins, Limits, Names, Outer, PlacesNulls, Quantifies, Spans, Titles, Tokens, Turns, Units}
use Rattle.sql_reader_grammar.specs.Examples.{Examples, a, b, column, keyword, no_source, number, one, sign, simple, t, table, v, whole, word}
use Rattle.sql_reader_grammar.specs.Operators.{IsLiteral}
use Rattle.sql_reader_grammar.specs.Queries.{
  Defines,
  Expresses,
  ExpressesAll,
  ExpressesItem,
  Filters,
  Froms,
  Groups,
  IsResult,
  IsSource,
  Ons,
  Orders,
  Overs,
  Partitions,
  Queries,
  Results,
  Selects,
  Sources,
  StandsBehind,
  Terms,
  Wheres,
  Windows,
}
use Rattle.sql_reader_grammar.specs.Reading.{
  behind,
  choice,
  climb,
  compounds,
  core,
  expr_by,
  extended,
  extended_at,
  inner,
  operand_at,
  query_by,
  results,
  sources_from,
  statement,
  window,
}
use Rattle.sql_reader_grammar.specs.Statements.{Explains, States, Withs}
use Rattle.sql_reader_grammar.proofs.Shape.{loose}
use Rattle.sql_reader_grammar.proofs.StatementLemmas.{nothing_stated}

-- a name alone is an expression
column_is : (name : Name) (after : Tokens) → Expresses no_source 1 0 (column name) (word name ∷ after) after
column_is name after = loose no_source (omega arith) Expresses.column

-- SELECT and one expression, without other clauses
select_one : (h : ℕ) (e : ExprTree) (from after : Tokens) → Expresses no_source 1 h e from after
    → Selects no_source (suc (max h 0)) (simple (one e) FromTree.No_source)
    (keyword k.Select ∷ from) after
select_one h e from after x =
    Selects.select Quantifies.plain (Results.last_result (IsResult.value x Titles.untitled)) Froms.no_sources
    Wheres.no_condition Groups.no_groups Defines.no_windows

-- SELECT a FROM ..
select_from : (h : ℕ) (f : FromTree) (from after : Tokens) → Sources no_source h f from after
    → Selects no_source (suc (max 0 (max h 0)))
    (simple (one (column a)) f) (keyword k.Select ∷ word a ∷ keyword k.From ∷ from) after
select_from h f from after x =
    Selects.select Quantifies.plain
    (Results.last_result (IsResult.value (column_is a (keyword k.From ∷ from)) Titles.untitled)) (Froms.sources x)
    Wheres.no_condition Groups.no_groups Defines.no_windows

table_is : (name : Name) (after : Tokens) → Aliases None after after
    → IsSource no_source 0 (table name) (word name ∷ after) after
table_is name after x = IsSource.table Names.name x

no_condition : statement no_source 7
    (keyword k.Select ∷ word a ∷ keyword k.From ∷ word t ∷ keyword k.Right ∷ keyword k.Join ∷ word v ∷ [])
    ≡ Err Refusal.Syntax
unfolding statement query_by compounds core inner expr_by climb extended extended_at operand_at results sources_from series behind window choice
no_condition = refl

no_limit : statement no_source 4 (keyword k.Select ∷ word a ∷ keyword k.Offset ∷ number 1 ∷ []) ≡ Err Refusal.Syntax
unfolding statement query_by compounds core inner expr_by climb extended extended_at operand_at results sources_from series behind window choice
no_limit = refl

no_order : statement no_source 9
    (keyword k.Select ∷ word a ∷ keyword k.From ∷ word t ∷ keyword k.Group ∷ keyword k.By ∷ word a ∷ keyword k.Where
    ∷ word b ∷ []) ≡ Err Refusal.Syntax
unfolding statement query_by compounds core inner expr_by climb extended extended_at operand_at results sources_from series behind window choice
no_order = refl

no_end : statement no_source 6
    (keyword k.Select ∷ word a ∷ keyword k.From ∷ sign s.Open ∷ keyword k.Select ∷ word b ∷ []) ≡ Err Refusal.Syntax
unfolding statement query_by compounds core inner expr_by climb extended extended_at operand_at results sources_from series behind window choice
no_end = refl

sum_is : function_of (codes "sum") ≡ Some f.Sum
unfolding function_of
sum_is = refl

pub examples : Examples
examples = record {
  compounds = States.states Explains.plain Withs.no_items
      (Queries.compound
      (Queries.compound (Queries.core (select_one 0 (column a) (word a ∷ _) _ (column_is a _))) Compounds.union_all
      (select_one 0 (column b) (word b ∷ _) _ (column_is b _)))
      Compounds.except
      (select_one 0 (whole 1) (number 1 ∷ []) [] (loose no_source (omega arith) (Expresses.literal IsLiteral.number))))
      Orders.no_order Limits.no_limit Ends.nothing;
  joins = States.states Explains.plain Withs.no_items
      (Queries.core (select_from 0 _ _ _
      (Sources.joined (Sources.first (table_is t _ Aliases.no_alias)) (Joins.left Outer.join) (table_is v _ Aliases.no_alias)
      (Ons.using refl (Listed.listed Names.name (Many.more (AfterComma.comma Names.name) Many.none))))))
      Orders.no_order Limits.no_limit Ends.semicolon;
  inner_query = States.states Explains.plain Withs.no_items
      (Queries.core (select_one 2 _ _ [] (loose no_source (omega arith)
      (Expresses.exists (Queries.core (select_from 0 _ _ _ (Sources.first (table_is t _ Aliases.no_alias))))))))
      Orders.no_order Limits.no_limit Ends.nothing;
  window = States.states Explains.plain Withs.no_items
      (Queries.core (select_one 1 _ _ [] (loose no_source (omega arith)
      (Expresses.call sum_is (ExpressesAll.last (ExpressesItem.expression (column_is a _))) refl
      (StandsBehind.behind Filters.no_filter
      (Overs.over (Windows.window Partitions.no_partition
      (Orders.order (Terms.last_term (column_is b _) (Directs.directs Turns.descending PlacesNulls.descending)))
      (Frames.frame Units.rows (Spans.alone Edges.preceding) Excludes.nothing))))))))
      Orders.no_order Limits.no_limit Ends.nothing;
  no_condition = nothing_stated no_source _ no_condition;
  no_limit = nothing_stated no_source _ no_limit;
  no_order = nothing_stated no_source _ no_order;
  no_end = nothing_stated no_source _ no_end;
}
