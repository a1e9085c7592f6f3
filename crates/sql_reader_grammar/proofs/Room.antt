-- How many tokens a phrase has: more than levels.
use Rattle.std.proofs.Common.{Bool, ℕ, ◌+◌, ◌<◌, ◌≤◌, List, length, Option, arith}
use Rattle.sql_reader_tokens.specs.declared.keywords.keyword.Keyword.{Keyword}
use Rattle.sql_reader_grammar.specs.phrases.Lists.{AfterComma, Listed, Many}
use Rattle.sql_reader_grammar.specs.phrases.Steps.{Rest}
use Rattle.sql_reader_syntax.specs.ExprTree.{
  ArmTrees,
  BehindTree,
  CoreTree,
  DefinitionTrees,
  ExprTree,
  ExprTrees,
  FromTree,
  MaybeExpr,
  NameTree,
  OnTree,
  OverTree,
  QueryTree,
  ResultTree,
  ResultTrees,
  SourceTree,
  TermTrees,
  WindowTree,
}
use Rattle.sql_reader_syntax.specs.Tree.{Name}
use Rattle.sql_reader_syntax.specs.declared.expr.BinaryOperator.{BinaryOperator}
use Rattle.sql_reader_syntax.specs.declared.query.CompoundOperator.{CompoundOperator}
use Rattle.sql_reader_syntax.specs.declared.query.Direction.{Direction}
use Rattle.sql_reader_syntax.specs.declared.query.Edge.{Edge}
use Rattle.sql_reader_syntax.specs.declared.query.Exclusion.{Exclusion}
use Rattle.sql_reader_syntax.specs.declared.query.Frame.{Frame}
use Rattle.sql_reader_syntax.specs.declared.query.FrameUnit.{FrameUnit}
use Rattle.sql_reader_syntax.specs.declared.query.Join.{Join}
use Rattle.sql_reader_grammar.specs.Clauses.{Aliases, Compounds, Directs, Edges, Excludes, Frames, Joins, Names, Outer, PlacesNulls, Quantifies, Spans, Titles, Turns, Units, Wants}
use Rattle.sql_reader_grammar.specs.Operators.{MaybeNot, Stands}
use Rattle.sql_reader_grammar.specs.Queries.{
  Defines,
  DefinesAll,
  Expresses,
  ExpressesAll,
  ExpressesArms,
  ExpressesElse,
  ExpressesItem,
  ExpressesOperand,
  Filters,
  Froms,
  Groups,
  Havings,
  IsResult,
  IsSource,
  Ons,
  Orders,
  Overs,
  Partitions,
  Queries,
  Results,
  Selects,
  Sources,
  StandsBehind,
  Terms,
  Wheres,
  Windows,
}

stands_room : {op : BinaryOperator} {from after : Rest} → Stands op from after → length after < length from
stands_room Stands.or = omega arith
stands_room Stands.is_not = omega arith
stands_room Stands.not_like = omega arith
stands_room _ = omega arith

not_room : {word : Keyword} {n : Bool} {from after : Rest} → MaybeNot word n from after → length after < length from
not_room MaybeNot.plain = omega arith
not_room MaybeNot.negated = omega arith

pub names_room : {n : Name} {from after : Rest} → Names n from after → length after < length from
names_room Names.name = omega arith

many_room : {ns : List Name} {from after : Rest} → Many (AfterComma Names) ns from after → length after ≤ length from
many_room Many.none = omega arith
many_room (Many.more (AfterComma.comma x) xs) = omega (arith, names_room x, many_room xs)

pub listed_room : {ns : List Name} {from after : Rest} → Listed Names ns from after → length after < length from
listed_room (Listed.listed x xs) = omega (arith, names_room x, many_room xs)

titles_room : {text : List ℕ} {t : NameTree} {from after : Rest} → Titles text t from after → length after ≤ length from
titles_room Titles.untitled = omega arith
titles_room Titles.alias = omega arith
titles_room Titles.as_alias = omega arith

aliases_room : {a : Option Name} {from after : Rest} → Aliases a from after → length after ≤ length from
aliases_room Aliases.no_alias = omega arith
aliases_room Aliases.alias = omega arith
aliases_room Aliases.as_alias = omega arith

quantifies_room : {b : Bool} {from after : Rest} → Quantifies b from after → length after ≤ length from
quantifies_room Quantifies.plain = omega arith
quantifies_room Quantifies.all = omega arith
quantifies_room Quantifies.distinct = omega arith

pub compounds_room : {op : CompoundOperator} {from after : Rest} → Compounds op from after → length after < length from
compounds_room Compounds.union = omega arith
compounds_room Compounds.union_all = omega arith
compounds_room Compounds.intersect = omega arith
compounds_room Compounds.except = omega arith

outer_room : {from after : Rest} → Outer from after → length after < length from
outer_room Outer.join = omega arith
outer_room Outer.outer = omega arith

pub joins_room : {join : Join} {wants : Wants} {from after : Rest} → Joins join wants from after → length after < length from
joins_room Joins.comma = omega arith
joins_room Joins.cross = omega arith
joins_room Joins.join = omega arith
joins_room Joins.inner = omega arith
joins_room (Joins.left x) = omega (arith, outer_room x)
joins_room (Joins.right x) = omega (arith, outer_room x)
joins_room (Joins.full x) = omega (arith, outer_room x)

turns_room : {b : Bool} {from after : Rest} → Turns b from after → length after ≤ length from
turns_room Turns.plain = omega arith
turns_room Turns.ascending = omega arith
turns_room Turns.descending = omega arith

nulls_room : {b c : Bool} {from after : Rest} → PlacesNulls b c from after → length after ≤ length from
nulls_room PlacesNulls.ascending = omega arith
nulls_room PlacesNulls.descending = omega arith
nulls_room PlacesNulls.first = omega arith
nulls_room PlacesNulls.last = omega arith

pub directs_room : {dir : Direction} {from after : Rest} → Directs dir from after → length after ≤ length from
directs_room (Directs.directs x y) = omega (arith, turns_room x, nulls_room y)

units_room : {u : FrameUnit} {from after : Rest} → Units u from after → length after < length from
units_room Units.rows = omega arith
units_room Units.range = omega arith
units_room Units.groups = omega arith

edges_room : {x : Edge} {from after : Rest} → Edges x from after → length after < length from
edges_room Edges.unbounded_preceding = omega arith
edges_room Edges.preceding = omega arith
edges_room Edges.current_row = omega arith
edges_room Edges.following = omega arith
edges_room Edges.unbounded_following = omega arith

spans_room : {x y : Edge} {from after : Rest} → Spans x y from after → length after < length from
spans_room (Spans.alone x) = edges_room x
spans_room (Spans.between x y) = omega (arith, edges_room x, edges_room y)

excludes_room : {x : Exclusion} {from after : Rest} → Excludes x from after → length after ≤ length from
excludes_room Excludes.nothing = omega arith
excludes_room Excludes.no_others = omega arith
excludes_room Excludes.current_row = omega arith
excludes_room Excludes.group = omega arith
excludes_room Excludes.ties = omega arith

frames_room : {f : Option Frame} {from after : Rest} → Frames f from after → length after ≤ length from
frames_room Frames.no_frame = omega arith
frames_room (Frames.frame x y z) = omega (arith, units_room x, spans_room y, excludes_room z)

module _ (source : ℕ → ℕ → List ℕ) where
  mutual
    pub room : {q h : ℕ} {e : ExprTree} {from after : Rest} → Expresses source q h e from after
        → h + length after < length from
    room (Expresses.tighter x) = room x
    room (Expresses.binary x j y) = omega (arith, room x, stands_room j, room y)
    room (Expresses.between x n y z) = omega (arith, room x, not_room n, room y, room z)
    room (Expresses.in_none x n) = omega (arith, room x, not_room n)
    room (Expresses.in_list x n xs) = omega (arith, room x, not_room n, room_all xs)
    room (Expresses.in_query x n y) = omega (arith, room x, not_room n, room_query y)
    room (Expresses.postfix x w) = omega (arith, room x)
    room (Expresses.prefix w x) = omega (arith, room x)
    room (Expresses.literal w) = omega arith
    room Expresses.column = omega arith
    room Expresses.column_of = omega arith
    room (Expresses.parentheses x) = omega (arith, room x)
    room (Expresses.exists x) = omega (arith, room_query x)
    room (Expresses.count_rows f b) = omega (arith, room_behind b)
    room (Expresses.call_none f t b) = omega (arith, room_behind b)
    room (Expresses.call f xs t b) = omega (arith, room_all xs, room_behind b)
    room (Expresses.choice x xs y) = omega (arith, room_operand x, room_arms xs, room_else y)

    pub room_all : {numbers : ℕ → Bool} {place h : ℕ} {es : ExprTrees} {from after : Rest}
        → ExpressesAll source numbers place h es from after → h + length after < length from
    room_all (ExpressesAll.last x) = room_item x
    room_all (ExpressesAll.more x xs) = omega (arith, room_item x, room_all xs)

    pub room_item : {b : Bool} {h : ℕ} {e : ExprTree} {from after : Rest} → ExpressesItem source b h e from after
        → h + length after < length from
    room_item (ExpressesItem.expression x) = room x
    room_item ExpressesItem.number = omega arith

    pub room_operand : {h : ℕ} {e : MaybeExpr} {from after : Rest} → ExpressesOperand source h e from after
        → h + length after ≤ length from
    room_operand ExpressesOperand.no_operand = omega arith
    room_operand (ExpressesOperand.operand x) = omega (arith, room x)

    pub room_arms : {h : ℕ} {es : ArmTrees} {from after : Rest} → ExpressesArms source h es from after
        → h + length after < length from
    room_arms (ExpressesArms.last_arm x y) = omega (arith, room x, room y)
    room_arms (ExpressesArms.more_arms x y xs) = omega (arith, room x, room y, room_arms xs)

    pub room_else : {h : ℕ} {e : MaybeExpr} {from after : Rest} → ExpressesElse source h e from after
        → h + length after < length from
    room_else ExpressesElse.no_else = omega arith
    room_else (ExpressesElse.otherwise x) = omega (arith, room x)

    pub room_behind : {h : ℕ} {b : BehindTree} {from after : Rest} → StandsBehind source h b from after
        → h + length after ≤ length from
    room_behind (StandsBehind.behind x y) = omega (arith, room_filter x, room_over y)

    pub room_filter : {h : ℕ} {e : MaybeExpr} {from after : Rest} → Filters source h e from after
        → h + length after ≤ length from
    room_filter Filters.no_filter = omega arith
    room_filter (Filters.filter x) = omega (arith, room x)

    pub room_over : {h : ℕ} {o : OverTree} {from after : Rest} → Overs source h o from after
        → h + length after ≤ length from
    room_over Overs.no_over = omega arith
    room_over Overs.over_name = omega arith
    room_over (Overs.over x) = omega (arith, room_window x)

    pub room_window : {h : ℕ} {w : WindowTree} {from after : Rest} → Windows source h w from after
        → h + length after < length from
    room_window (Windows.window x y z) = omega (arith, room_partition x, room_order y, frames_room z)

    pub room_partition : {h : ℕ} {es : ExprTrees} {from after : Rest} → Partitions source h es from after
        → h + length after ≤ length from
    room_partition Partitions.no_partition = omega arith
    room_partition (Partitions.partition x) = omega (arith, room_all x)

    pub room_order : {h : ℕ} {ts : TermTrees} {from after : Rest} → Orders source h ts from after
        → h + length after ≤ length from
    room_order Orders.no_order = omega arith
    room_order (Orders.order x) = omega (arith, room_terms x)

    pub room_terms : {h : ℕ} {ts : TermTrees} {from after : Rest} → Terms source h ts from after
        → h + length after < length from
    room_terms (Terms.last_term x d) = omega (arith, room x, directs_room d)
    room_terms (Terms.more_terms x d xs) = omega (arith, room x, directs_room d, room_terms xs)

    pub room_query : {h : ℕ} {query : QueryTree} {from after : Rest} → Queries source h query from after
        → h + length after < length from
    room_query (Queries.core x) = room_select x
    room_query (Queries.compound x op y) = omega (arith, room_query x, compounds_room op, room_select y)

    pub room_select : {h : ℕ} {c : CoreTree} {from after : Rest} → Selects source h c from after
        → h + length after < length from
    room_select (Selects.select q rs f w g ws) =
        omega (arith, quantifies_room q, room_results rs, room_from f, room_where w, room_groups g, room_defines ws)

    pub room_results : {h : ℕ} {rs : ResultTrees} {from after : Rest} → Results source h rs from after
        → h + length after < length from
    room_results (Results.last_result x) = room_result x
    room_results (Results.more_results x xs) = omega (arith, room_result x, room_results xs)

    pub room_result : {h : ℕ} {r : ResultTree} {from after : Rest} → IsResult source h r from after
        → h + length after < length from
    room_result IsResult.all = omega arith
    room_result IsResult.all_of = omega arith
    room_result (IsResult.value x t) = omega (arith, room x, titles_room t)

    pub room_from : {h : ℕ} {f : FromTree} {from after : Rest} → Froms source h f from after
        → h + length after ≤ length from
    room_from Froms.no_sources = omega arith
    room_from (Froms.sources x) = omega (arith, room_sources x)

    pub room_sources : {h : ℕ} {f : FromTree} {from after : Rest} → Sources source h f from after
        → h + length after < length from
    room_sources (Sources.first x) = room_source x
    room_sources (Sources.joined x j y z) = omega (arith, room_sources x, joins_room j, room_source y, room_on z)

    pub room_source : {h : ℕ} {x : SourceTree} {from after : Rest} → IsSource source h x from after
        → h + length after < length from
    room_source (IsSource.table x a) = omega (arith, names_room x, aliases_room a)
    room_source (IsSource.derived x a) = omega (arith, room_query x, aliases_room a)

    pub room_on : {wants : Wants} {h : ℕ} {x : OnTree} {from after : Rest} → Ons source wants h x from after
        → h + length after ≤ length from
    room_on (Ons.always l) = omega arith
    room_on (Ons.on m x) = omega (arith, room x)
    room_on (Ons.using m xs) = omega (arith, listed_room xs)

    pub room_where : {h : ℕ} {e : MaybeExpr} {from after : Rest} → Wheres source h e from after
        → h + length after ≤ length from
    room_where Wheres.no_condition = omega arith
    room_where (Wheres.condition x) = omega (arith, room x)

    pub room_groups : {h : ℕ} {es : ExprTrees} {e : MaybeExpr} {from after : Rest} → Groups source h es e from after
        → h + length after ≤ length from
    room_groups Groups.no_groups = omega arith
    room_groups (Groups.groups xs x) = omega (arith, room_all xs, room_having x)

    pub room_having : {h : ℕ} {e : MaybeExpr} {from after : Rest} → Havings source h e from after
        → h + length after ≤ length from
    room_having Havings.no_having = omega arith
    room_having (Havings.having x) = omega (arith, room x)

    pub room_defines : {h : ℕ} {ws : DefinitionTrees} {from after : Rest} → Defines source h ws from after
        → h + length after ≤ length from
    room_defines Defines.no_windows = omega arith
    room_defines (Defines.windows x) = omega (arith, room_defines_all x)

    pub room_defines_all : {h : ℕ} {ws : DefinitionTrees} {from after : Rest} → DefinesAll source h ws from after
        → h + length after < length from
    room_defines_all (DefinesAll.last_window x) = omega (arith, room_window x)
    room_defines_all (DefinesAll.more_windows x xs) = omega (arith, room_window x, room_defines_all xs)
