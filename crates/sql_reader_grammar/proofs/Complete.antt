-- What the grammar says is read, with its levels.
use Rattle.std.proofs.Common.{◌≡◌, Bool, false, ℕ, suc, ◌≤◌, List, ◌∷◌, max, Some, refl, sym, ap, ◌∙◌, arith, subst}
use Rattle.sql_reader_tokens.specs.Lexeme.{Lexeme}
use Rattle.sql_reader_tokens.specs.declared.keywords.keyword.Keyword.TheVariants as k
use Rattle.sql_reader_tokens.specs.declared.sign.Sign.TheVariants as s
use Rattle.sql_reader_grammar.specs.phrases.Steps.{Rest}
use Rattle.sql_reader_syntax.specs.ExprTree.{
  ArmTrees,
  BehindTree,
  CoreTree,
  DefinitionTrees,
  ExprTree,
  ExprTrees,
  FromTree,
  MaybeExpr,
  OnTree,
  OverTree,
  QueryTree,
  ResultTree,
  ResultTrees,
  SourceTree,
  TermTrees,
  WindowTree,
}
use Rattle.sql_reader_syntax.specs.declared.query.CompoundOperator.{CompoundOperator}
use Rattle.sql_reader_syntax.specs.declared.query.CompoundOperator.TheVariants as c
use Rattle.sql_reader_grammar.specs.Clauses.{Compounds, Wants}
use Rattle.sql_reader_grammar.specs.Fronts.{Opening, compound, opening, quantifier, union_of}
use Rattle.sql_reader_grammar.specs.Queries.{
  Defines,
  DefinesAll,
  Expresses,
  ExpressesAll,
  ExpressesArms,
  ExpressesElse,
  ExpressesItem,
  ExpressesOperand,
  Filters,
  Froms,
  Groups,
  Havings,
  IsResult,
  IsSource,
  Ons,
  Orders,
  Overs,
  Partitions,
  Queries,
  Results,
  Selects,
  Sources,
  StandsBehind,
  Terms,
  Wheres,
  Windows,
}
use Rattle.sql_reader_grammar.proofs.Clauses.{frame_read}
use Rattle.sql_reader_grammar.proofs.CompleteExprs.{
  ArmsEnd,
  Reads,
  ReadsAll,
  ReadsArms,
  ReadsBehind,
  ReadsElse,
  ReadsItem,
  ReadsOperand,
  between_reads,
  binary_reads,
  call_none_reads,
  call_reads,
  choice_reads,
  column_of_reads,
  column_reads,
  count_rows_reads,
  exists_reads,
  expression_reads,
  in_list_reads,
  in_none_reads,
  in_query_reads,
  last_arm_reads,
  last_reads,
  literal_reads,
  more_arms_reads,
  more_reads,
  no_else_reads,
  no_operand_reads,
  number_reads,
  operand_reads,
  otherwise_reads,
  parentheses_reads,
  postfix_reads,
  prefix_reads,
}
use Rattle.sql_reader_grammar.proofs.CompleteQueries.{
  ReadsCondition,
  ReadsDefinitions,
  ReadsFilter,
  ReadsFrom,
  ReadsGroups,
  ReadsHaving,
  ReadsOn,
  ReadsOrder,
  ReadsOver,
  ReadsPartition,
  ReadsQueries,
  ReadsResult,
  ReadsResults,
  ReadsSelect,
  ReadsSource,
  ReadsSources,
  ReadsTerms,
  ReadsWindow,
  ReadsWindows,
  all_of_reads,
  all_reads,
  always_reads,
  behind_reads,
  compound_reads,
  condition_reads,
  core_reads,
  derived_reads,
  filter_reads,
  first_reads,
  groups_reads,
  having_reads,
  inner_query,
  joined_reads,
  last_result_reads,
  last_term_reads,
  last_window_reads,
  more_results_reads,
  more_terms_reads,
  more_windows_reads,
  no_condition_reads,
  no_filter_reads,
  no_groups_reads,
  no_having_reads,
  no_order_reads,
  no_over_reads,
  no_partition_reads,
  no_sources_reads,
  no_windows_reads,
  on_reads,
  order_reads,
  over_name_reads,
  over_reads,
  partition_reads,
  select_reads,
  sources_reads,
  table_reads,
  using_reads,
  value_reads,
  window_reads,
  windows_reads,
}
use Rattle.sql_reader_grammar.proofs.Room.{directs_room, joins_room, room, room_item, room_on, room_result, room_source, room_window}
use Rattle.sql_reader_grammar.proofs.Shape.{all_arguments, all_members, begins, begins_no_when, between_joint, in_joint, joint_of, literal_opening, postfix_joint, prefix_opening, query_member}
use Rattle.sql_reader_grammar.proofs.Stages.{stage}

plain_quantifier : (ts : Rest) → (opening ts ≡ Opening.Nothing → ⊥) → quantifier ts ≡ (false, ts)
plain_quantifier (Lexeme.Reserved k.Distinct ∷ ts) h = absurd (h refl)
plain_quantifier (Lexeme.Reserved k.All ∷ ts) h = absurd (h refl)
plain_quantifier _ h = refl

compound_stage : {op : CompoundOperator} {from after : Rest} → Compounds op from after → 6 ≤ stage from
compound_stage Compounds.union = omega arith
compound_stage Compounds.union_all = omega arith
compound_stage Compounds.intersect = omega arith
compound_stage Compounds.except = omega arith

compound_read : {op : CompoundOperator} {from right rest : Rest} → Compounds op from right
    → right ≡ Lexeme.Reserved k.Select ∷ rest → compound from ≡ Some (op, right)
compound_read Compounds.union is =
    ap (λ ts. Some (union_of ts)) is ∙ sym (ap (λ (ts : Rest). Some (c.Union, ts)) is)
compound_read Compounds.union_all is = refl
compound_read Compounds.intersect is = refl
compound_read Compounds.except is = refl

module _ (source : ℕ → ℕ → List ℕ) where
  -- What stands before a clause

  else_ends : {h : ℕ} {e : MaybeExpr} {from after : Rest} → ExpressesElse source h e from after → ArmsEnd from
  else_ends ExpressesElse.no_else = record { no_operator = refl; no_when = refl }
  else_ends (ExpressesElse.otherwise x) = record { no_operator = refl; no_when = refl }

  begins_window : {h : ℕ} {w : WindowTree} {from after : Rest} → Windows source h w from after
      → (rest : Rest) × (from ≡ Lexeme.Punctuation s.Open ∷ rest)
  begins_window (Windows.window {from = from} x y z) = (from, refl)

  begins_select : {h : ℕ} {x : CoreTree} {from after : Rest} → Selects source h x from after
      → (rest : Rest) × (from ≡ Lexeme.Reserved k.Select ∷ rest)
  begins_select (Selects.select {from = from} q rs f w g ws) = (from, refl)

  begins_result : {h : ℕ} {r : ResultTree} {from after : Rest} → IsResult source h r from after
      → quantifier from ≡ (false, from)
  begins_result IsResult.all = refl
  begins_result IsResult.all_of = refl
  begins_result (IsResult.value {from = from} x t) = plain_quantifier from (begins source x)

  begins_results : {h : ℕ} {rs : ResultTrees} {from after : Rest} → Results source h rs from after
      → quantifier from ≡ (false, from)
  begins_results (Results.last_result x) = begins_result x
  begins_results (Results.more_results x xs) = begins_result x

  pub stage_order : {h : ℕ} {ts : TermTrees} {from after : Rest} → Orders source h ts from after → 8 ≤ stage after
      → 7 ≤ stage from
  stage_order Orders.no_order st = omega (arith, st)
  stage_order (Orders.order x) st = omega arith

  stage_from : {h : ℕ} {f : FromTree} {from after : Rest} → Froms source h f from after → 2 ≤ stage after → 1 ≤ stage from
  stage_from Froms.no_sources st = omega (arith, st)
  stage_from (Froms.sources x) st = omega arith

  stage_where : {h : ℕ} {e : MaybeExpr} {from after : Rest} → Wheres source h e from after → 3 ≤ stage after
      → 2 ≤ stage from
  stage_where Wheres.no_condition st = omega (arith, st)
  stage_where (Wheres.condition x) st = omega arith

  stage_groups : {h : ℕ} {es : ExprTrees} {e : MaybeExpr} {from after : Rest} → Groups source h es e from after
      → 5 ≤ stage after → 3 ≤ stage from
  stage_groups Groups.no_groups st = omega (arith, st)
  stage_groups (Groups.groups xs x) st = omega arith

  stage_having : {h : ℕ} {e : MaybeExpr} {from after : Rest} → Havings source h e from after → 5 ≤ stage after
      → 1 ≤ stage from
  stage_having Havings.no_having st = omega (arith, st)
  stage_having (Havings.having x) st = omega arith

  stage_windows : {h : ℕ} {ws : DefinitionTrees} {from after : Rest} → Defines source h ws from after → 6 ≤ stage after
      → 5 ≤ stage from
  stage_windows Defines.no_windows st = omega (arith, st)
  stage_windows (Defines.windows x) st = omega arith

  mutual
    pub complete : {q h : ℕ} {e : ExprTree} {from after : Rest} → Expresses source q h e from after
        → Reads source q h e from after
    complete (Expresses.tighter x) = λ d p one below stop.
        complete x d p one (omega (arith, below)) (omega (arith, stop))
    complete (Expresses.binary x j y) =
        binary_reads source _ _ _ _ _ _ _ _ _ (joint_of source j y) (complete x) (complete y)
    complete (Expresses.between x n y z) =
        between_reads source _ _ _ _ _ _ _ _ _ _ _ _ (between_joint source n) (complete x) (complete y) (complete z)
    complete (Expresses.in_none {h = h} {n = n} {e = e} {from = from} {after = after} x m) =
        subst (λ l. Reads source 4 (suc l) (ExprTree.In n e ExprTrees.No_more) from after) (let i : max h 0 ≡ h = omega arith in i)
        (in_none_reads source n h e from _ after (in_joint source m) (complete x))
    complete (Expresses.in_list x n xs) =
        in_list_reads source _ _ _ _ _ _ _ _ _ (in_joint source n) (all_members source xs) (complete x) (complete_all xs)
    complete (Expresses.in_query x n y) =
        in_query_reads source _ _ _ _ _ _ _ _ _ (in_joint source n) (query_member source y) (complete x)
        (inner_query source _ _ _ _ (complete_query y) (omega arith))
    complete (Expresses.postfix {after = after} x w) =
        postfix_reads source _ _ _ _ _ after (postfix_joint source w after) (complete x)
    complete (Expresses.prefix {from = from} w x) =
        prefix_reads source _ _ _ _ from _ (prefix_opening source w from) (complete x)
    complete (Expresses.literal {after = after} w) = literal_reads source _ _ after (literal_opening source w after)
    complete Expresses.column = column_reads source _ _ _
    complete Expresses.column_of = column_of_reads source _ _ _ _ _
    complete (Expresses.parentheses x) = parentheses_reads source _ _ _ _ (complete x)
    complete (Expresses.exists x) =
        exists_reads source _ _ _ _ (inner_query source _ _ _ _ (complete_query x) (omega arith))
    complete (Expresses.count_rows is b) = count_rows_reads source _ _ _ _ _ is (complete_behind b)
    complete (Expresses.call_none is t b) = call_none_reads source _ _ _ _ _ _ is t (complete_behind b)
    complete (Expresses.call is xs t b) =
        call_reads source _ _ _ _ _ _ _ _ _ is (all_arguments source xs) t (complete_all xs) (complete_behind b)
    complete (Expresses.choice x xs y) =
        choice_reads source _ _ _ _ _ _ _ _ _ _ (else_ends y) (complete_operand x (complete_arms xs).is)
        (complete_arms xs) (complete_else y)

    pub complete_all : {numbers : ℕ → Bool} {place h : ℕ} {es : ExprTrees} {from after : Rest}
        → ExpressesAll source numbers place h es from after → ReadsAll source numbers place h es from after
    complete_all (ExpressesAll.last x) = last_reads source _ _ _ _ _ _ (complete_item x)
    complete_all (ExpressesAll.more x xs) =
        more_reads source _ _ _ _ _ _ _ _ _ (room_item source x) (complete_item x) (complete_all xs)

    pub complete_item : {b : Bool} {h : ℕ} {e : ExprTree} {from after : Rest} → ExpressesItem source b h e from after
        → ReadsItem source b h e from after
    complete_item (ExpressesItem.expression x) = expression_reads source _ _ _ _ (complete x)
    complete_item ExpressesItem.number = number_reads source _ _

    pub complete_operand : {h : ℕ} {e : MaybeExpr} {from after rest : Rest} → ExpressesOperand source h e from after
        → after ≡ Lexeme.Reserved k.When ∷ rest → ReadsOperand source h e from after
    complete_operand ExpressesOperand.no_operand is = no_operand_reads source _ _ is
    complete_operand (ExpressesOperand.operand x) is =
        operand_reads source _ _ _ _ _ is (begins_no_when source x) (complete x)

    pub complete_arms : {h : ℕ} {es : ArmTrees} {from after : Rest} → ExpressesArms source h es from after
        → ReadsArms source h es from after
    complete_arms (ExpressesArms.last_arm x y) = record {
      rest = _;
      is = refl;
      reads = last_arm_reads source _ _ _ _ _ _ _ (complete x) (complete y);
    }
    complete_arms (ExpressesArms.more_arms x y xs) = record {
      rest = _;
      is = refl;
      reads = more_arms_reads source _ _ _ _ _ _ _ _ _ _ (room source x) (room source y) (complete x) (complete y)
          (complete_arms xs);
    }

    pub complete_else : {h : ℕ} {e : MaybeExpr} {from after : Rest} → ExpressesElse source h e from after
        → ReadsElse source h e from after
    complete_else ExpressesElse.no_else = no_else_reads source _
    complete_else (ExpressesElse.otherwise x) = otherwise_reads source _ _ _ _ (complete x)

    pub complete_behind : {h : ℕ} {b : BehindTree} {from after : Rest} → StandsBehind source h b from after
        → ReadsBehind source h b from after
    complete_behind (StandsBehind.behind x y) =
        behind_reads source _ _ _ _ _ _ _ (complete_filter x) (complete_over y)

    pub complete_filter : {h : ℕ} {e : MaybeExpr} {from after : Rest} → Filters source h e from after
        → ReadsFilter source h e from after
    complete_filter Filters.no_filter = no_filter_reads source _
    complete_filter (Filters.filter x) = filter_reads source _ _ _ _ (complete x)

    pub complete_over : {h : ℕ} {o : OverTree} {from after : Rest} → Overs source h o from after
        → ReadsOver source h o from after
    complete_over Overs.no_over = no_over_reads source _
    complete_over (Overs.over_name {q = q} {name = name} {after = after}) = over_name_reads source q name after
    complete_over (Overs.over x) = over_reads source _ _ _ _ _ (begins_window x).1 (complete_window x)

    pub complete_window : {h : ℕ} {w : WindowTree} {from after : Rest} → Windows source h w from after
        → ReadsWindow source h w from after
    complete_window (Windows.window x y z) =
        window_reads source _ _ _ _ _ _ _ _ _ (stage_order y (frame_read z (omega arith)).1) (complete_partition x)
        (complete_order y) z

    pub complete_partition : {h : ℕ} {es : ExprTrees} {from after : Rest} → Partitions source h es from after
        → ReadsPartition source h es from after
    complete_partition Partitions.no_partition = no_partition_reads source _
    complete_partition (Partitions.partition x) = partition_reads source _ _ _ _ (complete_all x)

    pub complete_order : {h : ℕ} {ts : TermTrees} {from after : Rest} → Orders source h ts from after
        → ReadsOrder source h ts from after
    complete_order Orders.no_order = no_order_reads source _
    complete_order (Orders.order x) = order_reads source _ _ _ _ (complete_terms x)

    pub complete_terms : {h : ℕ} {ts : TermTrees} {from after : Rest} → Terms source h ts from after
        → ReadsTerms source h ts from after
    complete_terms (Terms.last_term x d) = last_term_reads source _ _ _ _ _ _ (complete x) d
    complete_terms (Terms.more_terms x d xs) =
        more_terms_reads source _ _ _ _ _ _ _ _ _
        (let i = room source x in let j = directs_room d in omega (arith, i, j)) (complete x) d (complete_terms xs)

    pub complete_query : {h : ℕ} {query : QueryTree} {from after : Rest} → Queries source h query from after
        → ReadsQueries source h query from after
    complete_query (Queries.core x) = core_reads source _ _ _ _ (complete_select x)
    complete_query (Queries.compound x op y) =
        compound_reads source _ _ _ _ _ _ _ _ _ (compound_read op (begins_select y).1) (compound_stage op)
        (complete_query x) (complete_select y)

    pub complete_select : {h : ℕ} {x : CoreTree} {from after : Rest} → Selects source h x from after
        → ReadsSelect source h x from after
    complete_select (Selects.select q rs f w g ws) = λ d st.
        let named = stage_windows ws st in
        let grouped = stage_groups g named in
        let tested = stage_where w grouped in
        let joined = stage_from f tested in
        select_reads source _ _ _ _ _ _ _ _ _ _ _ _ _ _ _ _ _ _ _ q (begins_results rs) joined tested grouped named
        (complete_results rs) (complete_from f) (complete_where w) (complete_groups g) (complete_windows ws) d st

    pub complete_results : {h : ℕ} {rs : ResultTrees} {from after : Rest} → Results source h rs from after
        → ReadsResults source h rs from after
    complete_results (Results.last_result x) = last_result_reads source _ _ _ _ (complete_result x)
    complete_results (Results.more_results x xs) =
        more_results_reads source _ _ _ _ _ _ _ (let i = room_result source x in omega (arith, i)) (complete_result x)
        (complete_results xs)

    pub complete_result : {h : ℕ} {r : ResultTree} {from after : Rest} → IsResult source h r from after
        → ReadsResult source h r from after
    complete_result IsResult.all = all_reads source _
    complete_result (IsResult.all_of {q = q} {table = table} {after = after}) = all_of_reads source q table after
    complete_result (IsResult.value x t) = value_reads source _ _ _ _ _ _ (begins source x) (complete x) t

    pub complete_from : {h : ℕ} {f : FromTree} {from after : Rest} → Froms source h f from after
        → ReadsFrom source h f from after
    complete_from Froms.no_sources = no_sources_reads source _
    complete_from (Froms.sources x) = sources_reads source _ _ _ _ (complete_sources x)

    pub complete_sources : {h : ℕ} {f : FromTree} {from after : Rest} → Sources source h f from after
        → ReadsSources source h f from after
    complete_sources (Sources.first x) =
        first_reads source _ _ _ _ (let i = room_source source x in omega (arith, i)) (complete_source x)
    complete_sources (Sources.joined x j y z) =
        joined_reads source _ _ _ _ _ _ _ _ _ _ _ _ _
        (let a = joins_room j in let b = room_source source y in let e = room_on source z in omega (arith, a, b, e)) j
        (complete_sources x) (complete_source y) (complete_on z)

    pub complete_source : {h : ℕ} {x : SourceTree} {from after : Rest} → IsSource source h x from after
        → ReadsSource source h x from after
    complete_source (IsSource.table x a) = table_reads source _ _ _ _ _ x a
    complete_source (IsSource.derived x a) =
        derived_reads source _ _ _ _ _ _ (inner_query source _ _ _ _ (complete_query x) (omega arith)) a

    pub complete_on : {wants : Wants} {h : ℕ} {x : OnTree} {from after : Rest} → Ons source wants h x from after
        → ReadsOn source wants h x from after
    complete_on (Ons.always l) = always_reads source _ _ l
    complete_on (Ons.on m x) = on_reads source _ _ _ _ _ m (complete x)
    complete_on (Ons.using m xs) = using_reads source _ _ _ _ m xs

    pub complete_where : {h : ℕ} {e : MaybeExpr} {from after : Rest} → Wheres source h e from after
        → ReadsCondition source h e from after
    complete_where Wheres.no_condition = no_condition_reads source _
    complete_where (Wheres.condition x) = condition_reads source _ _ _ _ (complete x)

    pub complete_groups : {h : ℕ} {es : ExprTrees} {e : MaybeExpr} {from after : Rest} → Groups source h es e from after
        → ReadsGroups source h es e from after
    complete_groups Groups.no_groups = no_groups_reads source _
    complete_groups (Groups.groups xs x) = λ d st.
        groups_reads source _ _ _ _ _ _ _ (stage_having x st) (complete_all xs) (complete_having x) d st

    pub complete_having : {h : ℕ} {e : MaybeExpr} {from after : Rest} → Havings source h e from after
        → ReadsHaving source h e from after
    complete_having Havings.no_having = no_having_reads source _
    complete_having (Havings.having x) = having_reads source _ _ _ _ (complete x)

    pub complete_windows : {h : ℕ} {ws : DefinitionTrees} {from after : Rest} → Defines source h ws from after
        → ReadsWindows source h ws from after
    complete_windows Defines.no_windows = no_windows_reads source _
    complete_windows (Defines.windows x) = windows_reads source _ _ _ _ (complete_definitions x)

    pub complete_definitions : {h : ℕ} {ws : DefinitionTrees} {from after : Rest} → DefinesAll source h ws from after
        → ReadsDefinitions source h ws from after
    complete_definitions (DefinesAll.last_window {q = q} x) = last_window_reads source _ q _ _ _ _ (complete_window x)
    complete_definitions (DefinesAll.more_windows {q = q} x xs) =
        more_windows_reads source _ _ q _ _ _ _ _ _ (let i = room_window source x in omega (arith, i)) (complete_window x)
        (complete_definitions xs)
