-- What a reader that goes from left to right makes of the tokens of a statement: in expressions it climbs by the levels of
-- the operators. No public clause cites it. Where a phrase holds no inner phrase it has no levels; else it has one more
-- than the deepest of these, since they stand in one more construct.
use Rattle.std.specs.Prelude.{
  Bool,
  true,
  false,
  ℕ,
  zero,
  suc,
  max,
  ℤ,
  neg_ℤ,
  List,
  [],
  ◌∷◌,
  length,
  Option,
  Some,
  None,
  Ok,
  Err,
  nat_lt,
  nat_le,
  if◌then◌else◌,
}
use Rattle.sql_reader_tokens.specs.Lexeme.{Lexeme}
use Rattle.sql_reader_tokens.specs.declared.keywords.keyword.Keyword.TheVariants as k
use Rattle.sql_reader_tokens.specs.declared.sign.Sign.TheVariants as s
use Rattle.sql_reader_tokens.specs.declared.token.Quoting.{Quoting}
use Rattle.sql_reader_tokens.specs.declared.token.Quoting.TheVariants as q
use Rattle.sql_reader_grammar.specs.phrases.Outcomes.{Outcome, Read, Refusal, ◌>>=◌, kept_if, needed, read, series}
use Rattle.sql_reader_grammar.specs.phrases.Steps.{Rest, after_close, after_comma, after_keyword, after_open, ends, name}
use Rattle.sql_reader_syntax.specs.ExprTree.{
  BehindTree,
  CoreTree,
  DefinitionTrees,
  ExprTree,
  ExprTrees,
  FromTree,
  MaybeExpr,
  NameTree,
  OnTree,
  OverTree,
  QueryTree,
  ResultTree,
  ResultTrees,
  SourceTree,
  TermTrees,
  WindowTree,
  arms_of,
  trees_of,
}
use Rattle.sql_reader_syntax.specs.Functions.{function_of, takes, takes_number}
use Rattle.sql_reader_syntax.specs.StatementTree.{ItemTree, StatementTree}
use Rattle.sql_reader_syntax.specs.Tree.{Name}
use Rattle.sql_reader_syntax.specs.declared.expr.Function.{Function}
use Rattle.sql_reader_syntax.specs.declared.expr.Function.TheVariants as f
use Rattle.sql_reader_syntax.specs.declared.query.CompoundOperator.{CompoundOperator}
use Rattle.sql_reader_syntax.specs.declared.query.Direction.{Direction}
use Rattle.sql_reader_syntax.specs.declared.query.Edge.{Edge}
use Rattle.sql_reader_syntax.specs.declared.query.Edge.TheVariants as e
use Rattle.sql_reader_syntax.specs.declared.query.Exclusion.{Exclusion}
use Rattle.sql_reader_syntax.specs.declared.query.Frame.{Frame}
use Rattle.sql_reader_syntax.specs.declared.query.FrameUnit.{FrameUnit}
use Rattle.sql_reader_grammar.specs.Clauses.{Wants, may_have, may_lack}
use Rattle.sql_reader_grammar.specs.Fronts.{
  Beginning,
  Following,
  Inside,
  Joining,
  Joint,
  Membership,
  Opening,
  after_group_by,
  after_order_by,
  after_partition_by,
  beginning,
  binds,
  compound,
  exclusion,
  explained,
  following,
  inside,
  join_at,
  joint,
  membership,
  no_level,
  nulls,
  opening,
  quantifier,
  turn,
  unit_at,
}
use Rattle.sql_reader_grammar.specs.Operators.{comparison_level, equality_level, level_of, level_of_prefix, or_level}
use Rattle.sql_reader_grammar.specs.Queries.{nowhere}

-- One after the other

-- two phrases
abbrev pub both : {A B : Type 0} → Outcome (Read A) → (Rest → Outcome (Read B)) → Outcome (Read (A × B))
both r f = r >>= λ x. f x.rest >>= λ y. Ok (read (x.tree, y.tree) (max x.levels y.levels) y.rest)

-- a phrase, as another tree
abbrev pub made : {A B : Type 0} → (A → B) → Outcome (Read A) → Outcome (Read B)
made g r = r >>= λ x. Ok (read (g x.tree) x.levels x.rest)

-- a phrase, and what has to stand behind it
abbrev pub closed : {A : Type 0} → (Rest → Option Rest) → Outcome (Read A) → Outcome (Read A)
closed close r = r >>= λ x. needed (close x.rest) >>= λ rest. Ok (read x.tree x.levels rest)

-- a phrase behind what it begins with, or what stands for it
abbrev pub optional : {A : Type 0} → A → (Rest → Outcome (Read A)) → Rest → Option Rest → Outcome (Read A)
optional absent f ts None = Ok (read absent 0 ts)
optional absent f ts (Some rest) = f rest

-- a phrase without inner phrases
abbrev pub flat : {A : Type 0} → A × Rest → Outcome (Read A)
flat r = Ok (read r.0 0 r.1)

-- as many phrases as there are
abbrev pub all : {A : Type 0} → (ℕ → Rest → Outcome (Read A)) → Rest → Outcome (Read (List A))
all phrase ts = series phrase after_comma (suc (length ts)) 0 ts

-- Phrases without expressions

abbrev pub a_name : Rest → Outcome (Read Name)
a_name ts = needed (name ts) >>= flat

abbrev pub names : Rest → Outcome (Read (List Name))
names = all (λ place. a_name)

-- the names of columns behind a name, or none
abbrev pub columns : Rest → Outcome (Read (List Name))
columns ts = optional [] (λ rest. closed after_close (names rest)) ts (after_open ts)

abbrev pub alias : Rest → Outcome (Read (Option Name))
alias (Lexeme.Reserved k.As ∷ ts) = made (λ n. Some n) (a_name ts)
alias (Lexeme.Name q n ∷ ts) = Ok (read (Some n) 0 ts)
alias ts = Ok (read None 0 ts)

-- what a result column is called, behind an expression with this source text
abbrev pub title : List ℕ → Rest → Outcome (Read NameTree)
title source (Lexeme.Reserved k.As ∷ ts) = made (λ n. NameTree.Alias n) (a_name ts)
title source (Lexeme.Name q n ∷ ts) = Ok (read (NameTree.Alias n) 0 ts)
title source ts = Ok (read (NameTree.SourceText source) 0 ts)

abbrev pub directed : Bool × Rest → Bool × Rest → Outcome (Read Direction)
directed d n = Ok (read (record { descending = d.0; nulls_first = n.0 }) 0 n.1)

abbrev pub direction : Rest → Outcome (Read Direction)
direction ts = directed (turn ts) (nulls (turn ts).0 (turn ts).1)

abbrev pub edge : Rest → Outcome (Read Edge)
edge (Lexeme.Reserved k.Unbounded ∷ Lexeme.Reserved k.Preceding ∷ ts) = Ok (read e.UnboundedPreceding 0 ts)
edge (Lexeme.Number n ∷ Lexeme.Reserved k.Preceding ∷ ts) = Ok (read (e.Preceding n) 0 ts)
edge (Lexeme.Reserved k.Current ∷ Lexeme.Reserved k.Row ∷ ts) = Ok (read e.CurrentRow 0 ts)
edge (Lexeme.Number n ∷ Lexeme.Reserved k.Following ∷ ts) = Ok (read (e.Following n) 0 ts)
edge (Lexeme.Reserved k.Unbounded ∷ Lexeme.Reserved k.Following ∷ ts) = Ok (read e.UnboundedFollowing 0 ts)
edge _ = Err Refusal.Syntax

abbrev pub edges_at : Rest → Option Rest → Outcome (Read (Edge × Edge))
edges_at ts None = made (λ start. (start, e.CurrentRow)) (edge ts)
edges_at ts (Some rest) = both (closed (after_keyword k.And) (edge rest)) edge

abbrev pub edges : Rest → Outcome (Read (Edge × Edge))
edges ts = edges_at ts (after_keyword k.Between ts)

abbrev pub framed : FrameUnit → (Edge × Edge) × Exclusion → Option Frame
framed unit r = Some (record { unit = unit; start = r.0.0; end = r.0.1; exclusion = r.1 })

abbrev pub frame_at : Rest → Option (FrameUnit × Rest) → Outcome (Read (Option Frame))
frame_at ts None = Ok (read None 0 ts)
frame_at ts (Some r) = made (framed r.0) (both (edges r.1) (λ rest. flat (exclusion rest)))

abbrev pub frame : Rest → Outcome (Read (Option Frame))
frame ts = frame_at ts (unit_at ts)

abbrev pub whole : Rest → Outcome (Read ℤ)
whole (Lexeme.Number n ∷ ts) = Ok (read n 0 ts)
whole (Lexeme.Punctuation s.Minus ∷ Lexeme.Number n ∷ ts) = Ok (read (neg_ℤ n) 0 ts)
whole _ = Err Refusal.Syntax

abbrev pub some_whole : Rest → Outcome (Read (Option ℤ))
some_whole ts = made (λ n. Some n) (whole ts)

abbrev pub offset : Rest → Outcome (Read (Option ℤ))
offset ts = optional None some_whole ts (after_keyword k.Offset ts)

-- LIMIT and OFFSET
abbrev pub limit : Rest → Outcome (Read (Option ℤ × Option ℤ))
limit ts = optional (None, None) (λ rest. both (some_whole rest) offset) ts (after_keyword k.Limit ts)

-- behind a phrase of equality_level that has no right operand stands no operator that binds tighter
abbrev pub loosely : Rest → Option Rest
loosely ts = if nat_le (binds ts) equality_level then Some ts else None

-- a number that no operator follows
abbrev pub alone : Rest → Outcome Rest
alone (Lexeme.Number n ∷ ts) = kept_if (nat_le (binds ts) no_level) (Lexeme.Number n ∷ ts)
alone _ = Err Refusal.Syntax

-- The trees of lists

abbrev pub results_of : List ResultTree → ResultTrees
results_of [] = ResultTrees.No_result
results_of (r ∷ rs) = ResultTrees.Result r (results_of rs)

abbrev pub terms_of : List (ExprTree × Direction) → TermTrees
terms_of [] = TermTrees.No_term
terms_of (t ∷ ts) = TermTrees.Term t.0 t.1 (terms_of ts)

abbrev pub definitions_of : List (Name × WindowTree) → DefinitionTrees
definitions_of [] = DefinitionTrees.No_definition
definitions_of (w ∷ ws) = DefinitionTrees.Definition w.0 w.1 (definitions_of ws)

-- What reads phrases that stand in one more construct: an expression of a level of the grammar, a SELECT, a query
pub record Inner : Type 0 where
  pub expr : ℕ → Rest → Outcome (Read ExprTree)
  pub core : Rest → Outcome (Read CoreTree)
  pub query : Rest → Outcome (Read QueryTree)

abbrev pub function_at : Quoting → Name → Option Function
function_at q.Bare word = function_of word
function_at _ word = None

-- `source left behind` is the source text of a phrase at whose beginning so many tokens are left, and so many behind it;
-- d is how many levels there may be
module _ (source : ℕ → ℕ → List ℕ) (inner : Inner) (d : ℕ) where
  -- Parts of expressions

  abbrev pub one : Rest → Outcome (Read ExprTree)
  one = inner.expr or_level

  -- an expression that may be absent
  abbrev pub present : Rest → Outcome (Read MaybeExpr)
  present ts = made (λ e. MaybeExpr.Present e) (one ts)

  abbrev pub item : Bool → Rest → Outcome (Read ExprTree)
  item true ts = alone ts >>= one
  item false ts = one ts

  abbrev pub list : (ℕ → Bool) → Rest → Outcome (Read (List ExprTree))
  list numbers = all (λ place. item (numbers place))

  abbrev pub some : Rest → Outcome (Read ExprTrees)
  some ts = made trees_of (list nowhere ts)

  abbrev pub arm : Rest → Outcome (Read (ExprTree × ExprTree))
  arm ts = both (closed (after_keyword k.Then) (one ts)) one

  abbrev pub arms : Rest → Outcome (Read (List (ExprTree × ExprTree)))
  arms ts = series (λ place. arm) (after_keyword k.When) (suc (length ts)) 0 ts

  abbrev pub operand_of_case : Rest → Option Rest → Outcome (Read MaybeExpr)
  operand_of_case ts (Some whens) = Ok (read MaybeExpr.Absent 0 ts)
  operand_of_case ts None = present ts

  abbrev pub otherwise : Rest → Outcome (Read MaybeExpr)
  otherwise ts = optional MaybeExpr.Absent present ts (after_keyword k.Else ts)

  abbrev pub chosen : MaybeExpr × (List (ExprTree × ExprTree) × MaybeExpr) → ExprTree
  chosen r = ExprTree.Case r.0 (arms_of r.1.0) r.1.1

  -- behind CASE
  unfoldable pub choice : Rest → Outcome (Read ExprTree)
  choice ts =
      made chosen
      (both (closed (λ rest. after_keyword k.When rest) (operand_of_case ts (after_keyword k.When ts)))
      (λ whens. closed (after_keyword k.End) (both (arms whens) otherwise)))

  -- Windows and what else stands behind a call

  abbrev pub partition : Rest → Outcome (Read ExprTrees)
  partition ts = optional ExprTrees.No_more some ts (after_partition_by ts)

  abbrev pub term : Rest → Outcome (Read (ExprTree × Direction))
  term ts = both (one ts) direction

  abbrev pub terms : Rest → Outcome (Read TermTrees)
  terms ts = made terms_of (all (λ place. term) ts)

  abbrev pub order : Rest → Outcome (Read TermTrees)
  order ts = optional TermTrees.No_term terms ts (after_order_by ts)

  abbrev pub windowed : ExprTrees × (TermTrees × Option Frame) → WindowTree
  windowed r = WindowTree.Window r.0 r.1.0 r.1.1

  -- behind its parenthesis
  abbrev pub window_at : Rest → Outcome (Read WindowTree)
  window_at ts = made windowed (closed after_close (both (partition ts) (λ rest. both (order rest) frame)))

  unfoldable pub window : Rest → Outcome (Read WindowTree)
  window ts = needed (after_open ts) >>= window_at

  abbrev pub over_at : Rest → Outcome (Read OverTree)
  over_at (Lexeme.Name q n ∷ ts) = Ok (read (OverTree.OverName n) 0 ts)
  over_at ts = made (λ w. OverTree.Over w) (window ts)

  abbrev pub over : Rest → Outcome (Read OverTree)
  over ts = optional OverTree.No_over over_at ts (after_keyword k.Over ts)

  abbrev pub filter_at : Rest → Outcome (Read MaybeExpr)
  filter_at ts = needed (after_open ts) >>= λ rest. needed (after_keyword k.Where rest) >>= λ rest. closed after_close (present rest)

  abbrev pub filter : Rest → Outcome (Read MaybeExpr)
  filter ts = optional MaybeExpr.Absent filter_at ts (after_keyword k.Filter ts)

  abbrev pub standing : MaybeExpr × OverTree → BehindTree
  standing r = BehindTree.Behind r.0 r.1

  unfoldable pub behind : Rest → Outcome (Read BehindTree)
  behind ts = made standing (both (filter ts) over)

  -- Expressions

  -- a construct is a level itself, whatever stands in it
  abbrev pub counted : {A : Type 0} → Outcome (Read A) → Outcome (Read A)
  counted r = if nat_lt 0 d then (r >>= λ x. Ok (read x.tree (max 1 x.levels) x.rest)) else Err Refusal.Limit

  abbrev pub starred : Function → Rest → Outcome (Read ExprTree)
  starred f.Count ts =
      needed (after_close ts) >>= λ rest. counted (made (λ b. ExprTree.CountRows b) (behind rest))
  starred _ ts = Err Refusal.Syntax

  abbrev pub arguments : Function → Rest → Inside → Outcome (Read ExprTree)
  arguments function ts (Inside.Closed rest) =
      kept_if (takes function 0) rest
      >>= λ rest. counted (made (λ b. ExprTree.Call function ExprTrees.No_more b) (behind rest))
  arguments function ts (Inside.Star rest) = starred function rest
  arguments function ts Inside.Arguments =
      closed after_close (list (takes_number function) ts)
      >>= λ xs. kept_if (takes function (length xs.tree)) xs.rest
      >>= λ rest. behind rest
      >>= λ b. Ok (read (ExprTree.Call function (trees_of xs.tree) b.tree) (max xs.levels b.levels) b.rest)

  abbrev pub called : Option Function → Rest → Outcome (Read ExprTree)
  called None ts = Err Refusal.Syntax
  called (Some function) ts = arguments function ts (inside ts)

  -- what begins with a name
  abbrev pub named : Quoting → Name → Rest → Following → Outcome (Read ExprTree)
  named q word ts (Following.Call rest) = called (function_at q word) rest
  named q word ts (Following.Dot rest) = made (λ column. ExprTree.Column (Some word) column) (a_name rest)
  named q word ts Following.Else = Ok (read (ExprTree.Column None word) 0 ts)

  unfoldable pub operand_at : ℕ → Opening → Outcome (Read ExprTree)
  operand_at p (Opening.Value e ts) = Ok (read e 0 ts)
  operand_at p (Opening.Word q word ts) = named q word ts (following ts)
  operand_at p (Opening.Operator op ts) =
      if nat_le p (level_of_prefix op)
      then made (λ e. ExprTree.Prefix op e) (inner.expr (level_of_prefix op) ts)
      else Err Refusal.Syntax
  operand_at p (Opening.Parenthesis ts) = closed after_close (one ts)
  operand_at p (Opening.Choice ts) = choice ts
  operand_at p (Opening.Existence ts) = made (λ query. ExprTree.Exists query) (closed after_close (inner.query ts))
  operand_at p Opening.Nothing = Err Refusal.Syntax

  abbrev pub operand : ℕ → Rest → Outcome (Read ExprTree)
  operand p ts = operand_at p (opening ts)

  -- with this left operand
  abbrev pub joined : Read ExprTree → Outcome (Read ExprTree) → Outcome (Read ExprTree)
  joined x r = r >>= λ y. Ok (read y.tree (max (suc x.levels) y.levels) y.rest)

  abbrev pub members : Bool → Read ExprTree → Rest → Membership → Outcome (Read ExprTree)
  members n x ts (Membership.Empty rest) = Ok (read (ExprTree.In n x.tree ExprTrees.No_more) 0 rest)
  members n x ts Membership.Query = made (λ query. ExprTree.InQuery n x.tree query) (closed after_close (inner.query ts))
  members n x ts Membership.Members = made (λ es. ExprTree.In n x.tree es) (closed after_close (some ts))

  unfoldable pub extended_at : Read ExprTree → Joint → Outcome (Read ExprTree)
  extended_at x (Joint.Binary op ts) =
      joined x (made (λ y. ExprTree.Binary op x.tree y) (inner.expr (suc (level_of op)) ts))
  extended_at x (Joint.Between n ts) =
      joined x
      (made (λ (r : ExprTree × ExprTree). ExprTree.Between n x.tree r.0 r.1)
      (both (closed (after_keyword k.And) (inner.expr comparison_level ts)) (inner.expr comparison_level)))
  extended_at x (Joint.In n ts) =
      needed (after_open ts) >>= λ rest. joined x (closed loosely (members n x rest (membership rest)))
  extended_at x (Joint.Postfix op ts) =
      needed (loosely ts) >>= λ rest. Ok (read (ExprTree.Postfix op x.tree) (suc x.levels) rest)
  extended_at x _ = Err Refusal.Syntax

  -- with the operator that follows
  unfoldable pub extended : Read ExprTree → Outcome (Read ExprTree)
  extended x = if nat_lt x.levels d then extended_at x (joint x.rest) else Err Refusal.Limit

  -- with each operator of at least this level, in at most so many turns
  unfoldable pub climb : ℕ → ℕ → Read ExprTree → Outcome (Read ExprTree)
  climb zero p x = if nat_le p (binds x.rest) then Err Refusal.Limit else Ok x
  climb (suc n) p x = if nat_le p (binds x.rest) then extended x >>= climb n p else Ok x

  unfoldable pub expr_by : ℕ → Rest → Outcome (Read ExprTree)
  expr_by p ts = operand p ts >>= climb d p

  -- SELECTs

  abbrev pub value : Rest → Outcome (Read ResultTree)
  value ts =
      one ts
      >>= λ x. title (source (length ts) (length x.rest)) x.rest
      >>= λ t. Ok (read (ResultTree.Value x.tree t.tree) x.levels t.rest)

  abbrev pub result_at : Rest → Beginning → Outcome (Read ResultTree)
  result_at ts (Beginning.Star rest) = Ok (read ResultTree.All 0 rest)
  result_at ts (Beginning.TableStar table rest) = Ok (read (ResultTree.AllOf table) 0 rest)
  result_at ts Beginning.Expression = value ts

  abbrev pub result : Rest → Outcome (Read ResultTree)
  result ts = result_at ts (beginning ts)

  unfoldable pub results : Rest → Outcome (Read ResultTrees)
  results ts = made results_of (all (λ place. result) ts)

  abbrev pub source_at : Rest → Option Rest → Outcome (Read SourceTree)
  source_at ts None = made (λ (r : Name × Option Name). SourceTree.Named r.0 r.1) (both (a_name ts) alias)
  source_at ts (Some rest) =
      made (λ (r : QueryTree × Option Name). SourceTree.Derived r.0 r.1) (both (closed after_close (inner.query rest)) alias)

  abbrev pub a_source : Rest → Outcome (Read SourceTree)
  a_source ts = source_at ts (after_open ts)

  abbrev pub absent_on : Wants → Rest → Outcome (Read OnTree)
  absent_on wants ts = if may_lack wants then Ok (read OnTree.Always 0 ts) else Err Refusal.Syntax

  abbrev pub using_at : Wants → Rest → Option Rest → Outcome (Read OnTree)
  using_at wants ts None = absent_on wants ts
  using_at wants ts (Some rest) =
      made (λ names. OnTree.Using names) (needed (after_open rest) >>= λ rest. closed after_close (names rest))

  abbrev pub on_at : Wants → Rest → Option Rest → Outcome (Read OnTree)
  on_at wants ts None = using_at wants ts (after_keyword k.Using ts)
  on_at wants ts (Some rest) = made (λ e. OnTree.On e) (one rest)

  abbrev pub on : Wants → Rest → Outcome (Read OnTree)
  on wants ts = if may_have wants then on_at wants ts (after_keyword k.On ts) else absent_on wants ts

  -- a further source, behind how it is joined
  abbrev pub source_and : Read FromTree → Joining → Outcome (Read FromTree)
  source_and x j =
      both (a_source j.rest) (on j.wants)
      >>= λ y. Ok (read (FromTree.Joined x.tree j.join y.tree.0 y.tree.1) (max x.levels y.levels) y.rest)

  abbrev pub next_source : (Read FromTree → Outcome (Read FromTree)) → Read FromTree → Option Joining → Outcome (Read FromTree)
  next_source more x None = Ok x
  next_source more x (Some j) = source_and x j >>= more

  -- with each further source, in at most so many turns
  unfoldable pub sources_from : ℕ → Read FromTree → Outcome (Read FromTree)
  sources_from zero x = next_source (λ y. Err Refusal.Syntax) x (join_at x.rest)
  sources_from (suc n) x = next_source (sources_from n) x (join_at x.rest)

  abbrev pub sources : Rest → Outcome (Read FromTree)
  sources ts = made (λ source. FromTree.First source) (a_source ts) >>= sources_from (length ts)

  abbrev pub from : Rest → Outcome (Read FromTree)
  from ts = optional FromTree.No_source sources ts (after_keyword k.From ts)

  abbrev pub condition : Rest → Outcome (Read MaybeExpr)
  condition ts = optional MaybeExpr.Absent present ts (after_keyword k.Where ts)

  abbrev pub having : Rest → Outcome (Read MaybeExpr)
  having ts = optional MaybeExpr.Absent present ts (after_keyword k.Having ts)

  abbrev pub groups : Rest → Outcome (Read (ExprTrees × MaybeExpr))
  groups ts = optional (ExprTrees.No_more, MaybeExpr.Absent) (λ rest. both (some rest) having) ts (after_group_by ts)

  abbrev pub definition : Rest → Outcome (Read (Name × WindowTree))
  definition ts = both (closed (after_keyword k.As) (a_name ts)) window

  abbrev pub definitions : Rest → Outcome (Read DefinitionTrees)
  definitions ts = made definitions_of (all (λ place. definition) ts)

  abbrev pub windows : Rest → Outcome (Read DefinitionTrees)
  windows ts = optional DefinitionTrees.No_definition definitions ts (after_keyword k.Window ts)

  abbrev pub selected : Bool
      → ResultTrees × (FromTree × (MaybeExpr × ((ExprTrees × MaybeExpr) × DefinitionTrees))) → CoreTree
  selected distinct r = CoreTree.Select distinct r.0 r.1.0 r.1.1.0 r.1.1.1.0.0 r.1.1.1.0.1 r.1.1.1.1

  -- behind SELECT and its quantifier
  abbrev pub parts : Rest → Outcome (Read (ResultTrees × (FromTree × (MaybeExpr × ((ExprTrees × MaybeExpr) × DefinitionTrees)))))
  parts ts =
      both (results ts) (λ ts. both (from ts) (λ ts. both (condition ts) (λ ts. both (groups ts) windows)))

  unfoldable pub core : Rest → Outcome (Read CoreTree)
  core ts =
      needed (after_keyword k.Select ts)
      >>= λ rest. counted (made (selected (quantifier rest).0) (parts (quantifier rest).1))

  -- with the SELECT behind an operator
  abbrev pub compounded : Read QueryTree → CompoundOperator × Rest → Outcome (Read QueryTree)
  compounded x o =
      if nat_lt x.levels d
      then (inner.core o.1
      >>= λ y. Ok (read (QueryTree.Compound x.tree o.0 y.tree) (max (suc x.levels) y.levels) y.rest))
      else Err Refusal.Limit

  abbrev pub next_core : (Read QueryTree → Outcome (Read QueryTree)) → Read QueryTree → Option (CompoundOperator × Rest)
      → Outcome (Read QueryTree)
  next_core more x None = Ok x
  next_core more x (Some o) = compounded x o >>= more

  unfoldable pub compounds : ℕ → Read QueryTree → Outcome (Read QueryTree)
  compounds zero x = next_core (λ y. Err Refusal.Limit) x (compound x.rest)
  compounds (suc n) x = next_core (compounds n) x (compound x.rest)

  unfoldable pub query_by : Rest → Outcome (Read QueryTree)
  query_by ts = made (λ c. QueryTree.Core c) (core ts) >>= compounds d

module _ (source : ℕ → ℕ → List ℕ) where
  abbrev pub raised : {A : Type 0} → Outcome (Read A) → Outcome (Read A)
  raised r = r >>= λ x. Ok (read x.tree (suc x.levels) x.rest)

  -- what reads phrases within one more construct, of which d may stand around a token
  unfoldable pub inner : ℕ → Inner
  inner zero = record {
    expr = λ p ts. Err Refusal.Limit;
    core = λ ts. Err Refusal.Limit;
    query = λ ts. Err Refusal.Limit;
  }
  inner (suc d) = record {
    expr = λ p ts. raised (expr_by source (inner d) d p ts);
    core = λ ts. raised (core source (inner d) d ts);
    query = λ ts. raised (query_by source (inner d) d ts);
  }

  -- an expression, a query of at most d levels
  abbrev pub expr : ℕ → ℕ → Rest → Outcome (Read ExprTree)
  expr d p ts = expr_by source (inner d) d p ts

  abbrev pub query : ℕ → Rest → Outcome (Read QueryTree)
  query d ts = query_by source (inner d) d ts

  -- Statements, of which a token may stand in d levels

  -- what a statement has stands in one construct more, which is no level
  abbrev pub outermost : ℕ → Inner
  outermost d = inner (suc d)

  abbrev pub item_of : (Name × List Name) × QueryTree → ItemTree
  item_of r = record { name = r.0.0; columns = r.0.1; query = r.1 }

  abbrev pub heading : Rest → Outcome (Read (Name × List Name))
  heading ts = closed (after_keyword k.As) (both (a_name ts) columns)

  abbrev pub item_query : ℕ → Rest → Outcome (Read QueryTree)
  item_query d ts = needed (after_open ts) >>= λ rest. closed after_close ((outermost d).query rest)

  abbrev pub an_item : ℕ → Rest → Outcome (Read ItemTree)
  an_item d ts = made item_of (both (heading ts) (item_query d))

  abbrev pub items_at : ℕ → Rest → Outcome (Read (List ItemTree))
  items_at d = all (λ place. an_item d)

  abbrev pub items : ℕ → Rest → Outcome (Read (List ItemTree))
  items d ts = optional [] (items_at d) ts (after_keyword k.With ts)

  abbrev pub stated : Bool → List ItemTree × (QueryTree × (TermTrees × (Option ℤ × Option ℤ))) → StatementTree
  stated explain r = record {
    explain = explain;
    items = r.0;
    query = r.1.0;
    order = r.1.1.0;
    limit = r.1.1.1.0;
    offset = r.1.1.1.1;
  }

  abbrev pub clauses : ℕ → Rest → Outcome (Read (List ItemTree × (QueryTree × (TermTrees × (Option ℤ × Option ℤ)))))
  clauses d ts =
      both (items d ts)
      (λ ts. both ((outermost d).query ts) (λ ts. both (order source (outermost d) (suc d) ts) limit))

  -- a statement of at most d levels, which is all of the tokens
  unfoldable pub statement : ℕ → Rest → Outcome StatementTree
  statement d ts = clauses d (explained ts).1 >>= λ x. kept_if (ends x.rest) (stated (explained ts).0 x.tree)
