-- What stands at the front of the tokens of a statement, for a reader that goes from left to right. No public clause cites
-- it.
use Rattle.std.specs.Prelude.{Bool, true, false, ℕ, [], ◌∷◌, Option, Some, None, not}
use Rattle.sql_reader_tokens.specs.Lexeme.{Lexeme}
use Rattle.sql_reader_tokens.specs.declared.keywords.keyword.Keyword.{Keyword}
use Rattle.sql_reader_tokens.specs.declared.keywords.keyword.Keyword.TheVariants as k
use Rattle.sql_reader_tokens.specs.declared.sign.Sign.{Sign}
use Rattle.sql_reader_tokens.specs.declared.sign.Sign.TheVariants as s
use Rattle.sql_reader_tokens.specs.declared.token.Quoting.{Quoting}
use Rattle.sql_reader_grammar.specs.phrases.Steps.{Rest}
use Rattle.sql_reader_syntax.specs.ExprTree.{ExprTree}
use Rattle.sql_reader_syntax.specs.Tree.{Name}
use Rattle.sql_reader_syntax.specs.declared.expr.BinaryOperator.{BinaryOperator}
use Rattle.sql_reader_syntax.specs.declared.expr.BinaryOperator.TheVariants as o
use Rattle.sql_reader_syntax.specs.declared.expr.PostfixOperator.{PostfixOperator}
use Rattle.sql_reader_syntax.specs.declared.expr.PostfixOperator.TheVariants as b
use Rattle.sql_reader_syntax.specs.declared.expr.PrefixOperator.{PrefixOperator}
use Rattle.sql_reader_syntax.specs.declared.expr.PrefixOperator.TheVariants as p
use Rattle.sql_reader_syntax.specs.declared.query.CompoundOperator.{CompoundOperator}
use Rattle.sql_reader_syntax.specs.declared.query.CompoundOperator.TheVariants as c
use Rattle.sql_reader_syntax.specs.declared.query.Exclusion.{Exclusion}
use Rattle.sql_reader_syntax.specs.declared.query.Exclusion.TheVariants as x
use Rattle.sql_reader_syntax.specs.declared.query.FrameUnit.{FrameUnit}
use Rattle.sql_reader_syntax.specs.declared.query.FrameUnit.TheVariants as u
use Rattle.sql_reader_syntax.specs.declared.query.Join.{Join}
use Rattle.sql_reader_syntax.specs.declared.query.Join.TheVariants as j
use Rattle.sql_reader_grammar.specs.Clauses.{Wants}
use Rattle.sql_reader_grammar.specs.Operators.{equality_level, level_of}

-- what an operand begins with, and what is behind it
pub data Opening : Type 0 where
  Value : ExprTree → Rest → Opening
  Word : Quoting → Name → Rest → Opening
  Operator : PrefixOperator → Rest → Opening
  Parenthesis : Rest → Opening
  Choice : Rest → Opening
  -- EXISTS and its parenthesis
  Existence : Rest → Opening
  Nothing : Opening

abbrev pub opening_sign : Sign → Rest → Opening
opening_sign s.Minus ts = Opening.Operator p.Minus ts
opening_sign s.Plus ts = Opening.Operator p.Plus ts
opening_sign s.Tilde ts = Opening.Operator p.BitNot ts
opening_sign s.Open ts = Opening.Parenthesis ts
opening_sign _ ts = Opening.Nothing

abbrev pub opening_exists : Rest → Opening
opening_exists (Lexeme.Punctuation s.Open ∷ ts) = Opening.Existence ts
opening_exists _ = Opening.Nothing

abbrev pub opening_word : Keyword → Rest → Opening
opening_word k.Null ts = Opening.Value ExprTree.Null ts
opening_word k.Not ts = Opening.Operator p.Not ts
opening_word k.Case ts = Opening.Choice ts
opening_word k.Exists ts = opening_exists ts
opening_word _ ts = Opening.Nothing

abbrev pub opening : Rest → Opening
opening [] = Opening.Nothing
opening (Lexeme.Number n ∷ ts) = Opening.Value (ExprTree.Number n) ts
opening (Lexeme.Text content ∷ ts) = Opening.Value (ExprTree.Text content) ts
opening (Lexeme.Blob bytes ∷ ts) = Opening.Value (ExprTree.Blob bytes) ts
opening (Lexeme.Name q n ∷ ts) = Opening.Word q n ts
opening (Lexeme.Reserved word ∷ ts) = opening_word word ts
opening (Lexeme.Punctuation sign ∷ ts) = opening_sign sign ts

-- what an expression goes on with, and what is behind it
pub data Joint : Type 0 where
  Binary : BinaryOperator → Rest → Joint
  Between : Bool → Rest → Joint
  In : Bool → Rest → Joint
  Postfix : PostfixOperator → Rest → Joint
  -- NOT, with none of the words that may stand behind it
  Dangling : Joint
  -- what belongs to a name or a call: a parenthesis, a dot, FILTER, OVER
  Tight : Joint
  Stop : Joint

abbrev pub joint_after_not : Rest → Joint
joint_after_not (Lexeme.Reserved k.Like ∷ ts) = Joint.Binary o.NotLike ts
joint_after_not (Lexeme.Reserved k.Between ∷ ts) = Joint.Between true ts
joint_after_not (Lexeme.Reserved k.In ∷ ts) = Joint.In true ts
joint_after_not _ = Joint.Dangling

abbrev pub joint_after_is : Rest → Joint
joint_after_is (Lexeme.Reserved k.Not ∷ ts) = Joint.Binary o.IsNot ts
joint_after_is ts = Joint.Binary o.Is ts

abbrev pub joint_word : Keyword → Rest → Joint
joint_word k.Or ts = Joint.Binary o.Or ts
joint_word k.And ts = Joint.Binary o.And ts
joint_word k.Is ts = joint_after_is ts
joint_word k.Like ts = Joint.Binary o.Like ts
joint_word k.Between ts = Joint.Between false ts
joint_word k.In ts = Joint.In false ts
joint_word k.Not ts = joint_after_not ts
joint_word k.IsNull ts = Joint.Postfix b.IsNull ts
joint_word k.NotNull ts = Joint.Postfix b.NotNull ts
joint_word k.Filter ts = Joint.Tight
joint_word k.Over ts = Joint.Tight
joint_word _ ts = Joint.Stop

abbrev pub joint_sign : Sign → Rest → Joint
joint_sign s.Equal ts = Joint.Binary o.Equal ts
joint_sign s.DoubleEqual ts = Joint.Binary o.Equal ts
joint_sign s.NotEqual ts = Joint.Binary o.NotEqual ts
joint_sign s.LessGreater ts = Joint.Binary o.NotEqual ts
joint_sign s.Less ts = Joint.Binary o.Less ts
joint_sign s.LessEqual ts = Joint.Binary o.LessEqual ts
joint_sign s.Greater ts = Joint.Binary o.Greater ts
joint_sign s.GreaterEqual ts = Joint.Binary o.GreaterEqual ts
joint_sign s.Ampersand ts = Joint.Binary o.BitAnd ts
joint_sign s.Bar ts = Joint.Binary o.BitOr ts
joint_sign s.Plus ts = Joint.Binary o.Add ts
joint_sign s.Minus ts = Joint.Binary o.Subtract ts
joint_sign s.Star ts = Joint.Binary o.Multiply ts
joint_sign s.Slash ts = Joint.Binary o.Divide ts
joint_sign s.Percent ts = Joint.Binary o.Remainder ts
joint_sign s.DoubleBar ts = Joint.Binary o.Concatenate ts
joint_sign s.Open ts = Joint.Tight
joint_sign s.Dot ts = Joint.Tight
joint_sign _ ts = Joint.Stop

abbrev pub joint : Rest → Joint
joint (Lexeme.Reserved word ∷ ts) = joint_word word ts
joint (Lexeme.Punctuation sign ∷ ts) = joint_sign sign ts
joint _ = Joint.Stop

-- behind the levels of the grammar on either side: looser than each, where an expression ends, and tighter than each
abbrev pub no_level : ℕ
no_level = 0

abbrev pub part_level : ℕ
part_level = 12

abbrev pub level_of_joint : Joint → ℕ
level_of_joint (Joint.Binary op ts) = level_of op
level_of_joint (Joint.Between n ts) = equality_level
level_of_joint (Joint.In n ts) = equality_level
level_of_joint (Joint.Postfix op ts) = equality_level
level_of_joint Joint.Dangling = equality_level
level_of_joint Joint.Tight = part_level
level_of_joint Joint.Stop = no_level

-- the level of what an expression goes on with, or no_level
abbrev pub binds : Rest → ℕ
binds ts = level_of_joint (joint ts)

-- what stands behind a name
pub data Following : Type 0 where
  Call : Rest → Following
  Dot : Rest → Following
  Else : Following

abbrev pub following : Rest → Following
following (Lexeme.Punctuation s.Open ∷ ts) = Following.Call ts
following (Lexeme.Punctuation s.Dot ∷ ts) = Following.Dot ts
following _ = Following.Else

-- what stands behind the parenthesis of a call
pub data Inside : Type 0 where
  Closed : Rest → Inside
  Star : Rest → Inside
  Arguments : Inside

abbrev pub inside : Rest → Inside
inside (Lexeme.Punctuation s.Close ∷ ts) = Inside.Closed ts
inside (Lexeme.Punctuation s.Star ∷ ts) = Inside.Star ts
inside _ = Inside.Arguments

-- what stands behind the parenthesis of IN
pub data Membership : Type 0 where
  Empty : Rest → Membership
  Query : Membership
  Members : Membership

abbrev pub membership : Rest → Membership
membership (Lexeme.Punctuation s.Close ∷ ts) = Membership.Empty ts
membership (Lexeme.Reserved k.Select ∷ ts) = Membership.Query
membership _ = Membership.Members

-- what a result column begins with, and what is behind it
pub data Beginning : Type 0 where
  Star : Rest → Beginning
  TableStar : Name → Rest → Beginning
  Expression : Beginning

abbrev pub behind_name : Name → Rest → Beginning
behind_name table (Lexeme.Punctuation s.Dot ∷ Lexeme.Punctuation s.Star ∷ ts) = Beginning.TableStar table ts
behind_name table _ = Beginning.Expression

abbrev pub beginning : Rest → Beginning
beginning (Lexeme.Punctuation s.Star ∷ ts) = Beginning.Star ts
beginning (Lexeme.Name q table ∷ ts) = behind_name table ts
beginning _ = Beginning.Expression

-- whether DISTINCT is written, and what is behind it
abbrev pub quantifier : Rest → Bool × Rest
quantifier (Lexeme.Reserved k.Distinct ∷ ts) = (true, ts)
quantifier (Lexeme.Reserved k.All ∷ ts) = (false, ts)
quantifier ts = (false, ts)

-- what stands between two SELECTs
abbrev pub union_of : Rest → CompoundOperator × Rest
union_of (Lexeme.Reserved k.All ∷ ts) = (c.UnionAll, ts)
union_of ts = (c.Union, ts)

abbrev pub compound : Rest → Option (CompoundOperator × Rest)
compound (Lexeme.Reserved k.Union ∷ ts) = Some (union_of ts)
compound (Lexeme.Reserved k.Intersect ∷ ts) = Some (c.Intersect, ts)
compound (Lexeme.Reserved k.Except ∷ ts) = Some (c.Except, ts)
compound _ = None

-- how the next source of FROM is joined, whether a condition stands behind it, and what is behind the words
pub record Joining : Type 0 where
  pub join : Join
  pub wants : Wants
  pub rest : Rest

abbrev pub joining : Join → Wants → Rest → Option Joining
joining join wants ts = Some (record { join = join; wants = wants; rest = ts })

abbrev pub outer : Join → Rest → Option Joining
outer join (Lexeme.Reserved k.Join ∷ ts) = joining join Wants.Always ts
outer join (Lexeme.Reserved k.Outer ∷ Lexeme.Reserved k.Join ∷ ts) = joining join Wants.Always ts
outer join _ = None

abbrev pub join_at : Rest → Option Joining
join_at (Lexeme.Punctuation s.Comma ∷ ts) = joining j.Inner Wants.Never ts
join_at (Lexeme.Reserved k.Cross ∷ Lexeme.Reserved k.Join ∷ ts) = joining j.Inner Wants.Never ts
join_at (Lexeme.Reserved k.Join ∷ ts) = joining j.Inner Wants.Maybe ts
join_at (Lexeme.Reserved k.Inner ∷ Lexeme.Reserved k.Join ∷ ts) = joining j.Inner Wants.Maybe ts
join_at (Lexeme.Reserved k.Left ∷ ts) = outer j.Left ts
join_at (Lexeme.Reserved k.Right ∷ ts) = outer j.Right ts
join_at (Lexeme.Reserved k.Full ∷ ts) = outer j.Full ts
join_at _ = None

-- whether the order descends, and what is behind that
abbrev pub turn : Rest → Bool × Rest
turn (Lexeme.Reserved k.Asc ∷ ts) = (false, ts)
turn (Lexeme.Reserved k.Desc ∷ ts) = (true, ts)
turn ts = (false, ts)

-- whether NULLs come first, behind what tells whether the order descends
abbrev pub nulls : Bool → Rest → Bool × Rest
nulls d (Lexeme.Reserved k.Nulls ∷ Lexeme.Reserved k.First ∷ ts) = (true, ts)
nulls d (Lexeme.Reserved k.Nulls ∷ Lexeme.Reserved k.Last ∷ ts) = (false, ts)
nulls d ts = (not d, ts)

abbrev pub unit_at : Rest → Option (FrameUnit × Rest)
unit_at (Lexeme.Reserved k.Rows ∷ ts) = Some (u.Rows, ts)
unit_at (Lexeme.Reserved k.Range ∷ ts) = Some (u.Range, ts)
unit_at (Lexeme.Reserved k.Groups ∷ ts) = Some (u.Groups, ts)
unit_at _ = None

-- behind EXCLUDE; all are the tokens from EXCLUDE on
abbrev pub excluded : Rest → Rest → Exclusion × Rest
excluded all (Lexeme.Reserved k.No ∷ Lexeme.Reserved k.Others ∷ ts) = (x.NoOthers, ts)
excluded all (Lexeme.Reserved k.Current ∷ Lexeme.Reserved k.Row ∷ ts) = (x.CurrentRow, ts)
excluded all (Lexeme.Reserved k.Group ∷ ts) = (x.Group, ts)
excluded all (Lexeme.Reserved k.Ties ∷ ts) = (x.Ties, ts)
excluded all _ = (x.NoOthers, all)

abbrev pub exclusion : Rest → Exclusion × Rest
exclusion (Lexeme.Reserved k.Exclude ∷ ts) = excluded (Lexeme.Reserved k.Exclude ∷ ts) ts
exclusion ts = (x.NoOthers, ts)

-- what is behind PARTITION BY, ORDER BY, GROUP BY
abbrev pub after_partition_by : Rest → Option Rest
after_partition_by (Lexeme.Reserved k.Partition ∷ Lexeme.Reserved k.By ∷ ts) = Some ts
after_partition_by _ = None

abbrev pub after_order_by : Rest → Option Rest
after_order_by (Lexeme.Reserved k.Order ∷ Lexeme.Reserved k.By ∷ ts) = Some ts
after_order_by _ = None

abbrev pub after_group_by : Rest → Option Rest
after_group_by (Lexeme.Reserved k.Group ∷ Lexeme.Reserved k.By ∷ ts) = Some ts
after_group_by _ = None

-- whether EXPLAIN QUERY PLAN is written, and what is behind it
abbrev pub explained : Rest → Bool × Rest
explained (Lexeme.Reserved k.Explain ∷ Lexeme.Reserved k.Query ∷ Lexeme.Reserved k.Plan ∷ ts) = (true, ts)
explained ts = (false, ts)
