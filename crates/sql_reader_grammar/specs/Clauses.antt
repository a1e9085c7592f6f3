-- Phrases of a statement in which no expression stands. `X tree from after` says that the tokens of from, up to where
-- after begins, spell the tree as a phrase of this kind. There is one constructor for each production.
use Rattle.std.specs.Prelude.{Bool, true, false, ℕ, ℤ, neg_ℤ, List, [], ◌∷◌, Option, Some, None}
use Rattle.sql_reader_tokens.specs.Lexeme.{Lexeme}
use Rattle.sql_reader_tokens.specs.declared.keywords.keyword.Keyword.TheVariants as k
use Rattle.sql_reader_tokens.specs.declared.sign.Sign.TheVariants as s
use Rattle.sql_reader_tokens.specs.declared.token.Quoting.{Quoting}
use Rattle.sql_reader_syntax.specs.ExprTree.{NameTree}
use Rattle.sql_reader_syntax.specs.Tree.{Name}
use Rattle.sql_reader_syntax.specs.declared.query.CompoundOperator.{CompoundOperator}
use Rattle.sql_reader_syntax.specs.declared.query.CompoundOperator.TheVariants as c
use Rattle.sql_reader_syntax.specs.declared.query.Direction.{Direction}
use Rattle.sql_reader_syntax.specs.declared.query.Edge.{Edge}
use Rattle.sql_reader_syntax.specs.declared.query.Edge.TheVariants as e
use Rattle.sql_reader_syntax.specs.declared.query.Exclusion.{Exclusion}
use Rattle.sql_reader_syntax.specs.declared.query.Exclusion.TheVariants as x
use Rattle.sql_reader_syntax.specs.declared.query.Frame.{Frame}
use Rattle.sql_reader_syntax.specs.declared.query.FrameUnit.{FrameUnit}
use Rattle.sql_reader_syntax.specs.declared.query.FrameUnit.TheVariants as u
use Rattle.sql_reader_syntax.specs.declared.query.Join.{Join}
use Rattle.sql_reader_syntax.specs.declared.query.Join.TheVariants as j

abbrev pub Tokens : Type 0
Tokens = List Lexeme

-- Names

pub data Names : Name → Tokens → Tokens → Type 0 where
  name : {q : Quoting} {n : Name} {after : Tokens} → Names n (Lexeme.Name q n ∷ after) after

-- [[AS] name], behind a result column with this source text
pub data Titles (source : List ℕ) : NameTree → Tokens → Tokens → Type 0 where
  untitled : {after : Tokens} → Titles source (NameTree.SourceText source) after after
  alias : {q : Quoting} {n : Name} {after : Tokens}
      → Titles source (NameTree.Alias n) (Lexeme.Name q n ∷ after) after
  as_alias : {q : Quoting} {n : Name} {after : Tokens}
      → Titles source (NameTree.Alias n) (Lexeme.Reserved k.As ∷ Lexeme.Name q n ∷ after) after

-- [[AS] name], behind a source
pub data Aliases : Option Name → Tokens → Tokens → Type 0 where
  no_alias : {after : Tokens} → Aliases None after after
  alias : {q : Quoting} {n : Name} {after : Tokens} → Aliases (Some n) (Lexeme.Name q n ∷ after) after
  as_alias : {q : Quoting} {n : Name} {after : Tokens}
      → Aliases (Some n) (Lexeme.Reserved k.As ∷ Lexeme.Name q n ∷ after) after

-- Queries

-- [DISTINCT | ALL]
pub data Quantifies : Bool → Tokens → Tokens → Type 0 where
  plain : {after : Tokens} → Quantifies false after after
  all : {after : Tokens} → Quantifies false (Lexeme.Reserved k.All ∷ after) after
  distinct : {after : Tokens} → Quantifies true (Lexeme.Reserved k.Distinct ∷ after) after

-- UNION | UNION ALL | INTERSECT | EXCEPT
pub data Compounds : CompoundOperator → Tokens → Tokens → Type 0 where
  union : {after : Tokens} → Compounds c.Union (Lexeme.Reserved k.Union ∷ after) after
  union_all : {after : Tokens} → Compounds c.UnionAll (Lexeme.Reserved k.Union ∷ Lexeme.Reserved k.All ∷ after) after
  intersect : {after : Tokens} → Compounds c.Intersect (Lexeme.Reserved k.Intersect ∷ after) after
  except : {after : Tokens} → Compounds c.Except (Lexeme.Reserved k.Except ∷ after) after

-- whether ON or USING stands behind a join's source
pub data Wants : Type 0 where
  Never : Wants
  Maybe : Wants
  Always : Wants

abbrev pub may_have : Wants → Bool
may_have Never = false
may_have Maybe = true
may_have Always = true

abbrev pub may_lack : Wants → Bool
may_lack Never = true
may_lack Maybe = true
may_lack Always = false

-- [OUTER] JOIN
pub data Outer : Tokens → Tokens → Type 0 where
  join : {after : Tokens} → Outer (Lexeme.Reserved k.Join ∷ after) after
  outer : {after : Tokens} → Outer (Lexeme.Reserved k.Outer ∷ Lexeme.Reserved k.Join ∷ after) after

-- "," | CROSS JOIN | [INNER] JOIN | (LEFT | RIGHT | FULL) [OUTER] JOIN
pub data Joins : Join → Wants → Tokens → Tokens → Type 0 where
  comma : {after : Tokens} → Joins j.Inner Wants.Never (Lexeme.Punctuation s.Comma ∷ after) after
  cross : {after : Tokens}
      → Joins j.Inner Wants.Never (Lexeme.Reserved k.Cross ∷ Lexeme.Reserved k.Join ∷ after) after
  join : {after : Tokens} → Joins j.Inner Wants.Maybe (Lexeme.Reserved k.Join ∷ after) after
  inner : {after : Tokens}
      → Joins j.Inner Wants.Maybe (Lexeme.Reserved k.Inner ∷ Lexeme.Reserved k.Join ∷ after) after
  left : {from after : Tokens} → Outer from after → Joins j.Left Wants.Always (Lexeme.Reserved k.Left ∷ from) after
  right : {from after : Tokens} → Outer from after → Joins j.Right Wants.Always (Lexeme.Reserved k.Right ∷ from) after
  full : {from after : Tokens} → Outer from after → Joins j.Full Wants.Always (Lexeme.Reserved k.Full ∷ from) after

-- Order

-- [ASC | DESC]
pub data Turns : Bool → Tokens → Tokens → Type 0 where
  plain : {after : Tokens} → Turns false after after
  ascending : {after : Tokens} → Turns false (Lexeme.Reserved k.Asc ∷ after) after
  descending : {after : Tokens} → Turns true (Lexeme.Reserved k.Desc ∷ after) after

-- [NULLS FIRST | NULLS LAST], behind what tells whether the order descends
pub data PlacesNulls : Bool → Bool → Tokens → Tokens → Type 0 where
  ascending : {after : Tokens} → PlacesNulls false true after after
  descending : {after : Tokens} → PlacesNulls true false after after
  first : {d : Bool} {after : Tokens}
      → PlacesNulls d true (Lexeme.Reserved k.Nulls ∷ Lexeme.Reserved k.First ∷ after) after
  last : {d : Bool} {after : Tokens}
      → PlacesNulls d false (Lexeme.Reserved k.Nulls ∷ Lexeme.Reserved k.Last ∷ after) after

-- [ASC | DESC] [NULLS FIRST | NULLS LAST]
pub data Directs : Direction → Tokens → Tokens → Type 0 where
  directs : {d n : Bool} {from mid after : Tokens} → Turns d from mid → PlacesNulls d n mid after
      → Directs (record { descending = d; nulls_first = n }) from after

-- Frames

-- ROWS | RANGE | GROUPS
pub data Units : FrameUnit → Tokens → Tokens → Type 0 where
  rows : {after : Tokens} → Units u.Rows (Lexeme.Reserved k.Rows ∷ after) after
  range : {after : Tokens} → Units u.Range (Lexeme.Reserved k.Range ∷ after) after
  groups : {after : Tokens} → Units u.Groups (Lexeme.Reserved k.Groups ∷ after) after

-- UNBOUNDED PRECEDING | number PRECEDING | CURRENT ROW | number FOLLOWING | UNBOUNDED FOLLOWING
pub data Edges : Edge → Tokens → Tokens → Type 0 where
  unbounded_preceding : {after : Tokens}
      → Edges e.UnboundedPreceding (Lexeme.Reserved k.Unbounded ∷ Lexeme.Reserved k.Preceding ∷ after) after
  preceding : {n : ℤ} {after : Tokens} → Edges (e.Preceding n) (Lexeme.Number n ∷ Lexeme.Reserved k.Preceding ∷ after) after
  current_row : {after : Tokens}
      → Edges e.CurrentRow (Lexeme.Reserved k.Current ∷ Lexeme.Reserved k.Row ∷ after) after
  following : {n : ℤ} {after : Tokens} → Edges (e.Following n) (Lexeme.Number n ∷ Lexeme.Reserved k.Following ∷ after) after
  unbounded_following : {after : Tokens}
      → Edges e.UnboundedFollowing (Lexeme.Reserved k.Unbounded ∷ Lexeme.Reserved k.Following ∷ after) after

-- edge | BETWEEN edge AND edge
pub data Spans : Edge → Edge → Tokens → Tokens → Type 0 where
  alone : {start : Edge} {from after : Tokens} → Edges start from after → Spans start e.CurrentRow from after
  between : {start end : Edge} {from mid after : Tokens} → Edges start from (Lexeme.Reserved k.And ∷ mid)
      → Edges end mid after → Spans start end (Lexeme.Reserved k.Between ∷ from) after

-- [EXCLUDE (NO OTHERS | CURRENT ROW | GROUP | TIES)]
pub data Excludes : Exclusion → Tokens → Tokens → Type 0 where
  nothing : {after : Tokens} → Excludes x.NoOthers after after
  no_others : {after : Tokens} → Excludes x.NoOthers
      (Lexeme.Reserved k.Exclude ∷ Lexeme.Reserved k.No ∷ Lexeme.Reserved k.Others ∷ after) after
  current_row : {after : Tokens} → Excludes x.CurrentRow
      (Lexeme.Reserved k.Exclude ∷ Lexeme.Reserved k.Current ∷ Lexeme.Reserved k.Row ∷ after) after
  group : {after : Tokens} → Excludes x.Group (Lexeme.Reserved k.Exclude ∷ Lexeme.Reserved k.Group ∷ after) after
  ties : {after : Tokens} → Excludes x.Ties (Lexeme.Reserved k.Exclude ∷ Lexeme.Reserved k.Ties ∷ after) after

-- [(ROWS | RANGE | GROUPS) (edge | BETWEEN edge AND edge) [EXCLUDE ..]]
pub data Frames : Option Frame → Tokens → Tokens → Type 0 where
  no_frame : {after : Tokens} → Frames None after after
  frame : {unit : FrameUnit} {start end : Edge} {exclusion : Exclusion} {from mid rest after : Tokens}
      → Units unit from mid → Spans start end mid rest → Excludes exclusion rest after
      → Frames (Some (record { unit = unit; start = start; end = end; exclusion = exclusion })) from after

-- The end of a statement

-- ["-"] number
pub data Whole : ℤ → Tokens → Tokens → Type 0 where
  number : {n : ℤ} {after : Tokens} → Whole n (Lexeme.Number n ∷ after) after
  minus : {n : ℤ} {after : Tokens} → Whole (neg_ℤ n) (Lexeme.Punctuation s.Minus ∷ Lexeme.Number n ∷ after) after

-- [OFFSET int]
pub data Offsets : Option ℤ → Tokens → Tokens → Type 0 where
  no_offset : {after : Tokens} → Offsets None after after
  offset : {n : ℤ} {from after : Tokens} → Whole n from after → Offsets (Some n) (Lexeme.Reserved k.Offset ∷ from) after

-- [LIMIT int [OFFSET int]]
pub data Limits : Option ℤ → Option ℤ → Tokens → Tokens → Type 0 where
  no_limit : {after : Tokens} → Limits None None after after
  limit : {n : ℤ} {m : Option ℤ} {from mid after : Tokens} → Whole n from mid → Offsets m mid after
      → Limits (Some n) m (Lexeme.Reserved k.Limit ∷ from) after

-- [";"]
pub data Ends : Tokens → Type 0 where
  nothing : Ends []
  semicolon : Ends (Lexeme.Punctuation s.Semicolon ∷ [])
