-- The operators of expressions, and where each stands. (SQL Language Expressions, "Operators, and Parse-Affecting
-- Attributes"). `X tree from after` says that the tokens of from, up to where after begins, spell the tree.
use Rattle.std.specs.Prelude.{Bool, true, false, ℕ, ℤ, List, ◌∷◌}
use Rattle.sql_reader_tokens.specs.Lexeme.{Lexeme}
use Rattle.sql_reader_tokens.specs.declared.keywords.keyword.Keyword.{Keyword}
use Rattle.sql_reader_tokens.specs.declared.keywords.keyword.Keyword.TheVariants as k
use Rattle.sql_reader_tokens.specs.declared.sign.Sign.TheVariants as s
use Rattle.sql_reader_syntax.specs.ExprTree.{ExprTree}
use Rattle.sql_reader_syntax.specs.declared.expr.BinaryOperator.{BinaryOperator}
use Rattle.sql_reader_syntax.specs.declared.expr.BinaryOperator.TheVariants as o
use Rattle.sql_reader_syntax.specs.declared.expr.PostfixOperator.{PostfixOperator}
use Rattle.sql_reader_syntax.specs.declared.expr.PostfixOperator.TheVariants as b
use Rattle.sql_reader_syntax.specs.declared.expr.PrefixOperator.{PrefixOperator}
use Rattle.sql_reader_syntax.specs.declared.expr.PrefixOperator.TheVariants as p

-- The levels of the grammar, from the loosest to the tightest, as that section's table has them from its end upward. An
-- expression of a level holds operators of this level and of tighter ones outside parentheses; so an expression of or_level
-- is any.

-- OR
abbrev pub or_level : ℕ
or_level = 1

-- AND
abbrev pub and_level : ℕ
and_level = 2

-- NOT
abbrev pub not_level : ℕ
not_level = 3

-- `=`, `<>`, IS, LIKE, BETWEEN, IN, ISNULL, NOTNULL
abbrev pub equality_level : ℕ
equality_level = 4

-- `<`, `<=`, `>`, `>=`
abbrev pub comparison_level : ℕ
comparison_level = 5

-- `&`, `|`
abbrev pub bits_level : ℕ
bits_level = 6

-- `+` and `-` between two operands
abbrev pub sum_level : ℕ
sum_level = 7

-- `*`, `/`, `%`
abbrev pub product_level : ℕ
product_level = 8

-- `||`
abbrev pub concatenation_level : ℕ
concatenation_level = 9

-- `-`, `+`, `~` before an operand
abbrev pub sign_level : ℕ
sign_level = 10

-- what stands alone: a literal, a name, a call, CASE, EXISTS, parentheses
abbrev pub primary_level : ℕ
primary_level = 11

-- the level of the phrases that an operator makes
abbrev pub level_of : BinaryOperator → ℕ
level_of o.Or = or_level
level_of o.And = and_level
level_of o.Equal = equality_level
level_of o.NotEqual = equality_level
level_of o.Is = equality_level
level_of o.IsNot = equality_level
level_of o.Like = equality_level
level_of o.NotLike = equality_level
level_of o.Less = comparison_level
level_of o.LessEqual = comparison_level
level_of o.Greater = comparison_level
level_of o.GreaterEqual = comparison_level
level_of o.BitAnd = bits_level
level_of o.BitOr = bits_level
level_of o.Add = sum_level
level_of o.Subtract = sum_level
level_of o.Multiply = product_level
level_of o.Divide = product_level
level_of o.Remainder = product_level
level_of o.Concatenate = concatenation_level

abbrev pub level_of_prefix : PrefixOperator → ℕ
level_of_prefix p.Not = not_level
level_of_prefix p.Minus = sign_level
level_of_prefix p.Plus = sign_level
level_of_prefix p.BitNot = sign_level

-- Stands operator from after: the operator stands at the front of from, and after is what is behind it
pub data Stands : BinaryOperator → List Lexeme → List Lexeme → Type 0 where
  or : {after : List Lexeme} → Stands o.Or (Lexeme.Reserved k.Or ∷ after) after
  and : {after : List Lexeme} → Stands o.And (Lexeme.Reserved k.And ∷ after) after
  equal : {after : List Lexeme} → Stands o.Equal (Lexeme.Punctuation s.Equal ∷ after) after
  double_equal : {after : List Lexeme} → Stands o.Equal (Lexeme.Punctuation s.DoubleEqual ∷ after) after
  not_equal : {after : List Lexeme} → Stands o.NotEqual (Lexeme.Punctuation s.NotEqual ∷ after) after
  less_greater : {after : List Lexeme} → Stands o.NotEqual (Lexeme.Punctuation s.LessGreater ∷ after) after
  is : {after : List Lexeme} → Stands o.Is (Lexeme.Reserved k.Is ∷ after) after
  is_not : {after : List Lexeme} → Stands o.IsNot (Lexeme.Reserved k.Is ∷ Lexeme.Reserved k.Not ∷ after) after
  like : {after : List Lexeme} → Stands o.Like (Lexeme.Reserved k.Like ∷ after) after
  not_like : {after : List Lexeme} → Stands o.NotLike (Lexeme.Reserved k.Not ∷ Lexeme.Reserved k.Like ∷ after) after
  less : {after : List Lexeme} → Stands o.Less (Lexeme.Punctuation s.Less ∷ after) after
  less_equal : {after : List Lexeme} → Stands o.LessEqual (Lexeme.Punctuation s.LessEqual ∷ after) after
  greater : {after : List Lexeme} → Stands o.Greater (Lexeme.Punctuation s.Greater ∷ after) after
  greater_equal : {after : List Lexeme} → Stands o.GreaterEqual (Lexeme.Punctuation s.GreaterEqual ∷ after) after
  ampersand : {after : List Lexeme} → Stands o.BitAnd (Lexeme.Punctuation s.Ampersand ∷ after) after
  bar : {after : List Lexeme} → Stands o.BitOr (Lexeme.Punctuation s.Bar ∷ after) after
  plus : {after : List Lexeme} → Stands o.Add (Lexeme.Punctuation s.Plus ∷ after) after
  minus : {after : List Lexeme} → Stands o.Subtract (Lexeme.Punctuation s.Minus ∷ after) after
  star : {after : List Lexeme} → Stands o.Multiply (Lexeme.Punctuation s.Star ∷ after) after
  slash : {after : List Lexeme} → Stands o.Divide (Lexeme.Punctuation s.Slash ∷ after) after
  percent : {after : List Lexeme} → Stands o.Remainder (Lexeme.Punctuation s.Percent ∷ after) after
  double_bar : {after : List Lexeme} → Stands o.Concatenate (Lexeme.Punctuation s.DoubleBar ∷ after) after

pub data Precedes : PrefixOperator → Lexeme → Type 0 where
  not : Precedes p.Not (Lexeme.Reserved k.Not)
  minus : Precedes p.Minus (Lexeme.Punctuation s.Minus)
  plus : Precedes p.Plus (Lexeme.Punctuation s.Plus)
  tilde : Precedes p.BitNot (Lexeme.Punctuation s.Tilde)

pub data Follows : PostfixOperator → Lexeme → Type 0 where
  is_null : Follows b.IsNull (Lexeme.Reserved k.IsNull)
  not_null : Follows b.NotNull (Lexeme.Reserved k.NotNull)

-- [NOT] word, and whether NOT is written
pub data MaybeNot (word : Keyword) : Bool → List Lexeme → List Lexeme → Type 0 where
  plain : {after : List Lexeme} → MaybeNot word false (Lexeme.Reserved word ∷ after) after
  negated : {after : List Lexeme} → MaybeNot word true (Lexeme.Reserved k.Not ∷ Lexeme.Reserved word ∷ after) after

-- number | text | blob | NULL
pub data IsLiteral : ExprTree → Lexeme → Type 0 where
  number : {n : ℤ} → IsLiteral (ExprTree.Number n) (Lexeme.Number n)
  text : {content : List ℕ} → IsLiteral (ExprTree.Text content) (Lexeme.Text content)
  blob : {bytes : List ℕ} → IsLiteral (ExprTree.Blob bytes) (Lexeme.Blob bytes)
  null : IsLiteral ExprTree.Null (Lexeme.Reserved k.Null)
