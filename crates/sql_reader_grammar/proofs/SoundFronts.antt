-- What stands at the front of the tokens of an expression, as the grammar says it.
use Rattle.std.proofs.Common.{Bool, ◌∷◌}
use Rattle.sql_reader_tokens.specs.Lexeme.{Lexeme}
use Rattle.sql_reader_tokens.specs.declared.keywords.keyword.Keyword.TheVariants as k
use Rattle.sql_reader_tokens.specs.declared.sign.Sign.TheVariants as s
use Rattle.sql_reader_tokens.specs.declared.token.Quoting.{Quoting}
use Rattle.sql_reader_grammar.specs.phrases.Steps.{Rest}
use Rattle.sql_reader_syntax.specs.ExprTree.{ExprTree}
use Rattle.sql_reader_syntax.specs.Tree.{Name}
use Rattle.sql_reader_syntax.specs.declared.expr.BinaryOperator.{BinaryOperator}
use Rattle.sql_reader_syntax.specs.declared.expr.PostfixOperator.{PostfixOperator}
use Rattle.sql_reader_syntax.specs.declared.expr.PrefixOperator.{PrefixOperator}
use Rattle.sql_reader_grammar.specs.Fronts.{Following, Inside, Joint, Membership, Opening, following, inside, joint, membership, opening}
use Rattle.sql_reader_grammar.specs.Operators.{Follows, IsLiteral, MaybeNot, Precedes, Stands}

pub data Opens : Rest → Opening → Type 0 where
  value : {e : ExprTree} {word : Lexeme} {after : Rest} → IsLiteral e word
      → Opens (word ∷ after) (Opening.Value e after)
  word : {q : Quoting} {n : Name} {after : Rest} → Opens (Lexeme.Name q n ∷ after) (Opening.Word q n after)
  operator : {op : PrefixOperator} {word : Lexeme} {after : Rest} → Precedes op word
      → Opens (word ∷ after) (Opening.Operator op after)
  parenthesis : {after : Rest} → Opens (Lexeme.Punctuation s.Open ∷ after) (Opening.Parenthesis after)
  choice : {after : Rest} → Opens (Lexeme.Reserved k.Case ∷ after) (Opening.Choice after)
  existence : {after : Rest}
      → Opens (Lexeme.Reserved k.Exists ∷ Lexeme.Punctuation s.Open ∷ after) (Opening.Existence after)
  nothing : {from : Rest} → Opens from Opening.Nothing

pub opens : (ts : Rest) → Opens ts (opening ts)
opens (Lexeme.Number n ∷ ts) = Opens.value IsLiteral.number
opens (Lexeme.Text content ∷ ts) = Opens.value IsLiteral.text
opens (Lexeme.Blob bytes ∷ ts) = Opens.value IsLiteral.blob
opens (Lexeme.Name q n ∷ ts) = Opens.word
opens (Lexeme.Reserved k.Null ∷ ts) = Opens.value IsLiteral.null
opens (Lexeme.Reserved k.Not ∷ ts) = Opens.operator Precedes.not
opens (Lexeme.Reserved k.Case ∷ ts) = Opens.choice
opens (Lexeme.Reserved k.Exists ∷ Lexeme.Punctuation s.Open ∷ ts) = Opens.existence
opens (Lexeme.Punctuation s.Minus ∷ ts) = Opens.operator Precedes.minus
opens (Lexeme.Punctuation s.Plus ∷ ts) = Opens.operator Precedes.plus
opens (Lexeme.Punctuation s.Tilde ∷ ts) = Opens.operator Precedes.tilde
opens (Lexeme.Punctuation s.Open ∷ ts) = Opens.parenthesis
opens _ = Opens.nothing

pub data Continues : Rest → Joint → Type 0 where
  binary : {op : BinaryOperator} {from after : Rest} → Stands op from after → Continues from (Joint.Binary op after)
  between : {n : Bool} {from after : Rest} → MaybeNot k.Between n from after
      → Continues from (Joint.Between n after)
  within : {n : Bool} {from after : Rest} → MaybeNot k.In n from after → Continues from (Joint.In n after)
  postfix : {op : PostfixOperator} {word : Lexeme} {after : Rest} → Follows op word
      → Continues (word ∷ after) (Joint.Postfix op after)
  dangling : {from : Rest} → Continues from Joint.Dangling
  tight : {from : Rest} → Continues from Joint.Tight
  stop : {from : Rest} → Continues from Joint.Stop

pub continues : (ts : Rest) → Continues ts (joint ts)
continues (Lexeme.Reserved k.Or ∷ ts) = Continues.binary Stands.or
continues (Lexeme.Reserved k.And ∷ ts) = Continues.binary Stands.and
continues (Lexeme.Reserved k.Is ∷ Lexeme.Reserved k.Not ∷ ts) = Continues.binary Stands.is_not
continues (Lexeme.Reserved k.Is ∷ ts) = Continues.binary Stands.is
continues (Lexeme.Reserved k.Like ∷ ts) = Continues.binary Stands.like
continues (Lexeme.Reserved k.Between ∷ ts) = Continues.between MaybeNot.plain
continues (Lexeme.Reserved k.In ∷ ts) = Continues.within MaybeNot.plain
continues (Lexeme.Reserved k.Not ∷ Lexeme.Reserved k.Like ∷ ts) = Continues.binary Stands.not_like
continues (Lexeme.Reserved k.Not ∷ Lexeme.Reserved k.Between ∷ ts) = Continues.between MaybeNot.negated
continues (Lexeme.Reserved k.Not ∷ Lexeme.Reserved k.In ∷ ts) = Continues.within MaybeNot.negated
continues (Lexeme.Reserved k.Not ∷ ts) = Continues.dangling
continues (Lexeme.Reserved k.IsNull ∷ ts) = Continues.postfix Follows.is_null
continues (Lexeme.Reserved k.NotNull ∷ ts) = Continues.postfix Follows.not_null
continues (Lexeme.Punctuation s.Equal ∷ ts) = Continues.binary Stands.equal
continues (Lexeme.Punctuation s.DoubleEqual ∷ ts) = Continues.binary Stands.double_equal
continues (Lexeme.Punctuation s.NotEqual ∷ ts) = Continues.binary Stands.not_equal
continues (Lexeme.Punctuation s.LessGreater ∷ ts) = Continues.binary Stands.less_greater
continues (Lexeme.Punctuation s.Less ∷ ts) = Continues.binary Stands.less
continues (Lexeme.Punctuation s.LessEqual ∷ ts) = Continues.binary Stands.less_equal
continues (Lexeme.Punctuation s.Greater ∷ ts) = Continues.binary Stands.greater
continues (Lexeme.Punctuation s.GreaterEqual ∷ ts) = Continues.binary Stands.greater_equal
continues (Lexeme.Punctuation s.Ampersand ∷ ts) = Continues.binary Stands.ampersand
continues (Lexeme.Punctuation s.Bar ∷ ts) = Continues.binary Stands.bar
continues (Lexeme.Punctuation s.Plus ∷ ts) = Continues.binary Stands.plus
continues (Lexeme.Punctuation s.Minus ∷ ts) = Continues.binary Stands.minus
continues (Lexeme.Punctuation s.Star ∷ ts) = Continues.binary Stands.star
continues (Lexeme.Punctuation s.Slash ∷ ts) = Continues.binary Stands.slash
continues (Lexeme.Punctuation s.Percent ∷ ts) = Continues.binary Stands.percent
continues (Lexeme.Punctuation s.DoubleBar ∷ ts) = Continues.binary Stands.double_bar
continues (Lexeme.Punctuation s.Open ∷ ts) = Continues.tight
continues (Lexeme.Punctuation s.Dot ∷ ts) = Continues.tight
continues (Lexeme.Reserved k.Filter ∷ ts) = Continues.tight
continues (Lexeme.Reserved k.Over ∷ ts) = Continues.tight
continues _ = Continues.stop

pub data IsFollowed : Rest → Following → Type 0 where
  call : {after : Rest} → IsFollowed (Lexeme.Punctuation s.Open ∷ after) (Following.Call after)
  dot : {after : Rest} → IsFollowed (Lexeme.Punctuation s.Dot ∷ after) (Following.Dot after)
  other : {from : Rest} → IsFollowed from Following.Else

pub followed : (ts : Rest) → IsFollowed ts (following ts)
followed (Lexeme.Punctuation s.Open ∷ ts) = IsFollowed.call
followed (Lexeme.Punctuation s.Dot ∷ ts) = IsFollowed.dot
followed _ = IsFollowed.other

pub data Holds : Rest → Inside → Type 0 where
  closed : {after : Rest} → Holds (Lexeme.Punctuation s.Close ∷ after) (Inside.Closed after)
  star : {after : Rest} → Holds (Lexeme.Punctuation s.Star ∷ after) (Inside.Star after)
  arguments : {from : Rest} → Holds from Inside.Arguments

pub holds : (ts : Rest) → Holds ts (inside ts)
holds (Lexeme.Punctuation s.Close ∷ ts) = Holds.closed
holds (Lexeme.Punctuation s.Star ∷ ts) = Holds.star
holds _ = Holds.arguments

pub data HasMembers : Rest → Membership → Type 0 where
  empty : {after : Rest} → HasMembers (Lexeme.Punctuation s.Close ∷ after) (Membership.Empty after)
  query : {from : Rest} → HasMembers from Membership.Query
  members : {from : Rest} → HasMembers from Membership.Members

pub has_members : (ts : Rest) → HasMembers ts (membership ts)
has_members (Lexeme.Punctuation s.Close ∷ ts) = HasMembers.empty
has_members (Lexeme.Reserved k.Select ∷ ts) = HasMembers.query
has_members _ = HasMembers.members
