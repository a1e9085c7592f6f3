-- What stands at the front of the tokens of an expression, as the grammar says it.
use Rattle.std.specs.Prelude.{false}
use Rattle.sql_reader_grammar.specs.phrases.Texts.{lexemes_of}
use Rattle.sql_reader_syntax.specs.ExprTree.{ExprTree}
use Rattle.sql_reader_tokens.specs.Content.{content_of, undoubled, unhex}
use Rattle.sql_reader_grammar.specs.Fronts as spec
use Rattle.sql_reader_exprs.specs.declared.lookahead.expression_fronts.Following.{Following}
use Rattle.sql_reader_exprs.specs.declared.lookahead.expression_fronts.Following.TheVariants as n
use Rattle.sql_reader_exprs.specs.declared.lookahead.expression_fronts.Inside.{Inside}
use Rattle.sql_reader_exprs.specs.declared.lookahead.expression_fronts.Inside.TheVariants as i
use Rattle.sql_reader_exprs.specs.declared.lookahead.expression_fronts.Joint.{Joint}
use Rattle.sql_reader_exprs.specs.declared.lookahead.expression_fronts.Joint.TheVariants as j
use Rattle.sql_reader_exprs.specs.declared.lookahead.expression_fronts.Literal.{Literal}
use Rattle.sql_reader_exprs.specs.declared.lookahead.expression_fronts.Literal.TheVariants as l
use Rattle.sql_reader_exprs.specs.declared.lookahead.expression_fronts.Membership.{Membership}
use Rattle.sql_reader_exprs.specs.declared.lookahead.expression_fronts.Membership.TheVariants as m
use Rattle.sql_reader_exprs.specs.declared.lookahead.expression_fronts.Opening.{Opening}
use Rattle.sql_reader_exprs.specs.declared.lookahead.expression_fronts.Opening.TheVariants as o

abbrev pub literal_of : Literal → ExprTree
literal_of l.Null = ExprTree.Null
literal_of (l.Number n) = ExprTree.Number n
literal_of (l.Text inside) = ExprTree.Text (undoubled 39 false inside.now)
literal_of (l.Blob digits) = ExprTree.Blob (unhex digits.now)

abbrev pub opening_of : Opening → spec.Opening
opening_of (o.Value value rest) = spec.Opening.Value (literal_of value) (lexemes_of rest.now)
opening_of (o.Word quoting inside rest) = spec.Opening.Word quoting (content_of quoting inside.now) (lexemes_of rest.now)
opening_of (o.Operator op rest) = spec.Opening.Operator op (lexemes_of rest.now)
opening_of (o.Parenthesis rest) = spec.Opening.Parenthesis (lexemes_of rest.now)
opening_of (o.Choice rest) = spec.Opening.Choice (lexemes_of rest.now)
opening_of (o.Existence rest) = spec.Opening.Existence (lexemes_of rest.now)
opening_of o.Nothing = spec.Opening.Nothing

abbrev pub joint_of : Joint → spec.Joint
joint_of (j.Binary op rest) = spec.Joint.Binary op (lexemes_of rest.now)
joint_of (j.Between negated rest) = spec.Joint.Between negated (lexemes_of rest.now)
joint_of (j.In negated rest) = spec.Joint.In negated (lexemes_of rest.now)
joint_of (j.Postfix op rest) = spec.Joint.Postfix op (lexemes_of rest.now)
joint_of j.Dangling = spec.Joint.Dangling
joint_of j.Tight = spec.Joint.Tight
joint_of j.Stop = spec.Joint.Stop

abbrev pub following_of : Following → spec.Following
following_of (n.Call rest) = spec.Following.Call (lexemes_of rest.now)
following_of (n.Dot rest) = spec.Following.Dot (lexemes_of rest.now)
following_of n.Else = spec.Following.Else

abbrev pub inside_of : Inside → spec.Inside
inside_of (i.Closed rest) = spec.Inside.Closed (lexemes_of rest.now)
inside_of (i.Star rest) = spec.Inside.Star (lexemes_of rest.now)
inside_of i.Arguments = spec.Inside.Arguments

abbrev pub membership_of : Membership → spec.Membership
membership_of (m.Empty rest) = spec.Membership.Empty (lexemes_of rest.now)
membership_of m.Query = spec.Membership.Query
membership_of m.Members = spec.Membership.Members
