-- What stands at the front of the tokens of a query, as the grammar says it.
use Rattle.sql_reader_grammar.specs.phrases.Texts.{lexemes_of}
use Rattle.sql_reader_tokens.specs.Content.{content_of}
use Rattle.sql_reader_grammar.specs.Clauses as clauses
use Rattle.sql_reader_grammar.specs.Fronts as spec
use Rattle.sql_reader_exprs.specs.declared.lookahead.query_fronts.Beginning.{Beginning}
use Rattle.sql_reader_exprs.specs.declared.lookahead.query_fronts.Beginning.TheVariants as b
use Rattle.sql_reader_exprs.specs.declared.lookahead.query_fronts.Joining.{Joining}
use Rattle.sql_reader_exprs.specs.declared.lookahead.query_fronts.Wants.{Wants}
use Rattle.sql_reader_exprs.specs.declared.lookahead.query_fronts.Wants.TheVariants as w

abbrev pub beginning_of : Beginning → spec.Beginning
beginning_of (b.Star rest) = spec.Beginning.Star (lexemes_of rest.now)
beginning_of (b.TableStar quoting inside rest) =
    spec.Beginning.TableStar (content_of quoting inside.now) (lexemes_of rest.now)
beginning_of b.Expression = spec.Beginning.Expression

abbrev pub wants_of : Wants → clauses.Wants
wants_of w.Never = clauses.Wants.Never
wants_of w.Maybe = clauses.Wants.Maybe
wants_of w.Always = clauses.Wants.Always

abbrev pub joining_of : Joining → spec.Joining
joining_of j = record { join = j.join; wants = wants_of j.wants; rest = lexemes_of j.rest.now }
