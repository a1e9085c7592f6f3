use Rattle.std.proofs.Common.{List, Ok, subst}
use Rattle.std.proofs.lemmas.Result.{err_from_is_err_and}
use Rattle.sql_reader_grammar.specs.phrases.Texts.{lexemes_of}
use Rattle.sql_reader_tokens.specs.source_texts.Sources.{source_of}
use Rattle.sql_reader.proofs.TextLemmas.{statement_spelt, too_large}
use Rattle.sql_reader.proofs.statements.read_select.Goals as goal
use Rattle.sql_reader.specs.Told.{TellsOfStatement}
use Rattle.sql_reader_grammar.specs.statement_trees.StatementView.{statement_of}
use Rattle.sql_reader_tokens.specs.declared.token.Token.{Token}

pub returns-in_err-check_limits-clause-refused : goal.returns-in_err-check_limits-clause-refused
returns-in_err-check_limits-clause-refused c =
    let items = c.in_ok-tokens.tokens.items in
    let statement = c.in_ok-statement.statement in
    let told = subst (λ (ts : List Token). TellsOfStatement (source_of c.args.text.now ts) (lexemes_of ts) (Ok statement))
    c.as_slice.ensures.value c.in_ok-statement.ensures in
    let p = err_from_is_err_and c.from_residual-in_err-check_limits.result c.from_residual-in_err-check_limits.ensures.1 in
    rw (p.1, p.2) (too_large c.args.text.now (statement_of statement) c.check_limits.result c.in_err-check_limits.field-0.0
    (statement_spelt c.args.text.now items statement c.in_ok-tokens.ensures.spelt told) c.check_limits.ensures.within
    c.check_limits.ensures.beyond c.in_err-check_limits.was)
