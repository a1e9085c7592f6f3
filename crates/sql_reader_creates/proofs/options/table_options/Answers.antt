use Rattle.std.proofs.Common.{sym}
use Rattle.sql_reader_grammar.proofs.lemmas.phrases.ListLemmas.{goes_more}
use Rattle.sql_reader_grammar.specs.phrases.Steps.{after_comma, listed}
use Rattle.sql_reader_grammar.specs.phrases.Texts.{lexemes_of}
use Rattle.sql_reader_creates.proofs.OptionLemmas.{nothing_left, option_shortens, options_end}
use Rattle.sql_reader_creates.proofs.options.table_options.Goals as goal
use Rattle.sql_reader_creates.specs.CreateReading.{table_option}
use Rattle.sql_reader_grammar.specs.declared.create_trees.create.TableOption.{TableOption}

pub loop-more-preserved : goal.loop-more-preserved
loop-more-preserved c =
    goes_more (λ (o : TableOption). o) after_comma table_option option_shortens
    (listed table_option (lexemes_of c.args.tokens.now))
    (lexemes_of c.loop-more.rest.now) (lexemes_of c.in-Some.more.now) (lexemes_of c.in_ok-next.after.now)
    c.loop-more.options.items c.push-in-Some.new.self.items c.in_ok-next.next c.in_ok-push-2.ensures.items
    (sym c.in-Some.ensures.found) c.in_ok-next.ensures.value c.loop-more.invariant

pub returns : goal.returns
returns c =
    options_end (lexemes_of c.args.tokens.now) (lexemes_of c.loop-more.rest.now) c.loop-more.options.items
    (sym c.in_default.ensures.found)
    (nothing_left c.loop-more.rest.now c.is_empty-2.result c.is_empty-2.ensures c.if-not-is_empty.false) c.loop-more.invariant
