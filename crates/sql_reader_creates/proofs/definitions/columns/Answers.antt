use Rattle.std.proofs.Common.{sym}
use Rattle.sql_reader_creates.proofs.CreateLemmas.{column_shortens}
use Rattle.sql_reader_grammar.proofs.lemmas.phrases.ListLemmas.{goes_more}
use Rattle.sql_reader_creates.proofs.definitions.columns.Goals as goal
use Rattle.sql_reader_creates.specs.column_reader.ColumnReading.{column}
use Rattle.sql_reader_creates.specs.CreateReading.{another_column, columns}
use Rattle.sql_reader_grammar.specs.create_trees.CreateView.{column_of}
use Rattle.sql_reader_grammar.specs.phrases.Texts.{lexemes_of}

pub loop-more-preserved : goal.loop-more-preserved
loop-more-preserved c =
    goes_more column_of another_column column column_shortens (columns (lexemes_of c.args.tokens.now))
    (lexemes_of c.loop-more.rest.now) (lexemes_of c.in-Some.more.now) (lexemes_of c.in_ok-next.after.now)
    c.loop-more.columns.items c.push-in-Some.new.self.items c.in_ok-next.next c.in_ok-push-2.ensures.items
    (sym c.in-Some.ensures.found) c.in_ok-next.ensures.value c.loop-more.invariant
