use Rattle.std.proofs.Common.{sym}
use Rattle.sql_reader_grammar.proofs.lemmas.phrases.ListLemmas.{goes_from_nothing, goes_more}
use Rattle.sql_reader_grammar.specs.phrases.Steps.{after_comma}
use Rattle.sql_reader_grammar.specs.phrases.Texts.{lexemes_of}
use Rattle.sql_reader_creates.proofs.TableLemmas.{constraint_shortens}
use Rattle.sql_reader_creates.proofs.definitions.definitions.Goals as goal
use Rattle.sql_reader_creates.specs.CreateReading.{constraint, constraints}
use Rattle.sql_reader_grammar.specs.create_trees.CreateView.{table_constraint_of}

pub loop-more-init : goal.loop-more-init
loop-more-init c =
    goes_from_nothing table_constraint_of after_comma constraint (lexemes_of c.in_ok-columns.rest.now)
    c.new-constraints.result.items c.new-constraints.ensures.items

pub loop-more-preserved : goal.loop-more-preserved
loop-more-preserved c =
    goes_more table_constraint_of after_comma constraint constraint_shortens (constraints (lexemes_of c.in_ok-columns.rest.now))
    (lexemes_of c.loop-more.rest.now) (lexemes_of c.in-Some.more.now) (lexemes_of c.in_ok-next.after.now)
    c.loop-more.constraints.items c.push.new.self.items c.in_ok-next.next c.in_ok-push.ensures.items
    (sym c.in-Some.ensures.found) c.in_ok-next.ensures.value c.loop-more.invariant
