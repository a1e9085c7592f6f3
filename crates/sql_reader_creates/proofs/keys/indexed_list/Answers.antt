use Rattle.std.proofs.Common.{sym, arith}
use Rattle.sql_reader_grammar.proofs.lemmas.phrases.ListLemmas.{goes_more}
use Rattle.sql_reader_grammar.specs.phrases.Steps.{after_comma, listed}
use Rattle.sql_reader_grammar.specs.phrases.Texts.{lexemes_of}
use Rattle.sql_reader_creates.proofs.KeyLemmas.{indexed_shortens}
use Rattle.sql_reader_creates.proofs.keys.indexed_list.Goals as goal
use Rattle.sql_reader_creates.specs.CreateReading.{indexed}
use Rattle.sql_reader_grammar.specs.create_trees.CreateView.{indexed_of}

pub loop-more-preserved : goal.loop-more-preserved
loop-more-preserved c = record {
  all = goes_more indexed_of after_comma indexed indexed_shortens (listed indexed (lexemes_of c.args.tokens.now))
      (lexemes_of c.loop-more.rest.now) (lexemes_of c.in-Some.more.now) (lexemes_of c.in_ok-next.after.now)
      c.loop-more.columns.items c.push-in-Some.new.self.items c.in_ok-next.next c.in_ok-push-2.ensures.items
      (sym c.in-Some.ensures.found) c.in_ok-next.ensures.value c.loop-more.invariant.all;
  shorter = omega (arith, c.in_ok-next.ensures.shorter, c.in-Some.ensures.shorter, c.loop-more.invariant.shorter);
}
