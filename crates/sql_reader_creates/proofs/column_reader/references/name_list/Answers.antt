use Rattle.std.proofs.Common.{string_bytes, sym, arith}
use Rattle.sql_reader_grammar.proofs.lemmas.phrases.ListLemmas.{goes_more}
use Rattle.sql_reader_grammar.specs.phrases.Steps.{after_comma, listed, name}
use Rattle.sql_reader_grammar.specs.phrases.Texts.{lexemes_of}
use Rattle.sql_reader_creates.proofs.lemmas.column_reader.ReferenceLemmas.{name_shortens}
use Rattle.sql_reader_creates.proofs.column_reader.references.name_list.Goals as goal

pub loop-more-preserved : goal.loop-more-preserved
loop-more-preserved c = record {
  all = goes_more (λ n. string_bytes n) after_comma name name_shortens (listed name (lexemes_of c.args.tokens.now))
      (lexemes_of c.loop-more.rest.now) (lexemes_of c.in-Some.more.now) (lexemes_of c.in_ok-next.after.now)
      c.loop-more.names.items c.push-in-Some.new.self.items c.in_ok-next.next c.in_ok-push-2.ensures.items
      (sym c.in-Some.ensures.found) c.in_ok-next.ensures.value c.loop-more.invariant.all;
  shorter = omega (arith, c.in_ok-next.ensures.shorter, c.in-Some.ensures.shorter, c.loop-more.invariant.shorter);
}
