use Rattle.std.proofs.Common.{sym, ◌∙◌, arith}
use Rattle.std.proofs.lemmas.Result.{err_from_is_err_and}
use Rattle.sql_reader_grammar.specs.phrases.Texts.{lexemes_of}
use Rattle.sql_reader_creates.proofs.lemmas.column_reader.TypeLemmas.{word_wrong, words_first, words_found, words_more, words_wrong}
use Rattle.sql_reader_creates.proofs.column_reader.types.type_words.Goals as goal
use Rattle.sql_reader_creates.specs.column_reader.ColumnReading.{words}

pub loop-alloc-init : goal.loop-alloc-init
loop-alloc-init c = (
  words_first (lexemes_of c.args.tokens.now) (lexemes_of c.in_ok-first.rest.now) c.new-words.result.items c.push.new.self.items
      c.in_ok-first.first c.new-words.ensures.items c.in_ok-push.ensures.items c.requires c.in_ok-first.ensures.value,
  omega (arith, c.in_ok-first.ensures.shorter),
)

pub loop-alloc-preserved : goal.loop-alloc-preserved
loop-alloc-preserved c = (
  words_more (words (lexemes_of c.args.tokens.now)) (lexemes_of c.loop-alloc.rest.now) (lexemes_of c.in_ok-next.after.now)
      c.loop-alloc.words.items c.push-in-loop-alloc.new.self.items c.in_ok-next.next c.in_ok-push-2.ensures.items
      (sym c.begins_word.ensures ∙ c.loop-alloc-test.true) c.in_ok-next.ensures.value c.loop-alloc.invariant.0,
  omega (arith, c.in_ok-next.ensures.shorter, c.loop-alloc.invariant.1),
)

pub returns-clause-value : goal.returns-clause-value
returns-clause-value c =
    words_found (words (lexemes_of c.args.tokens.now)) (lexemes_of c.loop-alloc.rest.now) c.loop-alloc.words.items
    (sym c.begins_word.ensures ∙ c.loop-alloc-test.false) c.loop-alloc.invariant.0

pub returns-in_err-first-clause-value : goal.returns-in_err-first-clause-value
returns-in_err-first-clause-value c =
    let p = err_from_is_err_and c.from_residual.result c.from_residual.ensures.1 in
    rw (p.1, p.2) (word_wrong c.in_err-first.field-0.0 (lexemes_of c.args.tokens.now) c.requires c.in_err-first.ensures.value)

pub returns-in_err-next-clause-value : goal.returns-in_err-next-clause-value
returns-in_err-next-clause-value c =
    let p = err_from_is_err_and c.from_residual-in_err-next.result c.from_residual-in_err-next.ensures.1 in
    rw (p.1, p.2)
    (words_wrong c.in_err-next.field-0.0 (words (lexemes_of c.args.tokens.now)) (lexemes_of c.loop-alloc.rest.now)
    c.loop-alloc.words.items (sym c.begins_word.ensures ∙ c.loop-alloc-test.true) c.in_err-next.ensures.value
    c.loop-alloc.invariant.0)
