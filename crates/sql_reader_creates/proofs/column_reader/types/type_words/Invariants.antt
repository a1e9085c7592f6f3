use Rattle.std.proofs.Common.{length, string_bytes, ◌≤◌}
use Rattle.sql_reader_grammar.proofs.lemmas.phrases.ListLemmas.{GoesOn}
use Rattle.sql_reader_grammar.specs.phrases.Steps.{name}
use Rattle.sql_reader_grammar.specs.phrases.Texts.{lexemes_of}
use Rattle.sql_reader_creates.proofs.column_reader.types.type_words.Given as goal
use Rattle.sql_reader_creates.specs.column_reader.ColumnReading.{at_word, words}

abbrev pub invariant-loop-alloc : goal.invariant-loop-alloc
invariant-loop-alloc l =
    GoesOn (λ n. string_bytes n) at_word name (words (lexemes_of l.fn.tokens)) l.words.items (lexemes_of l.rest)
    × (length l.rest ≤ length l.fn.tokens)

abbrev pub decreases-loop-alloc : goal.decreases-loop-alloc
decreases-loop-alloc l = length l.rest
