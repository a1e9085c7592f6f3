use Rattle.std.proofs.Common.{◌≤◌, List, length}
use Rattle.sql_reader_grammar.proofs.lemmas.phrases.ListLemmas.{GoesOn}
use Rattle.sql_reader_grammar.specs.phrases.Texts.{lexemes_of}
use Rattle.sql_reader_creates.proofs.column_reader.references.after_reference.Given as goal
use Rattle.sql_reader_creates.specs.column_reader.ColumnReading.{act, acts, after_on}

-- some acts are behind
abbrev pub invariant-loop-act : goal.invariant-loop-act
invariant-loop-act l = record {
  all : (front : List (Unit {0}))
      × GoesOn (λ (u : Unit {0}). u) after_on act (acts (lexemes_of l.initial.rest)) front (lexemes_of l.rest);
  no_longer : length l.rest ≤ length l.initial.rest;
}

abbrev pub decreases-loop-act : goal.decreases-loop-act
decreases-loop-act l = length l.rest
