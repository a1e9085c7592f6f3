use Rattle.std.proofs.Common.{length}
use Rattle.sql_reader_grammar.specs.Reading.{an_item, items_at}
use Rattle.sql_reader_grammar.proofs.lemmas.phrases.TurnLemmas.{GoesOn}
use Rattle.sql_reader_grammar.specs.phrases.Steps.{after_comma}
use Rattle.sql_reader_grammar.specs.phrases.Texts.{lexemes_of}
use Rattle.sql_reader.specs.statement_reader.Parts.{levels_at}
use Rattle.sql_reader_grammar.specs.statement_trees.StatementView.{item_of}
use Rattle.sql_reader.proofs.statement_reader.items.item_list.Given as goal

-- what was read so far, before what is still to come, is all
abbrev pub invariant-loop-start : goal.invariant-loop-start
invariant-loop-start g l =
    let t = g.I.Inner.setting l.inner in
    GoesOn item_of (λ place. an_item t.source (levels_at t)) after_comma
    (items_at t.source (levels_at t) (lexemes_of l.tokens)) l.items.items l.levels (lexemes_of l.rest)

abbrev pub decreases-loop-start : goal.decreases-loop-start
decreases-loop-start g l = length (lexemes_of l.rest)
