use Rattle.std.proofs.Common.{◌≤◌, length}
use Rattle.sql_reader_grammar.proofs.lemmas.phrases.TurnLemmas.{GoesOn}
use Rattle.sql_reader_grammar.specs.phrases.Texts.{lexemes_of}
use Rattle.sql_reader_exprs.specs.window_reader.Setting.{at}
use Rattle.sql_reader_grammar.specs.Reading.{all, term}
use Rattle.sql_reader_grammar.specs.phrases.Steps.{after_comma}
use Rattle.sql_reader_grammar.specs.statement_trees.TreeView.{term_of}
use Rattle.sql_reader_exprs.proofs.window_reader.windows.term_list.Given as goal

-- what was read so far, before what is still to come, is all
abbrev pub invariant-loop-start : goal.invariant-loop-start
invariant-loop-start g l = record {
  all : GoesOn term_of (λ place. at term (g.I.Inner.setting l.inner)) after_comma (all (λ place. at term
      (g.I.Inner.setting l.inner)) (lexemes_of l.tokens)) l.trees.items l.levels (lexemes_of l.rest);
  within : l.levels ≤ (g.I.Inner.setting l.inner).depth;
}

abbrev pub decreases-loop-start : goal.decreases-loop-start
decreases-loop-start g l = length (lexemes_of l.rest)
