use Rattle.std.proofs.Common.{◌≤◌, length}
use Rattle.sql_reader_grammar.proofs.lemmas.phrases.TurnLemmas.{GoesOn}
use Rattle.sql_reader_grammar.specs.phrases.Texts.{lexemes_of}
use Rattle.sql_reader_exprs.specs.window_reader.Setting.{at}
use Rattle.sql_reader_exprs.specs.window_reader.Views.{numbers_of}
use Rattle.sql_reader_grammar.specs.Reading.{item, list}
use Rattle.sql_reader_grammar.specs.phrases.Steps.{after_comma}
use Rattle.sql_reader_grammar.specs.statement_trees.TreeView.{expr_of}
use Rattle.sql_reader_exprs.proofs.window_reader.lists.list.Given as goal

-- what was read so far, before what is still to come, is all
abbrev pub invariant-loop-start : goal.invariant-loop-start
invariant-loop-start g l = record {
  all : GoesOn expr_of (λ place. at item (g.I.Inner.setting l.inner) (numbers_of l.function place)) after_comma (at
      list (g.I.Inner.setting l.inner) (numbers_of l.function) (lexemes_of l.tokens)) l.trees.items l.levels
      (lexemes_of l.rest);
  within : l.levels ≤ (g.I.Inner.setting l.inner).depth;
}

abbrev pub decreases-loop-start : goal.decreases-loop-start
decreases-loop-start g l = length (lexemes_of l.rest)
