use Rattle.std.proofs.Common.{◌≡◌, ◌≤◌, length}
use Rattle.sql_reader_grammar.specs.Reading.{sources}
use Rattle.sql_reader_grammar.specs.phrases.Outcomes.{read}
use Rattle.sql_reader_grammar.specs.phrases.Texts.{lexemes_of}
use Rattle.sql_reader_grammar.specs.statement_trees.TreeView.{source_of}
use Rattle.sql_reader_exprs.specs.window_reader.Setting.{at}
use Rattle.sql_reader.proofs.lemmas.source_reader.SourceLemmas.{goes_on, sources_so_far}
use Rattle.sql_reader.proofs.source_reader.source_lists.sources.Given as goal

-- what the sources still to come make of those that were read is the whole
abbrev pub invariant-loop-joining : goal.invariant-loop-joining
invariant-loop-joining g l = record {
  all : goes_on (g.I.Inner.setting l.inner)
      (read (sources_so_far (source_of l.first.tree) l.others.items) l.levels (lexemes_of l.rest))
      ≡ at sources (g.I.Inner.setting l.inner) (lexemes_of l.tokens);
  within : l.levels ≤ (g.I.Inner.setting l.inner).depth;
}

abbrev pub decreases-loop-joining : goal.decreases-loop-joining
decreases-loop-joining g l = length (lexemes_of l.rest)
