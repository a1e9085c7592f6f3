use Rattle.std.proofs.Common.{◌≡◌, ◌≤◌, ◌-◌}
use Rattle.sql_reader_grammar.specs.Reading.{query_by}
use Rattle.sql_reader_grammar.specs.phrases.Outcomes.{read}
use Rattle.sql_reader_grammar.specs.phrases.Texts.{lexemes_of}
use Rattle.sql_reader_grammar.specs.statement_trees.TreeView.{core_of}
use Rattle.sql_reader_exprs.specs.window_reader.Setting.{at}
use Rattle.sql_reader.proofs.lemmas.query_reader.CompoundLemmas.{goes_on, query_so_far}
use Rattle.sql_reader.proofs.query_reader.queries.query_by.Given as goal

-- what the SELECTs still to come make of those that were read is the whole
abbrev pub invariant-loop-operator : goal.invariant-loop-operator
invariant-loop-operator g l = record {
  whole : goes_on (g.I.Inner.setting l.inner)
      (read (query_so_far (core_of l.first.tree) l.others.items) l.levels (lexemes_of l.rest))
      ≡ at query_by (g.I.Inner.setting l.inner) (lexemes_of l.tokens);
  within : l.levels ≤ (g.I.Inner.setting l.inner).depth;
}

abbrev pub decreases-loop-operator : goal.decreases-loop-operator
decreases-loop-operator g l = (g.I.Inner.setting l.inner).depth - l.levels
