use Rattle.std.proofs.Common.{◌≡◌, ◌≤◌, ◌-◌}
use Rattle.sql_reader_exprs.specs.clause_reader.Seen.{seen}
use Rattle.sql_reader_grammar.specs.Reading.{expr_by}
use Rattle.sql_reader_grammar.specs.phrases.Texts.{lexemes_of}
use Rattle.sql_reader_grammar.specs.statement_trees.TreeView.{expr_of}
use Rattle.sql_reader_exprs.specs.window_reader.Setting.{at}
use Rattle.sql_reader_exprs.proofs.lemmas.expr_reader.OperatorLemmas.{climbs}
use Rattle.sql_reader_exprs.proofs.expr_reader.operators.expr_by.Given as goal

-- what the operators still to come make of what was read is the whole
abbrev pub invariant-loop-read : goal.invariant-loop-read
invariant-loop-read g l = record {
  whole : climbs (g.I.Inner.setting l.inner) l.least (seen expr_of l.read)
      ≡ at expr_by (g.I.Inner.setting l.inner) l.least (lexemes_of l.tokens);
  within : l.read.levels ≤ (g.I.Inner.setting l.inner).depth;
}

abbrev pub decreases-loop-read : goal.decreases-loop-read
decreases-loop-read g l = (g.I.Inner.setting l.inner).depth - l.read.levels
