-- What a reader tells of the tokens of a statement. No public clause cites it.
use Rattle.std.specs.Prelude.{◌<◌, ◌≤◌, ℕ, List, length, Result, Ok, Err}
use Rattle.values.specs.declared.fault.Fault.{Fault}
use Rattle.values.specs.declared.fault.Fault.TheVariants as f
use Rattle.sql_reader_grammar.specs.Clauses as clauses
use Rattle.sql_reader_grammar.specs.Statements.{States}
use Rattle.sql_reader_grammar.specs.phrases.Texts.{max_levels}
use Rattle.sql_reader_grammar.specs.statement_trees.StatementView.{statement_of}
use Rattle.sql_reader_grammar.specs.declared.statement_trees.queries.Statement.{Statement}
use Rattle.sql_reader_syntax.specs.StatementTree.{StatementTree}

abbrev pub TellsOfStatement : (ℕ → ℕ → List ℕ) → clauses.Tokens → Result Statement Fault → Type 0
TellsOfStatement source ts (Ok statement) = (h : ℕ) × (h ≤ max_levels) × States source h (statement_of statement) ts
TellsOfStatement source ts (Err (f.Syntax place)) = (h : ℕ) (tree : StatementTree) → ¬ States source h tree ts
TellsOfStatement source ts (Err f.Limit) =
    (max_levels < length ts) × ((h : ℕ) (tree : StatementTree) → States source h tree ts → max_levels < h)
TellsOfStatement source ts (Err f.NoMemory) = Unit {0}
TellsOfStatement source ts (Err _) = ⊥
