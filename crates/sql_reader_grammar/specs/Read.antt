-- What the grammar says of what a reader comes to.
use Rattle.std.specs.Prelude.{◌<◌, ◌≤◌, ℕ, List, Ok, Err}
use Rattle.sql_reader_grammar.specs.phrases.Outcomes.{Outcome, Refusal}
use Rattle.sql_reader_syntax.specs.StatementTree.{StatementTree}
use Rattle.sql_reader_grammar.specs.Clauses.{Tokens}
use Rattle.sql_reader_grammar.specs.Statements.{States}

-- With d levels at most: a tree is what the tokens spell; a syntax error is met where they spell nothing, and the limit only
-- where each statement that they spell has more levels.
abbrev pub SaysOfStatement : (ℕ → ℕ → List ℕ) → ℕ → Tokens → Outcome StatementTree → Type 0
SaysOfStatement source d ts (Ok tree) = (h : ℕ) × (h ≤ d) × States source h tree ts
SaysOfStatement source d ts (Err Refusal.Syntax) = (h : ℕ) (tree : StatementTree) → ¬ States source h tree ts
SaysOfStatement source d ts (Err Refusal.Limit) = (h : ℕ) (tree : StatementTree) → States source h tree ts → d < h
