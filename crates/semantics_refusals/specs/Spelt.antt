-- Statements that tokens spell: HAVING stands in them behind GROUP BY alone, as SELECT's syntax has it. (SELECT)
use Rattle.std.specs.Prelude.{ℕ, List}
use Rattle.sql_reader_syntax.specs.StatementTree.{StatementTree}
use Rattle.sql_reader_grammar.specs.Clauses.{Tokens}
use Rattle.sql_reader_grammar.specs.Statements.{States}
use Rattle.semantics_names.specs.Statement.{Named}
use Rattle.semantics_names.specs.Typed.{Table, Types}
use Rattle.semantics_refusals.specs.UnknownColumns.{HasAmbiguousColumn, HasLooseHaving, HasUnknownColumn}

-- in none that is spelt HAVING stands without GROUP BY, however deep
abbrev pub SpeltHavingHasGroups : Type 0
SpeltHavingHasGroups =
    (source : ℕ → ℕ → List ℕ) (h : ℕ) (tree : StatementTree) (tokens : Tokens) → States source h tree tokens
    → ¬ HasLooseHaving tree

-- a statement that is spelt and has an unknown column, or an ambiguous name, is no query
abbrev pub SpeltUnknownColumnIsRefused : Type 0
SpeltUnknownColumnIsRefused =
    (source : ℕ → ℕ → List ℕ) (h : ℕ) (tokens : Tokens) (tables : List Table) (tree : StatementTree) (n : Named)
    → States source h tree tokens → HasUnknownColumn tables tree → ¬ Types tables tree n

abbrev pub SpeltAmbiguousColumnIsRefused : Type 0
SpeltAmbiguousColumnIsRefused =
    (source : ℕ → ℕ → List ℕ) (h : ℕ) (tokens : Tokens) (tables : List Table) (tree : StatementTree) (n : Named)
    → States source h tree tokens → HasAmbiguousColumn tables tree → ¬ Types tables tree n
