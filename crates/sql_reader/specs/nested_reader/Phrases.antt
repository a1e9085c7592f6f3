-- Phrases and their trees, as the grammar's reader tells them.
use Rattle.std.specs.Prelude.{◌≤◌, ℕ, IfOk, Result}
use Rattle.values.specs.declared.fault.Fault.{Fault}
use Rattle.sql_reader_exprs.specs.clause_reader.Seen.{seen}
use Rattle.sql_reader_exprs.specs.declared.clause_reader.reading.Read.{Read}
use Rattle.sql_reader_grammar.specs.Reading.{core, expr_by, made, query_by}
use Rattle.sql_reader.specs.declared.nested_reader.sources.Source.{Source}
use Rattle.sql_reader.specs.declared.nested_reader.trees.Asked.{Asked}
use Rattle.sql_reader.specs.declared.nested_reader.trees.Phrase.{Phrase}
use Rattle.sql_reader.specs.declared.nested_reader.trees.Phrase.TheVariants as p
use Rattle.sql_reader.specs.declared.nested_reader.trees.Tree.{Tree}
use Rattle.sql_reader.specs.declared.nested_reader.trees.Tree.TheVariants as t
use Rattle.sql_reader_grammar.specs.phrases.Outcomes as outcomes
use Rattle.sql_reader_grammar.specs.phrases.Outcomes.{Outcome, Yields}
use Rattle.sql_reader_grammar.specs.phrases.Steps.{Rest}
use Rattle.sql_reader_grammar.specs.phrases.Texts.{lexemes_of}
use Rattle.sql_reader_tokens.specs.source_texts.Sources.{source_of}
use Rattle.sql_reader_grammar.specs.statement_trees.TreeView.{core_of, expr_of, query_of}
use Rattle.sql_reader_syntax.specs.ExprTree.{CoreTree, ExprTree, QueryTree}
use Rattle.sql_reader_exprs.specs.window_reader.Setting.{Setting, at, inner_at}

-- the tree of an expression, a SELECT or a query
pub data PhraseTree : Type 0 where
  Expr : ExprTree → PhraseTree
  Select : CoreTree → PhraseTree
  Query : QueryTree → PhraseTree

abbrev pub tree_of : Tree → PhraseTree
tree_of (t.Expr e) = PhraseTree.Expr (expr_of e)
tree_of (t.Select c) = PhraseTree.Select (core_of c)
tree_of (t.Query q) = PhraseTree.Query (query_of q)

-- the phrases of a text, of which so many levels may stand around a token
abbrev pub setting_of : Source → ℕ → Setting
setting_of s depth = record { source = source_of s.text.now s.tokens.now; depth = depth }

-- a phrase in one more construct
abbrev pub phrase_in : Setting → Phrase → Rest → Outcome (outcomes.Read PhraseTree)
phrase_in s (p.Expr least) ts = made (λ e. PhraseTree.Expr e) ((inner_at s).expr least ts)
phrase_in s p.Select ts = made (λ c. PhraseTree.Select c) ((inner_at s).core ts)
phrase_in s p.Query ts = made (λ q. PhraseTree.Query q) ((inner_at s).query ts)

-- a phrase itself
abbrev pub phrase_by : Setting → Phrase → Rest → Outcome (outcomes.Read PhraseTree)
phrase_by s (p.Expr least) ts = made (λ e. PhraseTree.Expr e) (at expr_by s least ts)
phrase_by s p.Select ts = made (λ c. PhraseTree.Select c) (at core s ts)
phrase_by s p.Query ts = made (λ q. PhraseTree.Query q) (at query_by s ts)

-- what a function of the program gives is what the grammar's reader comes to, with so many levels at most
abbrev pub ReadsAt : Source → ℕ → (Asked → Result (Read Tree) Fault → Type 0) → Type 0
ReadsAt s depth Gives =
    (asked : Asked) (r : Result (Read Tree) Fault) → Gives asked r
    → Yields (seen tree_of) r (phrase_in (setting_of s depth) asked.phrase (lexemes_of asked.tokens.now))
    × IfOk r (λ r. r.levels ≤ depth)
