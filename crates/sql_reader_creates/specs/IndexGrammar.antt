-- Which tokens spell a CREATE INDEX. (CREATE INDEX; Partial Indexes)
use Rattle.std.specs.Prelude.{◌≡◌, Bool, true, false, ℕ, List, [], ◌∷◌, Option, None, Some}
use Rattle.sql_reader_tokens.specs.Lexeme.{Lexeme}
use Rattle.sql_reader_tokens.specs.declared.keywords.keyword.Keyword.TheVariants as k
use Rattle.sql_reader_tokens.specs.declared.token.Quoting.{Quoting}
use Rattle.sql_reader_creates.specs.CreateGrammar.{IndexesAll}
use Rattle.sql_reader_grammar.specs.Operators.{or_level}
use Rattle.sql_reader_grammar.specs.Queries.{Expresses}
use Rattle.sql_reader_syntax.specs.ExprTree.{ExprTree}
use Rattle.sql_reader_syntax.specs.Tree.{Name}
use Rattle.sql_reader_grammar.specs.create_trees.CreateTrees.{IndexedColumnTree, IndexTree}

-- [UNIQUE]
pub data MaybeUnique : Bool → List Lexeme → List Lexeme → Type 0 where
  plain : {after : List Lexeme} → MaybeUnique false after after
  unique : {after : List Lexeme} → MaybeUnique true (Lexeme.Reserved k.Unique ∷ after) after

-- whether a query stands among tokens: each begins with SELECT, which stands nowhere else in an expression
abbrev pub has_query : List Lexeme → Bool
has_query [] = false
has_query (Lexeme.Reserved k.Select ∷ tokens) = true
has_query (_ ∷ tokens) = has_query tokens

-- `source left behind` is the source text of a phrase at whose beginning so many tokens are left, and so many behind it
module _ (source : ℕ → ℕ → List ℕ) where
  -- [WHERE expr], where no query stands in the expression, and some token of it stands in so many levels, and none in more
  pub data MaybePartial : ℕ → Option ExprTree → List Lexeme → Type 0 where
    whole : MaybePartial 0 None []
    partial : {h : ℕ} {e : ExprTree} {tokens : List Lexeme} → has_query tokens ≡ false → Expresses source or_level h e tokens []
        → MaybePartial h (Some e) (Lexeme.Reserved k.Where ∷ tokens)

  -- CREATE [UNIQUE] INDEX name ON name "(" column {"," column} ")" [WHERE expr]
  pub data CreatesIndex : ℕ → IndexTree → List Lexeme → Type 0 where
    index : {h : ℕ} {unique : Bool} {q r : Quoting} {name table : Name} {columns : List IndexedColumnTree}
        {condition : Option ExprTree} {from last end : List Lexeme}
        → MaybeUnique unique from (Lexeme.Reserved k.Index ∷ Lexeme.Name q name ∷ Lexeme.Reserved k.On ∷ Lexeme.Name r table ∷ last)
        → IndexesAll columns last end → MaybePartial h condition end
        → CreatesIndex h
        (record { name = name; table = table; is_unique = unique; columns = columns; condition = condition })
        (Lexeme.Reserved k.Create ∷ from)
