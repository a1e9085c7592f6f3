-- What a reader that goes from left to right makes of the tokens of a CREATE INDEX. No public clause cites it.
use Rattle.std.specs.Prelude.{Bool, true, false, ℕ, List, [], ◌∷◌, Option, Some, None, Ok, Err, option_map, option_and_then, if◌then◌else◌}
use Rattle.sql_reader_grammar.specs.phrases.Outcomes.{Outcome, Read, Refusal, ◌>>=◌, needed}
use Rattle.sql_reader_grammar.specs.phrases.Steps.{Rest, after_keyword, name}
use Rattle.sql_reader_tokens.specs.Lexeme.{Lexeme}
use Rattle.sql_reader_tokens.specs.declared.keywords.keyword.Keyword.TheVariants as k
use Rattle.sql_reader_creates.specs.column_reader.ColumnReading.{after_on}
use Rattle.sql_reader_creates.specs.CreateReading.{after_create, indexed_all}
use Rattle.sql_reader_creates.specs.IndexGrammar.{has_query}
use Rattle.sql_reader_grammar.specs.create_trees.CreateTrees.{IndexedColumnTree, IndexTree}
use Rattle.sql_reader_grammar.specs.Operators.{or_level}
use Rattle.sql_reader_grammar.specs.Reading.{expr}
use Rattle.sql_reader_syntax.specs.ExprTree.{ExprTree}
use Rattle.sql_reader_syntax.specs.Tree.{Name}

abbrev pub after_unique : Rest → Option Rest
after_unique = after_keyword k.Unique

abbrev pub unique_from : Rest → Option Rest → Bool × Rest
unique_from ts None = (false, ts)
unique_from ts (Some rest) = (true, rest)

abbrev pub uniqueness : Rest → Bool × Rest
uniqueness ts = unique_from ts (after_unique ts)

abbrev pub after_index : Rest → Option Rest
after_index = after_keyword k.Index

abbrev pub owned : Name × Rest → Option (Name × Name × Rest)
owned r = option_map (λ t. (r.0, t.0, t.1)) (option_and_then name (after_on r.1))

-- the names of the index and of its table
abbrev pub index_heading : Rest → Option (Name × Name × Rest)
index_heading ts = option_and_then owned (option_and_then name (after_index ts))

abbrev pub index_tree : Bool → Name × Name × Rest → List IndexedColumnTree × Option ExprTree → IndexTree
index_tree unique r cs = record { name = r.0; table = r.1; is_unique = unique; columns = cs.0; condition = cs.1 }

-- an expression behind which nothing stands
abbrev pub ended : ExprTree → Rest → Outcome ExprTree
ended e [] = Ok e
ended e _ = Err Refusal.Syntax

abbrev pub whole : Outcome (Read ExprTree) → Outcome ExprTree
whole r = r >>= λ x. ended x.tree x.rest

-- `source left behind` is the source text of a phrase at whose beginning so many tokens are left, and so many behind it;
-- d is how many levels there may be
module _ (source : ℕ → ℕ → List ℕ) (d : ℕ) where
  -- the condition behind WHERE, which is all of the tokens
  unfoldable pub predicate : Rest → Outcome ExprTree
  predicate ts = if has_query ts then Err Refusal.Syntax else whole (expr source d or_level ts)

  abbrev pub some_predicate : Rest → Outcome (Option ExprTree)
  some_predicate ts = predicate ts >>= λ e. Ok (Some e)

  -- a condition, if one stands there, which is all of the tokens
  abbrev pub condition : Rest → Outcome (Option ExprTree)
  condition [] = Ok None
  condition (Lexeme.Reserved k.Where ∷ ts) = some_predicate ts
  condition _ = Err Refusal.Syntax

  -- the columns, and the condition behind them
  abbrev pub last_columns : Rest → Outcome (List IndexedColumnTree × Option ExprTree)
  last_columns ts = needed (indexed_all ts) >>= λ r. condition r.1 >>= λ c. Ok (r.0, c)

  abbrev pub index_with : Bool → Name × Name × Rest → Outcome IndexTree
  index_with unique r = last_columns r.2 >>= λ cs. Ok (index_tree unique r cs)

  abbrev pub index_from : Bool × Rest → Outcome IndexTree
  index_from r = needed (index_heading r.1) >>= index_with r.0

  unfoldable pub create_index : Rest → Outcome IndexTree
  create_index ts = needed (after_create ts) >>= λ rest. index_from (uniqueness rest)
