-- What a reader tells of the tokens of a CREATE INDEX. No public clause cites it.
use Rattle.std.specs.Prelude.{◌<◌, ◌≤◌, ℕ, List, length, Result, Ok, Err}
use Rattle.values.specs.declared.fault.Fault.{Fault}
use Rattle.values.specs.declared.fault.Fault.TheVariants as f
use Rattle.sql_reader_grammar.specs.phrases.Outcomes.{Outcome, Refusal}
use Rattle.sql_reader_grammar.specs.phrases.Steps.{Rest}
use Rattle.sql_reader_grammar.specs.phrases.Texts.{max_levels}
use Rattle.sql_reader_creates.specs.IndexGrammar.{CreatesIndex}
use Rattle.sql_reader_grammar.specs.create_trees.CreateTrees.{IndexTree}
use Rattle.sql_reader_grammar.specs.create_trees.CreateView.{index_of}
use Rattle.sql_reader_grammar.specs.declared.create_trees.create.CreateIndex.{CreateIndex}

-- With d levels at most: a tree is what the tokens spell; a syntax error is met where they spell nothing, and the limit only
-- where each CREATE INDEX that they spell has more levels.
abbrev pub SaysOfIndex : (ℕ → ℕ → List ℕ) → ℕ → Rest → Outcome IndexTree → Type 0
SaysOfIndex source d ts (Ok tree) = (h : ℕ) × (h ≤ d) × CreatesIndex source h tree ts
SaysOfIndex source d ts (Err Refusal.Syntax) = (h : ℕ) (tree : IndexTree) → ¬ CreatesIndex source h tree ts
SaysOfIndex source d ts (Err Refusal.Limit) = (h : ℕ) (tree : IndexTree) → CreatesIndex source h tree ts → d < h

-- the same of what the program's reader answers, which meets the limit only where there are more tokens than levels
abbrev pub TellsOfIndex : (ℕ → ℕ → List ℕ) → Rest → Result CreateIndex Fault → Type 0
TellsOfIndex source ts (Ok index) = (h : ℕ) × (h ≤ max_levels) × CreatesIndex source h (index_of index) ts
TellsOfIndex source ts (Err (f.Syntax place)) = (h : ℕ) (tree : IndexTree) → ¬ CreatesIndex source h tree ts
TellsOfIndex source ts (Err f.Limit) =
    (max_levels < length ts) × ((h : ℕ) (tree : IndexTree) → CreatesIndex source h tree ts → max_levels < h)
TellsOfIndex source ts (Err f.NoMemory) = Unit {0}
TellsOfIndex source ts (Err _) = ⊥
