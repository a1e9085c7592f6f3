-- What a text spells by a grammar, and why it was refused. A grammar is its reserved words and its statements, which
-- are a relation between trees and tokens.
use Rattle.std.specs.Prelude.{◌<◌, ◌≤◌, ◌⊎◌, ℕ, List, [], ◌∷◌, length, map}
use Rattle.values.specs.declared.fault.Fault.{Fault}
use Rattle.values.specs.declared.fault.Fault.TheVariants as f
use Rattle.sql_reader_tokens.specs.Content.{lexeme_of}
use Rattle.sql_reader_tokens.specs.Lexeme.{Lexeme}
use Rattle.sql_reader_tokens.specs.Tokens.{Placed, Tokens}
use Rattle.sql_reader_tokens.specs.declared.keywords.keyword.Grammar.{Grammar}
use Rattle.sql_reader_tokens.specs.declared.token.Token.{Token}

abbrev pub lexemes : List Placed → List Lexeme
lexemes = map (λ t. t.lexeme)

-- the same of tokens of the program
abbrev pub lexemes_of : List Token → List Lexeme
lexemes_of = map (λ t. lexeme_of t.kind)

-- where the first of them stands, or else the end of the text
abbrev pub first_place : ℕ → List Token → ℕ
first_place end [] = end
first_place end (t ∷ ts) = t.place

-- the text spells this tree
pub record Spells {T : Type 0} (grammar : Grammar) (Statement : T → List Lexeme → Type 0) (text : List ℕ) (tree : T)
    : Type 0 where
  pub tokens : List Placed
  pub are_tokens : Tokens grammar text tokens
  pub statement : Statement tree (lexemes tokens)

-- the most bytes of a text, and the most columns of a SELECT or a table
abbrev pub max_text : ℕ
max_text = 65536

abbrev pub max_columns : ℕ
max_columns = 100

-- the most levels that stand around a token: SELECTs, operators, calls, CASEs and parentheses
abbrev pub max_levels : ℕ
max_levels = 100

-- the text and its tree, which has so many columns, are within the limits
abbrev pub AreWithinLimits : {T : Type 0} → (T → ℕ) → List ℕ → T → Type 0
AreWithinLimits columns text tree = (length text ≤ max_text) × (columns tree ≤ max_columns)

-- why a text was refused: it spells nothing, or it is too long or spells too much, or memory ran out
abbrev pub IsRefusedText : {T : Type 0} → (List ℕ → T → Type 0) → (T → ℕ) → List ℕ → Fault → Type 0
IsRefusedText {T = T} Spelt columns text (f.Syntax place) = (tree : T) → ¬ (Spelt text tree)
IsRefusedText {T = T} Spelt columns text f.Limit =
    (max_text < length text) ⊎ ((tree : T) × Spelt text tree × (max_columns < columns tree))
IsRefusedText Spelt columns text f.NoMemory = Unit {0}
IsRefusedText Spelt columns text _ = ⊥
