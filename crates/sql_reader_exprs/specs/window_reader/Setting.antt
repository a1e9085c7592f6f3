-- Where the parts of a phrase are read.
use Rattle.std.specs.Prelude.{ℕ, List}
use Rattle.sql_reader_grammar.specs.Reading.{Inner, inner}

-- the source texts of phrases, and how many levels may stand around a token of an inner phrase
pub record Setting : Type 0 where
  pub source : ℕ → ℕ → List ℕ
  pub depth : ℕ

-- what reads inner phrases there
abbrev pub inner_at : Setting → Inner
inner_at s = inner s.source s.depth

-- a reader of the grammar there
abbrev pub at : {A : Type 0} → ((ℕ → ℕ → List ℕ) → Inner → ℕ → A) → Setting → A
at f s = f s.source (inner s.source s.depth) s.depth
