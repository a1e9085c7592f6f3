-- A plan as text: a line for each of its steps, after two spaces for each step that it is a part of. (EXPLAIN QUERY PLAN)
use Rattle.std.specs.Prelude.{ℕ, suc, zero, List, [], ◌∷◌, ◌++◌, string_bytes}
use Rattle.std.specs.List.{flat_map}
use Rattle.explain.specs.declared.plans.PlanLine.{PlanLine}

-- of how many steps a line is a part, and what it says
pub record LineData : Type 0 where
  pub depth : ℕ
  pub text : List ℕ

abbrev pub line_data : PlanLine → LineData
line_data line = record { depth = line.depth; text = string_bytes line.text }

abbrev pub indent : ℕ → List ℕ
indent zero = []
indent (suc depth) = 32 ∷ 32 ∷ indent depth

abbrev pub line_text : LineData → List ℕ
line_text line = indent line.depth ++ line.text ++ 10 ∷ []

abbrev pub plan_text : List LineData → List ℕ
plan_text lines = flat_map line_text lines
