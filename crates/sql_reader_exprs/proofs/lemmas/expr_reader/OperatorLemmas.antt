-- What the loop over operators keeps.
use Rattle.std.proofs.Common.{◌≡◌, ℕ, ◌<◌, ◌≤◌, Ok, sym, ap, ◌∙◌, arith}
use Rattle.values.specs.declared.fault.Fault.{Fault}
use Rattle.sql_reader_grammar.specs.phrases.Outcomes.{Outcome, ◌>>=◌, Fails, Read}
use Rattle.sql_reader_grammar.specs.phrases.Steps.{Rest}
use Rattle.sql_reader_grammar.proofs.lemmas.phrases.OutcomeLemmas.{fails_along, fails_bind}
use Rattle.sql_reader_syntax.specs.ExprTree.{ExprTree}
use Rattle.sql_reader_grammar.specs.Fronts.{binds}
use Rattle.sql_reader_grammar.specs.Reading.{climb, expr_by, extended, operand}
use Rattle.sql_reader_grammar.proofs.Turns.{climb_step, climb_stops}
use Rattle.sql_reader_exprs.specs.window_reader.Setting.{Setting, at, inner_at}

-- with each operator of at least this level
abbrev pub climbs : Setting → ℕ → Read ExprTree → Outcome (Read ExprTree)
climbs s p x = at climb s s.depth p x

pub operand_err : (s : Setting) (p : ℕ) (ts : Rest) (e : Fault) → Fails e (at operand s p ts) → Fails e (at expr_by s p ts)
unfolding expr_by
operand_err s p ts e h = fails_bind e (at operand s p ts) (climbs s p) h

pub operand_ok : (s : Setting) (p : ℕ) (ts : Rest) (x : Read ExprTree) → at operand s p ts ≡ Ok x
    → climbs s p x ≡ at expr_by s p ts
unfolding expr_by
operand_ok s p ts x h = sym (ap (λ r. r >>= climbs s p) h)

pub extended_err : (s : Setting) (p : ℕ) (x : Read ExprTree) (whole : Outcome (Read ExprTree)) (e : Fault)
    → climbs s p x ≡ whole → p ≤ binds x.rest → Fails e (at extended s x) → Fails e whole
extended_err s p x whole e i k h =
    fails_along e _ whole (sym (climb_step s.source (inner_at s) s.depth s.depth p x (omega arith) k) ∙ i)
    (fails_bind e (at extended s x) (climbs s p) h)

pub extended_ok : (s : Setting) (p : ℕ) (x y : Read ExprTree) (whole : Outcome (Read ExprTree)) → climbs s p x ≡ whole
    → p ≤ binds x.rest → at extended s x ≡ Ok y → climbs s p y ≡ whole
extended_ok s p x y whole i k h =
    sym (climb_step s.source (inner_at s) s.depth s.depth p x (omega arith) k ∙ ap (λ r. r >>= climbs s p) h) ∙ i

pub no_more : (s : Setting) (p : ℕ) (x : Read ExprTree) (whole : Outcome (Read ExprTree)) → climbs s p x ≡ whole
    → binds x.rest < p → whole ≡ Ok x
no_more s p x whole i k = sym i ∙ climb_stops s.source (inner_at s) s.depth s.depth p x k
