-- What a statement holds is read in one construct more.
use Rattle.std.proofs.Common.{◌≡◌, ◌<◌, ◌-◌, suc, ap, arith}
use Rattle.sql_reader_grammar.specs.Reading.{both, clauses, inner, items, limit, order}
use Rattle.sql_reader_grammar.specs.phrases.Steps.{Rest}
use Rattle.sql_reader_exprs.specs.window_reader.Setting.{Setting, at, inner_at}

pub outermost_is : (s : Setting) → 0 < s.depth → inner s.source (suc (s.depth - 1)) ≡ inner s.source s.depth
outermost_is s h = ap (inner s.source) (omega (arith, h))

pub clauses_are : (s : Setting) (ts : Rest) → 0 < s.depth
    → clauses s.source (s.depth - 1) ts
    ≡ both (items s.source (s.depth - 1) ts) (λ ts. both ((inner_at s).query ts) (λ ts. both (at order s ts) limit))
clauses_are s ts h =
    ap (λ n. both (items s.source (s.depth - 1) ts)
    (λ ts. both ((inner s.source n).query ts) (λ ts. both (order s.source (inner s.source n) n ts) limit)))
    (omega (arith, h))
