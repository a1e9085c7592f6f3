-- The two spaces before a line, one after the other.
use Rattle.std.proofs.Common.{◌≡◌, ◌<◌, ◌+◌, ◌-◌, ℕ, zero, suc, List, [], ◌∷◌, ◌++◌, ap, subst, ◌∙◌, arith, Ok, Err}
use Rattle.values.specs.Sink.{SinkFacts, Writes}
use Rattle.values.specs.declared.fault.Fault.{Fault}
use Rattle.values.proofs.SinkLemmas.{Writes-cut, Writes-then}
use Rattle.explain.specs.PlanText.{indent}

indent_sum : (m n : ℕ) → indent m ++ indent n ≡ indent (m + n)
indent_sum zero n = ap indent (omega arith)
indent_sum (suc m) n =
    let next : suc (m + n) ≡ suc m + n = omega arith in
    ap (λ (t : List ℕ). 32 ∷ 32 ∷ t) (indent_sum m n) ∙ ap indent next

-- one is written
pub Writes-indent_more : (n : ℕ) (a b c : SinkFacts) → Writes {T = Unit {0}} (indent n) (Ok (tt {0})) a b
    → Writes {T = Unit {0}} (32 ∷ 32 ∷ []) (Ok (tt {0})) b c → Writes {T = Unit {0}} (indent (n + 1)) (Ok (tt {0})) a c
Writes-indent_more n a b c before one =
    subst (λ t. Writes {T = Unit {0}} t (Ok (tt {0})) a c) (indent_sum n 1) (Writes-then _ _ (indent n) (32 ∷ 32 ∷ []) _ _ _ before one)

-- one isn't, of which others are to come
pub Writes-indent_cut : (n depth : ℕ) (e : Fault) (a b c : SinkFacts) → n < depth → Writes {T = Unit {0}} (indent n) (Ok (tt {0})) a b
    → Writes {T = Unit {0}} (32 ∷ 32 ∷ []) (Err e) b c → Writes {T = Unit {0}} (indent depth) (Err e) a c
Writes-indent_cut n depth e a b c within before failed =
    let whole : indent (n + 1) ++ indent (depth - (n + 1)) ≡ indent depth =
    indent_sum (n + 1) (depth - (n + 1)) ∙ ap indent (omega (arith, within)) in
    let cut : Writes {T = Unit {0}} (indent (n + 1)) (Err e) a c =
    subst (λ t. Writes {T = Unit {0}} t (Err e) a c) (indent_sum n 1) (Writes-then _ _ (indent n) (32 ∷ 32 ∷ []) _ _ _ before failed) in
    subst (λ t. Writes {T = Unit {0}} t (Err e) a c) whole (Writes-cut {U = Unit {0}} e (indent (n + 1)) (indent (depth - (n + 1))) a c cut)
