use Rattle.std.proofs.Common.{rules, sym, subst}
use Rattle.expr.specs.View.{term}
use Rattle.expr.specs.Names.{IsAnswered}
use Rattle.expr.proofs.FilledLemmas.{placed_is_answered}
use Rattle.logical_plan_terms.specs.Over.{IsItself, IsOver, StandsOver}
use Rattle.logical_plan_terms.proofs.ItselfLemmas.{placed_itself}
use Rattle.logical_plan_terms.proofs.OverLemmas.{told}
use Rattle.logical_plan_terms.proofs.PlacedLemmas.{placed_stands}
use Rattle.logical_plan_terms.proofs.over.expr_over.Goals as goal

pub returns-in_ok-copy-clause-stands : goal.returns-in_ok-copy-clause-stands
returns-in_ok-copy-clause-stands c =
    subst (λ e. StandsOver c.args.read.now c.args.inner e (term c.args.t.now)) (sym c.in_ok-copy.ensures)
    (placed_stands c.args.read.now c.args.inner (term c.args.t.now)
    (told c.in_ok-is_over.field-0 (IsOver c.args.read.now c.args.inner (term c.args.t.now)) (search rules) c.in_ok-is_over.ensures))

pub returns-in_ok-copy-clause-itself : goal.returns-in_ok-copy-clause-itself
returns-in_ok-copy-clause-itself c = λ whole.
    subst (λ e. IsItself c.args.inner e (term c.args.t.now)) (sym c.in_ok-copy.ensures)
    (placed_itself c.args.read.now c.args.inner (term c.args.t.now)
    (told c.in_ok-is_over.field-0 (IsOver c.args.read.now c.args.inner (term c.args.t.now)) (search rules) c.in_ok-is_over.ensures) whole)

pub returns-in_ok-copy-clause-answered : goal.returns-in_ok-copy-clause-answered
returns-in_ok-copy-clause-answered c =
    subst IsAnswered (sym c.in_ok-copy.ensures) (placed_is_answered c.args.read.now (term c.args.t.now))
