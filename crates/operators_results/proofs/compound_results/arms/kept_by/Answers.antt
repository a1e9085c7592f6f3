use Rattle.std.proofs.Common.{◌≡◌, ◌++◌, true, false, refl, subst, sym}
use Rattle.semantics_names.specs.Statement.{operator_of}
use Rattle.sql_reader_syntax.specs.declared.query.CompoundOperator.{CompoundOperator}
use Rattle.operators_results.specs.distinct_results.Firsts.{firsts}
use Rattle.logical_plan.specs.answers.Joined.{filtered, joined_rows}
use Rattle.operators_results.proofs.lemmas.compound_results.SetLemmas.{except_once, intersect_once, union_once}
use Rattle.operators_results.proofs.compound_results.arms.kept_by.Goals as goal

pub returns-in-UnionAll-clause-none : goal.returns-in-UnionAll-clause-none
returns-in-UnionAll-clause-none c = λ none left rows.
    subst (λ (o : CompoundOperator). firsts (left ++ rows) ≡ firsts (joined_rows (operator_of o) left rows)) (sym c.in-UnionAll.is) refl

pub returns-in-Union-clause-none : goal.returns-in-Union-clause-none
returns-in-Union-clause-none c = λ none left rows.
    subst (λ (o : CompoundOperator). firsts (left ++ rows) ≡ firsts (joined_rows (operator_of o) left rows)) (sym c.in-Union.is) (union_once left rows)

pub returns-in-Intersect-clause-some : goal.returns-in-Intersect-clause-some
returns-in-Intersect-clause-some c = λ left rows.
    subst (λ (o : CompoundOperator). filtered true (firsts left) rows ≡ firsts (joined_rows (operator_of o) left rows)) (sym c.in-Intersect.is)
    (intersect_once left rows)

pub returns-in-Except-clause-some : goal.returns-in-Except-clause-some
returns-in-Except-clause-some c = λ left rows.
    subst (λ (o : CompoundOperator). filtered false (firsts left) rows ≡ firsts (joined_rows (operator_of o) left rows)) (sym c.in-Except.is)
    (except_once left rows)
