use Rattle.logical_plan.proofs.WhereLemmas.{kept_is_where, nothing_is_where}
use Rattle.logical_plan.proofs.laws.kept_is_where.Goals as goal

pub returns-clause-from : goal.returns-clause-from
returns-clause-from c = kept_is_where

pub returns-clause-nothing : goal.returns-clause-nothing
returns-clause-nothing c = nothing_is_where
