-- Which queries aren't served.
use Rattle.std.proofs.Common.{◌≡◌, ◌==◌, true, false, is_some, List, [], ◌∷◌, length, map, option_map, Option, Some, None, refl, subst}
use Rattle.std.proofs.Math.Dec.{eqb-suc-zero}
use Rattle.logical_plan_queries.specs.compound_plans.Arms.{AreServed}
use Rattle.logical_plan.specs.answers.Permitted.{AreResults}
use Rattle.semantics.specs.Hits.{order_terms}
use Rattle.semantics.specs.Query.{Body, From, Operator, QueryData, Select, compound, select}
use Rattle.resolver_terms.specs.declared.selects.Key.{Key}
use Rattle.logical_plan_queries.specs.Served.{IsServed, IsServedBody}
use Rattle.resolver_terms.specs.SelectView.{grouping_of, key_of}
use Rattle.resolver_terms.specs.declared.selects.Grouping as selects_grouping
use Rattle.logical_plan_queries.specs.select_plans.Served.{AreOfRows, IsServedSelect}
use Rattle.logical_plan.proofs.lemmas.answers.ArmLemmas.{results_no_terms}
use Rattle.expr.specs.Term.{Term}

-- a SELECT in the order of result columns is served as one of several is
results_served : (query : QueryData) (body : Body) → AreResults query.order → ¬ AreServed body → ¬ IsServedBody query.order body
results_served query (select from s) results none served =
    none (record {
      source = served.served.source;
      named = subst (λ (terms : List Term). AreOfRows from s terms) (results_no_terms query.order results) served.served.named;
    })
results_served query (compound left operator from s) results none served = none served.each

-- one of the SELECTs isn't served
pub not_each : (query : QueryData) → AreResults query.order → ¬ AreServed query.body → ¬ IsServed query
not_each query results none = results_served query query.body results none

-- ORDER BY has another term than result columns after several
pub not_together : (query : QueryData) (left : Body) (operator : Operator) (from : From) (s : Select) → query.body ≡ compound left operator from s
    → ¬ AreResults query.order → ¬ IsServed query
not_together query left operator from s is none served = none (subst (IsServedBody query.order) is served).ordered

module _ (query : QueryData) (from : From) (s : Select) (is : query.body ≡ select from s) where
  -- or after DISTINCT
  pub not_distinct : s.distinct ≡ true → ¬ AreResults query.order → ¬ IsServed query
  not_distinct distinct none served = none ((subst (IsServedBody query.order) is served).ordered distinct)

  -- the SELECT isn't served with its terms
  pub not_alone : ¬ IsServedSelect from s (order_terms query.order) → ¬ IsServed query
  not_alone none served = none (subst (IsServedBody query.order) is served).served

-- ---- the tests of the code

-- without groups
pub no_grouping : (g : Option selects_grouping.Grouping) → is_some g ≡ false → option_map grouping_of g ≡ None
no_grouping None none = refl
no_grouping (Some g) none = absurd cc

pub none_written : (order : List Key) → (length order == 0) ≡ true → map key_of order ≡ []
none_written [] none = refl
none_written (key ∷ order) none = absurd (let e = eqb-suc-zero (length order) in cc)
