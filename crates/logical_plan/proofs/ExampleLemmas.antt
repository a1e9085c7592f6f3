-- The examples, computed.
use Rattle.std.proofs.Common.{◌≡◌, false, [], ◌∷◌, map, refl, None}
use Rattle.values.specs.Datum.{Datum}
use Rattle.expr.specs.declared.operations.kinds.Comparison.TheVariants.{Eq, Lt}
use Rattle.expr.specs.Conjuncts.{conjuncts}
use Rattle.expr.specs.operations.Operations.{comparison, condition, is_null, same, settle, test_of, truth}
use Rattle.expr.specs.Term.{column, compare, literal}
use Rattle.semantics.specs.Body as body
use Rattle.semantics.specs.Body.{values_over}
use Rattle.semantics.specs.Examples.{items, whole}
use Rattle.semantics.specs.OneTable.{shown}
use Rattle.semantics.specs.Query.{always}
use Rattle.semantics.specs.Valuation.{kept}
use Rattle.logical_plan.specs.Examples.{emptied, emptied_from, emptied_rows, emptied_where, example_sizes, full_sold, full_sold_rows, ids, is_seven, never, nothing_kept, padded, padded_rows, right_from, right_sold, right_sold_rows, sale_of, sevens, sevens_rows, sold, sold_rows, summed, summed_rows}
use Rattle.logical_plan.specs.JoinPlan.{IsJoinPlan}
use Rattle.logical_plan.specs.Plan.{flagged, joined, once, rows_of, work}
use Rattle.logical_plan.specs.Stands.{StandsFor}

pub seven_stands : StandsFor (0 ∷ 2 ∷ []) (is_seven 1) (is_seven 2)
seven_stands o row = refl

module _ (w : Datum) where
  pub sevens_show : (rows_of w items sevens ≡ sevens_rows) × (work w items example_sizes sevens ≡ 5)
  unfolding settle same is_null truth condition test_of comparison
  sevens_show = (refl, refl)

  pub nothing_shows : (rows_of w items nothing_kept ≡ []) × (work w items example_sizes nothing_kept ≡ 0)
  unfolding settle same is_null truth condition test_of comparison
  nothing_shows = (refl, refl)

  pub sold_shows : (rows_of w items sold ≡ sold_rows) × (work w items example_sizes sold ≡ 11)
  unfolding settle same is_null truth condition test_of comparison
  sold_shows = (refl, refl)

  pub padded_shows : (rows_of w items padded ≡ padded_rows) × (work w items example_sizes padded ≡ 17)
  unfolding settle same is_null truth condition test_of comparison
  padded_shows = (refl, refl)

  pub right_shows : (rows_of w items right_sold ≡ right_sold_rows) × (work w items example_sizes right_sold ≡ 8)
      × (map (shown (0 ∷ 3 ∷ 4 ∷ [])) (body.rows_of w items right_from) ≡ right_sold_rows)
  unfolding settle same is_null truth condition test_of comparison
  right_shows = (refl, refl, refl)

  pub full_shows : (rows_of w items full_sold ≡ full_sold_rows) × (work w items example_sizes full_sold ≡ 8)
  unfolding settle same is_null truth condition test_of comparison
  full_shows = (refl, refl)

  pub emptied_shows : (rows_of w items emptied ≡ emptied_rows) × (work w items example_sizes emptied ≡ 20)
      × (map (shown (0 ∷ 5 ∷ 6 ∷ [])) (kept (values_over w items emptied_from) emptied_where (body.rows_of w items emptied_from)) ≡ emptied_rows)
  unfolding settle same is_null truth condition test_of comparison
  emptied_shows = (refl, refl, refl)

  pub summed_shows : (rows_of w items summed ≡ summed_rows) × (work w items example_sizes summed ≡ 5)
  unfolding settle same is_null truth condition test_of comparison
  summed_shows = (refl, refl)

pub emptied_is_planned : IsJoinPlan (0 ∷ 5 ∷ 6 ∷ []) emptied_from (conjuncts emptied_where) emptied
emptied_is_planned = record {
  below = flagged (joined ids (record { table = 1; columns = []; tests = never ∷ []; padded = false; search = None })) (record { nest = sale_of 1 false; before = 1 });
  tests = compare Lt (column 2) (literal (whole 5)) ∷ [];
  plan_is = refl;
  tests_are = (λ o row. refl, tt);
  below_is = record {
    at = 1;
    width = 2;
    source_is = refl;
    left = joined ids (record { table = 1; columns = []; tests = never ∷ []; padded = false; search = None });
    columns = 0 ∷ 1 ∷ [];
    tests = compare Eq (column 0) (column 1) ∷ [];
    plan_is = refl;
    read_is = refl;
    tests_are = (λ o row. refl, tt);
    before = record {
      at = 1;
      width = 2;
      source_is = refl;
      left = ids;
      columns = [];
      tests = never ∷ [];
      plan_is = refl;
      read_is = refl;
      tests_are = (λ o row. refl, tt);
      before = record {
        at = 0;
        width = 3;
        source_is = refl;
        left = once;
        columns = 0 ∷ [];
        tests = always ∷ [];
        plan_is = refl;
        read_is = refl;
        tests_are = (λ o row. refl, tt);
        before = refl;
      };
    };
  };
}
