-- A plan of FROM and WHERE has the rows of FROM that WHERE keeps, and hits nothing that the SELECT doesn't hit.
use Rattle.std.proofs.Common.{◌≡◌, ◌∙◌, ◌⊎◌, inl, inr, Bool, true, false, ℕ, List, [], map, IsPermutation, refl, sym, ap, subst}
use Rattle.std.specs.List.{filter}
use Rattle.std.proofs.lemmas.List.Elements.{filter_agree}
use Rattle.std.proofs.lemmas.List.Sorted.{IsPermutation-map}
use Rattle.values.specs.Database.{Database}
use Rattle.values.specs.Datum.{Datum}
use Rattle.expr.specs.Conjuncts.{conjuncts}
use Rattle.expr.specs.Filled.{filled}
use Rattle.expr.specs.Term.{Term}
use Rattle.expr.proofs.BagLemmas.{IsPermutation-filter}
use Rattle.semantics.specs.Body.{answers_in, from_rows, values_over}
use Rattle.semantics.specs.Hits.{FromHits, SelectHits, in_where, where_rows}
use Rattle.semantics.specs.Query.{From}
use Rattle.semantics.specs.Valuation.{holds_on, kept, with_answers}
use Rattle.logical_plan.specs.JoinPlan.{AreWideBefore, IsJoinPlan, IsPlanBy, JoinHits, JoinIsBag, JoinIsWhere, has_right, rows_in_turn, seen, where_in_turn}
use Rattle.logical_plan.specs.Plan.{Hits, PlanData, ReachesOverflow, are_true, rows_of}
use Rattle.logical_plan.proofs.HitLemmas.{conjunct_reached}
use Rattle.logical_plan.proofs.JoinHitLemmas.{Told, early_told}
use Rattle.logical_plan.proofs.JoinLemmas.{AreTables, early_rows, early_tables, no_answers, value_of}
use Rattle.logical_plan.proofs.StandLemmas.{conjuncts_are_true}
use Rattle.logical_plan.proofs.TurnLemmas.{turned}
use Rattle.logical_plan.proofs.WrittenHitLemmas.{written_told}
use Rattle.logical_plan.proofs.WrittenLemmas.{written_plan_rows, written_tables}

plan_tables : (from : From) (read : List ℕ) (conditions : List Term) (plan : PlanData) → IsJoinPlan read from conditions plan → AreTables from
plan_tables from read conditions plan of = by_kind (has_right from) of
  where
    by_kind : (b : Bool) → IsPlanBy b read from conditions plan → AreTables from
    by_kind false of = early_tables from read conditions plan of
    by_kind true of = written_tables from read of.below of.below_is

module _ (w : Datum) (db : Database) where
  plan_rows : (from : From) (read : List ℕ) (conditions : List Term) (plan : PlanData) → AreWideBefore db from → IsJoinPlan read from conditions plan
      → rows_of w db plan ≡ map (seen from read) (filter (are_true w conditions) (rows_in_turn w db (value_of w db) from))
  plan_rows from read conditions plan wide of = by_kind (has_right from) refl of
    where
      by_kind : (b : Bool) → has_right from ≡ b → IsPlanBy b read from conditions plan
          → rows_of w db plan ≡ map (seen from read) (filter (are_true w conditions) (rows_in_turn w db (value_of w db) from))
      by_kind false is of = early_rows w db from read conditions plan wide of
      by_kind true is of = written_plan_rows w db from read conditions plan is wide of

  plan_told : (from : From) (read : List ℕ) (conditions : List Term) (plan : PlanData) → AreWideBefore db from → IsJoinPlan read from conditions plan
      → Hits w db plan → Told w db from conditions
  plan_told from read conditions plan wide of hits = by_kind (has_right from) refl of
    where
      by_kind : (b : Bool) → has_right from ≡ b → IsPlanBy b read from conditions plan → Told w db from conditions
      by_kind false is of = early_told w db from read conditions plan wide of hits
      by_kind true is of = written_told w db from read conditions plan is wide of hits

pub join_is_where : JoinIsWhere
join_is_where w db s from read plan wide of =
    plan_rows w db from read (conjuncts (filled [] s.condition)) plan wide of
    ∙ ap (map (seen from read)) (filter_agree (are_true w (conjuncts (filled [] s.condition))) (holds_on (with_answers w []) s.condition)
    (λ row. conjuncts_are_true w (filled [] s.condition) row) (rows_in_turn w db (with_answers w []) from))
    ∙ ap (λ answers. map (seen from read) (kept (with_answers w answers) s.condition (rows_in_turn w db (with_answers w answers) from)))
    (sym (no_answers w db from (plan_tables from read (conjuncts (filled [] s.condition)) plan of)))

pub join_is_bag : JoinIsBag
join_is_bag w db s from read plan wide of =
    subst (IsPermutation (map (seen from read) (where_rows w db from s))) (sym (join_is_where w db s from read plan wide of))
    (IsPermutation-map (seen from read) (where_rows w db from s) (where_in_turn w db from s)
    (IsPermutation-filter (holds_on (values_over w db from) s.condition) (from_rows w db (values_over w db from) from) (rows_in_turn w db (values_over w db from) from)
    (turned w db (values_over w db from) from)))

pub join_hits : JoinHits
join_hits w db s terms from read plan wide of hits =
    by_part (plan_told w db from read (conjuncts (filled [] s.condition)) plan wide of hits)
  where
    none : answers_in w db from ≡ []
    none = no_answers w db from (plan_tables from read (conjuncts (filled [] s.condition)) plan of)

    by_part : Told w db from (conjuncts (filled [] s.condition)) → FromHits w db (answers_in w db from) from false ⊎ SelectHits w db from s terms
    by_part (inl hits) = inl (subst (λ answers. FromHits w db answers from false) (sym none) hits)
    by_part (inr (row, chosen, reach)) =
        inr (in_where row chosen
        (conjunct_reached w (answers_in w db from) s.condition row (subst (λ answers. ReachesOverflow (conjuncts (filled answers s.condition)) row) (sym none) reach)))
