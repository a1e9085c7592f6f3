-- The lists of rows that an answer gives are permitted.
use Rattle.std.proofs.Common.{◌≡◌, ◌∙◌, ℤ, inl, inr, List, [], map, None, Option, Some, sym, ap, subst, IsPermutation}
use Rattle.std.specs.List.Sorted.{IsSortedByKey}
use Rattle.std.proofs.lemmas.List.Sorted.{IsPermutation-map, IsPermutation-trans}
use Rattle.values.specs.Database.{Database}
use Rattle.values.specs.Datum.{Datum}
use Rattle.values.specs.Row.{Row}
use Rattle.expr.specs.Meaning.{eval}
use Rattle.semantics.specs.Answer.{Permits, key_directions, limited, skipped, slice}
use Rattle.semantics.specs.Body.{Output, body, body_rows, output, outputs, plain_outputs}
use Rattle.semantics.specs.Query.{Body, Direction, Key, QueryData}
use Rattle.semantics.specs.Sequence.{keys_cmp}
use Rattle.semantics.proofs.ScanLemmas.{unordered_permitted}
use Rattle.logical_plan.specs.answers.Answers.{IsShown, IsShownInOrder, OrderData, shown_output}
use Rattle.logical_plan.specs.answers.Arms.{ArmsData, one, rows_of_arms}
use Rattle.logical_plan.specs.answers.Permitted.{AnswerIsPermitted, AreResults, IsOrderOf}
use Rattle.logical_plan.proofs.lemmas.answers.ArmLemmas.{arms_are}
use Rattle.logical_plan.proofs.lemmas.answers.OrderLemmas.{ordered_arm, ordered_directions, outputs_are_plain, shown_plain}

-- rows in an order that are those of the query with their values of ORDER BY
in_order_is_permitted : (w : Datum) (db : Database) (query : QueryData) (order : OrderData) (limit : Option ℤ) (offset : ℤ) (all rows : List Row)
    → IsPermutation (body w db query) (map (shown_output w order) all) → key_directions order.keys ≡ key_directions query.order → limit ≡ query.limit → offset ≡ query.offset
    → IsShownInOrder w order limit offset all rows → Permits w db query rows
in_order_is_permitted w db query order limit offset all rows same ways limit_is offset_is answer = record {
  ordered = answer.ordered;
  same = IsPermutation-trans (body w db query) (map (shown_output w order) all) answer.ordered same answer.same;
  ascends = subst (λ (ways : List Direction). IsSortedByKey (λ o. o.keys) (keys_cmp ways) answer.ordered) ways answer.ascends;
  shown =
      answer.shown
      ∙ ap (λ limit. map (λ o. o.row) (limited limit (skipped offset answer.ordered))) limit_is
      ∙ ap (λ offset. map (λ o. o.row) (limited query.limit (skipped offset answer.ordered))) offset_is;
}

module _ (w : Datum) (db : Database) (query : QueryData) (results : AreResults query.order) (all rows : List Row) (same : IsPermutation (body_rows w db query.body) all)
    (limit : Option ℤ) (offset : ℤ) (limit_is : limit ≡ query.limit) (offset_is : offset ≡ query.offset) where
  -- in the order of result columns, or as they come
  results_permitted : (order : Option OrderData) → IsOrderOf query.order order → IsShown w order limit offset all rows → Permits w db query rows
  results_permitted None none answer =
      let permitted : Permits w db query (slice query all) = unordered_permitted w db query all none same in
      subst (Permits w db query)
      (sym (answer ∙ ap (λ limit. limited limit (skipped offset all)) limit_is ∙ ap (λ offset. limited query.limit (skipped offset all)) offset_is)) permitted
  results_permitted (Some order) is answer =
      let outs : map (shown_output w order) all ≡ plain_outputs (eval w) query.order all =
      shown_plain w order is.1 all ∙ ap (λ (keys : List Key). plain_outputs (eval w) keys all) is.0 in
      in_order_is_permitted w db query order limit offset all rows
      (subst (λ (bag : List Output). IsPermutation bag (map (shown_output w order) all)) (sym (outputs_are_plain w db query.order results query.body))
      (subst (IsPermutation (plain_outputs (eval w) query.order (body_rows w db query.body))) (sym outs)
      (IsPermutation-map (λ shown. output (eval w) query.order shown []) (body_rows w db query.body) all same)))
      (ap key_directions is.0) limit_is offset_is answer

pub answer_is_permitted : AnswerIsPermitted
answer_is_permitted w db query answer rows (inl of) shown =
    results_permitted w db query of.results (rows_of_arms w db answer.arms) rows (arms_are w db query.body answer.arms of.arms)
    answer.limit answer.offset of.limit of.offset answer.order of.order shown
answer_is_permitted w db query answer rows (inr of) shown =
    let arms : IsShown w answer.order answer.limit answer.offset (rows_of_arms w db (one of.arm)) rows =
    subst (λ (arms : ArmsData). IsShown w answer.order answer.limit answer.offset (rows_of_arms w db arms) rows) of.arms shown in
    in_order_is_permitted w db query of.order answer.limit answer.offset (rows_of_arms w db (one of.arm)) rows
    (subst (λ (b : Body). IsPermutation (outputs w db query.order b) (map (shown_output w of.order) (rows_of_arms w db (one of.arm)))) (sym of.body)
    (ordered_arm w db query.order of.from of.s of.arm of.order of.arm_is))
    (ordered_directions w db query.order of.from of.s of.arm of.order of.arm_is) of.limit of.offset
    (subst (λ (order : Option OrderData). IsShown w order answer.limit answer.offset (rows_of_arms w db (one of.arm)) rows) of.order_is arms)
