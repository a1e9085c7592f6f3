-- How often a bag holds a row.
use Rattle.std.proofs.Common.{◌≡◌, Less, Equal, Greater, List, refl, sym, ap, ◌∙◌, true, min, IsPermutation}
use Rattle.std.specs.Ordering.{is_eq}
use Rattle.std.specs.Cmp.{tied_itself}
use Rattle.values.specs.Order.{row_cmp}
use Rattle.values.specs.OrderLaws.{row_cmp_total, row_cmp-IsAntisymmetric, row_eq-IsEquivalence}
use Rattle.semantics.specs.Query.{Operator, union, union_all, intersect, except}
use Rattle.values.specs.Row.{Row}
use Rattle.semantics.specs.Times.{same_row, times, once, rule_of, combined, RulesAreTimes, BagsAreTimes}
use Rattle.semantics.proofs.CountLemmas.{permutation_from_counts, counts_from_permutation, count_by_rule, count-one_each}

pub same_row-reads : (x y : Row) → same_row x y ≡ true → x ≡ y
same_row-reads x y e = row_cmp-IsAntisymmetric x y
    (elim (row_cmp x y) as (λ o. is_eq o ≡ true → o ≡ Equal) [ Less ↦ λ p. cc | Equal ↦ λ p. refl | Greater ↦ λ p. cc ] e)

pub same_row-itself : (x : Row) → same_row x x ≡ true
same_row-itself x = ap is_eq (tied_itself row_cmp_total x)

pub same_row-turned : (x y : Row) → same_row y x ≡ same_row x y
same_row-turned x y = sym (row_eq-IsEquivalence.symm x y)

pub bags_are_times : BagsAreTimes
bags_are_times xs ys = (
  counts_from_permutation same_row same_row-reads same_row-itself xs ys,
  permutation_from_counts same_row same_row-reads same_row-itself xs ys,
)

rule_of_none : (operator : Operator) → rule_of operator 0 0 ≡ 0
rule_of_none union = refl
rule_of_none union_all = refl
rule_of_none intersect = refl
rule_of_none except = refl

pub rules_are_times : RulesAreTimes
rules_are_times operator xs ys row =
    count_by_rule same_row same_row-reads same_row-itself (rule_of operator) (rule_of_none operator) xs ys row

pub times-once : (row : Row) (xs : List Row) → times row (once xs) ≡ min 1 (times row xs)
times-once row xs = count-one_each same_row same_row-reads same_row-itself row xs

-- each row once, of the same bag
pub IsPermutation-once : (xs ys : List Row) → IsPermutation xs ys → IsPermutation (once xs) (once ys)
IsPermutation-once xs ys same = (bags_are_times (once xs) (once ys)).1
    (λ row. times-once row xs ∙ ap (min 1) ((bags_are_times xs ys).0 same row) ∙ sym (times-once row ys))

pub IsPermutation-combined : (operator : Operator) (xs xs' ys ys' : List Row) → IsPermutation xs xs' → IsPermutation ys ys'
    → IsPermutation (combined operator xs ys) (combined operator xs' ys')
IsPermutation-combined operator xs xs' ys ys' p q = (bags_are_times (combined operator xs ys) (combined operator xs' ys')).1
    (λ row. rules_are_times operator xs ys row
    ∙ ap (λ m. rule_of operator m (times row ys)) ((bags_are_times xs xs').0 p row)
    ∙ ap (λ n. rule_of operator (times row xs') n) ((bags_are_times ys ys').0 q row)
    ∙ sym (rules_are_times operator xs' ys' row))
