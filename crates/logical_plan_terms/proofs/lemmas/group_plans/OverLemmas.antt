-- Aggregates over the columns that are read, and the columns of a group's row.
use Rattle.std.proofs.Common.{◌≡◌, ◌∙◌, ◌+◌, ◌<◌, ℕ, All, List, [], ◌∷◌, ◌++◌, get_or, length, map, take, sym, ap, subst, arith}
use Rattle.std.specs.List.{AllZip, range_with_len}
use Rattle.std.proofs.Math.ListN.{get_or-map}
use Rattle.std.proofs.lemmas.List.{length-map, map-append, take_more}
use Rattle.std.proofs.lemmas.List.Elements.{All-get_or, AllZip-push}
use Rattle.std.proofs.lemmas.List.FromFn.{map-range_with_len_more}
use Rattle.semantics.proofs.ScanLemmas.{map-identity}
use Rattle.semantics.specs.Query.{Aggregate}
use Rattle.logical_plan_terms.specs.Over.{IsOver}
use Rattle.resolver_terms.specs.SelectView.{aggregate_of}
use Rattle.expr.specs.View.{term}
use Rattle.resolver_terms.specs.declared.selects.Aggregate as written
use Rattle.logical_plan_terms.specs.group_plans.Grouped.{AggregateStandsOver}

pub range_more : (n : ℕ) → range_with_len 0 (n + 1) ≡ range_with_len 0 n ++ n ∷ []
range_more n =
    sym (map-identity (range_with_len 0 (n + 1))) ∙ map-range_with_len_more (λ k. k) 0 n n (omega arith)
    ∙ ap (λ ks. ks ++ n ∷ []) (map-identity (range_with_len 0 n))

module _ (read : List ℕ) (inner : ℕ) (all : List written.Aggregate) (at : ℕ) (one : written.Aggregate) (within : at < length all) (is : one ≡ get_or all at one) where
  pub not_over : (IsOver read inner (term one.argument) → ⊥) → All (λ (a : Aggregate). IsOver read inner a.argument) (map aggregate_of all) → ⊥
  not_over fails over =
      fails (subst (λ (a : Aggregate). IsOver read inner a.argument) (get_or-map aggregate_of all at one ∙ ap aggregate_of (sym is))
      (All-get_or (λ (a : Aggregate). IsOver read inner a.argument) (map aggregate_of all) at (aggregate_of one) (omega (arith, within, length-map all aggregate_of)) over))

  pub aggregate_more : (over : List written.Aggregate) (more : written.Aggregate)
      → AllZip (AggregateStandsOver read inner) (map aggregate_of over) (map aggregate_of (take at all))
      → AggregateStandsOver read inner (aggregate_of more) (aggregate_of one)
      → AllZip (AggregateStandsOver read inner) (map aggregate_of (over ++ more ∷ [])) (map aggregate_of (take (at + 1) all))
  aggregate_more over more before stands =
      rw (map-append aggregate_of over (more ∷ []), take_more all at one within, sym is, map-append aggregate_of (take at all) (one ∷ []))
      (AllZip-push (AggregateStandsOver read inner) (map aggregate_of over) (map aggregate_of (take at all)) (aggregate_of more) (aggregate_of one) before stands)
