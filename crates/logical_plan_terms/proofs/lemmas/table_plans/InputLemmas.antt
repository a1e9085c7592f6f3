-- What a SELECT stands on is told by its sources and its inner queries.
use Rattle.std.proofs.Common.{◌≡◌, ◌∙◌, ◌||◌, ◌≤◌, ◌<◌, ◌+◌, All, MatchOption, Option, None, Some, true, false, ℕ, List, [], ◌∷◌, ◌++◌, drop, get_or, length, map, take, refl, rules, ap, sym, subst, arith}
use Rattle.std.proofs.lemmas.List.{map-append, take_more, take-append-drop}
use Rattle.std.specs.List.{list_any}
use Rattle.std.specs.Option.{is_some}
use Rattle.resolver_bodies.specs.BodyView.{JoinedData, joined_all, joined_of}
use Rattle.resolver_bodies.specs.declared.bodies.Body.TheFolds.{fold_out-Joined}
use Rattle.resolver_bodies.specs.declared.bodies.Body.TheViews.{the_lemmas}
use Rattle.resolver_bodies.specs.declared.bodies.Joined.{Joined}
use Rattle.expr.specs.Columns.{columns_of}
use Rattle.semantics.specs.Joins.{pads_left}
use Rattle.semantics.specs.Query.{From, InnerQuery, from_width, joined, nothing, source_width, table, with_inner}
use Rattle.semantics_names.specs.Sources.{kind_of}
use Rattle.semantics_names.specs.Statement.{with_answers}
use Rattle.logical_plan.specs.JoinPlan.{has_right}
use Rattle.expr.specs.View.{term}
use Rattle.logical_plan_terms.specs.table_plans.TableJoins.{AreTableJoins}
use Rattle.logical_plan_terms.specs.table_plans.Input.{from_of, joined_table}
use Rattle.logical_plan_terms.specs.declared.table_plans.inputs.JoinedTable.{JoinedTable}

-- ---- one table more

pub joined_all-append : (from : From) (xs ys : List JoinedData) → joined_all from (xs ++ ys) ≡ joined_all (joined_all from xs) ys
joined_all-append from [] ys = refl
joined_all-append from (x ∷ xs) ys = joined_all-append (joined from x.kind x.source x.condition) xs ys

pub from_of-push : (ts : List JoinedTable) (t : JoinedTable) → from_of (ts ++ t ∷ []) ≡ joined (from_of ts) (kind_of t.join) (table t.table t.width) (term t.condition.now)
from_of-push ts t =
    ap (joined_all nothing) (map-append joined_table ts (t ∷ [])) ∙ joined_all-append nothing (map joined_table ts) (joined_table t ∷ [])

module _ (ts : List JoinedTable) (i : ℕ) (t : JoinedTable) (within : i < length ts) (found : t ≡ get_or ts i t) where
  pub from_of-take : from_of (take (i + 1) ts) ≡ joined (from_of (take i ts)) (kind_of t.join) (table t.table t.width) (term t.condition.now)
  from_of-take =
      ap from_of (take_more ts i t within ∙ ap (λ (t : JoinedTable). take i ts ++ t ∷ []) (sym found)) ∙ from_of-push (take i ts) t

  -- with its columns
  pub width-take : from_width (from_of (take (i + 1) ts)) ≡ from_width (from_of (take i ts)) + t.width
  width-take = ap from_width from_of-take

width_grows : (from : From) (js : List JoinedData) → from_width from ≤ from_width (joined_all from js)
width_grows from [] = omega arith
width_grows from (j ∷ js) =
    let rest : from_width from + source_width j.source ≤ from_width (joined_all (joined from j.kind j.source j.condition) js) =
    width_grows (joined from j.kind j.source j.condition) js in
    omega (arith, rest)

-- some of the tables have no more columns than all
pub width_of_some : (ts : List JoinedTable) (i : ℕ) → from_width (from_of (take i ts)) ≤ from_width (from_of ts)
width_of_some ts i =
    subst (λ n. from_width (from_of (take i ts)) ≤ n)
    (ap from_width (sym (joined_all-append nothing (map joined_table (take i ts)) (map joined_table (drop i ts)))
    ∙ ap (joined_all nothing) (sym (map-append joined_table (take i ts) (drop i ts)) ∙ ap (map joined_table) (take-append-drop i ts))))
    (width_grows (from_of (take i ts)) (map joined_table (drop i ts)))

-- ---- joins

-- a RIGHT or FULL JOIN is among these
right_all : (from : From) (js : List JoinedData) → has_right (joined_all from js) ≡ (has_right from || list_any (λ (j : JoinedData). pads_left j.kind) js)
right_all from [] = elim (has_right from) as (λ b. b ≡ (b || false)) [ true ↦ refl | false ↦ refl ]
right_all from (j ∷ js) =
    right_all (joined from j.kind j.source j.condition) js
    ∙ elim (has_right from) as (λ b. ((b || pads_left j.kind) || list_any (λ (j : JoinedData). pads_left j.kind) js)
    ≡ (b || (pads_left j.kind || list_any (λ (j : JoinedData). pads_left j.kind) js))) [ true ↦ refl | false ↦ refl ]

pub right_of : (ts : List JoinedTable) → has_right (from_of ts) ≡ list_any (λ (t : JoinedTable). pads_left (kind_of t.join)) ts
right_of ts = right_all nothing (map joined_table ts) ∙ each ts
  where
    each : (ts : List JoinedTable) → list_any (λ (j : JoinedData). pads_left j.kind) (map joined_table ts) ≡ list_any (λ (t : JoinedTable). pads_left (kind_of t.join)) ts
    each [] = refl
    each (t ∷ ts) = ap (λ b. pads_left (kind_of t.join) || b) (each ts)

pub joins_before : (from : From) (js : List JoinedData) → AreTableJoins (joined_all from js) → AreTableJoins from
joins_before from [] all = all
joins_before from (j ∷ js) all = (joins_before (joined from j.kind j.source j.condition) js all).0

pub not_answered : (from : From) (qs : List InnerQuery) → 0 < length qs → ¬ AreTableJoins (with_answers from qs)
not_answered from [] some all = omega (arith, some)
not_answered from (q ∷ qs) some all = refused (with_inner from q) qs (λ none. none) all
  where
    refused : (from : From) (qs : List InnerQuery) → ¬ AreTableJoins from → ¬ AreTableJoins (with_answers from qs)
    refused from [] other all = other all
    refused from (q ∷ qs) other all = refused (with_inner from q) qs (λ none. none) all

-- ---- one source more

condition_is : (j : Joined) → (joined_of j).condition ≡ term j.condition
condition_is j = search (rules, the_lemmas, fold_out-Joined)

module _ (sources : List Joined) (i : ℕ) (j : Joined) (within : i < length sources) (found : j ≡ get_or sources i j) (ts : List JoinedTable)
    (before_is : joined_all nothing (map joined_of (take i sources)) ≡ from_of ts) where
  abbrev behind : From
  behind = joined (from_of ts) (joined_of j).kind (joined_of j).source (joined_of j).condition

  pub sources_are : joined_all nothing (map joined_of (take (i + 1) sources)) ≡ behind
  sources_are =
      ap (joined_all nothing)
      (ap (map joined_of) (take_more sources i j within ∙ ap (λ (j : Joined). take i sources ++ j ∷ []) (sym found)) ∙ map-append joined_of (take i sources) (j ∷ []))
      ∙ joined_all-append nothing (map joined_of (take i sources)) (joined_of j ∷ [])
      ∙ ap (λ from. joined from (joined_of j).kind (joined_of j).source (joined_of j).condition) before_is

  -- where all are joined so, these are
  pub these_joined : AreTableJoins (joined_all nothing (map joined_of sources)) → AreTableJoins behind
  these_joined all =
      subst AreTableJoins sources_are
      (joins_before (joined_all nothing (map joined_of (take (i + 1) sources))) (map joined_of (drop (i + 1) sources))
      (subst AreTableJoins
      (ap (joined_all nothing) (ap (map joined_of) (sym (take-append-drop (i + 1) sources)) ∙ map-append joined_of (take (i + 1) sources) (drop (i + 1) sources))
      ∙ joined_all-append nothing (map joined_of (take (i + 1) sources)) (map joined_of (drop (i + 1) sources)))
      all))

  module _ (t : JoinedTable) (same : joined_of j ≡ joined_table t) where
    pub pushed_is : behind ≡ from_of (ts ++ t ∷ [])
    pushed_is = ap (λ (d : JoinedData). joined (from_of ts) d.kind d.source d.condition) same ∙ sym (from_of-push ts t)

    pub outside : ¬ All (λ c. c < from_width (from_of (ts ++ t ∷ []))) (columns_of (term j.condition)) → ¬ AreTableJoins (joined_all nothing (map joined_of sources))
    outside no_one all =
        no_one (subst (λ from. All (λ c. c < from_width from) (columns_of (term j.condition))) pushed_is (subst (λ e. All (λ c. c < from_width behind) (columns_of e)) (condition_is j) (these_joined all).2))

    pub one_more : AreTableJoins (from_of ts) → All (λ c. c < from_width (from_of (ts ++ t ∷ []))) (columns_of (term j.condition))
        → AreTableJoins (from_of (ts ++ t ∷ []))
    one_more before within =
        subst AreTableJoins (sym (from_of-push ts t)) (
          before,
          record { at = t.table; width = t.width; source_is = refl },
          subst (λ from. All (λ c. c < from_width from) (columns_of (term t.condition.now))) (from_of-push ts t)
              (subst (λ e. All (λ c. c < from_width (from_of (ts ++ t ∷ []))) (columns_of e)) (sym (condition_is j) ∙ ap (λ (d : JoinedData). d.condition) same) within),
        )

-- ---- columns

pub is_none : (o : Option ℕ) (P : Type 0) (Q : ℕ → Type 0) → is_some o ≡ false → MatchOption o P Q → P
is_none None P Q none is = is
is_none (Some n) P Q none is = absurd (cc)

pub is_there : (o : Option ℕ) (P : Type 0) (Q : ℕ → Type 0) → is_some o ≡ true → MatchOption o P Q → (n : ℕ) × Q n
is_there None P Q some is = absurd cc
is_there (Some n) P Q some is = (n, is)
