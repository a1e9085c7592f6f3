-- Rows of which each column is read, and which columns are.
use Rattle.std.proofs.Common.{◌≡◌, ◌∙◌, ◌+◌, ◌<◌, ◌==◌, All, Bool, true, false, is_some, not, ℕ, List, [], ◌∷◌, length, map, option_map, Option, Some, None, Result, Ok, Err, IfOk, refl, sym, ap, subst, arith}
use Rattle.std.specs.Global.{Vec}
use Rattle.std.specs.List.{range_with_len}
use Rattle.std.specs.List.Sorted.{IsStrictlyIncreasing}
use Rattle.std.proofs.Math.Dec.{eqb-suc-zero}
use Rattle.std.proofs.lemmas.List.FromFn.{get_or-range_with_len, length-range_with_len}
use Rattle.semantics.specs.Query.{From, Key, Select, from_width}
use Rattle.logical_plan_terms.specs.Over.{AreWhole}
use Rattle.resolver_terms.specs.SelectView.{call_of, grouping_of}
use Rattle.resolver_terms.specs.declared.selects.Grouping as selects_grouping
use Rattle.resolver_terms.specs.declared.selects.WindowCall as selects_call
use Rattle.logical_plan_queries.specs.select_plans.Read.{AreRead, IsReadBy, IsReadOf, reads_all, terms_in}

-- the places of a row, in their order
pub places_up : (n : ℕ) → IsStrictlyIncreasing (range_with_len 0 n)
places_up n k within =
    let long = length-range_with_len 0 n in
    let here = get_or-range_with_len 0 n k 0 (omega (arith, within, long)) in
    let next = get_or-range_with_len 0 n (k + 1) 0 (omega (arith, within, long)) in
    omega (arith, here, next)

pub places_within : (n : ℕ) → All (λ c. c < n) (range_with_len 0 n)
places_within n k d within =
    let long = length-range_with_len 0 n in
    let here = get_or-range_with_len 0 n k d (omega (arith, within, long)) in
    omega (arith, within, long, here)

pub places_whole : (read : List ℕ) (n : ℕ) → read ≡ range_with_len 0 n → AreWhole read
places_whole read n is = is ∙ ap (range_with_len 0) (sym (length-range_with_len 0 n)) ∙ ap (λ (xs : List ℕ). range_with_len 0 (length xs)) (sym is)

-- ---- the tests of the code

pub some_read : (calls : List selects_call.WindowCall) (grouping : Option selects_grouping.Grouping) (b : Bool) → (length calls == 0) ≡ false → is_some grouping ≡ not b
    → b ≡ reads_all (map call_of calls) (option_map grouping_of grouping)
some_read [] grouping b some is = absurd cc
some_read (call ∷ calls) None true some is = refl
some_read (call ∷ calls) None false some is = absurd cc
some_read (call ∷ calls) (Some g) true some is = absurd cc
some_read (call ∷ calls) (Some g) false some is = refl

pub none_read : (calls : List selects_call.WindowCall) (grouping : Option selects_grouping.Grouping) → (length calls == 0) ≡ true
    → false ≡ reads_all (map call_of calls) (option_map grouping_of grouping)
none_read [] grouping none = refl
none_read (call ∷ calls) grouping none = absurd (let e = eqb-suc-zero (length calls) in cc)

-- ---- what is read of the rows of FROM

module _ {E : Type 0} (from : From) (s : Select) (order : List Key) (found : Result (Vec ℕ) E) where
  -- where windows take these, each column
  pub all_told : reads_all s.windows s.grouping ≡ true → IfOk found (λ read. read.items ≡ range_with_len 0 (from_width from))
      → IfOk found (λ read. IsReadOf from s order read.items)
  all_told all = by_found found
    where
      by_found : (found : Result (Vec ℕ) E) → IfOk found (λ read. read.items ≡ range_with_len 0 (from_width from)) → IfOk found (λ read. IsReadOf from s order read.items)
      by_found (Ok read) is = subst (λ b. IsReadBy b from (terms_in from s order) read.items) (sym all) is
      by_found (Err e) is = tt

  -- they stand in their order
  pub up_told : IfOk found (λ read. read.items ≡ range_with_len 0 (from_width from)) → IfOk found (λ read. IsStrictlyIncreasing read.items)
  up_told = by_found found
    where
      by_found : (found : Result (Vec ℕ) E) → IfOk found (λ read. read.items ≡ range_with_len 0 (from_width from)) → IfOk found (λ read. IsStrictlyIncreasing read.items)
      by_found (Ok read) is = subst IsStrictlyIncreasing (sym is) (places_up (from_width from))
      by_found (Err e) is = tt

  -- elsewhere those that are named
  pub named_told : reads_all s.windows s.grouping ≡ false → IfOk found (λ read. AreRead read.items (terms_in from s order))
      → IfOk found (λ read. IsReadOf from s order read.items)
  named_told named = by_found found
    where
      by_found : (found : Result (Vec ℕ) E) → IfOk found (λ read. AreRead read.items (terms_in from s order)) → IfOk found (λ read. IsReadOf from s order read.items)
      by_found (Ok read) is = subst (λ b. IsReadBy b from (terms_in from s order) read.items) (sym named) is
      by_found (Err e) is = tt
