use Rattle.std.proofs.Common.{◌≡◌, ◌∙◌, ◌-◌, ◌<◌, ◌≤◌, true, false, ℕ, Some, Option, Ordering, List, get_or, length, map, refl, sym, ap, arith, subst, take}
use Rattle.std.specs.List.{slice_get}
use Rattle.std.specs.Ordering.{is_lt}
use Rattle.std.proofs.lemmas.List.{get_or-take, length-take}
use Rattle.std.proofs.lemmas.Option.{get_or_from_slice_get}
use Rattle.values.specs.Datum.{datum_of}
use Rattle.values.specs.Row.{Row}
use Rattle.windows_groups.specs.Firsts.{IsBehind}
use Rattle.windows_groups.specs.Keys.{comes_before}
use Rattle.windows_groups.proofs.FirstLemmas.{IsBehind-at, comes_before_order, less_is, not_behind_first, not_less}
use Rattle.windows_groups.specs.distinct_rows.OnceView.{first_of}
use Rattle.windows_groups.proofs.distinct_rows.distinct_in_order.DistinctInOrder.is_behind.Goals as goal

-- the last of as many, among those that were put in order
last_is : (keys : List Row) (ordered most at : ℕ) (last : Row) → slice_get keys at ≡ Some last → at < length keys → 1 ≤ most → at ≡ most - 1 → most ≤ ordered
    → (last ≡ get_or (take ordered keys) (most - 1) last) × (most ≤ length (take ordered keys))
last_is keys ordered most at last found within some place enough =
    let long = length-take ordered keys in (
      sym (get_or_from_slice_get keys at last last found) ∙ ap (λ n. get_or keys n last) place ∙ sym (get_or-take ordered keys (most - 1) last (omega (arith, some, enough))),
      omega (arith, long, within, some, place, enough),
    )

pub returns-in-Some-get_index-clause-behind : goal.returns-in-Some-get_index-clause-behind
returns-in-Some-get_index-clause-behind c = λ is up.
    let order = c.args.order.now in
    let most = c.in-Some.most in
    let row = map datum_of c.args.row.now in
    let some = c.in-Some-checked_sub.ensures.0 in
    let last = c.in-Some-get_index.last.now in
    let found = last_is c.args.self.now.kept.keys c.args.self.now.ordered most c.in-Some-checked_sub.at last (sym c.in-Some-get_index.ensures.key)
    (c.in-Some-get_index.ensures.found.0 refl) some c.in-Some-checked_sub.ensures.1 c.if-self-most.false in
    let at_least : c.is_ge.result ≡ true = is in
    let compared = rw c.as_slice.ensures at c.compare_rows.ensures in
    subst (λ (m : Option ℕ). IsBehind (comes_before order) m (first_of c.args.self.now) row) (sym c.in-Some.is)
    (IsBehind-at (comes_before order) (comes_before_order order) most (first_of c.args.self.now) row last up found.1 (omega (arith, some)) found.0
    (subst (λ (o : Ordering). is_lt o ≡ false) compared (not_less c.compare_rows.result (sym c.is_ge.ensures ∙ at_least))))

pub returns-in-Some-get_index-clause-ahead : goal.returns-in-Some-get_index-clause-ahead
returns-in-Some-get_index-clause-ahead c = λ is up behind.
    let order = c.args.order.now in
    let most = c.in-Some.most in
    let row = map datum_of c.args.row.now in
    let some = c.in-Some-checked_sub.ensures.0 in
    let last = c.in-Some-get_index.last.now in
    let found = last_is c.args.self.now.kept.keys c.args.self.now.ordered most c.in-Some-checked_sub.at last (sym c.in-Some-get_index.ensures.key)
    (c.in-Some-get_index.ensures.found.0 refl) some c.in-Some-checked_sub.ensures.1 c.if-self-most.false in
    let less : c.is_ge.result ≡ false = is in
    let compared = rw c.as_slice.ensures at c.compare_rows.ensures in
    not_behind_first (comes_before order) (comes_before_order order) most (first_of c.args.self.now) row last up found.1 (omega (arith, some)) found.0
    (subst (λ (o : Ordering). is_lt o ≡ true) compared (less_is c.compare_rows.result (sym c.is_ge.ensures ∙ less)))
    (subst (λ (m : Option ℕ). IsBehind (comes_before order) m (first_of c.args.self.now) row) c.in-Some.is behind)
