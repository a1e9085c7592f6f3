-- Gathered rows are the bag of rows that GROUP BY gives.
use Rattle.std.proofs.Common.{List, [], ◌∷◌, map, reverse, IsPermutation}
use Rattle.std.proofs.lemmas.List.Sorted.{Contains-permutation, IsPermutation-map, IsPermutation-refl, IsPermutation-reverse, IsPermutation-sym, IsPermutation-trans}
use Rattle.values.specs.Datum.{Datum}
use Rattle.values.specs.Row.{Row}
use Rattle.expr.specs.Meaning.{eval}
use Rattle.expr.specs.Term.{Term}
use Rattle.semantics.specs.Groups.{group_keys, group_of, group_row, groups}
use Rattle.semantics.specs.Times.{once}
use Rattle.semantics.specs.Valuation.{term_values}
use Rattle.semantics.proofs.TimesLemmas.{IsPermutation-once}
use Rattle.windows_groups.specs.row_groups.Gathered.{GatheredAreGroups, GatheredLeaveAsGroups, first_keys, firsts, groups_in_order}

firsts-same : (rows : List Row) → IsPermutation (once rows) (firsts rows)
firsts-same rows =
    IsPermutation-trans (once rows) (once (reverse rows)) (firsts rows) (IsPermutation-once rows (reverse rows) (IsPermutation-reverse rows))
    (IsPermutation-reverse (once (reverse rows)))

first_keys-same : (w : Datum) (by : List Term) (rows : List Row) → IsPermutation (group_keys (eval w) by rows) (first_keys w by rows)
first_keys-same w [] rows = IsPermutation-refl ([] ∷ [])
first_keys-same w (t ∷ ts) rows = firsts-same (map (term_values (eval w) (t ∷ ts)) rows)

groups-same : (w : Datum) (by : List Term) (rows : List Row) → IsPermutation (groups (eval w) by rows) (groups_in_order w by rows)
groups-same w by rows = IsPermutation-map (group_of (eval w) by rows) (group_keys (eval w) by rows) (first_keys w by rows) (first_keys-same w by rows)

pub gathered_are_groups : GatheredAreGroups
gathered_are_groups w g rows =
    IsPermutation-map (group_row (eval w) w g.aggregates) (groups (eval w) g.by rows) (groups_in_order w g.by rows) (groups-same w g.by rows)

pub gathered_leave_as_groups : GatheredLeaveAsGroups
gathered_leave_as_groups w g rows some =
    let held = Contains-permutation (groups_in_order w g.by rows) (groups (eval w) g.by rows) some.1
    (IsPermutation-sym (groups (eval w) g.by rows) (groups_in_order w g.by rows) (groups-same w g.by rows)) (some.0, some.2, some.3) in
    (held.0, some.1, held.1, held.2, some.4)
