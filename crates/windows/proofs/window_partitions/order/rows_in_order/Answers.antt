use Rattle.std.proofs.Common.{◌≡◌, ◌∙◌, All, List, [], length, map, ℕ, sym, ap, subst, IsPermutation}
use Rattle.std.proofs.lemmas.List.{length-map}
use Rattle.std.proofs.lemmas.List.Sorted.{All-permutation, IsPermutation-map}
use Rattle.values.specs.Datum.{datum_of, null}
use Rattle.values.specs.Row.{Row, rows_data}
use Rattle.expr.specs.Meaning.{eval}
use Rattle.expr.specs.View.{term}
use Rattle.semantics.specs.Valuation.{term_values}
use Rattle.resolver_terms.specs.SelectView.{direction_of}
use Rattle.windows_groups.specs.declared.window_order.sorting.Entry.{Entry}
use Rattle.windows_groups.specs.window_order.Entries.{keys_of, rows_of}
use Rattle.windows.specs.window_entries.Tags.{tags_of}
use Rattle.windows.specs.window_partitions.Tagged.{AreAlike}
use Rattle.windows.proofs.lemmas.window_partitions.AlikeLemmas.{IsKeyed, alike, all_keyed, all_long, keys_from_all}
use Rattle.windows.proofs.lemmas.window_partitions.TagLemmas.{all_tags}
use Rattle.windows.proofs.window_partitions.order.rows_in_order.Goals as goal

keyed : (K : Row → Row) (rows : List Row) (before : List Entry) → rows_of before ≡ rows → keys_of before ≡ map K rows → All (IsKeyed [] K) before
keyed K rows before are keys = all_keyed [] K before (keys ∙ ap (map K) (sym are))

pub returns-clause-in_order : goal.returns-clause-in_order
returns-clause-in_order c =
    let ts = map term c.args.terms.now in
    c.in_ok-sort.ensures.in_order
    (all_long (eval null) ts (length (map direction_of c.args.directions.now)) c.in_ok-sorted.sorted.items
    (length-map c.args.terms.now term ∙ c.requires ∙ sym (length-map c.args.directions.now direction_of))
    (keyed (term_values (eval null) ts) (rows_data c.args.rows.now) c.in_ok-sorted.sorted.items c.in_ok-sorted.ensures.rows (c.in_ok-sorted.ensures.keys null)))

pub returns-clause-same : goal.returns-clause-same
returns-clause-same c =
    subst (λ (l : List (Row × ℕ)). IsPermutation l (tags_of c.sort.new.entries.items)) (all_tags c.in_ok-sorted.sorted.items c.args.rows.now c.in_ok-sorted.ensures.rows c.in_ok-sorted.ensures.places)
    (IsPermutation-map (λ (e : Entry). (map datum_of e.row.now, e.index)) c.in_ok-sorted.sorted.items c.sort.new.entries.items c.sort.ensures.same)

pub returns-clause-ties : goal.returns-clause-ties
returns-clause-ties c =
    let K = term_values (eval null) (map term c.args.terms.now) in
    subst (λ (l : List (Row × ℕ)). AreAlike l (tags_of c.sort.new.entries.items)) (all_tags c.in_ok-sorted.sorted.items c.args.rows.now c.in_ok-sorted.ensures.rows c.in_ok-sorted.ensures.places)
    (alike (map direction_of c.args.directions.now) K c.in_ok-sorted.sorted.items c.sort.new.entries.items c.sort.ensures.same c.sort.ensures.stable
    (keyed K (rows_data c.args.rows.now) c.in_ok-sorted.sorted.items c.in_ok-sorted.ensures.rows (c.in_ok-sorted.ensures.keys null)))

pub returns-clause-keys : goal.returns-clause-keys
returns-clause-keys c = λ w.
    let K = term_values (eval w) (map term c.args.terms.now) in
    keys_from_all [] K c.sort.new.entries.items
    (All-permutation (IsKeyed [] K) c.in_ok-sorted.sorted.items c.sort.new.entries.items c.sort.ensures.same
    (keyed K (rows_data c.args.rows.now) c.in_ok-sorted.sorted.items c.in_ok-sorted.ensures.rows (c.in_ok-sorted.ensures.keys w)))
