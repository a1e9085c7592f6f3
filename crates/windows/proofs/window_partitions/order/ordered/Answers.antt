use Rattle.std.proofs.Common.{◌≡◌, ◌∙◌, All, List, [], length, map, ℕ, refl, sym, ap, subst, IsPermutation}
use Rattle.std.proofs.lemmas.List.{length-map}
use Rattle.std.proofs.lemmas.List.Sorted.{All-permutation, IsPermutation-map}
use Rattle.values.specs.Datum.{datum_of, null}
use Rattle.values.specs.Row.{Row}
use Rattle.expr.specs.Meaning.{eval}
use Rattle.semantics.specs.Query.{SortTerm}
use Rattle.semantics.specs.Valuation.{term_values}
use Rattle.semantics.specs.Windows as windows
use Rattle.resolver_terms.specs.SelectView.{direction_of, sort_of}
use Rattle.windows_groups.specs.declared.window_order.sorting.Entry.{Entry}
use Rattle.windows_groups.specs.window_order.Entries.{keys_of, rows_of}
use Rattle.windows.specs.window_entries.Tags.{tags_of}
use Rattle.windows.specs.window_partitions.Tagged.{AreAlike, rows_of_tags, terms_of}
use Rattle.windows.proofs.lemmas.window_partitions.AlikeLemmas.{IsKeyed, alike, all_keyed, all_long, all_of, keys_from_all, rows-of_tags}
use Rattle.windows.proofs.window_partitions.order.ordered.Goals as goal

same_rows : (given before : List Entry) → tags_of before ≡ tags_of given → rows_of given ≡ rows_of before
same_rows given before is = sym (rows-of_tags given) ∙ ap rows_of_tags (sym is) ∙ rows-of_tags before

keyed : (K : Row → Row) (given before : List Entry) → tags_of before ≡ tags_of given → keys_of before ≡ map K (rows_of given) → All (IsKeyed [] K) before
keyed K given before is keys = all_keyed [] K before (keys ∙ ap (map K) (same_rows given before is))

pub returns-clause-in_order : goal.returns-clause-in_order
returns-clause-in_order c =
    let ts = terms_of (map sort_of c.args.order.now) in
    c.in_ok-sort.ensures.in_order
    (all_long (eval null) ts (length (map direction_of c.args.directions.now)) c.in_ok-placed.placed.items
    (length-map (map sort_of c.args.order.now) (λ (s : SortTerm). s.term) ∙ sym (length-map (map sort_of c.args.order.now) (λ (s : SortTerm). s.direction)) ∙ ap length c.requires)
    (keyed (term_values (eval null) ts) c.args.entries.now c.in_ok-placed.placed.items c.in_ok-placed.ensures.rows (c.in_ok-placed.ensures.keys null)))

pub returns-clause-same : goal.returns-clause-same
returns-clause-same c =
    subst (λ (l : List (Row × ℕ)). IsPermutation l (tags_of c.sort.new.entries.items)) c.in_ok-placed.ensures.rows
    (IsPermutation-map (λ (e : Entry). (map datum_of e.row.now, e.index)) c.in_ok-placed.placed.items c.sort.new.entries.items c.sort.ensures.same)

pub returns-clause-ties : goal.returns-clause-ties
returns-clause-ties c =
    let K = term_values (eval null) (terms_of (map sort_of c.args.order.now)) in
    subst (λ (l : List (Row × ℕ)). AreAlike l (tags_of c.sort.new.entries.items)) c.in_ok-placed.ensures.rows
    (alike (map direction_of c.args.directions.now) K c.in_ok-placed.placed.items c.sort.new.entries.items c.sort.ensures.same c.sort.ensures.stable
    (keyed K c.args.entries.now c.in_ok-placed.placed.items c.in_ok-placed.ensures.rows (c.in_ok-placed.ensures.keys null)))

pub returns-clause-keys : goal.returns-clause-keys
returns-clause-keys c = λ w.
    let K = term_values (eval w) (terms_of (map sort_of c.args.order.now)) in
    keys_from_all [] K c.sort.new.entries.items
    (All-permutation (IsKeyed [] K) c.in_ok-placed.placed.items c.sort.new.entries.items c.sort.ensures.same
    (keyed K c.args.entries.now c.in_ok-placed.placed.items c.in_ok-placed.ensures.rows (c.in_ok-placed.ensures.keys w)))

pub returns-clause-sequence : goal.returns-clause-sequence
returns-clause-sequence c = λ w.
    let order = map sort_of c.args.order.now in
    let ts = terms_of (map sort_of c.args.order.now) in
    let before = c.in_ok-placed.placed.items in
    let all = keyed (term_values (eval w) ts) c.args.entries.now before c.in_ok-placed.ensures.rows (c.in_ok-placed.ensures.keys w) in
    (c.in_ok-sort.ensures.sequence (eval w) order c.requires (all_of (eval w) order ts before refl all)).rows
    ∙ ap (windows.sequence (eval w) order) (sym (same_rows c.args.entries.now before c.in_ok-placed.ensures.rows))
