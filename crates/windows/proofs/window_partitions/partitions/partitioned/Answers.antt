use Rattle.std.proofs.Common.{◌≡◌, ◌∙◌, ℕ, List, map, sym, ap, subst, arith, Vec, Global}
use Rattle.std.proofs.lemmas.List.{length-map}
use Rattle.std.proofs.lemmas.List.Sorted.{length_permutation}
use Rattle.values.specs.Datum.{datum_of}
use Rattle.values.specs.declared.value.Value.{Value}
use Rattle.values.specs.Row.{Row, rows_data}
use Rattle.expr.specs.Meaning.{eval}
use Rattle.expr.specs.View.{term}
use Rattle.semantics.specs.Valuation.{term_values}
use Rattle.sql_reader_syntax.specs.declared.query.Direction.{Direction as Way}
use Rattle.resolver_terms.specs.SelectView.{direction_of}
use Rattle.windows_groups.specs.declared.window_order.peers.PeerGroups.{PeerGroups}
use Rattle.windows_groups.specs.declared.window_order.sorting.Entry.{Entry}
use Rattle.windows_groups.specs.window_order.Entries.{IsInWindowOrder, keys_of}
use Rattle.windows_groups.specs.window_order.Groups.{AreGroups}
use Rattle.windows_groups.proofs.lemmas.window_order.EntryLemmas.{length-keys_of}
use Rattle.windows.specs.window_entries.Tags.{tags_of}
use Rattle.windows.proofs.lemmas.window_entries.ValueLemmas.{map-map}
use Rattle.windows.specs.window_partitions.Tagged.{tagged}
use Rattle.windows.proofs.lemmas.window_partitions.AlikeLemmas.{rows-of_tags}
use Rattle.windows.proofs.lemmas.window_partitions.TagLemmas.{length-tagged}
use Rattle.windows.proofs.lemmas.window_partitions.PartLemmas.{are_partitions, start_rises}
use Rattle.windows.proofs.window_partitions.partitions.partitioned.Goals as goal

same_groups : (given before after : List Way) (es placed : List Entry) (groups : PeerGroups) → before ≡ given → after ≡ given → placed ≡ es
    → IsInWindowOrder (map direction_of before) (keys_of es) → AreGroups (map direction_of after) (keys_of placed) groups
    → IsInWindowOrder (map direction_of given) (keys_of es) × AreGroups (map direction_of given) (keys_of es) groups
same_groups given before after es placed groups p q r up are = (
  subst (λ (l : List Way). IsInWindowOrder (map direction_of l) (keys_of es)) p up,
  subst (λ (l : List Entry). AreGroups (map direction_of given) (keys_of l) groups) r (subst (λ (l : List Way). AreGroups (map direction_of l) (keys_of placed) groups) q are),
)

pub invariant_of-result : goal.invariant_of-result
invariant_of-result c =
    let placed = c.in_ok-placed.placed.items in
    let groups = c.in_ok-groups.groups in
    let ways = c.in_ok-directions.directions.items in
    let both = same_groups ways c.as_slice.result.now c.as_slice-2.result.now placed c.as_slice-3.result.now groups c.as_slice.ensures.value c.as_slice-2.ensures.value c.as_slice-3.ensures.value
    c.in_ok-placed.ensures.in_order c.in_ok-groups.ensures in
    record {
      rises = λ g h. start_rises (map direction_of ways) (keys_of placed) groups both.0 both.1 g h;
      within = λ g h. let bound = both.1.within g h in let size = length-keys_of placed in omega (arith, bound, size);
    }

pub returns-clause-parts : goal.returns-clause-parts
returns-clause-parts c = λ w window is.
    let rows = map (λ (row : Vec Value Global). map datum_of row.items) c.args.rows.now in
    let placed = c.in_ok-placed.placed.items in
    let groups = c.in_ok-groups.groups in
    let ways = c.in_ok-directions.directions.items in
    let both = same_groups ways c.as_slice.result.now c.as_slice-2.result.now placed c.as_slice-3.result.now groups c.as_slice.ensures.value c.as_slice-2.ensures.value c.as_slice-3.ensures.value
    c.in_ok-placed.ensures.in_order c.in_ok-groups.ensures in
    let K : Row → Row = term_values (eval w) (map term c.args.terms.now) in
    let keys : keys_of placed ≡ map (λ (t : Row × ℕ). K t.0) (tags_of placed) =
    c.in_ok-placed.ensures.keys w ∙ ap (map K) (sym (rows-of_tags placed)) ∙ map-map K (λ (t : Row × ℕ). t.0) (tags_of placed) in
    are_partitions (map direction_of ways) (keys_of placed) groups both.0 both.1 K (tags_of placed) keys rows
    c.in_ok-placed.ensures.same c.in_ok-placed.ensures.ties
    (eval w) window (ap (term_values (eval w)) (sym is))

pub returns-clause-size : goal.returns-clause-size
returns-clause-size c =
    sym (length-map c.in_ok-placed.placed.items (λ (e : Entry). (map datum_of e.row.now, e.index)))
    ∙ length_permutation (tagged 0 (rows_data c.args.rows.now)) (tags_of c.in_ok-placed.placed.items) c.in_ok-placed.ensures.same
    ∙ length-tagged 0 (rows_data c.args.rows.now) ∙ length-map c.args.rows.now (λ (row : Vec Value Global). map datum_of row.items)
