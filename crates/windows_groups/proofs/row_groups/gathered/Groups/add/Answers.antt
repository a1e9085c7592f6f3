use Rattle.std.proofs.Common.{◌≡◌, ◌∙◌, ◌++◌, [], ◌∷◌, cond, drop, Err, length, map, set, ap, refl, sym, arith}
use Rattle.std.specs.Global.{Vec}
use Rattle.std.specs.List.{list_any, position_or_len}
use Rattle.std.specs.Vec.{with_item, with_items}
use Rattle.std.proofs.Math.ListN.{get_or-map}
use Rattle.std.proofs.lemmas.List.{map-set}
use Rattle.indexmap.specs.IndexSet.{insert_key}
use Rattle.std.proofs.lemmas.Result.{err_from_is_err_and}
use Rattle.values.specs.Datum.{datum_of}
use Rattle.values.specs.declared.fault.Fault.TheVariants.{Overflow}
use Rattle.expr.specs.Meaning.{Overflows}
use Rattle.expr.specs.View.{term}
use Rattle.semantics.specs.Query.{Aggregate}
use Rattle.semantics.specs.Times.{same_row}
use Rattle.windows_groups.specs.declared.aggregates.accumulator.Accumulator.{Accumulator}
use Rattle.windows_groups.specs.aggregates.State.{state_of, states_after}
use Rattle.windows_groups.specs.row_groups.Kept.{states_of}
use Rattle.windows_groups.proofs.lemmas.row_groups.AnyLemmas.{any_left, any_mapped, any_right}
use Rattle.windows_groups.specs.row_groups.GroupView.{group_terms_data}
use Rattle.windows_groups.proofs.lemmas.row_groups.GatherLemmas.{group_added, group_here, group_within, written_over}
use Rattle.windows_groups.proofs.lemmas.row_groups.KeyLemmas.{key_on, members}
use Rattle.windows_groups.proofs.row_groups.gathered.Groups.add.Goals as goal
use Rattle.resolver_terms.specs.SelectView.{aggregate_of}

pub returns-in_err-key-clause-overflow : goal.returns-in_err-key-clause-overflow
returns-in_err-key-clause-overflow c = λ is.
    let p = err_from_is_err_and c.from_residual.result c.from_residual.ensures.1 in
    let e : c.in_err-key.field-0.0 ≡ Overflow = cc (p.1, p.2, is) in
    any_left (λ t. Overflows t (map datum_of c.args.row.now)) (map term c.args.terms.now.by.items)
    (map (λ (a : Aggregate). a.argument) (map aggregate_of c.args.terms.now.aggregates.items))
    (rw c.as_slice.ensures.value at (c.in_err-key.ensures.overflow (ap Err e)))

pub returns-in_err-add_row-clause-overflow : goal.returns-in_err-add_row-clause-overflow
returns-in_err-add_row-clause-overflow c = λ is.
    let p = err_from_is_err_and c.from_residual-in_err-add_row.result c.from_residual-in_err-add_row.ensures.1 in
    let e : c.in_err-add_row.field-0.0 ≡ Overflow = cc (p.1, p.2, is) in
    any_right (λ t. Overflows t (map datum_of c.args.row.now)) (map term c.args.terms.now.by.items)
    (map (λ (a : Aggregate). a.argument) (map aggregate_of c.args.terms.now.aggregates.items))
    (any_mapped (λ t. Overflows t (map datum_of c.args.row.now)) (λ (a : Aggregate). a.argument) (map aggregate_of c.args.terms.now.aggregates.items)
    (rw c.as_slice-3.ensures.value at (c.in_err-add_row.ensures.overflow (ap Err e))))

pub returns-then-at-len-clause-rows : goal.returns-then-at-len-clause-rows
returns-then-at-len-clause-rows c = λ w rows are.
    let row = map datum_of c.args.row.now in
    let terms = group_terms_data c.args.terms.now in
    let key : c.in_ok-key.key ≡ key_on w terms.by row = rw c.as_slice.ensures.value at (c.in_ok-key.ensures.values w) in
    let within = group_within w terms rows row c.args.self.now c.place_of.new.self c.place_of.new.self c.in_ok-at.at are
    (rw key at c.in_ok-at.ensures.keys) (rw (key, c.as_slice-2.ensures.value) at (c.in_ok-at.ensures.states w)) (rw key at c.in_ok-at.ensures.place) in
    absurd (omega (arith, within, c.if-at-len.true, c.len.ensures))

pub returns-clause-rows : goal.returns-clause-rows
returns-clause-rows c = λ w rows are.
    let row = map datum_of c.args.row.now in
    let terms = group_terms_data c.args.terms.now in
    let key : c.in_ok-key.key ≡ key_on w terms.by row = rw c.as_slice.ensures.value at (c.in_ok-key.ensures.values w) in
    let old = c.index_mut.result.now in
    let made = c.place_of.new.self in
    let group = members w terms.by rows (key_on w terms.by row) in
    let view = λ (states : Vec Accumulator). map state_of states.items in
    let written : (with_items old c.add_row.new.states).items ≡ c.add_row.new.states =
    written_over old.len c.add_row.new.states (drop (length c.add_row.new.states) old.items) (c.add_row.auto.states ∙ ap length c.deref_mut.ensures.value ∙ sym old.ok.0) in
    let made_keys : made.keys.keys ≡ insert_key same_row c.args.self.now.keys.keys (key_on w terms.by row) = rw key at c.in_ok-at.ensures.keys in
    let made_states : states_of made ≡ states_of c.args.self.now
    ++ cond (list_any (same_row (key_on w terms.by row)) c.args.self.now.keys.keys) [] (states_after w terms.aggregates [] ∷ []) =
    rw (key, c.as_slice-2.ensures.value) at (c.in_ok-at.ensures.states w) in
    let place : c.in_ok-at.at ≡ position_or_len (same_row (key_on w terms.by row)) c.args.self.now.keys.keys = rw key at c.in_ok-at.ensures.place in
    let before : map state_of c.deref_mut.result.now ≡ states_after w terms.aggregates group =
    ap (map state_of) c.deref_mut.ensures.value ∙ ap view c.index_mut.ensures.value ∙ sym (get_or-map view made.states.items c.in_ok-at.at old)
    ∙ group_here w terms rows row c.args.self.now made made c.in_ok-at.at are made_keys made_states place (view old) in
    let now : map state_of c.add_row.new.states ≡ states_after w terms.aggregates (group ++ row ∷ []) =
    (rw c.as_slice-3.ensures.value at (c.in_ok-add_row.ensures.states w group)) before in
    group_added w terms rows row c.args.self.now made (record { keys = made.keys; states = with_item made.states c.in_ok-at.at (with_items old c.add_row.new.states) })
    c.in_ok-at.at are made_keys made_states place c.in_ok-at.ensures.unique refl (map state_of c.add_row.new.states) now
    (map-set view made.states.items c.in_ok-at.at (with_items old c.add_row.new.states) ∙ ap (λ xs. set (states_of made) c.in_ok-at.at (map state_of xs)) written)
