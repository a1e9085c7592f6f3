-- Groups with a row more, and their rows.
use Rattle.std.proofs.Common.{◌≡◌, ◌∙◌, Bool, true, false, cond, ℕ, zero, suc, ◌<◌, List, [], ◌∷◌, ◌++◌, append-nil, get_or, length, map, set, slice_get, Some, take, refl, sym, ap, subst, arith}
use Rattle.std.specs.Global.{Vec}
use Rattle.std.specs.List.{IsDistinct, list_any, position_or_len}
use Rattle.std.proofs.Math.ListN.{get_or-map}
use Rattle.std.proofs.lemmas.List.{length-map, map-append}
use Rattle.indexmap.specs.IndexSet.{insert_key}
use Rattle.values.specs.Datum.{Datum}
use Rattle.values.specs.Row.{Row}
use Rattle.expr.specs.Meaning.{eval}
use Rattle.semantics.specs.Groups.{group_of}
use Rattle.semantics.specs.Times.{same_row}
use Rattle.windows_groups.specs.declared.aggregates.accumulator.Accumulator.{Accumulator}
use Rattle.windows_groups.specs.aggregates.State.{State, state_of, states_after}
use Rattle.windows_groups.specs.row_groups.Gathered.{first_keys}
use Rattle.windows_groups.specs.row_groups.GroupView.{GroupTermsData}
use Rattle.windows_groups.specs.row_groups.Kept.{AreGroupsOf, group_states, states_of}
use Rattle.windows_groups.specs.declared.row_groups.gathered.Groups.{Groups}
use Rattle.windows_groups.proofs.lemmas.row_groups.KeyLemmas.{at_place, first_keys-more, key_on, members, members-more, members-new, members-other, place_within, read_there, set_place}

-- what is written over the whole of a list
pub written_over : {X : Type 0} (n : ℕ) (xs rest : List X) → length xs ≡ n → take n (xs ++ rest) ≡ xs
written_over zero [] rest long = refl
written_over zero (x ∷ xs) rest long = absurd (omega (arith, long))
written_over (suc n) [] rest long = absurd (omega (arith, long))
written_over (suc n) (x ∷ xs) rest long = ap (λ more. x ∷ more) (written_over n xs rest (omega (arith, long)))

module _ (w : Datum) (terms : GroupTermsData) (rows : List Row) (row : Row) where
  abbrev keys : List Row
  keys = first_keys w terms.by rows

  abbrev key : Row
  key = key_on w terms.by row

  -- what is kept for each key, before the row comes to one of them
  made : (b : Bool) → list_any (same_row key) keys ≡ b
      → map (group_states w terms rows) keys ++ cond b [] (states_after w terms.aggregates [] ∷ [])
      ≡ map (group_states w terms rows) (cond b keys (keys ++ key ∷ []))
  made true is = append-nil (map (group_states w terms rows) keys)
  made false is =
      ap (λ members. map (group_states w terms rows) keys ++ states_after w terms.aggregates members ∷ []) (sym (members-new w terms.by rows row is))
      ∙ sym (map-append (group_states w terms rows) keys (key ∷ []))

  others : (other : Row) → same_row other key ≡ false → group_states w terms (rows ++ row ∷ []) other ≡ group_states w terms rows other
  others other apart = ap (states_after w terms.aggregates) (members-other w terms.by rows row other apart)

  module _ (old made_for new : Groups) (at : ℕ) (are : AreGroupsOf w terms old rows)
      (made_keys : made_for.keys.keys ≡ insert_key same_row old.keys.keys key)
      (made_states : states_of made_for ≡ states_of old ++ cond (list_any (same_row key) old.keys.keys) [] (states_after w terms.aggregates [] ∷ []))
      (place : at ≡ position_or_len (same_row key) old.keys.keys) where
    keys_now : made_for.keys.keys ≡ insert_key same_row keys key
    keys_now = made_keys ∙ ap (λ ks. insert_key same_row ks key) are.keys

    states_now : states_of made_for ≡ map (group_states w terms rows) (insert_key same_row keys key)
    states_now =
        made_states ∙ (λ j. are.states j ++ cond (list_any (same_row key) (are.keys j)) [] (states_after w terms.aggregates [] ∷ []))
        ∙ made (list_any (same_row key) keys) refl

    place_now : at ≡ position_or_len (same_row key) keys
    place_now = place ∙ ap (position_or_len (same_row key)) are.keys

    -- what is kept at the place is of the row's key
    pub group_here : (d : List State) → get_or (states_of made_for) at d ≡ states_after w terms.aggregates (members w terms.by rows key)
    group_here d = (λ j. get_or (states_now j) (place_now j) d) ∙ at_place (group_states w terms rows) (group_states w terms (rows ++ row ∷ [])) key keys d

    pub group_added : IsDistinct same_row made_for.keys.keys → new.keys.keys ≡ made_for.keys.keys
        → (state : List State) → state ≡ states_after w terms.aggregates (members w terms.by rows key ++ row ∷ [])
        → states_of new ≡ set (states_of made_for) at state
        → AreGroupsOf w terms new (rows ++ row ∷ [])
    group_added distinct same state is changed = record {
      keys = same ∙ keys_now ∙ first_keys-more w terms.by rows row;
      states =
          changed ∙ (λ j. set (states_now j) (place_now j) ((is ∙ ap (states_after w terms.aggregates) (sym (members-more w terms.by rows row))) j))
          ∙ set_place (group_states w terms rows) (group_states w terms (rows ++ row ∷ [])) key others keys (subst (IsDistinct same_row) keys_now distinct)
          ∙ ap (map (group_states w terms (rows ++ row ∷ []))) (first_keys-more w terms.by rows row);
    }

    -- the place is one of those of which something is kept
    pub group_within : at < length made_for.states.items
    group_within =
        let within = place_within key keys in
        let long = ap length states_now in
        omega (
          arith,
          within,
          long,
          place_now,
          length-map made_for.states.items (λ (states : Vec Accumulator). map state_of states.items),
          length-map (insert_key same_row keys key) (group_states w terms rows),
        )

-- what is kept at a place is of the key there
pub states_there : (w : Datum) (terms : GroupTermsData) (rows : List Row) (groups : Groups) (at : ℕ) (one : Row) (kept : Vec Accumulator)
    → AreGroupsOf w terms groups rows → slice_get (first_keys w terms.by rows) at ≡ Some one → kept ≡ get_or groups.states.items at kept
    → map state_of kept.items ≡ states_after w terms.aggregates (group_of (eval w) terms.by rows one).members
states_there w terms rows groups at one kept are there is =
    ap (λ (states : Vec Accumulator). map state_of states.items) is
    ∙ sym (get_or-map (λ (states : Vec Accumulator). map state_of states.items) groups.states.items at kept)
    ∙ ap (λ states. get_or states at (map state_of kept.items)) are.states
    ∙ read_there (group_states w terms rows) (first_keys w terms.by rows) at one (map state_of kept.items) there
