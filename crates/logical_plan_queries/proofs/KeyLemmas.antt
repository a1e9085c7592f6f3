-- ORDER BY over the columns that are read, term by term.
use Rattle.std.proofs.Common.{◌≡◌, ◌∙◌, ◌+◌, ◌-◌, ◌<◌, ◌^◌, All, Contains, ℕ, List, [], ◌∷◌, ◌++◌, append-nil, get_or, length, map, take, refl, sym, ap, subst, arith}
use Rattle.std.specs.List.{AllZip}
use Rattle.std.proofs.lemmas.List.{flat_map_more, get_or-map, length-append, length-map, map-append, take_more}
use Rattle.std.proofs.lemmas.List.Elements.{All-weaker, All-contains, All-contains_itself, AllZip-push, Contains-get_or}
use Rattle.expr.specs.Term.{Term}
use Rattle.semantics.specs.Hits.{key_terms, order_terms}
use Rattle.semantics.specs.Query as query
use Rattle.resolver_terms.specs.SelectView.{direction_of, key_of}
use Rattle.resolver_terms.specs.declared.selects.Key.{Key}
use Rattle.windows_groups.specs.Keys.{result_key}
use Rattle.windows_groups.specs.declared.order.ResultKey.{ResultKey}
use Rattle.logical_plan_terms.specs.Over.{IsOver}
use Rattle.logical_plan_queries.specs.Made.{IsOrderOver, KeyStandsOver}
use Rattle.logical_plan_queries.specs.Places.{IsPlacedOver}
use Rattle.logical_plan_queries.proofs.PlaceLemmas.{PlacesOf, PlacesOf-all, PlacesOf-more, PlacesOf-none}
use Rattle.logical_plan_queries.proofs.lemmas.select_plans.ReadLemmas.{contains_flat}

-- these terms of ORDER BY over the columns that are read, those that are no result columns after these, and their places
pub record ArePlacedOver (read : List ℕ) (order : List query.Key) (shown wide : List Term) (places : List ResultKey) : Type 0 where
  pub keys : List query.Key
  pub stand : AllZip (KeyStandsOver read) keys order
  pub wide_is : wide ≡ shown ++ order_terms keys
  pub places_are : PlacesOf shown keys places (length wide)

pub none_placed : (read : List ℕ) (shown : List Term) → ArePlacedOver read [] shown shown []
none_placed read shown = record {
  keys = [];
  stand = tt;
  wide_is = sym (append-nil shown);
  places_are = PlacesOf-none shown (length shown) refl;
}

-- one term more
placed_more : (read : List ℕ) (order : List query.Key) (shown wide now : List Term) (places : List ResultKey) (key : query.Key) (place : ResultKey)
    → ArePlacedOver read order shown wide places → direction_of place.direction ≡ key.direction → IsPlacedOver read (length shown) key.by wide now place.at
    → ArePlacedOver read (order ++ key ∷ []) shown now (places ++ place ∷ [])
placed_more read order shown wide now places key place before way is =
    let over : query.Key = record { by = is.by; direction = key.direction } in record {
      keys = before.keys ++ over ∷ [];
      stand = AllZip-push (KeyStandsOver read) before.keys order over key before.stand (record { by = is.stands; direction = refl });
      wide_is =
          is.columns_are ∙ ap (λ terms. terms ++ key_terms is.by) before.wide_is
          ∙ flat_map_more (λ (k : query.Key). key_terms k.by) shown before.keys over;
      places_are =
          PlacesOf-more shown before.keys places (length wide) before.places_are over place way is.place (length now)
          (ap length is.columns_are ∙ length-append wide (key_terms is.by));
    }

-- all of them
pub all_placed : (read : List ℕ) (order : List query.Key) (shown wide : List Term) (places : List ResultKey) (hidden : ℕ) → ArePlacedOver read order shown wide places
    → length wide < 2 ^ 64 → hidden ≡ length wide - length shown → IsOrderOver read order shown wide (record { keys = map result_key places; hidden = hidden })
all_placed read order shown wide places hidden all few is = record {
  keys = all.keys;
  stand = all.stand;
  wide_is = all.wide_is;
  places = PlacesOf-all shown all.keys places (length wide) all.places_are few;
  hidden =
      let long = all.places_are.next_is in
      omega (arith, is, long);
}

module _ (read : List ℕ) (order : List Key) (i : ℕ) (key : Key) (within : i < length order) (at : key ≡ get_or order i key) where
  taken : map key_of (take (i + 1) order) ≡ map key_of (take i order) ++ key_of key ∷ []
  taken =
      ap (map key_of) (take_more order i key within) ∙ map-append key_of (take i order) (get_or order i key ∷ [])
      ∙ ap (λ (k : Key). map key_of (take i order) ++ key_of k ∷ []) (sym at)

  pub key_placed : (shown wide now : List Term) (places : List ResultKey) (place : ResultKey) → ArePlacedOver read (map key_of (take i order)) shown wide places
      → direction_of place.direction ≡ (key_of key).direction → IsPlacedOver read (length shown) (key_of key).by wide now place.at
      → ArePlacedOver read (map key_of (take (i + 1) order)) shown now (places ++ place ∷ [])
  key_placed shown wide now places place before way is =
      subst (λ (done : List query.Key). ArePlacedOver read done shown now (places ++ place ∷ [])) (sym taken)
      (placed_more read (map key_of (take i order)) shown wide now places (key_of key) place before way is)

  -- where a key has no expression, ORDER BY has none
  pub not_all : ¬ All (IsOver read 0) (key_terms (key_of key).by) → ¬ All (IsOver read 0) (order_terms (map key_of order))
  not_all refused all =
      refused
      (All-weaker (Contains (key_terms (key_of key).by)) (IsOver read 0)
      (λ t held. All-contains (IsOver read 0) (order_terms (map key_of order)) t all
      (contains_flat (λ (k : query.Key). key_terms k.by) (map key_of order) (key_of key) t
      (subst (Contains (map key_of order)) (get_or-map key_of order i key (key_of key) within ∙ ap key_of (sym at))
      (Contains-get_or (map key_of order) i (key_of key) (subst (λ n. i < n) (sym (length-map order key_of)) within))) held))
      (key_terms (key_of key).by) (All-contains_itself (key_terms (key_of key).by)))
