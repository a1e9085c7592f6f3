-- ORDER BY of result columns, term by term.
use Rattle.std.proofs.Common.{◌≡◌, ◌∙◌, ◌+◌, ◌<◌, Contains, ℕ, List, [], ◌∷◌, ◌++◌, get_or, length, map, take, sym, ap, subst}
use Rattle.std.proofs.lemmas.List.{get_or-map, length-map, map-append, map_push, take_more}
use Rattle.std.proofs.lemmas.List.Elements.{All-contains, All-push, Contains-get_or}
use Rattle.logical_plan.specs.answers.Permitted.{AreResults, IsResultColumn}
use Rattle.windows_groups.specs.Keys.{result_key}
use Rattle.windows_groups.specs.declared.order.ResultKey.{ResultKey}
use Rattle.semantics.specs.Query as query
use Rattle.resolver_terms.specs.declared.selects.Key.{Key}
use Rattle.resolver_terms.specs.SelectView.{key_of}

module _ (order : List Key) (i : ℕ) (key : Key) (within : i < length order) (at : key ≡ get_or order i key) where
  taken : map key_of (take (i + 1) order) ≡ map key_of (take i order) ++ key_of key ∷ []
  taken =
      ap (map key_of) (take_more order i key within) ∙ map-append key_of (take i order) (get_or order i key ∷ [])
      ∙ ap (λ (k : Key). map key_of (take i order) ++ key_of k ∷ []) (sym at)

  -- a result column more
  pub results_more : AreResults (map key_of (take i order)) → IsResultColumn (key_of key).by → AreResults (map key_of (take (i + 1) order))
  results_more all is = subst AreResults (sym taken) (All-push (λ (k : query.Key). IsResultColumn k.by) (map key_of (take i order)) (key_of key) all is)

  pub keys_more : (keys : List ResultKey) (one : ResultKey) → map result_key keys ≡ map key_of (take i order) → result_key one ≡ key_of key
      → map result_key (keys ++ one ∷ []) ≡ map key_of (take (i + 1) order)
  keys_more keys one same is = map_push result_key keys one ∙ (λ j. same j ++ is j ∷ []) ∙ sym taken

  -- another term
  pub not_all : ¬ IsResultColumn (key_of key).by → ¬ AreResults (map key_of order)
  not_all none all =
      none
      (All-contains (λ (k : query.Key). IsResultColumn k.by) (map key_of order) (key_of key) all
      (subst (Contains (map key_of order)) (get_or-map key_of order i key (key_of key) within ∙ ap key_of (sym at))
      (Contains-get_or (map key_of order) i (key_of key) (subst (λ n. i < n) (sym (length-map order key_of)) within))))
