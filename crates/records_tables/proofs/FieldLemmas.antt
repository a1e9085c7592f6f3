-- The fields of a record that are unread, from a place on.
use Rattle.std.proofs.Common.{◌≡◌, ◌<◌, ◌≤◌, ◌+◌, ◌∙◌, ⊎_elim, ℕ, List, [], ◌∷◌, drop, length, get_or, slice_get, Some, sym, ap, subst, arith}
use Rattle.std.specs.Prelude.{◌↔◌}
use Rattle.std.proofs.lemmas.List.{drop-drop, drop_more, length-drop}
use Rattle.std.proofs.lemmas.Option.{slice_get-get_or}
use Rattle.std.proofs.lemmas.Bool.{cases_lt}
use Rattle.values.specs.Datum.{Datum, null}
use Rattle.records.specs.Fields.{AreUnread, Unread}
use Rattle.records_tables.proofs.lemmas.stored_rows.FilledLemmas.{drop-all}

module _ (values : List Datum) where
  -- so many of them were passed
  pub unread_passed : (unread passed : Unread) (at count place : ℕ) → at + count ≡ place
      → ((fields : List Datum) → AreUnread unread fields → (count ≤ length fields) × AreUnread passed (drop count fields))
      → AreUnread unread (drop at values) → AreUnread passed (drop place values)
  unread_passed unread passed at count place is past here =
      subst (λ (l : List Datum). AreUnread passed l) (drop-drop count at values ∙ ap (λ (n : ℕ). drop n values) is) (past (drop at values) here).1

  -- there are fewer
  pub unread_short : (unread passed : Unread) (at count place : ℕ) → at + count ≡ place
      → ((fields : List Datum) → AreUnread unread fields → (length fields < count) × AreUnread passed [])
      → AreUnread unread (drop at values) → (length values ≤ place) × AreUnread passed (drop place values)
  unread_short unread passed at count place is few here =
      let told = few (drop at values) here in
      let least : length values ≤ place = omega (arith, told.0, length-drop at values, is) in
      (least, subst (λ (l : List Datum). AreUnread passed l) (sym (drop-all place values least)) told.1)

  module _ (unread : Unread) (place : ℕ) (here : AreUnread unread (drop place values)) where
    -- the first of them is read
    pub unread_read : (next : Unread) (value : Datum) → (¬ AreUnread unread [])
        → ((first : Datum) (others : List Datum) → AreUnread unread (first ∷ others) ↔ ((first ≡ value) × AreUnread next others))
        → (slice_get values place ≡ Some value) × AreUnread next (drop (place + 1) values)
    unread_read next value more read = ⊎_elim
        (λ (inside : place < length values).
        let told = (read (get_or values place null) (drop (place + 1) values)).0 (subst (λ (l : List Datum). AreUnread unread l) (drop_more values place null inside) here) in
        (slice_get-get_or values place null inside ∙ ap Some told.0, told.1))
        (λ (behind : length values ≤ place). absurd (more (subst (λ (l : List Datum). AreUnread unread l) (drop-all place values behind) here)))
        (cases_lt place (length values))

    -- there is none
    pub unread_none : ((first : Datum) (others : List Datum) → ¬ (AreUnread unread (first ∷ others))) → length values ≤ place
    unread_none none = ⊎_elim
        (λ (inside : place < length values).
        absurd (none (get_or values place null) (drop (place + 1) values) (subst (λ (l : List Datum). AreUnread unread l) (drop_more values place null inside) here)))
        (λ (behind : length values ≤ place). behind)
        (cases_lt place (length values))
