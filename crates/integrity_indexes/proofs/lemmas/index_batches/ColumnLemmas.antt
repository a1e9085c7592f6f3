-- The values of an entry's columns, read one after the other.
use Rattle.std.proofs.Common.{◌≡◌, ◌∙◌, ◌+◌, ◌<◌, ◌≤◌, ℕ, All, List, [], ◌∷◌, ◌++◌, append-nil, drop, get_or, length, take, refl, sym, ap, subst, arith, ⊎_elim}
use Rattle.std.specs.Prelude.{◌↔◌}
use Rattle.std.proofs.lemmas.Bool.{cases_lt}
use Rattle.std.proofs.lemmas.List.{drop_more, flat_map_more, length-drop, take_more}
use Rattle.std.proofs.lemmas.List.Elements.{All-nil, All-push}
use Rattle.values.specs.Datum.{Datum, null}
use Rattle.values.specs.Row.{Row}
use Rattle.records.specs.Fields.{AreUnread, Unread}
use Rattle.integrity_indexes.specs.entry_batches.Codes.{IsHeld, code_of, codes_of}

-- the first values of an entry were passed, and their codes stand behind the bytes that were there
pub record ArePushed (values : Row) (i : ℕ) (fields : Unread) (start code : List ℕ) : Type 0 where
  pub unread : AreUnread fields (drop i values)
  pub within : i ≤ length values
  pub code_is : code ≡ start ++ codes_of (take i values)
  pub held : All IsHeld (take i values)

pub none_pushed : (values : Row) (fields : Unread) (code : List ℕ) → AreUnread fields values → ArePushed values 0 fields code code
none_pushed values fields code unread = record {
  unread = unread;
  within = omega arith;
  code_is = sym (append-nil code);
  held = All-nil IsHeld;
}

module _ (values : Row) (i : ℕ) (fields : Unread) (start code : List ℕ) (is : ArePushed values i fields start code) where
  no_more_values : length values ≤ i → drop i values ≡ []
  no_more_values past = empty (drop i values) (let long = length-drop i values in omega (arith, long, past))
    where
      empty : (l : Row) → length l ≡ 0 → l ≡ []
      empty [] e = refl
      empty (x ∷ l) e = absurd (omega (arith, e))

  -- where a field is, a value is
  pub inside : (¬ AreUnread fields []) → i < length values
  inside more = ⊎_elim
      (λ (less : i < length values). less)
      (λ (past : length values ≤ i). absurd (more (subst (λ (l : Row). AreUnread fields l) (no_more_values past) is.unread)))
      (cases_lt i (length values))

  -- and where none is there are no more values
  pub ends : ((first : Datum) (others : Row) → ¬ AreUnread fields (first ∷ others)) → length values ≤ i
  ends none = ⊎_elim
      (λ (less : i < length values). absurd (none (get_or values i null) (drop (i + 1) values) (subst (λ (l : Row). AreUnread fields l) (drop_more values i null less) is.unread)))
      (λ (past : length values ≤ i). past)
      (cases_lt i (length values))

  pub one_pushed : (value : Datum) (next : Unread) (more : List ℕ) → (¬ AreUnread fields [])
      → ((first : Datum) (others : Row) → AreUnread fields (first ∷ others) ↔ ((first ≡ value) × AreUnread next others))
      → more ≡ code ++ code_of value → IsHeld value → ArePushed values (i + 1) next start more
  one_pushed value next more some read more_is held =
      let less = inside some in
      let told = (read (get_or values i null) (drop (i + 1) values)).0 (subst (λ (l : Row). AreUnread fields l) (drop_more values i null less) is.unread) in
      let longer : take (i + 1) values ≡ take i values ++ value ∷ [] =
      take_more values i null less ∙ ap (λ (v : Datum). take i values ++ v ∷ []) told.0 in
      record {
        unread = told.1;
        within = omega (arith, less);
        code_is = more_is ∙ ap (λ (c : List ℕ). c ++ code_of value) is.code_is ∙ flat_map_more code_of start (take i values) value
            ∙ ap (λ (l : Row). start ++ codes_of l) (sym longer);
        held = subst (λ (l : Row). All IsHeld l) (sym longer) (All-push IsHeld (take i values) value is.held held);
      }

-- all of so many were passed
pub all_pushed : (values : Row) (i columns : ℕ) (fields : Unread) (start code : List ℕ) → ArePushed values i fields start code → i ≡ columns
    → (code ≡ start ++ codes_of (take columns values)) × All IsHeld (take columns values)
all_pushed values i columns fields start code is end =
    subst (λ (n : ℕ). (code ≡ start ++ codes_of (take n values)) × All IsHeld (take n values)) end (is.code_is, is.held)
