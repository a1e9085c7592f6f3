-- Records whose fields are read one after the other.
use Rattle.std.proofs.Common.{◌≡◌, ◌≢◌, ◌∙◌, ◌+◌, ◌<◌, ◌≤◌, ℕ, zero, suc, List, [], ◌∷◌, ◌++◌, None, Some, drop, get_or, length, slice_get, take, refl, sym, ap, subst, arith}
use Rattle.std.proofs.lemmas.List.{drop_more, take_more}
use Rattle.values.specs.Datum.{Datum, null}
use Rattle.values.specs.Row.{Row}
use Rattle.records.specs.Fields.{AreUnread, Unread}
use Rattle.records.specs.Record.{IsRecord}
use Rattle.integrity_trees.specs.wanted_entries.Unique.{Agree, HasNoNull}
use Rattle.integrity_trees.proofs.lemmas.entry_prefixes.AgreeLemmas.{full_at}

has_at : (x : Row) (i : ℕ) → i < length x → slice_get x i ≡ Some (get_or x i null)
has_at [] i less = absurd (omega (arith, less))
has_at (a ∷ x) zero less = refl
has_at (a ∷ x) (suc i) less = has_at x i (omega (arith, less))

-- what two rows that agree in the values up to a place have there
same_at : (x y : Row) (i : ℕ) → i < length x → i < length y → Agree (suc i) x y → get_or x i null ≡ get_or y i null
same_at [] y i one other e = absurd (omega (arith, one))
same_at (a ∷ x) [] i one other e = absurd (omega (arith, other))
same_at (a ∷ x) (b ∷ y) zero one other e = ap (λ (l : Row). get_or l 0 null) e
same_at (a ∷ x) (b ∷ y) (suc i) one other e = same_at x y i (omega (arith, one)) (omega (arith, other)) (ap (λ (l : Row). drop 1 l) e)

no_null_more : (l : Row) (v : Datum) → HasNoNull l → v ≢ null → HasNoNull (l ++ v ∷ [])
no_null_more [] v full given zero e = let f : Some v ≡ Some null = e in given cc
no_null_more [] v full given (suc at) e = let f : None ≡ Some null = e in cc
no_null_more (a ∷ l) v full given zero e = full zero e
no_null_more (a ∷ l) v full given (suc at) e = no_null_more l v (λ i there. full (suc i) there) given at e

-- the first values of two rows agree, and the others are unread
pub record AreAgreed (x y : Row) (i : ℕ) (first second : Unread) : Type 0 where
  pub agree : Agree i x y
  pub one_is : AreUnread first (drop i x)
  pub other_is : AreUnread second (drop i y)

-- the rows that two records may be
abbrev pub AgreeSoFar : List ℕ → List ℕ → ℕ → ℕ → Unread → Unread → Type 0
AgreeSoFar one other width i first second = (x y : Row) → IsRecord one x → width ≤ length x → IsRecord other y → width ≤ length y
    → AreAgreed x y i first second

module _ (x y : Row) (i : ℕ) (first second : Unread) (agreed : AreAgreed x y i first second) (one_less : i < length x) (other_less : i < length y) where
  one_here : AreUnread first (get_or x i null ∷ drop (i + 1) x)
  one_here = subst (λ (l : Row). AreUnread first l) (drop_more x i null one_less) agreed.one_is

  other_here : AreUnread second (get_or y i null ∷ drop (i + 1) y)
  other_here = subst (λ (l : Row). AreUnread second l) (drop_more y i null other_less) agreed.other_is

  pub agree_next : (first_new second_new : Unread)
      → ((a b : Datum) (xs ys : List Datum) → AreUnread first (a ∷ xs) → AreUnread second (b ∷ ys)
      → (a ≡ b) × AreUnread first_new xs × AreUnread second_new ys)
      → AreAgreed x y (i + 1) first_new second_new
  agree_next first_new second_new told =
      let t = told (get_or x i null) (get_or y i null) (drop (i + 1) x) (drop (i + 1) y) one_here other_here in
      let both : take i x ++ get_or x i null ∷ [] ≡ take i y ++ get_or y i null ∷ [] = λ k. agreed.agree k ++ t.0 k ∷ [] in
      record {
        agree = take_more x i null one_less ∙ both ∙ sym (take_more y i null other_less);
        one_is = t.1;
        other_is = t.2;
      }

  pub differ_next : ((a b : Datum) (xs ys : List Datum) → AreUnread first (a ∷ xs) → AreUnread second (b ∷ ys) → a ≢ b)
      → ¬ Agree (suc i) x y
  differ_next told agree = told (get_or x i null) (get_or y i null) (drop (i + 1) x) (drop (i + 1) y) one_here other_here
      (same_at x y i one_less other_less agree)

-- none of the first values of a row is NULL, and the others are unread
pub record AreGiven (x : Row) (i : ℕ) (fields : Unread) : Type 0 where
  pub full : HasNoNull (take i x)
  pub unread : AreUnread fields (drop i x)

abbrev pub GivenSoFar : List ℕ → ℕ → ℕ → Unread → Type 0
GivenSoFar bytes width i fields = (x : Row) → IsRecord bytes x → width ≤ length x → AreGiven x i fields

pub none_given : (x : Row) (fields : Unread) → AreUnread fields x → AreGiven x 0 fields
none_given x fields unread = record { full = λ at e. let f : None ≡ Some null = e in cc; unread = unread }

module _ (x : Row) (i : ℕ) (fields : Unread) (given : AreGiven x i fields) (less : i < length x) where
  here : AreUnread fields (get_or x i null ∷ drop (i + 1) x)
  here = subst (λ (l : Row). AreUnread fields l) (drop_more x i null less) given.unread

  pub given_next : (next : Unread) → ((a : Datum) (xs : List Datum) → AreUnread fields (a ∷ xs) → (a ≢ null) × AreUnread next xs)
      → AreGiven x (i + 1) next
  given_next next told =
      let t = told (get_or x i null) (drop (i + 1) x) here in
      record {
        full = subst (λ (l : Row). HasNoNull l) (sym (take_more x i null less)) (no_null_more (take i x) (get_or x i null) given.full t.0);
        unread = t.1;
      }

  pub null_next : (width : ℕ) → i < width → ((a : Datum) (xs : List Datum) → AreUnread fields (a ∷ xs) → a ≡ null)
      → ¬ HasNoNull (take width x)
  null_next width within told full =
      full_at x width full i within (has_at x i less ∙ ap (λ (v : Datum). Some v) (told (get_or x i null) (drop (i + 1) x) here))
