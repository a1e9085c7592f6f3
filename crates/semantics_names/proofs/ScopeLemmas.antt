-- What a name stands for among the columns of a scope.
use Rattle.std.proofs.Common.{◌≡◌, ◌<◌, Bool, true, false, ◌&&◌, if◌then◌else◌, ℕ, ◌+◌, zero, suc, List, [], ◌∷◌, Option, Some, None, Ok, Err, slice_get, refl, sym, subst, ◌∙◌, ap, arith}
use Rattle.std.specs.Str.{str_eq_ignore_ascii_case}
use Rattle.values.specs.declared.fault.Fault.TheVariants.{Ambiguous, UnknownColumn}
use Rattle.expr.specs.Term.{Term}
use Rattle.sql_reader_syntax.specs.Tree.{Name}
use Rattle.semantics_names.specs.Laws.{AmbiguousIsTwo, IsCalled, IsCalledAt, IsOnlyColumn, NameIsColumn, UnknownIsNone}
use Rattle.semantics_names.specs.Outcome.{also}
use Rattle.semantics_names.specs.Scope.{Scope, Shown, bare_term, called, is_bare, is_called, is_source, only, shown_places}

and_both : (a b : Bool) → (a && b) ≡ true → (a ≡ true) × (b ≡ true)
and_both true b e = (refl, e)
and_both false b e = absurd cc

both_and : (a b : Bool) → a ≡ true → b ≡ true → (a && b) ≡ true
both_and true b e f = f
both_and false b e f = absurd cc

bare_some : (places : List ℕ) → is_bare places ≡ true → places ≡ [] → ⊥
bare_some [] e none = absurd cc
bare_some (at ∷ rest) e none = absurd cc

some_bare : (places : List ℕ) → (places ≡ [] → ⊥) → is_bare places ≡ true
some_bare [] some = absurd (some refl)
some_bare (at ∷ rest) some = refl

source_same : (table : Name) (source : Option Name) → is_source table source ≡ true → (name : Name) × (source ≡ Some name) × (str_eq_ignore_ascii_case name table ≡ true)
source_same table None e = absurd cc
source_same table (Some name) e = (name, refl, e)

same_source : (table : Name) (source : Option Name) (name : Name) → source ≡ Some name → str_eq_ignore_ascii_case name table ≡ true → is_source table source ≡ true
same_source table None name is e = absurd cc
same_source table (Some other) name is e = let same : other ≡ name = cc in subst (λ n. str_eq_ignore_ascii_case n table ≡ true) (sym same) e

is_called_so : (table : Option Name) (name : Name) (shown : Shown) → is_called table name shown ≡ true → IsCalled table name shown
is_called_so None name shown e =
    let (bare, same) = and_both (is_bare shown.places) (str_eq_ignore_ascii_case shown.name name) e in (bare_some shown.places bare, same)
is_called_so (Some table) name shown e =
    let (source, same) = and_both (is_source table shown.source) (str_eq_ignore_ascii_case shown.name name) e in
    let (called, is, alike) = source_same table shown.source source in (called, is, alike, same)

so_is_called : (table : Option Name) (name : Name) (shown : Shown) → IsCalled table name shown → is_called table name shown ≡ true
so_is_called None name shown (some, same) = both_and (is_bare shown.places) _ (some_bare shown.places some) same
so_is_called (Some table) name shown (source, is, alike, same) = both_and (is_source table shown.source) _ (same_source table shown.source source is alike) same

-- what the columns that are called so tell, where the first of the scope has this place
Tells : Option Name → Name → ℕ → Scope → List (List ℕ) → Type 0
Tells table name from scope [] = (at : ℕ) → IsCalledAt scope table name at → ⊥
Tells table name from scope (places ∷ []) = (at : ℕ) × (shown : Shown) × (place : ℕ) × IsOnlyColumn scope table name at shown × (place ≡ from + at) × (places ≡ shown_places table place shown)
Tells table name from scope (places ∷ others ∷ rest) = (first second : ℕ) × (first < second) × IsCalledAt scope table name first × IsCalledAt scope table name second

module _ (table : Option Name) (name : Name) where
  not_first : (shown : Shown) (rest : Scope) → (IsCalled table name shown → ⊥) → (at : ℕ) → IsCalledAt (shown ∷ rest) table name at → (before : ℕ) × (at ≡ suc before) × IsCalledAt rest table name before
  not_first shown rest isn't zero (other, there, is) = let same : shown ≡ other = cc in absurd (isn't (subst (IsCalled table name) (sym same) is))
  not_first shown rest isn't (suc at) is = (at, refl, is)

  -- another column stands before
  later : (shown : Shown) (rest : Scope) (from : ℕ) → (IsCalled table name shown → ⊥) → (found : List (List ℕ)) → Tells table name (suc from) rest found → Tells table name from (shown ∷ rest) found
  unfolding Tells
  later shown rest from isn't [] none = λ at is. let (before, e, there) = not_first shown rest isn't at is in none before there
  later shown rest from isn't (places ∷ []) (at, column, place, is, sum, same) = (
    suc at,
    column,
    place,
    record {
      there = is.there;
      called = is.called;
      alone = λ other called. let (before, e, there) = not_first shown rest isn't other called in e ∙ ap suc (is.alone before there);
    },
    omega arith,
    same,
  )
  later shown rest from isn't (places ∷ others ∷ more) (first, second, order, one, two) = (suc first, suc second, omega arith, one, two)

  -- the first column is called so
  here : (shown : Shown) (rest : Scope) (from : ℕ) → IsCalled table name shown → (found : List (List ℕ)) → Tells table name (suc from) rest found
      → Tells table name from (shown ∷ rest) (shown_places table from shown ∷ found)
  unfolding Tells
  here shown rest from is [] none = (
    0,
    shown,
    from,
    record {
      there = refl;
      called = is;
      alone = λ other called. alone other called;
    },
    omega arith,
    refl,
  )
    where
      alone : (other : ℕ) → IsCalledAt (shown ∷ rest) table name other → other ≡ 0
      alone zero called = refl
      alone (suc other) called = absurd (none other called)
  here shown rest from is (places ∷ []) (at, column, place, other, sum, same) = (0, suc at, omega arith, (shown, refl, is), (column, other.there, other.called))
  here shown rest from is (places ∷ others ∷ more) (first, second, order, one, two) = (0, suc first, omega arith, (shown, refl, is), one)

  tells : (from : ℕ) (scope : Scope) → Tells table name from scope (called table name from scope)
  unfolding Tells
  tells from [] = λ at is. absurd (nothing at is)
    where
      nothing : (at : ℕ) → IsCalledAt [] table name at → ⊥
      nothing zero (shown, there, is) = absurd cc
      nothing (suc at) (shown, there, is) = absurd cc
  tells from (shown ∷ rest) = by (is_called table name shown) refl (tells (suc from) rest)
    where
      by : (b : Bool) → is_called table name shown ≡ b → Tells table name (suc from) rest (called table name (suc from) rest)
          → Tells table name from (shown ∷ rest) (if b then shown_places table from shown ∷ called table name (suc from) rest else called table name (suc from) rest)
      by true e more = here shown rest from (is_called_so table name shown e) (called table name (suc from) rest) more
      by false e more =
          later shown rest from (λ is. let differ : true ≡ false = sym (so_is_called table name shown is) ∙ e in absurd cc) (called table name (suc from) rest) more

  module _ (scope : Scope) where
    same_place : (at : ℕ) (one other : Shown) → slice_get scope at ≡ Some one → slice_get scope at ≡ Some other → one ≡ other
    same_place at one other e d = let both : Some one ≡ Some other = sym e ∙ d in cc

    is_column : (t : Term) (found : List (List ℕ)) → Tells table name 0 scope found → also bare_term (only found) ≡ Ok t
        → (at : ℕ) × (shown : Shown) × IsOnlyColumn scope table name at shown × (t ≡ bare_term (shown_places table at shown))
    unfolding Tells
    is_column t [] none e = absurd cc
    is_column t (places ∷ []) (at, shown, place, is, sum, same) e =
        let here : place ≡ at = omega arith in
        let value : bare_term places ≡ t = cc in
        (at, shown, is, sym value ∙ ap bare_term (same ∙ ap (λ p. shown_places table p shown) here))
    is_column t (places ∷ others ∷ rest) two e = absurd cc

    column_is : (t : Term) (found : List (List ℕ)) → Tells table name 0 scope found
        → (at : ℕ) × (shown : Shown) × IsOnlyColumn scope table name at shown × (t ≡ bare_term (shown_places table at shown)) → also bare_term (only found) ≡ Ok t
    unfolding Tells
    column_is t [] none (at, shown, is, e) = absurd (none at (shown, is.there, is.called))
    column_is t (places ∷ []) (place, column, there, one, sum, same) (at, shown, is, e) =
        let here : place ≡ at = is.alone place (column, one.there, one.called) in
        let zero_more : there ≡ at = omega arith in
        let alike : column ≡ shown = same_place at column shown (subst (λ p. slice_get scope p ≡ Some column) here one.there) is.there in
        let value : bare_term places ≡ t =
        ap bare_term (same ∙ ap (λ p. shown_places table p column) zero_more ∙ ap (λ c. shown_places table at c) alike) ∙ sym e in
        ap Ok value
    column_is t (places ∷ others ∷ rest) (first, second, order, one, two) (at, shown, is, e) =
        let left : first ≡ at = is.alone first one in
        let right : second ≡ at = is.alone second two in
        absurd (omega arith)

    is_unknown : (found : List (List ℕ)) → Tells table name 0 scope found → also bare_term (only found) ≡ Err UnknownColumn → (at : ℕ) → IsCalledAt scope table name at → ⊥
    unfolding Tells
    is_unknown [] none e = none
    is_unknown (places ∷ []) one e = absurd cc
    is_unknown (places ∷ others ∷ rest) two e = absurd cc

    unknown_is : (found : List (List ℕ)) → Tells table name 0 scope found → ((at : ℕ) → IsCalledAt scope table name at → ⊥) → also bare_term (only found) ≡ Err UnknownColumn
    unfolding Tells
    unknown_is [] none nowhere = refl
    unknown_is (places ∷ []) (at, shown, place, is, sum, same) nowhere = absurd (nowhere at (shown, is.there, is.called))
    unknown_is (places ∷ others ∷ rest) (first, second, order, one, two) nowhere = absurd (nowhere first one)

    is_ambiguous : (found : List (List ℕ)) → Tells table name 0 scope found → also bare_term (only found) ≡ Err Ambiguous
        → (first second : ℕ) × (first < second) × IsCalledAt scope table name first × IsCalledAt scope table name second
    unfolding Tells
    is_ambiguous [] none e = absurd cc
    is_ambiguous (places ∷ []) one e = absurd cc
    is_ambiguous (places ∷ others ∷ rest) two e = two

    ambiguous_is : (found : List (List ℕ)) → Tells table name 0 scope found
        → (first second : ℕ) × (first < second) × IsCalledAt scope table name first × IsCalledAt scope table name second → also bare_term (only found) ≡ Err Ambiguous
    unfolding Tells
    ambiguous_is [] none (first, second, order, one, two) = absurd (none first one)
    ambiguous_is (places ∷ []) (at, shown, place, is, sum, same) (first, second, order, one, two) =
        let left : first ≡ at = is.alone first one in
        let right : second ≡ at = is.alone second two in
        absurd (omega arith)
    ambiguous_is (places ∷ others ∷ rest) both two = refl

pub name_is_column : NameIsColumn
name_is_column scope table name t =
    (is_column table name scope t (called table name 0 scope) (tells table name 0 scope), column_is table name scope t (called table name 0 scope) (tells table name 0 scope))

pub unknown_is_none : UnknownIsNone
unknown_is_none scope table name =
    (is_unknown table name scope (called table name 0 scope) (tells table name 0 scope), unknown_is table name scope (called table name 0 scope) (tells table name 0 scope))

pub ambiguous_is_two : AmbiguousIsTwo
ambiguous_is_two scope table name =
    (is_ambiguous table name scope (called table name 0 scope) (tells table name 0 scope), ambiguous_is table name scope (called table name 0 scope) (tells table name 0 scope))
