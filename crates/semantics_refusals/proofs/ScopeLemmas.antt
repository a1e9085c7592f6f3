-- Why a name of a column stands for none.
use Rattle.std.proofs.Common.{◌≡◌, ◌≢◌, ◌↔◌, ◌<◌, ◌||◌, arith, true≢false, Bool, true, false, if◌then◌else◌, ◌&&◌, ℕ, zero, suc, List, [], ◌∷◌, ◌++◌, Option, Some, None, Err, All, Contains, refl, sym, subst, ◌∙◌}
use Rattle.std.specs.List.{list_any}
use Rattle.std.specs.Str.{str_eq_ignore_ascii_case}
use Rattle.std.proofs.lemmas.List.Elements.{All-cons, All-nil, Contains-append_left, Contains-append_right, Contains-push}
use Rattle.values.specs.declared.fault.Fault.{Fault}
use Rattle.values.specs.declared.fault.Fault.TheVariants.{Ambiguous, DuplicateName, UnknownColumn}
use Rattle.expr.specs.Term.{column}
use Rattle.sql_reader_syntax.specs.Tree.{Name}
use Rattle.semantics_names.specs.Laws.{AreDistinctInAnyCase, AreSameSources, IsCalled, IsCalledAt, IsSameInAnyCase}
use Rattle.semantics_names.specs.Outcome.{also}
use Rattle.semantics_names.specs.Scope.{Scope, Shown, bare_term, called, column_of, is_bare, is_called, is_source, only, places_of}
use Rattle.semantics_names.specs.Sources.{hidden, is_same_source, merged, used}
use Rattle.semantics_names.specs.Statement.{are_distinct, named_at, result, starred_of}
use Rattle.semantics_refusals.specs.UnknownColumns.{IsAmbiguous, IsNamedAt, IsOf, IsUnknown}
use Rattle.semantics_refusals.proofs.OutcomeLemmas.{Only, also_only, followed_only, ok, refused}

-- what a fault of a name says, in the words of names
pub record Says (F : Fault → Type 0) : Type 0 where
  pub unknown : (scope : Scope) (table : Option Name) (name : Name) → column_of scope table name ≡ Err UnknownColumn
      → (IsUnknown scope table name → F UnknownColumn) → F UnknownColumn
  pub twice : (scope : Scope) (table : Option Name) (name : Name) → column_of scope table name ≡ Err Ambiguous
      → (IsAmbiguous scope table name → F Ambiguous) → F Ambiguous
  pub repeated : (names : List Name) → are_distinct names ≡ false → (¬ AreDistinctInAnyCase names → F DuplicateName) → F DuplicateName

module _ (F : Fault → Type 0) (says : Says F) where
  places_by : (found : List (List ℕ)) → (also bare_term (only found) ≡ Err UnknownColumn → F UnknownColumn)
      → (also bare_term (only found) ≡ Err Ambiguous → F Ambiguous) → Only F (only found)
  places_by [] unknown twice = refused UnknownColumn (unknown refl)
  places_by (places ∷ []) unknown twice = ok places
  places_by (places ∷ others ∷ more) unknown twice = refused Ambiguous (twice refl)

  -- a name's places, where it is fine that it is unknown or ambiguous
  pub places_only : (scope : Scope) (table : Option Name) (name : Name) → (IsUnknown scope table name → F UnknownColumn)
      → (IsAmbiguous scope table name → F Ambiguous) → Only F (places_of scope table name)
  places_only scope table name unknown twice =
      places_by (called table name 0 scope) (λ e. says.unknown scope table name e unknown) (λ e. says.twice scope table name e twice)

  pub column_only : (scope : Scope) (table : Option Name) (name : Name) → (IsUnknown scope table name → F UnknownColumn)
      → (IsAmbiguous scope table name → F Ambiguous) → Only F (column_of scope table name)
  column_only scope table name unknown twice = also_only bare_term (places_of scope table name) (places_only scope table name unknown twice)

-- ---- USING

merged_shown : Name → List ℕ → Shown → Shown
merged_shown name places s = if is_called None name s then record { source = s.source; name = s.name; places = s.places ++ places } else s

-- it adds places to columns that have some
is_called_so : (name other : Name) (places : List ℕ) (s : Shown) → IsCalled None name s ↔ IsCalled None name (merged_shown other places s)
unfolding merged_shown
is_called_so name other places s = by (is_called None other s) refl
  where
    by : (b : Bool) → is_called None other s ≡ b
        → IsCalled None name s ↔ IsCalled None name (if b then record { source = s.source; name = s.name; places = s.places ++ places } else s)
    by false e = (λ c. c, λ c. c)
    by true e = (λ c. (longer s.places c.0, c.1), λ c. (bare s.places (str_eq_ignore_ascii_case s.name other) e, c.1))
      where
        longer : (xs : List ℕ) → xs ≢ [] → xs ++ places ≢ []
        longer [] some same = some refl
        longer (x ∷ xs) some same = absurd cc

        bare : (xs : List ℕ) (b : Bool) → (is_bare xs && b) ≡ true → xs ≢ []
        bare [] b e same = absurd cc
        bare (x ∷ xs) b e same = absurd cc

pub called_in : (name other : Name) (places : List ℕ) (scope : Scope) (at : ℕ)
    → IsCalledAt scope None name at ↔ IsCalledAt (merged other places scope) None name at
unfolding merged_shown
called_in name other places scope at = (there scope at, back scope at)
  where
    there : (scope : Scope) (at : ℕ) → IsCalledAt scope None name at → IsCalledAt (merged other places scope) None name at
    there [] at (s, is, c) = absurd cc
    there (t ∷ ts) zero (s, is, c) =
        let same : t ≡ s = cc in
        (merged_shown other places t, refl, (is_called_so name other places t).0 (subst (IsCalled None name) (sym same) c))
    there (t ∷ ts) (suc at) (s, is, c) = there ts at (s, is, c)

    back : (scope : Scope) (at : ℕ) → IsCalledAt (merged other places scope) None name at → IsCalledAt scope None name at
    back [] at (s, is, c) = absurd cc
    back (t ∷ ts) zero (s, is, c) =
        let same : merged_shown other places t ≡ s = cc in
        (t, refl, (is_called_so name other places t).1 (subst (IsCalled None name) (sym same) c))
    back (t ∷ ts) (suc at) (s, is, c) = back ts at (s, is, c)

module _ (F : Fault → Type 0) (says : Says F) where
  -- a name of USING, in the columns of one side
  pub record IsFineName (scope : Scope) (name : Name) : Type 0 where
    pub unknown : IsUnknown scope None name → F UnknownColumn
    pub twice : IsAmbiguous scope None name → F Ambiguous

  module _ (theirs whole : Scope) where
    -- the columns of the left side, some of which have more places by now
    used_so : (left right : Scope) (names : List Name) → ((name : Name) (at : ℕ) → IsCalledAt whole None name at ↔ IsCalledAt left None name at)
        → ((name : Name) → Contains names name → IsFineName whole name) → ((name : Name) → Contains names name → IsFineName theirs name)
        → Only F (used theirs left right names)
    used_so left right [] same mine fine = ok _
    used_so left right (name ∷ names) same mine fine =
        let here : Contains (name ∷ names) name = Contains-append_left (name ∷ []) names name (Contains-push [] name) in
        followed_only (places_of left None name) _
        (places_only F says left None name (λ u. (mine name here).unknown (λ at c. u at ((same name at).0 c)))
        (λ (first, second, apart, one, other). (mine name here).twice (first, second, apart, (same name first).1 one, (same name second).1 other)))
        (λ own. followed_only (places_of theirs None name) _ (places_only F says theirs None name (fine name here).unknown (fine name here).twice) (λ places.
        also_only _ (used theirs (merged name places left) (hidden name right) names)
        (used_so (merged name places left) (hidden name right) names
        (λ n at. (λ c. (called_in n name places left at).0 ((same n at).0 c), λ c. (same n at).1 ((called_in n name places left at).1 c)))
        (λ n there. mine n (Contains-append_right (name ∷ []) names n there)) (λ n there. fine n (Contains-append_right (name ∷ []) names n there)))))

    pub used_only : (right : Scope) (names : List Name) → ((name : Name) → Contains names name → IsFineName whole name)
        → ((name : Name) → Contains names name → IsFineName theirs name) → Only F (used theirs whole right names)
    used_only right names mine fine = used_so whole right names (λ name at. (λ c. c, λ c. c)) mine fine

-- ---- `t.*`

pub star_of_none : (table : Name) (at : ℕ) (scope : Scope) → starred_of table at scope ≡ [] → All (λ shown. ¬ IsOf table shown) scope
star_of_none table at [] e = All-nil (λ shown. ¬ IsOf table shown)
star_of_none table at (s ∷ ss) e =
    let (apart, more) = by (is_source table s.source) refl e in
    All-cons (λ shown. ¬ IsOf table shown) s ss apart (star_of_none table (suc at) ss more)
  where
    no_source : (o : Option Name) → is_source table o ≡ false → (source : Name) → o ≡ Some source → ¬ IsSameInAnyCase source table
    no_source None e source is same = absurd cc
    no_source (Some name) e source is same =
        let named : name ≡ source = cc in absurd (true≢false (sym (subst (λ n. str_eq_ignore_ascii_case n table ≡ true) (sym named) same) ∙ e))

    by : (b : Bool) → is_source table s.source ≡ b → (if b then result s.name (column at) ∷ starred_of table (suc at) ss else starred_of table (suc at) ss) ≡ []
        → (¬ IsOf table s) × (starred_of table (suc at) ss ≡ [])
    by true same is = absurd cc
    by false apart is = (λ (source, called, same). no_source s.source apart source called same, is)

-- ---- two names

pub same_there : (called : Option Name) (names : List (Option Name)) → list_any (is_same_source called) names ≡ true
    → (other : Option Name) × Contains names other × AreSameSources other called
same_there called [] e = absurd cc
same_there called (other ∷ names) e = by (is_same_source called other) refl e (same_there called names)
  where
    same : (a b : Option Name) → is_same_source a b ≡ true → AreSameSources b a
    same (Some a) (Some b) e = e
    same (Some a) None e = absurd cc
    same None (Some b) e = absurd cc
    same None None e = absurd cc

    by : (b : Bool) → is_same_source called other ≡ b → (b || list_any (is_same_source called) names) ≡ true
        → (list_any (is_same_source called) names ≡ true → (found : Option Name) × Contains names found × AreSameSources found called)
        → (found : Option Name) × Contains (other ∷ names) found × AreSameSources found called
    by true is e more = (other, Contains-append_left (other ∷ []) names other (Contains-push [] other), same called other is)
    by false is e more =
        let (found, there, are) = more e in (found, Contains-append_right (other ∷ []) names found there, are)

-- a name that has a place among names, and one that has two
pub named_some : (name : Name) (from : ℕ) (names : List Name) (at : ℕ) (more : List ℕ) → named_at name from names ≡ at ∷ more → (k : ℕ) × IsNamedAt names name k
named_some name from [] at more e = absurd cc
named_some name from (n ∷ ns) at more e = by (str_eq_ignore_ascii_case n name) refl e (named_some name (suc from) ns at more)
  where
    by : (b : Bool) → str_eq_ignore_ascii_case n name ≡ b
        → (if b then from ∷ named_at name (suc from) ns else named_at name (suc from) ns) ≡ at ∷ more
        → (named_at name (suc from) ns ≡ at ∷ more → (k : ℕ) × IsNamedAt ns name k) → (k : ℕ) × IsNamedAt (n ∷ ns) name k
    by true same e found = (0, (n, refl, same))
    by false apart e found = let (k, is) = found e in (suc k, is)

pub named_two : (name : Name) (from : ℕ) (names : List Name) (at other : ℕ) (more : List ℕ) → named_at name from names ≡ at ∷ other ∷ more
    → (first second : ℕ) × (first < second) × IsNamedAt names name first × IsNamedAt names name second
named_two name from [] at other more e = absurd cc
named_two name from (n ∷ ns) at other more e = by (str_eq_ignore_ascii_case n name) refl e (named_two name (suc from) ns at other more)
  where
    by : (b : Bool) → str_eq_ignore_ascii_case n name ≡ b
        → (if b then from ∷ named_at name (suc from) ns else named_at name (suc from) ns) ≡ at ∷ other ∷ more
        → (named_at name (suc from) ns ≡ at ∷ other ∷ more
        → (first second : ℕ) × (first < second) × IsNamedAt ns name first × IsNamedAt ns name second)
        → (first second : ℕ) × (first < second) × IsNamedAt (n ∷ ns) name first × IsNamedAt (n ∷ ns) name second
    by true same e found =
        let rest : named_at name (suc from) ns ≡ other ∷ more = cc in
        let (k, is) = named_some name (suc from) ns other more rest in
        (0, suc k, omega arith, (n, refl, same), is)
    by false apart e found = let (j, k, less, one, two) = found e in (suc j, suc k, omega arith, one, two)

pub named_none : (name : Name) (from : ℕ) (names : List Name) → named_at name from names ≡ [] → (at : ℕ) → ¬ IsNamedAt names name at
named_none name from [] e at (n, is, same) = absurd cc
named_none name from (n ∷ ns) e at found = by (str_eq_ignore_ascii_case n name) refl e (named_none name (suc from) ns) at found
  where
    by : (b : Bool) → str_eq_ignore_ascii_case n name ≡ b → (if b then from ∷ named_at name (suc from) ns else named_at name (suc from) ns) ≡ []
        → (named_at name (suc from) ns ≡ [] → (at : ℕ) → ¬ IsNamedAt ns name at) → (at : ℕ) → ¬ IsNamedAt (n ∷ ns) name at
    by true is e more at found = absurd cc
    by false is e more zero (other, there, same) =
        let called : n ≡ other = cc in absurd (true≢false (sym (subst (λ n. str_eq_ignore_ascii_case n name ≡ true) (sym called) same) ∙ is))
    by false is e more (suc at) (other, there, same) = more e at (other, there, same)
