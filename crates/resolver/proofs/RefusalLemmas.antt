-- A refusal is told exactly where its condition holds.
use Rattle.std.proofs.Common.{◌≡◌, Bool, true, false, ◌||◌, if◌then◌else◌, ℕ, zero, suc, ℤ, pos, negsuc, List, [], ◌∷◌, Option, Some, None, Result, Ok, Err, length, slice_get, nat_eq, nat_lt, refl, sym, subst, ap}
use Rattle.std.specs.List.{list_any}
use Rattle.std.proofs.lemmas.Bool.{eq-eqb, eqb-true}
use Rattle.values.specs.declared.fault.Fault.{Fault}
use Rattle.values.specs.declared.fault.Fault.TheVariants.{Ambiguous, ColumnCount, DuplicateName, UnknownColumn, WrongPlace}
use Rattle.semantics.specs.Query.{KeyTerm}
use Rattle.sql_reader_syntax.specs.ExprTree.{ExprTree, TermTrees}
use Rattle.sql_reader_syntax.specs.Tree.{Name}
use Rattle.semantics_names.specs.Laws.{AmbiguousIsTwo, AreSameSources, UnknownIsNone}
use Rattle.semantics_names.specs.Outcome.{also, both, checked}
use Rattle.semantics_names.specs.Scope.{bare_term, places_of}
use Rattle.semantics_names.specs.Sources.{is_same_source}
use Rattle.semantics_names.specs.Statement.{are_distinct, key_term, keys_of, named_at, named_or, no_row, number_alone, numbered, numbered_or, one_or}
use Rattle.resolver.specs.Refusals.{CompoundWidths, InnerWidth, ItemWidths, RepeatedSource, UsingAmbiguous, UsingUnknown}

-- this fault isn't handed on
abbrev IsOther : {A : Type 0} → Result A Fault → Type 0
IsOther r = r ≡ Err ColumnCount → ⊥

module _ {A : Type 0} (r : Result A Fault) (a b : ℕ) where
  told : IsOther r → checked (nat_eq a b) ColumnCount r ≡ Err ColumnCount → a ≡ b → ⊥
  told other e same = other (subst (λ k. checked k ColumnCount r ≡ Err ColumnCount) (eq-eqb a b same) e)

  tells : (a ≡ b → ⊥) → checked (nat_eq a b) ColumnCount r ≡ Err ColumnCount
  tells differ = by (nat_eq a b) refl
    where
      by : (k : Bool) → nat_eq a b ≡ k → checked k ColumnCount r ≡ Err ColumnCount
      by true same = absurd (differ (eqb-true a b same))
      by false same = refl

also-other : {A B : Type 0} (g : A → B) (r : Result A Fault) → IsOther r → IsOther (also g r)
also-other g (Ok a) other e = absurd cc
also-other g (Err fault) other e = let same : fault ≡ ColumnCount = cc in other (ap Err same)

both-other : {A B C : Type 0} (g : A → B → C) (r : Result A Fault) (s : Result B Fault) → IsOther r → IsOther s → IsOther (both g r s)
both-other g (Ok a) s first second e = also-other (g a) s second e
both-other g (Err fault) s first second e = let same : fault ≡ ColumnCount = cc in first (ap Err same)

checked-other : {A : Type 0} (kept : Bool) (a : A) → IsOther (checked kept WrongPlace (Ok a))
checked-other true a e = absurd cc
checked-other false a e = absurd cc

distinct-other : (kept : Bool) (names : List Name) → IsOther (checked kept DuplicateName (Ok names))
distinct-other true names e = absurd cc
distinct-other false names e = absurd cc

one-other : (found : List ℕ) → IsOther (one_or found (Err WrongPlace))
one-other [] e = absurd cc
one-other (at ∷ []) e = absurd cc
one-other (at ∷ other ∷ rest) e = absurd cc

number-other : (width : ℕ) (z : ℤ) → IsOther (numbered width z)
number-other width (pos zero) e = absurd cc
number-other width (pos (suc at)) e = checked-other (nat_lt at width) (KeyTerm.result at) e
number-other width (negsuc n) e = absurd cc

name-other : (names : List Name) (t : ExprTree) → IsOther (named_or names no_row t)
name-other names (ExprTree.Column None name) e = one-other (named_at name 0 names) e
name-other names t e = absurd cc

term-other : (names : List Name) (t : ExprTree) → IsOther (key_term names no_row t)
term-other names t = by (number_alone t)
  where
    by : (number : Option ℤ) → IsOther (numbered_or (length names) number (named_or names no_row t))
    by (Some z) = number-other (length names) z
    by None = name-other names t

keys-other : (names : List Name) (order : TermTrees) → IsOther (keys_of names no_row order)
keys-other names TermTrees.No_term e = absurd cc
keys-other names (TermTrees.Term t direction rest) e =
    both-other _ (key_term names no_row t) (keys_of names no_row rest) (term-other names t) (keys-other names rest) e

pub item_widths : ItemWidths
item_widths [] names = (λ e. absurd cc, λ (some, differ). absurd (some refl))
item_widths (n ∷ ns) names =
    let r = checked (are_distinct (n ∷ ns)) DuplicateName (Ok (n ∷ ns)) in (
      λ e. (λ none. absurd cc, told r (length (n ∷ ns)) (length names) (distinct-other (are_distinct (n ∷ ns)) (n ∷ ns)) e),
      λ (some, differ). tells r (length (n ∷ ns)) (length names) differ,
    )

pub compound_widths : CompoundWidths
compound_widths order left operator s = (
  told _ (length left.names) (length s.core.names) (also-other _ (keys_of left.names no_row order) (keys-other left.names order)),
  tells _ (length left.names) (length s.core.names),
)

pub inner_width : InnerWidth
inner_width q = (told _ (length q.names) 1 (λ e. absurd cc), tells _ (length q.names) 1)

-- ---- sources

same_is : (other name : Option Name) → AreSameSources other name → is_same_source name other ≡ true
same_is (Some a) (Some b) same = same
same_is (Some a) None same = absurd same
same_is None name same = absurd same

among : (name : Option Name) (names : List (Option Name)) (at : ℕ) (other : Option Name)
    → slice_get names at ≡ Some other → AreSameSources other name → list_any (is_same_source name) names ≡ true
among name [] zero other there same = absurd cc
among name [] (suc at) other there same = absurd cc
among name (x ∷ names) zero other there same =
    let is : x ≡ other = cc in
    let here : is_same_source name x ≡ true = same_is x name (subst (λ o. AreSameSources o name) (sym is) same) in
    subst (λ b. (b || list_any (is_same_source name) names) ≡ true) (sym here) refl
among name (x ∷ names) (suc at) other there same = or_true (is_same_source name x) (among name names at other there same)
  where
    or_true : (b : Bool) → list_any (is_same_source name) names ≡ true → (b || list_any (is_same_source name) names) ≡ true
    or_true true e = refl
    or_true false e = e

refused_where : {A : Type 0} (b : Bool) (r : Result A Fault) → b ≡ true → (if b then Err DuplicateName else r) ≡ Err DuplicateName
refused_where true r e = refl
refused_where false r e = absurd cc

pub repeated_source : RepeatedSource
repeated_source answers left kind on given at other there same =
    refused_where (list_any (is_same_source given.name) left.names) _ (among given.name left.names at other there same)

-- ---- USING

told_places : (r : Result (List ℕ) Fault) (fault : Fault) → r ≡ Err fault → also bare_term r ≡ Err fault
told_places (Ok places) fault e = absurd cc
told_places (Err other) fault e = let same : other ≡ fault = cc in ap Err same

places_told : (r : Result (List ℕ) Fault) (fault : Fault) → also bare_term r ≡ Err fault → r ≡ Err fault
places_told (Ok places) fault e = absurd cc
places_told (Err other) fault e = let same : other ≡ fault = cc in ap Err same

pub using_unknown : UnknownIsNone → UsingUnknown
using_unknown unknown_is_none scope name =
    let (none, unknown) = unknown_is_none scope None name in
    (λ e. none (told_places (places_of scope None name) UnknownColumn e), λ nowhere. places_told (places_of scope None name) UnknownColumn (unknown nowhere))

pub using_ambiguous : AmbiguousIsTwo → UsingAmbiguous
using_ambiguous ambiguous_is_two scope name =
    let (two, ambiguous) = ambiguous_is_two scope None name in
    (λ e. two (told_places (places_of scope None name) Ambiguous e), λ both. places_told (places_of scope None name) Ambiguous (ambiguous both))
