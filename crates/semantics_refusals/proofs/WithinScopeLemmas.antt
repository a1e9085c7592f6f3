-- A name stands for columns of the row that FROM shows.
use Rattle.std.proofs.Common.{◌≡◌, Bool, true, false, if◌then◌else◌, ℕ, suc, ◌+◌, ◌<◌, ◌≤◌, List, [], ◌∷◌, ◌++◌, length, Option, Some, None, ap, refl, ◌∙◌, arith, length-append}
use Rattle.std.proofs.lemmas.List.{length-map}
use Rattle.values.specs.declared.fault.Fault.TheVariants.{Ambiguous, UnknownColumn}
use Rattle.expr.specs.Term.{Term, column}
use Rattle.sql_reader_syntax.specs.ExprTree.{ExprTree, OnTree}
use Rattle.sql_reader_syntax.specs.Tree.{Name}
use Rattle.semantics_names.specs.Expression.{Answers, InnerTree, term_of}
use Rattle.semantics_names.specs.Places.{columns_say}
use Rattle.semantics_names.specs.Scope.{Scope, Shown, bare_term, called, column_of, is_bare, is_called, is_source, only, places_of, shown_places}
use Rattle.semantics_names.specs.Sources.{Condition, Using, all_of, conjunction, equal, hidden, joined_on, merged, shown_from, used}
use Rattle.semantics_names.specs.Statement.{ResultColumn, result, starred, starred_of}
use Rattle.semantics_refusals.proofs.ClashLemmas.{AreWithin, IsWithin}
use Rattle.semantics_refusals.proofs.HandsLemmas.{Hands, IfAny, also_hands, followed_hands, no_hands}
use Rattle.semantics_refusals.proofs.PartLemmas.{Each, first, join, more, none, one, rest}
use Rattle.semantics_refusals.proofs.WithinTermLemmas.{IsOfColumns, bare_within, term_within}

-- the bare names of its columns look at places of a row of so many
pub record IsWithinScope (width : ℕ) (scope : Scope) : Type 0 where
  pub is : Each (λ (s : Shown). Each (λ at. at < width) s.places) scope

-- the answers of inner queries are those of so many
pub record AreAnswers (count : ℕ) (answers : Answers) : Type 0 where
  pub so : (width : ℕ) (tree : InnerTree) → Hands (AreWithin count width) (answers tree)

module _ (width : ℕ) where
  shown_within : (table : Option Name) (at : ℕ) (shown : Shown) → at < width → Each (λ at. at < width) shown.places
      → Each (λ at. at < width) (shown_places table at shown)
  shown_within None at shown less all = all
  shown_within (Some table) at shown less all = one less

  called_within : (table : Option Name) (name : Name) (at : ℕ) (scope : Scope) → at + length scope ≤ width
      → Each (λ (s : Shown). Each (λ at. at < width) s.places) scope → Each (Each (λ at. at < width)) (called table name at scope)
  called_within table name at [] few all = none
  called_within table name at (s ∷ others) few all =
      by (is_called table name s) (called_within table name (suc at) others (omega arith) (rest all))
    where
      by : (b : Bool) → Each (Each (λ at. at < width)) (called table name (suc at) others)
          → Each (Each (λ at. at < width))
          (if b then shown_places table at s ∷ called table name (suc at) others else called table name (suc at) others)
      by true more_of = more (shown_places table at s) (called table name (suc at) others) (shown_within table at s (omega arith) (first all)) more_of
      by false more_of = more_of

  only_within : (found : List (List ℕ)) → Each (Each (λ at. at < width)) found → Hands (Each (λ at. at < width)) (only found)
  only_within [] all = no_hands UnknownColumn
  only_within (places ∷ []) all = record { is = first all }
  only_within (places ∷ others ∷ found) all = no_hands Ambiguous

  pub places_within : (scope : Scope) (table : Option Name) (name : Name) → length scope ≤ width → IsWithinScope width scope
      → Hands (Each (λ at. at < width)) (places_of scope table name)
  places_within scope table name few all = only_within (called table name 0 scope) (called_within table name 0 scope (omega arith) all.is)

  pub column_within : (scope : Scope) (table : Option Name) (name : Name) → length scope ≤ width → IsWithinScope width scope
      → Hands (IsOfColumns width) (column_of scope table name)
  column_within scope table name few all =
      also_hands bare_term (places_of scope table name) (places_within scope table name few all)
      (λ places within. record { places = places; is = refl; within = within })

  pub columns_said : (scope : Scope) → length scope ≤ width → IsWithinScope width scope → (part : ExprTree)
      → Hands (IfAny (IsOfColumns width)) (columns_say scope part)
  columns_said scope few all (ExprTree.Column table name) =
      also_hands Some (column_of scope table name) (column_within scope table name few all) (λ t h. record { is = h })
  columns_said scope few all _ = record { is = record { is = tt } }

  -- ---- the columns of `*`

  pub starred_within : (scope : Scope) → IsWithinScope width scope → Each (λ (r : ResultColumn). IsOfColumns width r.term) (starred scope)
  starred_within [] all = none
  starred_within (s ∷ others) all = by (is_bare s.places) (starred_within others (record { is = rest all.is }))
    where
      by : (b : Bool) → Each (λ (r : ResultColumn). IsOfColumns width r.term) (starred others)
          → Each (λ (r : ResultColumn). IsOfColumns width r.term)
          (if b then result s.name (bare_term s.places) ∷ starred others else starred others)
      by true h = more (result s.name (bare_term s.places)) (starred others) (record { places = s.places; is = refl; within = first all.is }) h
      by false h = h

  pub starred_of_within : (table : Name) (at : ℕ) (scope : Scope) → at + length scope ≤ width
      → Each (λ (r : ResultColumn). IsOfColumns width r.term) (starred_of table at scope)
  starred_of_within table at [] few = none
  starred_of_within table at (s ∷ others) few = by (is_source table s.source) (starred_of_within table (suc at) others (omega arith))
    where
      by : (b : Bool) → Each (λ (r : ResultColumn). IsOfColumns width r.term) (starred_of table (suc at) others)
          → Each (λ (r : ResultColumn). IsOfColumns width r.term)
          (if b then result s.name (column at) ∷ starred_of table (suc at) others else starred_of table (suc at) others)
      by true h =
          more (result s.name (column at)) (starred_of table (suc at) others) (record { places = at ∷ []; is = refl; within = one (omega arith) }) h
      by false h = h

  -- ---- the columns of a source

  shown_all : (source : Option Name) (at : ℕ) (names : List Name) → at + length names ≤ width
      → Each (λ (s : Shown). Each (λ at. at < width) s.places) (shown_from source at names)
  shown_all source at [] few = none
  shown_all source at (name ∷ names) few =
      more _ (shown_from source (suc at) names) (one (omega arith)) (shown_all source (suc at) names (omega arith))

  -- ---- USING

  merged_within : (name : Name) (places : List ℕ) (scope : Scope) → Each (λ at. at < width) places
      → Each (λ (s : Shown). Each (λ at. at < width) s.places) scope
      → Each (λ (s : Shown). Each (λ at. at < width) s.places) (merged name places scope)
  merged_within name places [] some all = none
  merged_within name places (s ∷ others) some all =
      more (if is_called None name s then record { source = s.source; name = s.name; places = s.places ++ places } else s) (merged name places others)
      (by (is_called None name s)) (merged_within name places others some (rest all))
    where
      by : (b : Bool)
          → Each (λ at. at < width) ((if b then record { source = s.source; name = s.name; places = s.places ++ places } else s).places)
      by true = join s.places places (first all) some
      by false = first all

  hidden_within : (name : Name) (scope : Scope) → Each (λ (s : Shown). Each (λ at. at < width) s.places) scope
      → Each (λ (s : Shown). Each (λ at. at < width) s.places) (hidden name scope)
  hidden_within name [] all = none
  hidden_within name (s ∷ others) all =
      more (if is_called None name s then record { source = s.source; name = s.name; places = [] } else s) (hidden name others)
      (by (is_called None name s)) (hidden_within name others (rest all))
    where
      by : (b : Bool) → Each (λ at. at < width) ((if b then record { source = s.source; name = s.name; places = [] } else s).places)
      by true = none
      by false = first all

pub length-shown : (source : Option Name) (at : ℕ) (names : List Name) → length (shown_from source at names) ≡ length names
length-shown source at [] = refl
length-shown source at (name ∷ names) = ap suc (length-shown source (suc at) names)

module _ (count width : ℕ) where
  all_of_within : (t : Term) (ts : List Term) → IsWithin count width t → Each (IsWithin count width) ts → IsWithin count width (all_of t ts)
  all_of_within t [] h all = h
  all_of_within t (u ∷ us) h all = all_of_within _ us (h, first all) (rest all)

  conjunction_within : (ts : List Term) → Each (IsWithin count width) ts → IsWithin count width (conjunction ts)
  conjunction_within [] all = tt
  conjunction_within (t ∷ ts) all = all_of_within t ts (first all) (rest all)

  -- what both sides show, and the equalities, over a row of so many
  pub record IsWithinUsing (left right : ℕ) (u : Using) : Type 0 where
    pub left_size : length u.left ≡ left
    pub right_size : length u.right ≡ right
    pub left_within : IsWithinScope width u.left
    pub right_within : IsWithinScope width u.right
    pub equalities : Each (IsWithin count width) u.equalities

  used_within : (names : List Name) (theirs left right : Scope) (m n : ℕ) → length left ≡ m → length right ≡ n → m ≤ width
      → length theirs ≤ width
      → IsWithinScope width theirs → IsWithinScope width left → IsWithinScope width right
      → Hands (IsWithinUsing m n) (used theirs left right names)
  used_within [] theirs left right m n same other few little all some more_of =
      record { is = record { left_size = same; right_size = other; left_within = some; right_within = more_of; equalities = none } }
  used_within (name ∷ names) theirs left right m n same other few little all some more_of =
      followed_hands (places_of left None name) _ (places_within width left None name (omega arith) some) (λ mine within.
      followed_hands (places_of theirs None name) _ (places_within width theirs None name little all) (λ places inside.
      also_hands _ (used theirs (merged name places left) (hidden name right) names)
      (used_within names theirs (merged name places left) (hidden name right) m n
      (length-map left _ ∙ same) (length-map right _ ∙ other) few little all
      (record { is = merged_within width name places left inside some.is }) (record { is = hidden_within width name right more_of.is }))
      (λ u h. record {
        left_size = h.left_size;
        right_size = h.right_size;
        left_within = h.left_within;
        right_within = h.right_within;
        equalities = more (equal mine places) u.equalities (bare_within count width mine within, bare_within count width places inside) h.equalities;
      })))

  -- ---- joins

  -- what a join shows, and its condition
  pub record IsWithinCondition (c : Condition) : Type 0 where
    pub size : length c.scope ≡ width
    pub scope : IsWithinScope width c.scope
    pub term : IsWithin count width c.term

  both_within : (left right : Scope) → IsWithinScope width left → IsWithinScope width right → IsWithinScope width (left ++ right)
  both_within left right all some = record { is = join left right all.is some.is }

  pub on_within : (answers : Answers) → AreAnswers count answers → (on : OnTree) (left right : Scope) → length left + length right ≡ width
      → IsWithinScope width left → IsWithinScope width right → Hands IsWithinCondition (joined_on answers on left right)
  on_within answers answered OnTree.Always left right size all some =
      record { is = record { size = length-append left right ∙ size; scope = both_within left right all some; term = tt } }
  on_within answers answered (OnTree.On e) left right size all some =
      let total : length (left ++ right) ≡ width = length-append left right ∙ size in
      also_hands _ (term_of answers (columns_say (left ++ right)) e)
      (term_within count width answers (columns_say (left ++ right)) (answered.so width)
      (columns_said width (left ++ right) (omega arith) (both_within left right all some)) e)
      (λ t h. record { size = total; scope = both_within left right all some; term = h })
  on_within answers answered (OnTree.Using names) left right size all some =
      also_hands _ (used right left right names)
      (used_within names right left right (length left) (length right) refl refl (omega arith) (omega arith) some all some)
      (λ u h. record {
        size = length-append u.left u.right ∙ together u.left u.right h.left_size h.right_size;
        scope = both_within u.left u.right h.left_within h.right_within;
        term = conjunction_within u.equalities h.equalities;
      })
    where
      together : (a b : Scope) → length a ≡ length left → length b ≡ length right → length a + length b ≡ width
      together a b e d = omega arith

pub source_shown : (source : Option Name) (at : ℕ) (names : List Name) (width : ℕ) → at + length names ≡ width
    → IsWithinScope width (shown_from source at names)
source_shown source at names width e = record { is = shown_all width source at names (omega arith) }

pub wider_scope : (width wide : ℕ) (scope : Scope) → width ≤ wide → IsWithinScope width scope → IsWithinScope wide scope
wider_scope width wide [] few all = record { is = none }
wider_scope width wide (s ∷ others) few all =
    record { is = more s others (places s.places (first all.is)) ((wider_scope width wide others few (record { is = rest all.is })).is) }
  where
    places : (ps : List ℕ) → Each (λ at. at < width) ps → Each (λ at. at < wide) ps
    places [] h = none
    places (p ∷ ps) h = let less : p < width = first h in more p ps (omega arith) (places ps (rest h))
