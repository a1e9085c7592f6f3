-- Lists of literals, and the values of a set.
use Rattle.std.proofs.Common.{◌≡◌, ◌↔◌, ◌≤◌, ◌==◌, ℕ, Bool, List, [], ◌∷◌, IsTrue, drop, length, map, refl}
use Rattle.values.specs.Datum.{Datum, datum_of}
use Rattle.values.specs.declared.value.Value.{Value}
use Rattle.expr.specs.Contract.{trees}
use Rattle.expr.specs.Filled.{literals}
use Rattle.expr.specs.Term.{Term, among, answer}
use Rattle.expr.specs.View.{terms}
use Rattle.expr.specs.declared.tree.Expr.{Expr}
use Rattle.expr_types.proofs.lemmas.same_trees.SameLemmas.{ends_alike}

-- the same literals are those of the same values
pub literals_alone : (vs others : List Datum) → literals vs ≡ literals others → vs ≡ others
literals_alone [] [] e = refl
literals_alone [] (o ∷ others) e = cc
literals_alone (v ∷ vs) [] e = cc
literals_alone (v ∷ vs) (o ∷ others) e =
    let rest : literals vs ≡ literals others = cc in
    let same : vs ≡ others = literals_alone vs others rest in
    cc

-- the one list is read to its end
pub members_end : (items : List Expr) (values : List Datum) (rest : List Value) (i : ℕ) (r : Bool) → length items ≤ i → r ≡ (length rest == 0)
    → ((trees (drop i items) ≡ literals (map datum_of rest)) ↔ (trees items ≡ literals values)) → IsTrue r ↔ (trees items ≡ literals values)
members_end items values rest i r past e inv =
    ends_alike trees (λ vs. literals (map datum_of vs)) refl (λ v vs h. cc) items rest (trees items ≡ literals values) i r past e inv

-- a list is no answer of a query
list_is_no_answer : (items : List Term) (k : ℕ) → terms items ≡ answer k → ⊥
list_is_no_answer [] k e = cc
list_is_no_answer (x ∷ xs) k e = cc

pub list_for_answer : (x y : Term) (items : List Term) (k : ℕ) → among x (terms items) ≡ among y (answer k) → ⊥
list_for_answer x y items k e = let members : terms items ≡ answer k = cc in list_is_no_answer items k members

-- nor is a set of values
set_is_no_answer : (values : List Datum) (k : ℕ) → literals values ≡ answer k → ⊥
set_is_no_answer [] k e = cc
set_is_no_answer (v ∷ vs) k e = cc

pub set_for_answer : (x y : Term) (values : List Datum) (k : ℕ) → among x (literals values) ≡ among y (answer k) → ⊥
set_for_answer x y values k e = let members : literals values ≡ answer k = cc in set_is_no_answer values k members
