-- The condition of a partial index.
use Rattle.std.proofs.Common.{◌≡◌, ◌⊎◌, ℕ, ◌+◌, ◌<◌, ◌≤◌, Bool, true, false, IsTrue, ◌↔◌, List, [], ◌∷◌, ◌++◌, length, get_or, map, drop, Option, Some, None, Result, Ok, Err, cond, inl, inr, refl, sym, ap, ◌∙◌, subst, append_assoc}
use Rattle.std.proofs.lemmas.List.{append-nil, at_drop_all, at_drop_more, drop_more, map-append}
use Rattle.values.specs.declared.fault.Fault.{Fault}
use Rattle.values.specs.declared.fault.Fault.TheVariants.{NoMemory}
use Rattle.values.specs.declared.value.Ty.{Ty}
use Rattle.values.specs.declared.value.Ty.TheVariants.{Int}
use Rattle.expr.proofs.TermTypeLemmas.{types_are_found}
use Rattle.expr.specs.Term.{Term}
use Rattle.expr.specs.TermType.{Finds, type_of_term}
use Rattle.expr.specs.Types.{HasType}
use Rattle.expr.specs.View.{term}
use Rattle.expr.specs.declared.tree.Expr.{Expr}
use Rattle.schema.specs.indexes.Condition.{IsIndexCondition, IsConditionOf, place_from, term_of, terms_of}
use Rattle.semantics_names.specs.Outcome.{also, both}
use Rattle.schema_keys.proofs.NameLemmas.{tested_name}
use Rattle.schema_tables.specs.ColumnTypes.{types_of}
use Rattle.schema_keys.specs.Names.{IsSameName, same_name}
use Rattle.schema_tables.specs.TableData.{ColumnData, TableData}
use Rattle.sql_reader_grammar.specs.statement_trees.TreeView.{expr_of}
use Rattle.sql_reader_grammar.specs.declared.statement_trees.expressions.Expr.{Expr as Tree}
use Rattle.sql_reader_syntax.specs.ExprTree.{ExprTree, trees_of}
use Rattle.sql_reader_syntax.specs.Tree.{Name}

-- The first place of a column, where it was tested whether this one has the name
module _ (columns : List ColumnData) (name : Name) (i : ℕ) (x : ColumnData) (given : Name) (found : Bool) (within : i < length columns)
    (is : x ≡ get_or columns i x) (e : given ≡ x.name) (tested : IsTrue found ↔ IsSameName given name) where
  step : place_from i (drop i columns) name ≡ cond found (Some i) (place_from (i + 1) (drop (i + 1) columns) name)
  step =
      ap (λ cs. place_from i cs name) (drop_more columns i x within ∙ ap (λ y. y ∷ drop (i + 1) columns) (sym is))
      ∙ ap (λ b. cond b (Some i) (place_from (i + 1) (drop (i + 1) columns) name))
      (sym (tested_name found given name tested ∙ ap (λ n. same_name n name) e))

  pub first_here : found ≡ true → place_from 0 columns name ≡ place_from i (drop i columns) name
      → Some i ≡ place_from 0 columns name
  first_here some far =
      sym (far ∙ (step ∙ ap (λ b. cond b (Some i) (place_from (i + 1) (drop (i + 1) columns) name)) some))

  pub first_further : found ≡ false → place_from 0 columns name ≡ place_from i (drop i columns) name
      → place_from 0 columns name ≡ place_from (i + 1) (drop (i + 1) columns) name
  first_further none far =
      far ∙ (step ∙ ap (λ b. cond b (Some i) (place_from (i + 1) (drop (i + 1) columns) name)) none)

pub first_nowhere : (columns : List ColumnData) (name : Name) (i : ℕ) → length columns ≤ i
    → place_from 0 columns name ≡ place_from i (drop i columns) name → None ≡ place_from 0 columns name
first_nowhere columns name i past far = sym (far ∙ at_drop_all (λ cs. place_from i cs name) columns i past)

-- The members of a list, one after another, where the terms of some are known
module _ (table : TableData) (xs : List Tree) where
  abbrev one : Tree → Result Term Fault
  one x = term_of table (expr_of x)

  abbrev pub all_of : List Tree → Result (List Term) Fault
  all_of ys = terms_of table (trees_of (map expr_of ys))

  abbrev pub AreSoFar : ℕ → List Expr → Type 0
  AreSoFar i done = all_of xs ≡ also (λ rest. map term done ++ rest) (all_of (drop i xs))

  begun : (all : Result (List Term) Fault) → all ≡ also (λ rest. rest) all
  begun (Ok rest) = refl
  begun (Err fault) = refl

  pub none_so_far : (done : List Expr) → done ≡ [] → AreSoFar 0 done
  none_so_far done e = subst (AreSoFar 0) (sym e) (begun (all_of xs))

  after : (done : List Term) (t : Term) (r : Result (List Term) Fault)
      → also (λ rest. done ++ rest) (also (λ rest. t ∷ rest) r) ≡ also (λ rest. (done ++ t ∷ []) ++ rest) r
  after done t (Ok rest) = ap Ok (sym (append_assoc done (t ∷ []) rest))
  after done t (Err fault) = refl

  pub all_so_far : (i : ℕ) (done : List Expr) → length xs ≤ i → AreSoFar i done → all_of xs ≡ Ok (map term done)
  all_so_far i done past far =
      far ∙ ap (also (λ rest. map term done ++ rest)) (at_drop_all all_of xs i past) ∙ ap Ok (append-nil (map term done))

  module _ (i : ℕ) (x : Tree) (within : i < length xs) (is : x ≡ get_or xs i x) (done : List Expr) (far : AreSoFar i done) where
    next : all_of xs ≡ also (λ rest. map term done ++ rest) (both ◌∷◌ (one x) (all_of (drop (i + 1) xs)))
    next =
        far
        ∙ ap (also (λ rest. map term done ++ rest))
        (at_drop_more all_of xs i x within ∙ ap (λ y. all_of (y ∷ drop (i + 1) xs)) (sym is))

    pub one_more : (a : Expr) (more : List Expr) → more ≡ done ++ a ∷ [] → one x ≡ Ok (term a) → AreSoFar (i + 1) more
    one_more a more pushed made =
        subst (AreSoFar (i + 1)) (sym pushed)
        (next
        ∙ ap (λ r. also (λ rest. map term done ++ rest) (both ◌∷◌ r (all_of (drop (i + 1) xs)))) made
        ∙ after (map term done) (term a) (all_of (drop (i + 1) xs))
        ∙ ap (λ so_far. also (λ rest. so_far ++ rest) (all_of (drop (i + 1) xs))) (sym (map-append term done (a ∷ []))))

    pub one_fails : (fault : Fault) → (fault ≡ NoMemory) ⊎ (one x ≡ Err fault) → (fault ≡ NoMemory) ⊎ (all_of xs ≡ Err fault)
    one_fails fault (inl none) = inl none
    one_fails fault (inr made) =
        inr (next ∙ ap (λ r. also (λ rest. map term done ++ rest) (both ◌∷◌ r (all_of (drop (i + 1) xs)))) made)

-- a part can't stand there
pub no_term : (table : TableData) (e : ExprTree) (fault : Fault) → (fault ≡ NoMemory) ⊎ (term_of table e ≡ Err fault)
    → (fault ≡ NoMemory) ⊎ ((condition : Term) → ¬ IsConditionOf table e condition)
no_term table e fault (inl none) = inl none
no_term table e fault (inr none) = inr (λ condition is. let p = is.term_is in cc)

-- a type was looked for
module _ (table : TableData) (e : ExprTree) (t : Term) (types : List Ty) (of : Option Ty) (term_is : term_of table e ≡ Ok t)
    (types_are : types ≡ types_of table) (found : of ≡ type_of_term types [] t) where
  fits_same : Finds of Int ↔ HasType (types_of table) [] t Int
  fits_same =
      let one : of ≡ type_of_term (types_of table) [] t = found ∙ ap (λ ts. type_of_term ts [] t) types_are in
      let both = types_are_found (types_of table) [] t Int in
      ((λ fits. both.1 (subst (λ o. Finds o Int) one fits)), (λ has. subst (λ o. Finds o Int) (sym one) (both.0 has)))

  pub is_condition : Finds of Int → IsConditionOf table e t
  is_condition fits = record { term_is = term_is; typed = fits_same.0 fits }

  pub no_condition : ¬ Finds of Int → (condition : Term) → ¬ IsConditionOf table e condition
  no_condition misfits condition is =
      let same : condition ≡ t = let p = is.term_is in let q = term_is in cc in
      misfits (fits_same.1 (subst (λ (c : Term). HasType (types_of table) [] c Int) same is.typed))

-- what stands behind WHERE can't be one
pub no_condition_behind : (table : TableData) (e : ExprTree) (fault : Fault)
    → (fault ≡ NoMemory) ⊎ ((condition : Term) → ¬ IsConditionOf table e condition)
    → (fault ≡ NoMemory) ⊎ ((condition : Option Term) → ¬ IsIndexCondition table (Some e) condition)
no_condition_behind table e fault (inl none) = inl none
no_condition_behind table e fault (inr none) = inr other
  where
    other : (condition : Option Term) → ¬ IsIndexCondition table (Some e) condition
    other None is = is
    other (Some condition) is = none condition is
