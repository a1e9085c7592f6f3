-- What is gathered of a SELECT is found in the list that it is gathered in.
use Rattle.std.proofs.Common.{◌≡◌, Bool, true, false, if◌then◌else◌, true≢false, ℕ, suc, List, [], ◌∷◌, ◌++◌, length, Option, Some, None, option_map, Result, Ok, Err, refl, sym, subst, ◌∙◌}
use Rattle.std.specs.List.{cons_option, filter_map}
use Rattle.values.specs.declared.fault.Fault.{Fault}
use Rattle.expr.specs.Term.{Term}
use Rattle.semantics.specs.Query.{Aggregate, WindowCall}
use Rattle.sql_reader_syntax.specs.ExprTree.{BehindTree, ExprTree, ExprTrees, MaybeExpr, OverTree}
use Rattle.sql_reader_syntax.specs.declared.expr.Function.{Function}
use Rattle.sql_reader_syntax.specs.declared.expr.Function.TheVariants as w
use Rattle.semantics_names.specs.Expression.{Answers, Says, term_of}
use Rattle.semantics_names.specs.Places.{Defined, aggregate_call, aggregate_column, aggregate_named, aggregate_of, call_column, call_of, column_from, columns_say, groups_say, key_column, key_or, place_of, windows_say}
use Rattle.semantics_names.specs.Same.{is_same_aggregate, is_same_call}
use Rattle.semantics_names.specs.Scope.{Scope}
use Rattle.semantics_names.specs.Statement.{firsts, once_more}
use Rattle.semantics_refusals.specs.WrongPlaces.{HasOver, IsAggregate, Measures}
use Rattle.semantics_refusals.proofs.PartLemmas.{Each, more, none}

-- what is said of a part
abbrev the_said : Option Term → Result (Option Term) Fault
the_said o = Ok o

abbrev pub IsPlace : Option ℕ → Type 0
IsPlace None = ⊥
IsPlace (Some at) = Unit {0}

pub mapped_place : (o : Option ℕ) → IsPlace o → IsPlace (option_map suc o)
mapped_place (Some at) p = tt
mapped_place None p = p

module _ {A : Type 0} (same : A → A → Bool) where
  one_place : (x y : A) (b : Bool) (o : Option ℕ) → IsPlace o → IsPlace (if b then Some 0 else option_map suc o)
  one_place x y true o p = tt
  one_place x y false o p = mapped_place o p

  there_after : (x : A) (ys zs : List A) → IsPlace (place_of same x ys) → IsPlace (place_of same x (ys ++ zs))
  there_after x [] zs p = absurd p
  there_after x (y ∷ ys) zs p = by (same x y) p (there_after x ys zs)
    where
      back : (o : Option ℕ) → IsPlace (option_map suc o) → IsPlace o
      back (Some at) q = tt
      back None q = q

      by : (b : Bool) → IsPlace (if b then Some 0 else option_map suc (place_of same x ys))
          → (IsPlace (place_of same x ys) → IsPlace (place_of same x (ys ++ zs)))
          → IsPlace (if b then Some 0 else option_map suc (place_of same x (ys ++ zs)))
      by true q rest = tt
      by false q rest = mapped_place (place_of same x (ys ++ zs)) (rest (back (place_of same x ys) q))

  last_there : (x : A) (ys : List A) → same x x ≡ true → IsPlace (place_of same x (ys ++ x ∷ []))
  last_there x [] e = by (same x x) e
    where
      by : (b : Bool) → b ≡ true → IsPlace (if b then Some 0 else option_map suc None)
      by true e = tt
      by false e = absurd (true≢false (sym e))
  last_there x (y ∷ ys) e = one_place x y (same x y) (place_of same x (ys ++ x ∷ [])) (last_there x ys e)

  -- a list that keeps what another has
  abbrev Keeps : List A → List A → Type 0
  Keeps found ys = (z : A) → IsPlace (place_of same z found) → IsPlace (place_of same z ys)

  next_keeps : (at : Option ℕ) (found : List A) (a : A) → Keeps found (once_more at found a)
  next_keeps None found a z p = there_after z found (a ∷ []) p
  next_keeps (Some at) found a z p = p

  next_has : (found : List A) (a : A) → same a a ≡ true → (at : Option ℕ) → place_of same a found ≡ at → IsPlace (place_of same a (once_more at found a))
  next_has found a e None is = last_there a found e
  next_has found a e (Some at) is = subst IsPlace (sym is) tt

-- what a list hands out, each once
pub record AreFound {A B : Type 0} (same : A → A → Bool) (f : B → Option (Result A Fault)) (ys : List A) (x : B) : Type 0 where
  pub is : (r : Result A Fault) → f x ≡ Some r → (a : A) × (r ≡ Ok a) × IsPlace (place_of same a ys)

module _ {A B : Type 0} (same : A → A → Bool) (itself : (a : A) → same a a ≡ true) (f : B → Option (Result A Fault)) where
  gathered : (found ys : List A) (xs : List B) → firsts same found (filter_map f xs) ≡ Ok ys
      → ((z : A) → IsPlace (place_of same z found) → IsPlace (place_of same z ys)) × Each (AreFound same f ys) xs
  gathered found ys [] e =
      let alike : found ≡ ys = cc in (λ z p. subst (λ ys. IsPlace (place_of same z ys)) alike p, none)
  gathered found ys (x ∷ xs) e = by (f x) refl e (λ next d. gathered next ys xs d)
    where
      by : (o : Option (Result A Fault)) → f x ≡ o → firsts same found (cons_option o (filter_map f xs)) ≡ Ok ys
          → ((next : List A) → firsts same next (filter_map f xs) ≡ Ok ys
          → ((z : A) → IsPlace (place_of same z next) → IsPlace (place_of same z ys)) × Each (AreFound same f ys) xs)
          → ((z : A) → IsPlace (place_of same z found) → IsPlace (place_of same z ys)) × Each (AreFound same f ys) (x ∷ xs)
      by None is e others =
          let (kept, all) = others found e in
          (kept, more x xs (record { is = λ r there. absurd (nothing r (sym is ∙ there)) }) all)
        where
          nothing : (r : Result A Fault) → None ≡ Some r → ⊥
          nothing r d = absurd cc
      by (Some (Ok a)) is e others =
          let next : List A = once_more (place_of same a found) found a in
          let (kept, all) = others next e in (
            λ z p. kept z (next_keeps same (place_of same a found) found a z p),
            more x xs (record {
              is = λ r there. (a, same_one r (sym is ∙ there), kept a (next_has same found a (itself a) (place_of same a found) refl));
            }) all,
          )
        where
          same_one : (r : Result A Fault) → Some (Ok a) ≡ Some r → r ≡ Ok a
          same_one r d = cc
      by (Some (Err fault)) is e others = absurd cc

  pub all_found : (ys : List A) (xs : List B) → firsts same [] (filter_map f xs) ≡ Ok ys → Each (AreFound same f ys) xs
  all_found ys xs e = (gathered [] ys xs e).1

-- ---- aggregates

measure_some : (answers : Answers) (says : Says) (function : Function) (es : ExprTrees) (filter : MaybeExpr) → Measures function es
    → (r : Result Aggregate Fault) × (aggregate_call answers says (aggregate_named function) es filter ≡ Some r)
measure_some answers says w.Count (ExprTrees.More e ExprTrees.No_more) filter m = (_, refl)
measure_some answers says w.Sum (ExprTrees.More e ExprTrees.No_more) filter m = (_, refl)
measure_some answers says w.Min (ExprTrees.More e ExprTrees.No_more) filter m = (_, refl)
measure_some answers says w.Max (ExprTrees.More e ExprTrees.No_more) filter m = (_, refl)
measure_some answers says _ _ filter m = absurd m

pub aggregate_some : (answers : Answers) (says : Says) (part : ExprTree) → IsAggregate part
    → (r : Result Aggregate Fault) × (aggregate_of answers says part ≡ Some r)
aggregate_some answers says (ExprTree.CountRows (BehindTree.Behind filter OverTree.No_over)) m = (_, refl)
aggregate_some answers says (ExprTree.Call function es (BehindTree.Behind filter OverTree.No_over)) m = measure_some answers says function es filter m
aggregate_some answers says _ m = absurd m

measure_is : (answers : Answers) (says : Says) (function : Function) (es : ExprTrees) (filter : MaybeExpr) (r : Result Aggregate Fault)
    → aggregate_call answers says (aggregate_named function) es filter ≡ Some r → Measures function es
measure_is answers says w.Count (ExprTrees.More e ExprTrees.No_more) filter r is = tt
measure_is answers says w.Sum (ExprTrees.More e ExprTrees.No_more) filter r is = tt
measure_is answers says w.Min (ExprTrees.More e ExprTrees.No_more) filter r is = tt
measure_is answers says w.Max (ExprTrees.More e ExprTrees.No_more) filter r is = tt
measure_is answers says _ _ filter r is = absurd cc

pub aggregate_is : (answers : Answers) (says : Says) (part : ExprTree) (r : Result Aggregate Fault) → aggregate_of answers says part ≡ Some r
    → IsAggregate part
aggregate_is answers says (ExprTree.CountRows (BehindTree.Behind filter OverTree.No_over)) r is = tt
aggregate_is answers says (ExprTree.Call function es (BehindTree.Behind filter OverTree.No_over)) r is = measure_is answers says function es filter r is
aggregate_is answers says _ r is = absurd cc

-- an aggregate that is found has a column
column_none : (first : ℕ) (all : List Aggregate) (key : Option Term) (r : Result Aggregate Fault)
    → key_or key (aggregate_column first all (Some r)) ≡ Ok None → (a : Aggregate) → r ≡ Ok a → IsPlace (place_of is_same_aggregate a all) → ⊥
column_none first all (Some t) r e a is p = absurd cc
column_none first all None (Ok b) e a is p =
    let alike : b ≡ a = cc in
    by (place_of is_same_aggregate b all) (subst (λ a. IsPlace (place_of is_same_aggregate a all)) (sym alike) p) e
  where
    by : (at : Option ℕ) → IsPlace at → the_said (column_from first at) ≡ Ok None → ⊥
    by None p d = p
    by (Some at) p d = absurd cc
column_none first all None (Err fault) e a is p = absurd cc

pub groups_none : (answers : Answers) (scope : Scope) (by : List Term) (aggregates : List Aggregate) (part : ExprTree) → IsAggregate part
    → AreFound is_same_aggregate (aggregate_of answers (columns_say scope)) aggregates part
    → groups_say answers scope by aggregates part ≡ Ok None → ⊥
groups_none answers scope by aggregates (ExprTree.CountRows after) m found e =
    let (r, is) = aggregate_some answers (columns_say scope) (ExprTree.CountRows after) m in
    let (a, same, p) = found.is r is in
    column_none (length by) aggregates (key_column by (term_of answers (columns_say scope) (ExprTree.CountRows after))) r
    (subst (λ o. key_or (key_column by (term_of answers (columns_say scope) (ExprTree.CountRows after))) (aggregate_column (length by) aggregates o) ≡ Ok None) is e)
    a same p
groups_none answers scope by aggregates (ExprTree.Call function es after) m found e =
    let (r, is) = aggregate_some answers (columns_say scope) (ExprTree.Call function es after) m in
    let (a, same, p) = found.is r is in
    column_none (length by) aggregates (key_column by (term_of answers (columns_say scope) (ExprTree.Call function es after))) r
    (subst (λ o. key_or (key_column by (term_of answers (columns_say scope) (ExprTree.Call function es after)))
    (aggregate_column (length by) aggregates o) ≡ Ok None) is e)
    a same p
groups_none answers scope by aggregates _ m found e = absurd m

-- where none is gathered, none is written
pub no_aggregate : (answers : Answers) (scope : Scope) (part : ExprTree) → AreFound is_same_aggregate (aggregate_of answers (columns_say scope)) [] part
    → ¬ IsAggregate part
no_aggregate answers scope part found m =
    let (r, is) = aggregate_some answers (columns_say scope) part m in
    let (a, same, p) = found.is r is in p

-- ---- calls with OVER

call_some : (answers : Answers) (says : Says) (defined : List Defined) (part : ExprTree) → HasOver part
    → (r : Result WindowCall Fault) × (call_of answers says defined part ≡ Some r)
call_some answers says defined (ExprTree.CountRows (BehindTree.Behind filter (OverTree.OverName name))) h = (_, refl)
call_some answers says defined (ExprTree.CountRows (BehindTree.Behind filter (OverTree.Over v))) h = (_, refl)
call_some answers says defined (ExprTree.Call function es (BehindTree.Behind filter (OverTree.OverName name))) h = (_, refl)
call_some answers says defined (ExprTree.Call function es (BehindTree.Behind filter (OverTree.Over v))) h = (_, refl)
call_some answers says defined (ExprTree.CountRows (BehindTree.Behind filter OverTree.No_over)) h = absurd h
call_some answers says defined (ExprTree.Call function es (BehindTree.Behind filter OverTree.No_over)) h = absurd h
call_some answers says defined _ h = absurd h

-- what is passed over has no OVER, and is passed over by what is beneath
pub windows_none : (answers : Answers) (says : Says) (defined : List Defined) (width : ℕ) (calls : List WindowCall) (part : ExprTree)
    → AreFound is_same_call (call_of answers says defined) calls part → windows_say answers says defined width calls part ≡ Ok None
    → (says part ≡ Ok None) × (¬ HasOver part)
windows_none answers says defined width calls part found e = by (call_of answers says defined part) refl e
  where
    no_call : call_of answers says defined part ≡ None → ¬ HasOver part
    no_call none h =
        let (r, is) = call_some answers says defined part h in
        let both : None ≡ Some r = sym none ∙ is in
        absurd cc

    column_there : (c : WindowCall) (at : Option ℕ) → IsPlace at → the_said (column_from width at) ≡ Ok None → ⊥
    column_there c None p d = p
    column_there c (Some at) p d = absurd cc

    by : (o : Option (Result WindowCall Fault)) → call_of answers says defined part ≡ o → call_column width calls o (says part) ≡ Ok None
        → (says part ≡ Ok None) × (¬ HasOver part)
    by None is d = (d, no_call is)
    by (Some (Ok c)) is d =
        let (b, same, p) = found.is (Ok c) is in
        let alike : c ≡ b = cc in
        absurd (column_there c (place_of is_same_call c calls) (subst (λ c. IsPlace (place_of is_same_call c calls)) (sym alike) p) d)
    by (Some (Err fault)) is d = absurd cc
