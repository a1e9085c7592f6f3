-- What holds of the parts of expressions.
use Rattle.std.proofs.Common.{List, [], ◌∷◌, ◌++◌, All, Contains, map, flat_map}
use Rattle.std.proofs.lemmas.List.Elements.{All-append, All-cons, All-contains, All-contains_itself, All-head, All-map, All-nil, All-tail, All-weaker}
use Rattle.semantics.proofs.ElementLemmas.{All-flat_map}
use Rattle.sql_reader_syntax.specs.ExprTree.{ArmTrees, BehindTree, CoreTree, DefinitionTrees, ExprTree, ExprTrees, MaybeExpr, OverTree, ResultTree, ResultTrees, TermTrees, WindowTree}
use Rattle.semantics_names.specs.Parts.{all_parts, arms_parts, behind_parts, definitions_parts, maybe_parts, over_parts, parts, result_parts, results_parts, terms_parts, window_parts}
use Rattle.semantics_refusals.specs.Written.{spoken_in}
use Rattle.semantics_refusals.proofs.OkLemmas as lists

-- it holds of each of them
pub record Each {X : Type 0} (P : X → Type 0) (xs : List X) : Type 0 where
  pub is : All P xs

module _ {X : Type 0} {P : X → Type 0} where
  pub none : Each P []
  none = record { is = All-nil P }

  pub one : {x : X} → P x → Each P (x ∷ [])
  one {x = x} p = record { is = All-cons P x [] p (All-nil P) }

  pub more : (x : X) (xs : List X) → P x → Each P xs → Each P (x ∷ xs)
  more x xs p a = record { is = All-cons P x xs p a.is }

  pub join : (xs ys : List X) → Each P xs → Each P ys → Each P (xs ++ ys)
  join xs ys a b = record { is = All-append P xs ys a.is b.is }

  pub front : (xs ys : List X) → Each P (xs ++ ys) → Each P xs
  front xs ys a = record { is = lists.front P xs ys a.is }

  pub back : (xs ys : List X) → Each P (xs ++ ys) → Each P ys
  back xs ys a = record { is = lists.back P xs ys a.is }

  pub first : {x : X} {xs : List X} → Each P (x ∷ xs) → P x
  first {x = x} {xs = xs} a = All-head P x xs a.is

  pub rest : {x : X} {xs : List X} → Each P (x ∷ xs) → Each P xs
  rest {x = x} {xs = xs} a = record { is = All-tail P x xs a.is }

  pub own : (xs : List X) {x : X} → Each P (xs ++ x ∷ []) → P x
  own xs {x = x} a = first (back xs (x ∷ []) a)

  pub among : {xs : List X} {x : X} → Each P xs → Contains xs x → P x
  among {xs = xs} {x = x} a there = All-contains P xs x a.is there

  pub weaker : {Q : X → Type 0} {xs : List X} → ((x : X) → P x → Q x) → Each P xs → Each Q xs
  weaker {Q = Q} {xs = xs} more a = record { is = All-weaker P Q more xs a.is }

  pub mapped : {Y : Type 0} {Q : Y → Type 0} {xs : List X} (f : X → Y) → ((x : X) → P x → Q (f x)) → Each P xs → Each Q (map f xs)
  mapped {Q = Q} {xs = xs} f so a = record { is = All-map Q f xs (weaker so a).is }

  pub flattened : {Y : Type 0} {Q : Y → Type 0} {xs : List X} (f : X → List Y) → ((x : X) → P x → Each Q (f x)) → Each P xs
      → Each Q (flat_map f xs)
  flattened {Q = Q} {xs = xs} f so a = record { is = All-flat_map Q f xs (weaker (λ x p. (so x p).is) a).is }

pub each_itself : {X : Type 0} (xs : List X) → Each (Contains xs) xs
each_itself xs = record { is = All-contains_itself xs }

pub two : {X : Type 0} {P Q : X → Type 0} (xs ys : List X) → (Each P xs → Each Q xs) → (Each P ys → Each Q ys) → Each P (xs ++ ys) → Each Q (xs ++ ys)
two xs ys f g a = join xs ys (f (front xs ys a)) (g (back xs ys a))

-- an expression is one of its parts
pub itself : {P : ExprTree → Type 0} (e : ExprTree) → Each P (parts e) → P e
itself (ExprTree.Prefix op x) all = own (parts x) all
itself (ExprTree.Binary op x y) all = own (parts x ++ parts y) all
itself (ExprTree.Postfix op x) all = own (parts x) all
itself (ExprTree.Between not x low high) all = own (parts x ++ parts low ++ parts high) all
itself (ExprTree.In not x items) all = own (parts x ++ all_parts items) all
itself (ExprTree.InQuery not x query) all = own (parts x) all
itself (ExprTree.CountRows after) all = own (behind_parts after) all
itself (ExprTree.Call f items after) all = own (all_parts items ++ behind_parts after) all
itself (ExprTree.Case operand arms otherwise) all = own (maybe_parts operand ++ arms_parts arms ++ maybe_parts otherwise) all
itself _ all = first all

-- it holds of all parts of an expression
pub record Deep (P : ExprTree → Type 0) (e : ExprTree) : Type 0 where
  pub is : Each P (parts e)

module _ {P : ExprTree → Type 0} where
  itself_deep : {e : ExprTree} → Each P (parts e) → Each (Deep P) (e ∷ [])
  itself_deep all = one (record { is = all })

  mutual
    -- then of each of them it holds of all their parts
    pub deep : (e : ExprTree) → Each P (parts e) → Each (Deep P) (parts e)
    deep (ExprTree.Prefix op x) all = two (parts x) _ (λ a. deep x a) (λ _. itself_deep all) all
    deep (ExprTree.Binary op x y) all =
        two (parts x ++ parts y) _ (λ a. two (parts x) (parts y) (λ b. deep x b) (λ b. deep y b) a) (λ _. itself_deep all) all
    deep (ExprTree.Postfix op x) all = two (parts x) _ (λ a. deep x a) (λ _. itself_deep all) all
    deep (ExprTree.Between not x low high) all =
        two (parts x ++ parts low ++ parts high) _ (λ a. two (parts x ++ parts low) (parts high)
        (λ b. two (parts x) (parts low) (λ c. deep x c) (λ c. deep low c) b) (λ b. deep high b) a) (λ _. itself_deep all) all
    deep (ExprTree.In not x items) all =
        two (parts x ++ all_parts items) _ (λ a. two (parts x) (all_parts items) (λ b. deep x b) (λ b. deep_items items b) a) (λ _. itself_deep all) all
    deep (ExprTree.InQuery not x query) all = two (parts x) _ (λ a. deep x a) (λ _. itself_deep all) all
    deep (ExprTree.CountRows after) all = two (behind_parts after) _ (λ a. deep_behind after a) (λ _. itself_deep all) all
    deep (ExprTree.Call f items after) all =
        two (all_parts items ++ behind_parts after) _
        (λ a. two (all_parts items) (behind_parts after) (λ b. deep_items items b) (λ b. deep_behind after b) a) (λ _. itself_deep all) all
    deep (ExprTree.Case operand arms otherwise) all =
        two (maybe_parts operand ++ arms_parts arms ++ maybe_parts otherwise) _
        (λ a. two (maybe_parts operand ++ arms_parts arms) (maybe_parts otherwise)
        (λ b. two (maybe_parts operand) (arms_parts arms) (λ c. deep_maybe operand c) (λ c. deep_arms arms c) b) (λ b. deep_maybe otherwise b) a)
        (λ _. itself_deep all) all
    deep _ all = itself_deep all

    pub deep_items : (es : ExprTrees) → Each P (all_parts es) → Each (Deep P) (all_parts es)
    deep_items ExprTrees.No_more all = none
    deep_items (ExprTrees.More e es) all = two (parts e) (all_parts es) (λ a. deep e a) (λ a. deep_items es a) all

    pub deep_maybe : (m : MaybeExpr) → Each P (maybe_parts m) → Each (Deep P) (maybe_parts m)
    deep_maybe MaybeExpr.Absent all = none
    deep_maybe (MaybeExpr.Present e) all = deep e all

    deep_arms : (arms : ArmTrees) → Each P (arms_parts arms) → Each (Deep P) (arms_parts arms)
    deep_arms ArmTrees.No_arm all = none
    deep_arms (ArmTrees.Arm when then others) all =
        two (parts when ++ parts then) (arms_parts others)
        (λ a. two (parts when) (parts then) (λ b. deep when b) (λ b. deep then b) a) (λ a. deep_arms others a) all

    deep_behind : (after : BehindTree) → Each P (behind_parts after) → Each (Deep P) (behind_parts after)
    deep_behind (BehindTree.Behind filter over) all = two (maybe_parts filter) (over_parts over) (λ a. deep_maybe filter a) (λ a. deep_over over a) all

    deep_over : (over : OverTree) → Each P (over_parts over) → Each (Deep P) (over_parts over)
    deep_over OverTree.No_over all = none
    deep_over (OverTree.OverName name) all = none
    deep_over (OverTree.Over w) all = deep_window w all

    deep_window : (w : WindowTree) → Each P (window_parts w) → Each (Deep P) (window_parts w)
    deep_window (WindowTree.Window partition order frame) all =
        two (all_parts partition) (terms_parts order) (λ a. deep_items partition a) (λ a. deep_terms order a) all

    pub deep_terms : (order : TermTrees) → Each P (terms_parts order) → Each (Deep P) (terms_parts order)
    deep_terms TermTrees.No_term all = none
    deep_terms (TermTrees.Term e direction others) all = two (parts e) (terms_parts others) (λ a. deep e a) (λ a. deep_terms others a) all

  pub deep_results : (results : ResultTrees) → Each P (results_parts results) → Each (Deep P) (results_parts results)
  deep_results ResultTrees.No_result all = none
  deep_results (ResultTrees.Result r others) all = two (result_parts r) (results_parts others) (deep_result r) (λ a. deep_results others a) all
    where
      deep_result : (r : ResultTree) → Each P (result_parts r) → Each (Deep P) (result_parts r)
      deep_result (ResultTree.Value e title) a = deep e a
      deep_result ResultTree.All a = none
      deep_result (ResultTree.AllOf table) a = none

  pub deep_definitions : (windows : DefinitionTrees) → Each P (definitions_parts windows) → Each (Deep P) (definitions_parts windows)
  deep_definitions DefinitionTrees.No_definition all = none
  deep_definitions (DefinitionTrees.Definition name w others) all =
      two (window_parts w) (definitions_parts others) (deep_window w) (λ a. deep_definitions others a) all

  pub deep_spoken : (core : CoreTree) → Each P (spoken_in core) → Each (Deep P) (spoken_in core)
  deep_spoken (CoreTree.Select distinct results from condition by having windows) all =
      two _ (definitions_parts windows) (two _ (maybe_parts having) (two _ (all_parts by) (two (results_parts results) (maybe_parts condition)
      (deep_results results) (deep_maybe condition)) (deep_items by)) (deep_maybe having)) (deep_definitions windows) all
