-- Lists that are joined from the left, and the first of some names.
use Rattle.std.proofs.Common.{◌≡◌, ◌≢◌, ◌==◌, ◌+◌, ◌-◌, ◌<◌, ℕ, Option, get_or, take, drop, arith, Bool, false, not, cond, List, [], ◌∷◌, ◌++◌, length, map, refl, ap, sym, ◌∙◌, append_assoc, append-nil, zero, suc, Some, None}
use Rattle.std.proofs.lemmas.List.{drop_more, map-append, take_more}
use Rattle.std.proofs.lemmas.List.Elements.{filter_map-append}
use Rattle.std.specs.List.{cons_option, filter_map, prefix_len}
use Rattle.std.specs.Prelude.{nat_lt, option_map, option_to_list, position, unwrap_or}
use Rattle.std.specs.Str.{str_eq_ignore_ascii_case}
use Rattle.sql_reader_grammar.specs.declared.statement_trees.queries.CommonTableExpr.{CommonTableExpr}
use Rattle.sql_reader_grammar.specs.statement_trees.StatementView.{item_of}
use Rattle.sql_reader_grammar.specs.statement_trees.TreeView.{JoinedTree, compounds_of, joined_all}
use Rattle.sql_reader_syntax.specs.ExprTree.{CoreTree, ExprTree, FromTree, QueryTree, TermTrees}
use Rattle.sql_reader_syntax.specs.declared.query.CompoundOperator.{CompoundOperator}
use Rattle.sql_reader_syntax.specs.Tree.{Name}
use Rattle.semantics_names.specs.Expression.{InnerTree}
use Rattle.semantics_names.specs.Parts.{inner_tree}
use Rattle.semantics_names.specs.Statement.{max_levels}
use Rattle.explain_labels.specs.Labels as spec
use Rattle.explain_labels.specs.View.{names_seen}

module _ {A B : Type 0} (f : A → B) (p : B → Bool) where
  prefix_map : (xs : List A) → prefix_len (λ x. not (p (f x))) xs ≡ prefix_len (λ y. not (p y)) (map f xs)
  prefix_map [] = refl
  prefix_map (x ∷ xs) = ap (λ n. cond (not (p (f x))) (1 + n) 0) (prefix_map xs)

  length_map : (xs : List A) → length xs ≡ length (map f xs)
  length_map [] = refl
  length_map (x ∷ xs) = ap suc (length_map xs)

  -- where the first is of which this holds
  pub position_map : (xs : List A) → position (λ x. p (f x)) xs ≡ position p (map f xs)
  position_map xs =
      ap (λ n. cond (nat_lt n (length xs)) (Some n) None) (prefix_map xs)
      ∙ ap (λ long. cond (nat_lt (prefix_len (λ y. not (p y)) (map f xs)) long) (Some (prefix_len (λ y. not (p y)) (map f xs))) None) (length_map xs)

-- the place of the first item of a name
pub named_at : (name : Name) (items : List CommonTableExpr)
    → position (λ item. str_eq_ignore_ascii_case (item_of item).name name) items ≡ position (λ other. str_eq_ignore_ascii_case other name) (names_seen items)
named_at name items =
    position_map item_of (λ item. str_eq_ignore_ascii_case item.name name) items
    ∙ position_map (λ item. item.name) (λ other. str_eq_ignore_ascii_case other name) (map item_of items)

-- of SELECTs that are joined ORDER BY has no query inside it
pub joined_order : (query : QueryTree) (c : CompoundOperator × CoreTree) (cs : List (CompoundOperator × CoreTree)) (order : TermTrees)
    → TermTrees.No_term ≡ spec.own_order (compounds_of query (c ∷ cs)) order
joined_order query c [] order = refl
joined_order query c (next ∷ cs) order = joined_order (QueryTree.Compound query c.0 c.1) next cs order

-- the same where there is one at least
pub order_of_joined : (query : QueryTree) (cs : List (CompoundOperator × CoreTree)) (order : TermTrees) → (length cs == 0) ≡ false
    → TermTrees.No_term ≡ spec.own_order (compounds_of query cs) order
order_of_joined query [] order none = cc
order_of_joined query (c ∷ cs) order some = joined_order query c cs order

module _ (seen : List Name) (inside : QueryTree → spec.QueryLabels) where
  pub from_labels_are : (from : FromTree) (js : List JoinedTree)
      → spec.from_labels seen inside (joined_all from js) ≡ spec.from_labels seen inside from ++ map (λ j. spec.source_label seen inside j.1.0) js
  from_labels_are from [] = sym (append-nil _)
  from_labels_are from (j ∷ js) =
      from_labels_are (FromTree.Joined from j.0 j.1.0 j.1.1) js
      ∙ append_assoc (spec.from_labels seen inside from) (spec.source_label seen inside j.1.0 ∷ []) (map (λ j. spec.source_label seen inside j.1.0) js)

  -- those of SELECTs after others
  arms_after : (query : QueryTree) (cs : List (CompoundOperator × CoreTree))
      → spec.query_labels seen inside (compounds_of query cs) TermTrees.No_term
      ≡ spec.query_labels seen inside query TermTrees.No_term ++ map (λ c. spec.core_labels seen inside c.1 TermTrees.No_term) cs
  arms_after query [] = sym (append-nil _)
  arms_after query (c ∷ cs) =
      arms_after (QueryTree.Compound query c.0 c.1) cs
      ∙ append_assoc (spec.query_labels seen inside query TermTrees.No_term) (spec.core_labels seen inside c.1 TermTrees.No_term ∷ [])
      (map (λ c. spec.core_labels seen inside c.1 TermTrees.No_term) cs)

  -- what is in ORDER BY makes no difference to SELECTs that are joined
  any_order : (query : QueryTree) (c : CompoundOperator × CoreTree) (cs : List (CompoundOperator × CoreTree)) (order : TermTrees)
      → spec.query_labels seen inside (compounds_of query (c ∷ cs)) order ≡ spec.query_labels seen inside (compounds_of query (c ∷ cs)) TermTrees.No_term
  any_order query c [] order = refl
  any_order query c (next ∷ cs) order = any_order (QueryTree.Compound query c.0 c.1) next cs order

  pub query_labels_are : (first : CoreTree) (cs : List (CompoundOperator × CoreTree)) (order : TermTrees)
      → spec.query_labels seen inside (compounds_of (QueryTree.Core first) cs) order
      ≡ spec.core_labels seen inside first (spec.own_order (compounds_of (QueryTree.Core first) cs) order)
      ∷ map (λ c. spec.core_labels seen inside c.1 TermTrees.No_term) cs
  query_labels_are first [] order = refl
  query_labels_are first (c ∷ cs) order =
      any_order (QueryTree.Core first) c cs order ∙ arms_after (QueryTree.Core first) (c ∷ cs)
      ∙ ap (λ by. spec.core_labels seen inside first by ∷ map (λ c. spec.core_labels seen inside c.1 TermTrees.No_term) (c ∷ cs))
      (joined_order (QueryTree.Core first) c cs order)

  -- the query that a part has inside it
  pub inside_one : (tree : Option InnerTree) (query : QueryTree) → Some query ≡ option_map spec.query_in tree
      → inside query ∷ [] ≡ map (λ t. inside (spec.query_in t)) (option_to_list tree)
  inside_one None query e = absurd cc
  inside_one (Some t) query e = ap (λ q. inside (unwrap_or q query) ∷ []) e

  pub inside_none : (tree : Option InnerTree) → None ≡ option_map spec.query_in tree → [] ≡ map (λ t. inside (spec.query_in t)) (option_to_list tree)
  inside_none None e = refl
  inside_none (Some t) e = absurd cc

-- those of a query, where there may be one
pub labelled_deeper : (depth : ℕ) (seen : List Name) (query : QueryTree) (order : TermTrees) → depth ≢ 0
    → spec.labelled depth seen query order ≡ spec.selects_of (spec.query_labels seen (spec.labelled_inside (depth - 1) seen) query order)
labelled_deeper zero seen query order some = absurd (some refl)
labelled_deeper (suc depth) seen query order some =
    let less : depth ≡ suc depth - 1 = omega arith in
    ap (λ below. spec.selects_of (spec.query_labels seen (spec.labelled_inside below seen) query order)) less

one_found : (found : Option InnerTree) → cons_option found [] ≡ option_to_list found
one_found None = refl
one_found (Some tree) = refl

-- the queries of the parts so far, and of one more
module _ {A B : Type 0} (tree : A → ExprTree) (labels : InnerTree → B) where
  pub parts_more : (parts : List A) (at : ℕ) (part : A) → at < length parts → part ≡ get_or parts at part
      → map labels (filter_map inner_tree (map tree (take at parts))) ++ map labels (option_to_list (inner_tree (tree part)))
      ≡ map labels (filter_map inner_tree (map tree (take (at + 1) parts)))
  parts_more parts at part within is =
      let before = map tree (take at parts) in
      let taken : take (at + 1) parts ≡ take at parts ++ part ∷ [] = take_more parts at part within ∙ ap (λ p. take at parts ++ p ∷ []) (sym is) in
      let trees : map tree (take (at + 1) parts) ≡ before ++ tree part ∷ [] = ap (map tree) taken ∙ map-append tree (take at parts) (part ∷ []) in
      let found : filter_map inner_tree (map tree (take (at + 1) parts)) ≡ filter_map inner_tree before ++ option_to_list (inner_tree (tree part)) =
      ap (filter_map inner_tree) trees ∙ filter_map-append inner_tree before (tree part ∷ [])
      ∙ ap (λ one. filter_map inner_tree before ++ one) (one_found (inner_tree (tree part))) in
      sym (ap (map labels) found ∙ map-append labels (filter_map inner_tree before) (option_to_list (inner_tree (tree part))))

-- the names of one item of WITH more
names_more : (items : List CommonTableExpr) (at : ℕ) (item : CommonTableExpr) → at < length items → item ≡ get_or items at item
    → names_seen (take (at + 1) items) ≡ names_seen (take at items) ++ (item_of item).name ∷ []
names_more items at item within is =
    let taken : take (at + 1) items ≡ take at items ++ item ∷ [] = take_more items at item within ∙ ap (λ i. take at items ++ i ∷ []) (sym is) in
    ap names_seen taken ∙ ap spec.names_of (map-append item_of (take at items) (item ∷ []))
    ∙ map-append (λ i. i.name) (map item_of (take at items)) (item_of item ∷ [])

-- and its labels
pub items_more : (items : List CommonTableExpr) (at : ℕ) (item : CommonTableExpr) → at < length items → item ≡ get_or items at item
    → spec.items_after (names_seen (take at items)) (map item_of (drop at items))
    ≡ record { name = (item_of item).name; query = spec.labelled_inside max_levels (names_seen (take at items)) (item_of item).query }
    ∷ spec.items_after (names_seen (take (at + 1) items)) (map item_of (drop (at + 1) items))
items_more items at item within is =
    let dropped : drop at items ≡ item ∷ drop (at + 1) items = drop_more items at item within ∙ ap (λ i. i ∷ drop (at + 1) items) (sym is) in
    rw (dropped, names_more items at item within is) refl
