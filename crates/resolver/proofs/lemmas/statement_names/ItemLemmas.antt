-- Items of WITH, one after another.
use Rattle.std.proofs.Common.{◌≡◌, ◌⊎◌, ◌<◌, ◌+◌, ℕ, List, ◌∷◌, Result, Ok, Err, drop, get_or, length, map, ap, inl, inr, sym, ◌∙◌}
use Rattle.std.proofs.lemmas.List.{at_drop_more}
use Rattle.values.specs.declared.fault.Fault.{Fault}
use Rattle.values.specs.declared.fault.Fault.TheVariants.{NoMemory}
use Rattle.semantics_names.specs.Outcome.{also, followed}
use Rattle.semantics_names.specs.Statement.{Queried, With, item_columns, with_item}
use Rattle.resolver.specs.statement_names.Whole.{QueriesOver, item_by, items_by}
use Rattle.sql_reader_syntax.specs.ExprTree.{TermTrees}
use Rattle.sql_reader_syntax.specs.StatementTree.{ItemTree}
use Rattle.sql_reader_syntax.specs.Tree.{Name}

module _ (queries : QueriesOver) (w : With) (item : ItemTree) where
  -- its query is refused
  pub query_refused : (fault : Fault) → (fault ≡ NoMemory) ⊎ (queries w.known item.query TermTrees.No_term ≡ Err fault)
      → (fault ≡ NoMemory) ⊎ (item_by queries w item ≡ Err fault)
  query_refused fault (inl empty) = inl empty
  query_refused fault (inr is) = inr (ap (λ r. followed r (λ q. also (with_item w item q) (item_columns item.columns q.names))) is)

  module _ (q : Queried) (is : queries w.known item.query TermTrees.No_term ≡ Ok q) where
    item_is : item_by queries w item ≡ also (with_item w item q) (item_columns item.columns q.names)
    item_is = ap (λ r. followed r (λ q. also (with_item w item q) (item_columns item.columns q.names))) is

    -- the names of its columns are refused
    pub columns_refused : (fault : Fault) → (fault ≡ NoMemory) ⊎ (item_columns item.columns q.names ≡ Err fault)
        → (fault ≡ NoMemory) ⊎ (item_by queries w item ≡ Err fault)
    columns_refused fault (inl empty) = inl empty
    columns_refused fault (inr fails) = inr (item_is ∙ ap (also (with_item w item q)) fails)

    -- they are taken
    pub columns_taken : (columns : List Name) → item_columns item.columns q.names ≡ Ok columns → item_by queries w item ≡ Ok (with_item w item q columns)
    columns_taken columns are = item_is ∙ ap (also (with_item w item q)) are

-- `tree` is what an item of the program is; `all` is what the items come to, of which those before this place are done
module _ (queries : QueriesOver) {A : Type 0} (tree : A → ItemTree) (items : List A) (i : ℕ) (item : A) (w : With) (all : Result With Fault)
    (lt : i < length items) (at : item ≡ get_or items i item) (before : all ≡ items_by queries w (map tree (drop i items))) where
  next : all ≡ followed (item_by queries w (tree item)) (λ more. items_by queries more (map tree (drop (i + 1) items)))
  next =
      before
      ∙ at_drop_more (λ rest. items_by queries w (map tree rest)) items i item lt
      ∙ ap (λ x. items_by queries w (map tree (x ∷ drop (i + 1) items))) (sym at)

  -- one item is done
  pub goes_on : (more : With) → item_by queries w (tree item) ≡ Ok more → all ≡ items_by queries more (map tree (drop (i + 1) items))
  goes_on more is = next ∙ ap (λ r. followed r (λ more. items_by queries more (map tree (drop (i + 1) items)))) is

  -- it is refused
  pub is_refused : (fault : Fault) → (fault ≡ NoMemory) ⊎ (item_by queries w (tree item) ≡ Err fault) → (fault ≡ NoMemory) ⊎ (all ≡ Err fault)
  is_refused fault (inl empty) = inl empty
  is_refused fault (inr is) = inr (next ∙ ap (λ r. followed r (λ more. items_by queries more (map tree (drop (i + 1) items)))) is)
