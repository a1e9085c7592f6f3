-- SELECTs that are joined from the left, and their ORDER BY.
use Rattle.std.proofs.Common.{◌≡◌, ◌⊎◌, ◌<◌, Bool, true, false, List, [], ◌∷◌, ◌==◌, length, map, nat_eq, Result, Ok, Err, refl, ap, sym, inl, inr, arith, ◌∙◌}
use Rattle.std.proofs.Math.Dec.{eqb-suc-zero}
use Rattle.values.specs.declared.fault.Fault.{Fault}
use Rattle.values.specs.declared.fault.Fault.TheVariants.{ColumnCount, NoMemory}
use Rattle.resolver_sources.proofs.lemmas.from_names.StepLemmas.{ends}
use Rattle.resolver_sources.specs.from_names.Resolved.{QueryNames}
use Rattle.resolver_sources.specs.from_names.Steps.{stepped}
use Rattle.semantics.specs.Query.{Key}
use Rattle.semantics_names.specs.Outcome.{also, checked, followed}
use Rattle.semantics_names.specs.Sources.{Known}
use Rattle.semantics_names.specs.Statement.{Queried, Single, compounded, keys_of, no_row, query_of, single_of}
use Rattle.resolver.specs.query_names.Compounds.{both_joined, joined_to, ordered_by, with_order}
use Rattle.sql_reader_grammar.specs.statement_trees.TreeView.{compounds_of}
use Rattle.sql_reader_syntax.specs.ExprTree.{CoreTree, QueryTree, TermTrees}
use Rattle.sql_reader_syntax.specs.Tree.{Name}
use Rattle.sql_reader_syntax.specs.declared.query.CompoundOperator.{CompoundOperator}

-- the order comes behind the columns
one_ordered : (order : TermTrees) (left : Queried) (operator : CompoundOperator) (s : Single)
    → compounded order left operator s ≡ followed (compounded TermTrees.No_term left operator s) (ordered_by order)
one_ordered order left operator s = by (nat_eq (length left.names) (length s.core.names))
  where
    by : (b : Bool)
        → checked b ColumnCount (also (λ keys. with_order (both_joined left operator s) keys) (keys_of left.names no_row order))
        ≡ followed (checked b ColumnCount (also (λ keys. with_order (both_joined left operator s) keys) (Ok []))) (ordered_by order)
    by true = refl
    by false = refl

module _ (order : TermTrees) (q : Queried) (names : List Name) (same : names ≡ q.names) where
  order_is : keys_of q.names no_row order ≡ keys_of names no_row order
  order_is = ap (λ ns. keys_of ns no_row order) (sym same)

  -- the order is refused
  pub order_refused : (fault : Fault) → (fault ≡ NoMemory) ⊎ (keys_of names no_row order ≡ Err fault)
      → (fault ≡ NoMemory) ⊎ (ordered_by order q ≡ Err fault)
  order_refused fault (inl empty) = inl empty
  order_refused fault (inr is) = inr (ap (also (with_order q)) (order_is ∙ is))

  -- it is taken
  pub order_taken : (keys : List Key) → keys_of names no_row order ≡ Ok keys → ordered_by order q ≡ Ok (with_order q keys)
  order_taken keys is = ap (also (with_order q)) (order_is ∙ is)

module _ (known : List Known) (queries : QueryNames) where
  last_ordered : (order : TermTrees) (left : QueryTree) (operator : CompoundOperator) (core : CoreTree)
      → query_of known queries (QueryTree.Compound left operator core) order
      ≡ followed (query_of known queries (QueryTree.Compound left operator core) TermTrees.No_term) (ordered_by order)
  last_ordered order left operator core = by (query_of known queries left TermTrees.No_term) (single_of known queries core TermTrees.No_term)
    where
      by : (l : Result Queried Fault) (r : Result Single Fault)
          → followed l (λ l. followed r (compounded order l operator))
          ≡ followed (followed l (λ l. followed r (compounded TermTrees.No_term l operator))) (ordered_by order)
      by (Err fault) r = refl
      by (Ok l) (Err fault) = refl
      by (Ok l) (Ok s) = one_ordered order l operator s

  all_ordered : (order : TermTrees) (left : QueryTree) (operator : CompoundOperator) (core : CoreTree) (cs : List (CompoundOperator × CoreTree))
      → query_of known queries (compounds_of (QueryTree.Compound left operator core) cs) order
      ≡ followed (query_of known queries (compounds_of (QueryTree.Compound left operator core) cs) TermTrees.No_term) (ordered_by order)
  all_ordered order left operator core [] = last_ordered order left operator core
  all_ordered order left operator core (c ∷ cs) = all_ordered order (QueryTree.Compound left operator core) c.0 c.1 cs

  steps_are : (tree : QueryTree) (cs : List (CompoundOperator × CoreTree))
      → query_of known queries (compounds_of tree cs) TermTrees.No_term
      ≡ stepped (joined_to known queries) (query_of known queries tree TermTrees.No_term) cs
  steps_are tree [] = refl
  steps_are tree (c ∷ cs) = steps_are (QueryTree.Compound tree c.0 c.1) cs

  compound_is : (order : TermTrees) (tree : QueryTree) (cs : List (CompoundOperator × CoreTree)) → 0 < length cs
      → query_of known queries (compounds_of tree cs) order
      ≡ followed (stepped (joined_to known queries) (query_of known queries tree TermTrees.No_term) cs) (ordered_by order)
  compound_is order tree [] some = absurd (omega arith)
  compound_is order tree (c ∷ cs) some =
      all_ordered order tree c.0 c.1 cs ∙ ap (λ r. followed r (ordered_by order)) (steps_are tree (c ∷ cs))

  module _ (order : TermTrees) (tree : QueryTree) (cs : List (CompoundOperator × CoreTree)) (some : 0 < length cs) where
    -- the first SELECT is refused
    pub first_refused : (fault : Fault) → (fault ≡ NoMemory) ⊎ (query_of known queries tree TermTrees.No_term ≡ Err fault)
        → (fault ≡ NoMemory) ⊎ (query_of known queries (compounds_of tree cs) order ≡ Err fault)
    first_refused fault (inl empty) = inl empty
    first_refused fault (inr is) =
        inr (compound_is order tree cs some
        ∙ ap (λ r. followed r (ordered_by order)) (ends (joined_to known queries) cs (query_of known queries tree TermTrees.No_term) fault is))

    module _ (first : Queried) (is : query_of known queries tree TermTrees.No_term ≡ Ok first) where
      whole_is : query_of known queries (compounds_of tree cs) order ≡ followed (stepped (joined_to known queries) (Ok first) cs) (ordered_by order)
      whole_is = compound_is order tree cs some ∙ ap (λ r. followed (stepped (joined_to known queries) r cs) (ordered_by order)) is

      -- another is refused
      pub other_refused : (fault : Fault) → (fault ≡ NoMemory) ⊎ (stepped (joined_to known queries) (Ok first) cs ≡ Err fault)
          → (fault ≡ NoMemory) ⊎ (query_of known queries (compounds_of tree cs) order ≡ Err fault)
      other_refused fault (inl empty) = inl empty
      other_refused fault (inr fails) = inr (whole_is ∙ ap (λ r. followed r (ordered_by order)) fails)

      -- all are taken
      pub all_taken : (all : Queried) → stepped (joined_to known queries) (Ok first) cs ≡ Ok all
          → query_of known queries (compounds_of tree cs) order ≡ ordered_by order all
      all_taken all done = whole_is ∙ ap (λ r. followed r (ordered_by order)) done

-- where there are no others
pub none_joined : {A : Type 0} (view : A → CompoundOperator × CoreTree) (tree : QueryTree) (others : List A) (r : Bool) → r ≡ true
    → r ≡ (length others == 0) → compounds_of tree (map view others) ≡ tree
none_joined view tree [] r is e = refl
none_joined view tree (c ∷ cs) r is e = let differ : true ≡ false = sym is ∙ e ∙ eqb-suc-zero (length cs) in absurd cc
