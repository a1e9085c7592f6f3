-- Whole statements.
use Rattle.std.proofs.Common.{◌≡◌, ◌⊎◌, Bool, true, false, ℤ, List, [], Option, Result, Ok, Err, map, nat_le, refl, ap, inl, inr, sym, ◌∙◌}
use Rattle.values.specs.declared.fault.Fault.{Fault}
use Rattle.values.specs.declared.fault.Fault.TheVariants.{DuplicateName, Limit, NoMemory}
use Rattle.semantics.specs.Query.{Body}
use Rattle.semantics_names.specs.Outcome.{also, checked, followed}
use Rattle.semantics_names.specs.Sources.{Known}
use Rattle.semantics_names.specs.Statement.{Queried, With, are_distinct, ended, max_sources, offset_or, sources_of_body}
use Rattle.resolver.specs.statement_names.Whole.{QueriesOver, behind_items, items_by, named_by, slice_of, sliced}
use Rattle.sql_reader_syntax.specs.StatementTree.{ItemTree, StatementTree}
use Rattle.sql_reader_syntax.specs.Tree.{Name}

module _ (tree : StatementTree) where
  module _ (body : Body) (r : Bool) (e : r ≡ nat_le (sources_of_body body) max_sources) where
    slice_is : (b : Bool) → r ≡ b → slice_of tree body ≡ checked b Limit (Ok (tree.limit, offset_or tree.offset))
    slice_is b is = ap (λ t. checked t Limit (Ok (tree.limit, offset_or tree.offset))) (sym e ∙ is)

    pub slice_none : r ≡ false → slice_of tree body ≡ Err Limit
    slice_none beyond = slice_is false beyond

    pub slice_some : r ≡ true → slice_of tree body ≡ Ok (tree.limit, offset_or tree.offset)
    slice_some few = slice_is true few

  module _ (beside : List Body) (q : Queried) where
    ended_is : ended tree beside q ≡ also (sliced beside q) (slice_of tree q.body)
    ended_is = by (nat_le (sources_of_body q.body) max_sources)
      where
        by : (b : Bool)
            → checked b Limit (Ok (sliced beside q (tree.limit, offset_or tree.offset)))
            ≡ also (sliced beside q) (checked b Limit (Ok (tree.limit, offset_or tree.offset)))
        by true = refl
        by false = refl

    -- its sources, or a number, are refused
    pub slice_refused : (fault : Fault) → (fault ≡ NoMemory) ⊎ (slice_of tree q.body ≡ Err fault) → (fault ≡ NoMemory) ⊎ (ended tree beside q ≡ Err fault)
    slice_refused fault (inl empty) = inl empty
    slice_refused fault (inr is) = inr (ended_is ∙ ap (also (sliced beside q)) is)

    -- they are taken
    pub slice_taken : (s : Option ℤ × ℤ) → slice_of tree q.body ≡ Ok s → ended tree beside q ≡ Ok (sliced beside q s)
    slice_taken s is = ended_is ∙ ap (also (sliced beside q)) is

  module _ (queries : QueriesOver) where
    module _ (w : With) where
      -- the query is refused
      pub query_refused : (fault : Fault) → (fault ≡ NoMemory) ⊎ (queries w.known tree.query tree.order ≡ Err fault)
          → (fault ≡ NoMemory) ⊎ (behind_items queries tree w ≡ Err fault)
      query_refused fault (inl empty) = inl empty
      query_refused fault (inr is) = inr (ap (λ r. followed r (ended tree w.beside)) is)

      -- it is taken
      pub query_taken : (q : Queried) → queries w.known tree.query tree.order ≡ Ok q → behind_items queries tree w ≡ ended tree w.beside q
      query_taken q is = ap (λ r. followed r (ended tree w.beside)) is

    module _ (tables : List Known) (names : List Name) (same : names ≡ map (λ (i : ItemTree). i.name) tree.items) (r : Bool) (e : r ≡ are_distinct names) where
      abbrev items_behind : Result With Fault
      items_behind = items_by queries (record { known = tables; beside = [] }) tree.items

      told : (b : Bool) → r ≡ b → named_by queries tables tree ≡ checked b DuplicateName (followed items_behind (behind_items queries tree))
      told b is = ap (λ t. checked t DuplicateName (followed items_behind (behind_items queries tree))) (ap are_distinct (sym same) ∙ sym e ∙ is)

      -- two items are called the same
      pub name_twice : r ≡ false → named_by queries tables tree ≡ Err DuplicateName
      name_twice doubled = told false doubled

      module _ (apart : r ≡ true) where
        -- an item is refused
        pub items_refused : (fault : Fault)
            → (fault ≡ NoMemory) ⊎ (items_by queries (record { known = tables; beside = [] }) tree.items ≡ Err fault)
            → (fault ≡ NoMemory) ⊎ (named_by queries tables tree ≡ Err fault)
        items_refused fault (inl empty) = inl empty
        items_refused fault (inr is) = inr (told true apart ∙ ap (λ r. followed r (behind_items queries tree)) is)

        -- they are taken
        pub items_taken : (w : With) → items_by queries (record { known = tables; beside = [] }) tree.items ≡ Ok w
            → named_by queries tables tree ≡ behind_items queries tree w
        items_taken w is = told true apart ∙ ap (λ r. followed r (behind_items queries tree)) is
