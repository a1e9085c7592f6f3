-- What is served of a table's constraints and options.
use Rattle.std.proofs.Common.{◌≡◌, Bool, true, false, IsTrue, ◌↔◌, All, List, [], ◌∷◌, map, sym, ap, ◌∙◌, subst, arith}
use Rattle.std.proofs.lemmas.List.{get_or-map, length-map}
use Rattle.std.proofs.lemmas.List.Elements.{All-map}
use Rattle.std.specs.List.{Any}
use Rattle.sql_reader_grammar.specs.create_trees.CreateTrees.{ColumnTree}
use Rattle.sql_reader_grammar.specs.create_trees.CreateView.{column_of, table_constraint_of, table_of}
use Rattle.sql_reader_syntax.specs.Tree.{Name}
use Rattle.sql_reader_grammar.specs.declared.create_trees.create.Column.{Column}
use Rattle.sql_reader_grammar.specs.declared.create_trees.create.CreateTable.{CreateTable}
use Rattle.sql_reader_grammar.specs.declared.create_trees.create.TableConstraint.{TableConstraint}
use Rattle.sql_reader_grammar.specs.declared.create_trees.create.TableOption.{TableOption}
use Rattle.schema_keys.proofs.ListLemmas.{all_from_map, any_at}
use Rattle.schema_keys.specs.Created.{AreColumns, AreOptions, IsNamedIn, IsServedIn, IsTable}
use Rattle.schema_keys.specs.Names.{AreDistinct, IsSameName}
use Rattle.schema_tables.specs.TableData.{TableData}

-- one of the trees has what one of the columns has
pub any_of_map : {X Y : Type 0} (P : X → Type 0) (f : Y → X) (ys : List Y) → Any (λ y. P (f y)) ys → Any P (map f ys)
any_of_map P f [] a = absurd (let w = a.2 in omega (arith, w))
any_of_map P f (y ∷ ys) (k, z, within, is, p) =
    any_at P (map f (y ∷ ys)) k (let l = length-map (y ∷ ys) f in omega (arith, l, within))
    (λ d. subst P (ap f (sym is) ∙ sym (get_or-map f (y ∷ ys) k z d within)) p)

pub any_from_map : {X Y : Type 0} (P : X → Type 0) (f : Y → X) (ys : List Y) → Any P (map f ys) → Any (λ y. P (f y)) ys
any_from_map P f ys (k, x, within, is, p) =
    any_at (λ y. P (f y)) ys k (let l = length-map ys f in omega (arith, l, within))
    (λ d. subst P (sym is ∙ get_or-map f ys k d x (let l = length-map ys f in omega (arith, l, within))) p)

-- a test of some, told of what a function makes
pub any_told : {X Y : Type 0} (P : X → Type 0) (f : Y → X) (ys : List Y) (found : Bool) → IsTrue found ↔ Any (λ y. P (f y)) ys
    → IsTrue found ↔ Any P (map f ys)
any_told P f ys found tested = ((λ e. any_of_map P f ys (tested.0 e)), (λ a. tested.1 (any_from_map P f ys a)))

-- a test of columns, told of their trees
pub named_in : (columns : List Column) (name : Name) (found : Bool)
    → IsTrue found ↔ Any (λ c. IsSameName (column_of c).name name) columns → IsTrue found ↔ IsNamedIn (map column_of columns) name
named_in columns name found tested = any_told (λ c. IsSameName c.name name) column_of columns found tested

-- a test of all that a function makes
pub all_of_map : {X Y : Type 0} (P : X → Type 0) (f : Y → X) (ys : List Y) (found : Bool) → IsTrue found ↔ All (λ y. P (f y)) ys
    → IsTrue found ↔ All P (map f ys)
all_of_map P f ys found tested = ((λ e. All-map P f ys (tested.0 e)), (λ a. tested.1 (all_from_map P f ys a)))

-- tests of names, told of the columns of a table
module _ {X : Type 0} (name_of : X → Name) (columns : List ColumnTree) (names : List X) (named : Bool)
    (tested : IsTrue named ↔ All (λ n. IsNamedIn columns (name_of n)) names) where
  told_named : IsTrue named ↔ All (IsNamedIn columns) (map name_of names)
  told_named = all_of_map (IsNamedIn columns) name_of names named tested

  pub columns_named : (distinct : Bool) → IsTrue distinct ↔ AreDistinct (map name_of names) → named ≡ true
      → IsTrue distinct ↔ AreColumns columns (map name_of names)
  columns_named distinct different all = (
    (λ e. record { named = told_named.0 all; distinct = different.0 e }),
    (λ a. different.1 a.distinct),
  )

  pub columns_unnamed : named ≡ false → IsTrue named ↔ AreColumns columns (map name_of names)
  columns_unnamed none = ((λ e. absurd cc), (λ a. told_named.1 a.named))

module _ (created : CreateTable) where
  pub other_options : (options : List TableOption) (found : Bool) → options ≡ created.options.items
      → IsTrue found ↔ AreOptions options → found ≡ false → (table : TableData) → ¬ IsTable (table_of created) table
  other_options options found e tested none table is =
      let h : found ≡ true = tested.1 (subst AreOptions (sym e) is.options_are) in absurd cc

  pub options_are : (options : List TableOption) (found : Bool) → options ≡ created.options.items
      → IsTrue found ↔ AreOptions options → found ≡ true → AreOptions created.options.items
  options_are options found e tested all = subst AreOptions e (tested.0 all)

  module _ (columns : List Column) (constraints : List TableConstraint) (found : Bool)
      (e : columns ≡ created.columns.items) (f : constraints ≡ created.constraints.items)
      (tested : IsTrue found ↔ All (λ x. IsServedIn (map column_of columns) (table_constraint_of x)) constraints) where
    told : IsTrue found ↔ All (IsServedIn (table_of created).columns) (table_of created).constraints
    told =
        subst (λ cs. IsTrue found ↔ All (IsServedIn (map column_of cs)) (table_of created).constraints) e
        (subst (λ xs. IsTrue found ↔ All (IsServedIn (map column_of columns)) (map table_constraint_of xs)) f
        (all_of_map (IsServedIn (map column_of columns)) table_constraint_of constraints found tested))

    pub served_in : found ≡ true → All (IsServedIn (table_of created).columns) (table_of created).constraints
    served_in all = told.0 all

    pub unserved_in : found ≡ false → (table : TableData) → ¬ IsTable (table_of created) table
    unserved_in none table is = let h : found ≡ true = told.1 is.served_in in absurd cc
