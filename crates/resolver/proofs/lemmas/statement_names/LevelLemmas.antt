-- A statement over queries of as many levels as there may be.
use Rattle.std.proofs.Common.{◌≡◌, List, [], ◌∷◌, Result, Ok, Err, map, refl, ap}
use Rattle.values.specs.declared.fault.Fault.{Fault}
use Rattle.values.specs.declared.fault.Fault.TheVariants.{DuplicateName}
use Rattle.semantics_names.specs.Outcome.{checked, followed}
use Rattle.semantics_names.specs.Sources.{Known}
use Rattle.semantics_names.specs.Statement.{With, are_distinct, item_of, max_levels, named, queried, with_items}
use Rattle.resolver.specs.statement_names.Whole.{behind_items, items_by, named_by}
use Rattle.sql_reader_syntax.specs.StatementTree.{ItemTree, StatementTree}

followed_by : {A B : Type 0} (r : Result A Fault) (f g : A → Result B Fault) → ((a : A) → f a ≡ g a) → followed r f ≡ followed r g
followed_by (Ok a) f g same = same a
followed_by (Err fault) f g same = refl

items_are : (w : With) (items : List ItemTree) → with_items w items ≡ items_by (queried max_levels) w items
items_are w [] = refl
items_are w (item ∷ items) =
    followed_by (item_of w item) (λ more. with_items more items) (λ more. items_by (queried max_levels) more items) (λ more. items_are more items)

pub named_is : (tables : List Known) (tree : StatementTree) → named tables tree ≡ named_by (queried max_levels) tables tree
named_is tables tree =
    ap (λ r. checked (are_distinct (map (λ (i : ItemTree). i.name) tree.items)) DuplicateName (followed r (behind_items (queried max_levels) tree)))
    (items_are (record { known = tables; beside = [] }) tree.items)
