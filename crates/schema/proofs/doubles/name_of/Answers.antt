use Rattle.std.proofs.Common.{◌≡◌, true, refl}
use Rattle.schema.specs.ObjectView.{object_data}
use Rattle.schema.proofs.DoubleLemmas.{no_name}
use Rattle.schema.proofs.doubles.name_of.Goals as goal

pub returns-then-has_tree-clause-found : goal.returns-then-has_tree-clause-found
returns-then-has_tree-clause-found c = record {
  object = object_data c.in_ok-object.object;
  row_is = c.in_ok-object.ensures.found;
  has_tree = c.has_tree.ensures.0 c.if-has_tree.true;
  name_is = refl;
}

pub returns-else-has_tree-clause-none : goal.returns-else-has_tree-clause-none
returns-else-has_tree-clause-none c =
    no_name c.args.row.now (object_data c.in_ok-object.object) c.in_ok-object.ensures.found
    (λ has. let h : c.has_tree.result ≡ true = c.has_tree.ensures.1 has in let e = c.if-has_tree.false in absurd cc)
