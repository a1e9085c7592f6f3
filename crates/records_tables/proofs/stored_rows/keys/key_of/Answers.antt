use Rattle.std.proofs.Common.{◌≡◌, sym, ◌∙◌}
use Rattle.btree.specs.declared.image.kind.Level.TheVariants.{Leaf, Interior}
use Rattle.btree.proofs.CellLemmas.{IfNone-always, IfNone-weaker}
use Rattle.records_tables.proofs.lemmas.stored_rows.KeyLemmas.{no_leaf_key, no_interior_key}
use Rattle.records_tables.proofs.stored_rows.keys.key_of.Goals as goal

pub returns-in_err-row-in-Leaf-clause-none : goal.returns-in_err-row-in-Leaf-clause-none
returns-in_err-row-in-Leaf-clause-none c =
    let level : c.args.view.now.level ≡ Leaf = sym c.level.ensures ∙ c.in-Leaf.is in
    IfNone-always c.from_residual.result (no_leaf_key _ _ _ _ _ level c.in_err-row-in-Leaf.ensures.none)

pub returns-in-Interior-clause-none : goal.returns-in-Interior-clause-none
returns-in-Interior-clause-none c =
    let level : c.args.view.now.level ≡ Interior = sym c.level.ensures ∙ c.in-Interior.is in
    IfNone-weaker c.divider.result (no_interior_key _ _ _ _ _ level) c.divider.ensures.none
