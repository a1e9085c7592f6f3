use Rattle.btree.specs.image.Pages.{pages_seen}
use Rattle.std.proofs.Common.{All, ℕ, rules, sym, subst, None, inl, inr, ⊎_elim}
use Rattle.std.proofs.lemmas.Result.{err_from_is_err_and}
use Rattle.btree.specs.declared.image.kind.TreeKind.TheVariants.{Table}
use Rattle.btree.specs.image.Shape.{places_under}
use Rattle.records_tables.specs.stored_rows.Stored.{HoldsRow}
use Rattle.records_tables.specs.stored_rows.Links.{table_tree}
use Rattle.integrity_trees.specs.tree_walk.Counts.{AreCounts}
use Rattle.integrity_trees.specs.tree_walk.Used.{IsUnderTwice, MarksUnder}
use Rattle.integrity_trees.specs.table_walk.Checked.{tree_of}
use Rattle.integrity_trees.specs.table_walk.Walked.{StandsWithin, IsTree}
use Rattle.integrity_trees.proofs.lemmas.table_walk.TreeLemmas.{root_shape, sound_table}
use Rattle.integrity_trees.proofs.lemmas.tree_walk.UsedLemmas.{tree_gone, tree_twice}
use Rattle.integrity_trees.proofs.lemmas.table_walk.WalkLemmas.{start_met}
use Rattle.integrity_trees.proofs.table_walk.walk.check_table.Goals as goal

pub walk-requires-clause-met : goal.walk-requires-clause-met
walk-requires-clause-met g c = λ steady.
    subst (λ (n : ℕ). StandsWithin (pages_seen c.args.pager.now.state) c.args.table.now.root 1 None None n) (sym c.root.ensures)
    (start_met (pages_seen c.args.pager.now.state) c.args.table.now.root c.requires.number)

pub returns-clause-outcome : goal.returns-clause-outcome
returns-clause-outcome g c =
    let pages = pages_seen c.args.pager.now.state in
    let root = c.args.table.now.root in
    let levels = c.in_ok-counts.counts.levels in
    record {
      few = search rules;
      tree = λ steady.
          let tree : IsTree pages root levels None None root = subst (λ (n : ℕ). IsTree pages root levels None None n) c.root.ensures (c.in_ok-counts.ensures.tree steady) in
          record {
            few = search rules;
            sound = sound_table pages root levels c.in_ok-counts.ensures.deep tree;
            shape = root_shape pages root levels tree;
            rows = subst (λ (n : ℕ). All (HoldsRow pages c.args.table.now) (places_under pages Table levels n)) c.root.ensures (c.in_ok-counts.ensures.rows steady);
            counts_are = subst (λ (n : ℕ). AreCounts pages Table levels n c.in_ok-counts.counts.cells c.in_ok-counts.counts.pages) c.root.ensures (c.in_ok-counts.ensures.counts steady);
          };
    }

pub returns-clause-marks : goal.returns-clause-marks
returns-clause-marks g c = λ steady.
    let pages = pages_seen c.args.pager.now.state in
    let root = c.args.table.now.root in
    let levels = c.in_ok-counts.counts.levels in
    let tree : IsTree pages root levels None None root = subst (λ (n : ℕ). IsTree pages root levels None None n) c.root.ensures (c.in_ok-counts.ensures.tree steady) in
    tree_gone pages (tree_of c.args.table.now) c.args.used.now c.requires.number levels c.walk.new.used (root_shape pages root levels tree)
    (subst (λ (n : ℕ). MarksUnder pages (table_tree root) levels n c.args.used.now c.walk.new.used) c.root.ensures (c.in_ok-counts.ensures.marks steady))

pub returns-in_err-counts-clause-outcome : goal.returns-in_err-counts-clause-outcome
returns-in_err-counts-clause-outcome g c =
    let p = err_from_is_err_and c.from_residual.result c.from_residual.ensures.1 in
    rw (p.1, p.2)
    (record {
      only = c.in_err-counts.ensures.only;
      cause = λ steady.
          let pages = pages_seen c.args.pager.now.state in
          let root = c.args.table.now.root in
          ⊎_elim inl
          (λ cause. inr (⊎_elim inl
          (λ (twice : IsUnderTwice pages (table_tree root) c.root.result c.args.used.now c.in_err-counts.field-0.0).
          inr (tree_twice pages (tree_of c.args.table.now) c.args.used.now c.requires.number c.in_err-counts.field-0.0
          (subst (λ (n : ℕ). IsUnderTwice pages (table_tree root) n c.args.used.now c.in_err-counts.field-0.0) c.root.ensures twice)))
          cause))
          (c.in_err-counts.ensures.fault steady);
    })
