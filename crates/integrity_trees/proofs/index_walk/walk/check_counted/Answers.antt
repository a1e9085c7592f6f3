use Rattle.std.proofs.Common.{◌∙◌, ◌<◌, [], None, arith, rules, refl, sym, subst, inl, inr, ⊎_elim}
use Rattle.std.proofs.lemmas.Result.{err_from_is_err_and}
use Rattle.btree.specs.image.Pages.{pages_seen}
use Rattle.btree.specs.image.Shape.{most_levels}
use Rattle.btree.specs.image.Tree.{top}
use Rattle.integrity_trees.specs.tree_walk.Used.{IsUnderTwice}
use Rattle.integrity_trees.proofs.lemmas.tree_walk.UsedLemmas.{tree_gone, tree_twice}
use Rattle.integrity_trees.specs.declared.entry_prefixes.counting.Prefixes.{Prefixes}
use Rattle.integrity_trees.specs.entry_prefixes.Prefixes.{HasPrefixes}
use Rattle.integrity_trees.specs.index_walk.Broken.{IsBrokenIndex}
use Rattle.integrity_trees.specs.index_walk.Checked.{index_tree}
use Rattle.integrity_trees.proofs.lemmas.entry_prefixes.PrefixLemmas.{counted_found}
use Rattle.integrity_trees.proofs.lemmas.index_walk.OrderLemmas.{checked_index}
use Rattle.integrity_trees.proofs.index_walk.walk.check_counted.Goals as goal

pub walk-requires-clause-stands : goal.walk-requires-clause-stands
walk-requires-clause-stands g c = λ steady. top

pub returns-in_err-counts-clause-outcome : goal.returns-in_err-counts-clause-outcome
returns-in_err-counts-clause-outcome g c =
    let p = err_from_is_err_and c.from_residual-in_err-counts.result c.from_residual-in_err-counts.ensures.1 in
    rw (p.1, p.2)
    (record {
      only = c.in_err-counts.ensures.only;
      cause = λ steady.
          let pages = pages_seen c.args.pager.now.state in
          ⊎_elim inl
          (λ why. inr (⊎_elim
          (λ (broken : IsBrokenIndex pages c.args.tree.now.widths c.args.tree.now.descends.now c.args.tree.now.root c.in_err-counts.field-0.0). inl broken)
          (λ (twice : IsUnderTwice pages (index_tree c.args.tree.now.root) c.args.tree.now.root c.args.used.now c.in_err-counts.field-0.0).
          inr (tree_twice pages (index_tree c.args.tree.now.root) c.args.used.now c.requires.number c.in_err-counts.field-0.0 twice))
          why))
          (c.in_err-counts.ensures.fault steady);
    })

pub walk-requires-clause-from : goal.walk-requires-clause-from
walk-requires-clause-from g c = λ steady. inl c.in_ok-last.ensures.none

pub returns-clause-outcome : goal.returns-clause-outcome
returns-clause-outcome g c = record {
  few = search rules;
  tree = λ steady.
      checked_index (pages_seen c.args.pager.now.state) c.args.tree.now.widths c.args.tree.now.descends.now c.args.tree.now.root c.in_ok-counts.counts _ _ _ _
      (search rules) c.in_ok-last.ensures.none (c.in_ok-counts.ensures.walked steady);
}

pub returns-clause-prefixes : goal.returns-clause-prefixes
returns-clause-prefixes g c = λ steady enough.
    let pages = pages_seen c.args.pager.now.state in
    let widths = c.args.tree.now.widths in
    let walked = c.in_ok-counts.ensures.walked steady in
    let few : c.in_ok-counts.counts.levels < most_levels = search rules in
    let checked = checked_index pages widths c.args.tree.now.descends.now c.args.tree.now.root c.in_ok-counts.counts _ _ _ _ few c.in_ok-last.ensures.none walked in
    let run = walked.run None c.in_ok-last.ensures.none in
    let long = c.in_ok-last.ensures.long in
    let told = run.counts (omega (arith, enough, long)) in
    subst (λ (p : Prefixes). HasPrefixes pages c.args.tree.now.root c.args.width p) (sym c.into_prefixes.ensures)
    (counted_found pages widths c.args.tree.now.descends.now c.args.tree.now.root c.in_ok-counts.counts c.requires.number checked c.args.width _
    run.rows run.each (told.long ∙ long) (told.counted [] refl c.in_ok-last.ensures.counted))

pub returns-clause-marks : goal.returns-clause-marks
returns-clause-marks g c = λ steady.
    let walked = c.in_ok-counts.ensures.walked steady in
    tree_gone (pages_seen c.args.pager.now.state) (index_tree c.args.tree.now.root) c.args.used.now c.requires.number c.in_ok-counts.counts.levels c.walk.new.used walked.shape walked.marks
