use Rattle.std.proofs.Common.{◌∙◌, ◌++◌, ◌∷◌, [], List, append-nil, append_assoc, map, refl, sym, subst}
use Rattle.std.proofs.lemmas.Result.{err_from_is_err_and}
use Rattle.values.specs.Datum.{datum_of}
use Rattle.values.specs.Row.{Row}
use Rattle.pager.proofs.CallLemmas.{SameImage-none, SameImage-trans}
use Rattle.windows_groups.specs.FirstView.{KeepsFirst}
use Rattle.operators_results.proofs.lemmas.sorted_results.GatherLemmas.{Gathering-start, gather_says, gathered_all, gathered_more}
use Rattle.operators_results.specs.compound_results.Compounds.{IsArmsCause}
use Rattle.operators_results.specs.compound_results.InTurn.{AreComing, arms_of}
use Rattle.operators_results.proofs.lemmas.compound_results.ChainLemmas.{cause_before}
use Rattle.operators_results.proofs.sorted_results.pushed.push_coming.Goals as goal

pub rows-init : goal.rows-init
rows-init g c = record {
  image = SameImage-none _;
  failures = refl;
  over = c.requires.planned;
  hits = λ w db hits. hits;
  most = refl;
  few = λ few. few;
  rows = Gathering-start AreComing c.args.pager.now.state c.args.sources.now c.args.arms.now
      (λ given. (all : List Row) → KeepsFirst c.args.order.now c.args.first.now all → KeepsFirst c.args.order.now c.args.first.now (all ++ given))
      (λ all keeps. subst (KeepsFirst c.args.order.now c.args.first.now) (sym (append-nil all)) keeps);
}

pub returns-in_err-next-clause-rows : goal.returns-in_err-next-clause-rows
returns-in_err-next-clause-rows g c = λ steady on rest ahead has coming.
    let p = err_from_is_err_and c.from_residual.result c.from_residual.ensures.1 in
    rw (p.1, p.2)
    (cause_before (arms_of c.rows.arms) (arms_of c.args.arms.now) on c.in_err-next.field-0.0 c.rows.invariant.hits
    (gather_says AreComing _ c.rows.pager.state c.rows.invariant.image c.args.sources.now c.args.arms.now c.rows.arms _
    c.rows.invariant.rows steady on rest ahead has coming (λ on. IsArmsCause on (arms_of c.rows.arms) c.in_err-next.field-0.0)
    c.in_err-next.ensures.rows))

pub rows-preserved : goal.rows-preserved
rows-preserved g c = record {
  image = SameImage-trans _ _ _ c.rows.invariant.image c.next.ensures.reads.image;
  failures = c.in_ok-next.ensures.reads.failures ∙ c.rows.invariant.failures;
  over = c.next.ensures.left.over;
  hits = λ w db hits. c.rows.invariant.hits w db (c.next.ensures.left.hits w db hits);
  most = c.push.ensures.most ∙ c.rows.invariant.most;
  few = λ few. c.in_ok-row.ensures.few (c.rows.invariant.few few);
  rows = λ steady on rest ahead has coming.
      gathered_more AreComing _ c.rows.pager.state c.rows.invariant.image c.args.sources.now c.args.arms.now c.rows.arms _
      c.rows.invariant.rows steady on rest ahead has coming c.next.new.self (map datum_of c.next.new.out.items) c.next.new.pager.state
      (λ given. (all : List Row) → KeepsFirst c.args.order.now c.args.first.now all → KeepsFirst c.args.order.now c.push.new.self (all ++ given))
      (λ given keeps all before. subst (KeepsFirst c.args.order.now c.push.new.self) (append_assoc all given (map datum_of c.next.new.out.items ∷ []))
      (c.in_ok-row.ensures.kept (all ++ given) (keeps all before)))
      (rw c.if-branch.true at c.in_ok-next.ensures.rows);
}

pub returns-clause-rows : goal.returns-clause-rows
returns-clause-rows g c = λ steady on rest ahead has coming.
    gathered_all AreComing _ c.rows.pager.state c.rows.invariant.image c.args.sources.now c.args.arms.now c.rows.arms _
    c.rows.invariant.rows steady on rest ahead has coming c.next.new.self (map datum_of c.next.new.out.items) c.next.new.pager.state
    (rw c.if-branch.false at c.in_ok-next.ensures.rows)
