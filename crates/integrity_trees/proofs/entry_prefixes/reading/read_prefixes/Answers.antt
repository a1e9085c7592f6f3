use Rattle.std.proofs.Common.{◌∙◌, ℕ, Some, subst}
use Rattle.std.proofs.lemmas.Result.{err_from_is_err_and}
use Rattle.pager.proofs.CallLemmas.{SameImage-trans}
use Rattle.btree.specs.declared.image.kind.TreeKind.TheVariants.{Index}
use Rattle.btree.specs.Views.{cell_data}
use Rattle.btree.proofs.SeenLemmas.{still_steady}
use Rattle.btree_cursor.specs.cursor.Search.{IsIndexFault}
use Rattle.integrity_trees.proofs.lemmas.entry_rows.ListedLemmas.{Tells}
use Rattle.integrity_trees.proofs.lemmas.entry_prefixes.PrefixLemmas.{has_prefixes, has_record, never, one_more, opened, step_fault, still_at}
use Rattle.integrity_trees.proofs.entry_prefixes.reading.read_prefixes.Goals as goal

pub loop-entry-init : goal.loop-entry-init
loop-entry-init g c = opened _ _ _ _ _ _ _ c.in_ok-cursor.ensures.reads.image c.in_ok-cursor.ensures.reads.failures c.in_ok-cursor.ensures.outcome
    c.in_ok-prefixes.ensures.long c.new-last.ensures c.in_ok-prefixes.ensures.counted

pub returns-in_default-clause-prefixes : goal.returns-in_default-clause-prefixes
returns-in_default-clause-prefixes g c = λ steady widths descends counts enough number checked.
    absurd (never _ _ _ _ _ _ _ c.loop-entry.invariant steady widths descends counts enough number checked (λ pages. c.in_default.ensures.entry pages Index))

pub returns-in_default-entry-clause-prefixes : goal.returns-in_default-entry-clause-prefixes
returns-in_default-entry-clause-prefixes g c = λ steady widths descends counts enough number checked.
    has_prefixes _ _ _ _ _ _ _ c.loop-entry.invariant steady widths descends counts enough number checked
    (λ pages. (rw c.in_default-entry.is at c.in-Ok.ensures.entry) pages Index)

pub returns-in_err-count_entry-clause-prefixes : goal.returns-in_err-count_entry-clause-prefixes
returns-in_err-count_entry-clause-prefixes g c = λ steady widths descends counts enough number checked.
    let f = c.loop-entry.invariant in
    let p = err_from_is_err_and c.from_residual-in_err-count_entry.result c.from_residual-in_err-count_entry.ensures.1 in
    rw (p.1, p.2)
    (c.in_err-count_entry.ensures.counted (still_steady _ _ f.stays steady) _
    (has_record _ _ _ _ _ _ _ f steady widths descends counts enough number checked (cell_data c.in-Some.cell)
    (λ pages. (rw c.in-Some.is at c.in-Ok.ensures.entry) pages Index)))

pub loop-entry-preserved : goal.loop-entry-preserved
loop-entry-preserved g c =
    let f = c.loop-entry.invariant in
    let told : Tells c.loop-entry.cursor (Some (cell_data c.in-Some.cell)) = λ pages. (rw c.in-Some.is at c.in-Ok.ensures.entry) pages Index in
    let chains = c.in_ok-count_entry.ensures.reads.chains in
    record {
      stays = SameImage-trans _ _ _ (SameImage-trans _ _ _ f.stays chains.image) c.in_ok-next.ensures.reads.image;
      failures = c.in_ok-next.ensures.reads.failures ∙ c.in_ok-count_entry.ensures.reads.failures ∙ f.failures;
      root_is = c.in_ok-next.ensures.outcome.root_is ∙ f.root_is;
      long = c.in_ok-count_entry.ensures.long ∙ f.long;
      follows = λ steady widths descends counts enough number checked.
          let counted = c.in_ok-count_entry.ensures.counted (still_steady _ _ f.stays steady) _
          (has_record _ _ _ _ _ _ _ f steady widths descends counts enough number checked _ told) in
          one_more _ _ _ _ _ _ _ f steady widths descends counts enough number checked _ told _ chains _ _ _ _ counted c.in_ok-next.ensures.outcome;
    }

pub returns-in_err-next-clause-prefixes : goal.returns-in_err-next-clause-prefixes
returns-in_err-next-clause-prefixes g c = λ steady widths descends counts enough number checked.
    let f = c.loop-entry.invariant in
    let chains = c.in_ok-count_entry.ensures.reads.chains in
    let p = err_from_is_err_and c.from_residual-in_err-next.result c.from_residual-in_err-next.ensures.1 in
    rw (p.1, p.2)
    (c.in_err-next.ensures.outcome.sound (still_steady _ _ (SameImage-trans _ _ _ f.stays chains.image) steady) Index _ _ _
    (still_at _ _ _ _ _ _ _ f steady widths descends counts enough number checked _
    (λ pages. (rw c.in-Some.is at c.in-Ok.ensures.entry) pages Index) _ chains))

pub returns-in_err-next-clause-only : goal.returns-in_err-next-clause-only
returns-in_err-next-clause-only g c =
    let f = c.loop-entry.invariant in
    let p = err_from_is_err_and c.from_residual-in_err-next.result c.from_residual-in_err-next.ensures.1 in
    let left = (rw c.in-Some.is at c.in-Ok.ensures.outcome).0 in
    rw (p.1, p.2)
    (subst (λ (root : ℕ). IsIndexFault root c.in_err-next.field-0.0) f.root_is
    (step_fault c.loop-entry.cursor c.in_err-next.field-0.0 left c.in_err-next.ensures.outcome.only))
