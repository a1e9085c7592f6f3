use Rattle.std.proofs.Common.{◌<◌, IsTrue, length, rules, subst, refl}
use Rattle.records_tables.specs.stored_rows.Stored.{Fits, FitsColumn}
use Rattle.records_tables.proofs.lemmas.stored_rows.RowLemmas.{all_from_each, each_more, each_of_all, get_at}
use Rattle.records_tables.proofs.stored_rows.rows.fits.Goals as goal

pub returns-then-not-fits_column : goal.returns-then-not-fits_column
returns-then-not-fits_column c =
    let within : c.loop-i.i < length c.args.table.now.columns = search rules in
    let here = get_at c.args.table.now.columns c.loop-i.i c.index-columns-i.result within (search rules) in (
      λ no. cc,
      λ (all : Fits c.args.table.now c.args.row.now).
          subst (λ b. IsTrue b) c.if-not-fits_column.true (c.fits_column.ensures.1 (each_of_all FitsColumn _ _ c.loop-i.i _ _ all here c.value.ensures)),
    )

pub loop-i-preserved : goal.loop-i-preserved
loop-i-preserved c =
    let within : c.loop-i.i < length c.args.table.now.columns = search rules in
    let here = get_at c.args.table.now.columns c.loop-i.i c.index-columns-i.result within (search rules) in
    each_more FitsColumn _ _ c.loop-i.i _ _ here c.value.ensures (c.fits_column.ensures.0 c.if-not-fits_column.false) c.loop-i.invariant

pub returns : goal.returns
returns c = (
  λ done. all_from_each FitsColumn _ _ c.requires
      (λ k column value within. c.loop-i.invariant k column value (search rules)),
  λ all. refl,
)
