use Rattle.std.proofs.Common.{◌≡◌, ◌<◌, ◌&&◌, ℕ, Bool, true, false, IsTrue, length, refl, subst, sym, rules}
use Rattle.records_tables.proofs.lemmas.stored_rows.RowLemmas.{get_at}
use Rattle.records_tables.specs.primary_rows.Rows.{told_values}
use Rattle.records_tables.proofs.lemmas.primary_rows.ToldLemmas.{AreFit, AreKnown, fit_before, fit_last, fit_more, fit_of, fits_of, known_more, row_of}
use Rattle.records_tables.proofs.primary_rows.rows.fits.Goals as goal

and_one : (a b : Bool) → IsTrue (a && b) → IsTrue a
and_one true b t = refl
and_one false b t = t

and_other : (a b : Bool) → IsTrue (a && b) → IsTrue b
and_other true b t = t
and_other false b t = let e : false ≡ true = t in cc

and_both : (a b : Bool) → IsTrue a → IsTrue b → IsTrue (a && b)
and_both true b t u = u
and_both false b t u = let e : false ≡ true = t in cc

pub loop-i-preserved : goal.loop-i-preserved
loop-i-preserved c =
    let table = c.args.table.now in
    let told = told_values c.args.table.now c.args.fields.now in
    let within : c.loop-i.i < length c.args.table.now.columns = search rules in
    let column = get_at c.args.table.now.columns c.loop-i.i c.column-item.result within (search rules) in
    let here = c.in_ok-value.ensures.found in
    let inv = c.loop-i.invariant in
    record {
      known = known_more told c.loop-i.i _ here inv.known;
      fit = (
        λ t. fit_more table.columns told c.loop-i.i c.column-item.result _ column here
            (c.fits_column-is_of_column.ensures.0 (and_other c.loop-i.fit c.fits_column-is_of_column.result t)) (inv.fit.0 (and_one c.loop-i.fit c.fits_column-is_of_column.result t)),
        λ all. and_both c.loop-i.fit c.fits_column-is_of_column.result (inv.fit.1 (fit_before table.columns told c.loop-i.i all))
            (c.fits_column-is_of_column.ensures.1 (fit_last table.columns told c.loop-i.i c.column-item.result _ column here all)),
      );
    }

pub returns-clause-row : goal.returns-clause-row
returns-clause-row c =
    let table = c.args.table.now in
    let values = c.args.fields.now in
    let count : c.loop-i.i ≡ length c.args.table.now.columns = search rules in
    let inv = c.loop-i.invariant in
    let row = row_of table values (subst (λ (n : ℕ). AreKnown (told_values table values) n) count inv.known) in (
      row.0,
      row.1,
      (
        λ t. fits_of table values row.0 row.1 (subst (λ (n : ℕ). AreFit table.columns (told_values table values) n) count (inv.fit.0 t)),
        λ fits. inv.fit.1 (subst (λ (n : ℕ). AreFit table.columns (told_values table values) n) (sym count) (fit_of table values row.0 row.1 fits)),
      ),
    )
