use Rattle.std.proofs.Common.{◌∙◌, ap, arith, length, refl, sym}
use Rattle.values.specs.Datum.{datum_of_ref}
use Rattle.schema_tables.specs.TableData.{TableData}
use Rattle.integrity_indexes.proofs.lemmas.row_batches.CodeLemmas.{all_written, none_written, one_written}
use Rattle.integrity_indexes.proofs.row_batches.wanted.push_places.Goals as goal

pub loop-i-init : goal.loop-i-init
loop-i-init c = record {
  table = c.requires;
  reads = λ row is. is;
  written = λ row is. none_written row c.args.places.now c.args.code.now.items;
}

pub returns-in_default-clause-none : goal.returns-in_default-clause-none
returns-in_default-clause-none c = λ no row is. c.in_default.ensures.none row (c.loop-i.invariant.reads row is)

pub loop-i-preserved : goal.loop-i-preserved
loop-i-preserved c =
    let inv = c.loop-i.invariant in
    record {
      table = inv.table ∙ ap (λ (t : TableData). length t.columns) (sym c.in-Some.ensures.table);
      reads = λ row is. (c.in-Some.ensures.found row (inv.reads row is)).1;
      written = λ row is.
          one_written row c.args.places.now c.loop-i.i _ c.args.code.now.items c.loop-i.code.items c.push_value.new.code.items (datum_of_ref c.in-Some.value)
          (inv.written row is) (omega arith) refl (c.in-Some.ensures.found row (inv.reads row is)).0 c.in_ok-push_value.ensures.code c.in_ok-push_value.ensures.held;
    }

pub returns-clause-code : goal.returns-clause-code
returns-clause-code c = λ yes row is.
    all_written row c.args.places.now c.loop-i.i c.args.code.now.items c.loop-i.code.items (c.loop-i.invariant.written row is) (omega arith)
