use Rattle.std.proofs.Common.{List, [], ◌++◌, append-nil, sym, subst}
use Rattle.values.specs.Datum.{Datum}
use Rattle.records.specs.Record.{IsRecord}
use Rattle.integrity_trees.proofs.lemmas.entry_rows.FieldLemmas.{copied_more}
use Rattle.integrity_trees.proofs.entry_rows.rows.copied_row.Goals as goal

pub loop-passed-init : goal.loop-passed-init
loop-passed-init c = λ rest unread.
    subst (λ (row : List Datum). IsRecord c.args.bytes.now (row ++ rest)) (sym c.new-row.ensures) ((c.in-Some.ensures.found rest).0 unread)

pub loop-passed-preserved : goal.loop-passed-preserved
loop-passed-preserved c =
    copied_more c.args.bytes.now _ c.read.new.self c.loop-passed.row c.push.new.self _ _ c.loop-passed.invariant c.in-Some-read.ensures.found c.in_ok-push.ensures.ok
    c.in_ok-copied.ensures

pub returns-then-is_done : goal.returns-then-is_done
returns-then-is_done c =
    subst (λ (l : List Datum). IsRecord c.args.bytes.now l) (append-nil c.loop-passed.row) (c.loop-passed.invariant [] (c.is_done.ensures.0 c.if-is_done.true))
