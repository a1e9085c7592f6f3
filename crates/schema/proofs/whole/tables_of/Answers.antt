use Rattle.std.proofs.Common.{[], IfNone, IfSome, Option, ap, map, sym, subst, ◌∙◌}
use Rattle.std.proofs.lemmas.List.{map_push}
use Rattle.std.proofs.lemmas.Result.{err_from_is_err_and}
use Rattle.schema.specs.Keyed.{AreKeyedOf, SaysKeyed}
use Rattle.schema.specs.KeyedView.{keyed_data}
use Rattle.schema.specs.Picks.{Picks}
use Rattle.schema.specs.Says.{IsNoTable}
use Rattle.schema.specs.declared.keyed.KeyedTable.{KeyedTable}
use Rattle.schema.proofs.PickLemmas.{other_more, said_more}
use Rattle.schema.proofs.whole.tables_of.Goals as goal
use Rattle.schema.proofs.whole.tables_of.Goals.{in-Some+in_ok-push, in_default}

pub loop-row-init : goal.loop-row-init
loop-row-init c = subst (λ xs. AreKeyedOf c.args.pages [] (map keyed_data xs)) (sym c.in_ok-tables.ensures.items) Picks.end

pub returns-in_err-table-clause-refused : goal.returns-in_err-table-clause-refused
returns-in_err-table-clause-refused c =
    let p = err_from_is_err_and c.from_residual-in_err-table.result c.from_residual-in_err-table.ensures.1 in
    rw (p.1, p.2)
    (c.in_err-table.ensures.refused c.args.rows.now (c.loop-row.row-index, c.loop-row-test.true, sym c.row-item.is))

pub loop-row-preserved : goal.loop-row-preserved
loop-row-preserved c =
    let pages = c.args.pages in
    let rows = c.args.rows.now in
    let row = c.row-item.result in
    elim c.match-branch-3.branch [
      | in-Some+in_ok-push w ↦
          said_more (SaysKeyed pages) IsNoTable rows c.loop-row.row-index row c.loop-row-test.true c.row-item.is
          (map keyed_data c.loop-row.tables.items) (map keyed_data c.match-branch-3.tables.items) (keyed_data w.in-Some.table)
          (let pushed = w.in_ok-push.ensures.items in let is = w.tables-is in
          rw is (ap (map keyed_data) pushed ∙ map_push keyed_data c.loop-row.tables.items w.in-Some.table))
          (subst (λ (found : Option KeyedTable). IfSome found (λ k. SaysKeyed pages row (keyed_data k))) w.in-Some.is c.in_ok-table.ensures.said)
          c.loop-row.invariant
      | in_default w ↦
          other_more (SaysKeyed pages) IsNoTable rows c.loop-row.row-index row c.loop-row-test.true c.row-item.is
          (map keyed_data c.loop-row.tables.items) (map keyed_data c.match-branch-3.tables.items) (let is = w.tables-is in cc)
          (subst (λ (found : Option KeyedTable). IfNone found (IsNoTable row)) w.in_default.is c.in_ok-table.ensures.other)
          c.loop-row.invariant
    ]
