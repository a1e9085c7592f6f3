use Rattle.std.proofs.Common.{[], IfNone, IfSome, List, Option, ap, map, sym, subst, ◌∙◌}
use Rattle.std.proofs.lemmas.List.{map_push}
use Rattle.std.proofs.lemmas.Result.{err_from_is_err_and}
use Rattle.schema.specs.indexes.IndexView.{index_data}
use Rattle.schema.specs.declared.indexes.index_parts.Index.{Index}
use Rattle.values.specs.Row.{Row}
use Rattle.schema.specs.Keyed.{AreKeyedOf, tables_in}
use Rattle.schema.specs.KeyedView.{keyed_data}
use Rattle.schema.specs.Picks.{Picks}
use Rattle.schema.specs.Says.{IsNoIndex, SaysAnyIndex}
use Rattle.schema.proofs.PickLemmas.{other_more, said_more}
use Rattle.schema.proofs.whole.indexes_of.Goals as goal
use Rattle.schema.proofs.whole.indexes_of.Goals.{in-Some+in_ok-push, in_default}

pub loop-row-init : goal.loop-row-init
loop-row-init c =
    subst (λ xs. Picks (SaysAnyIndex c.args.pages c.args.rows.now (tables_in (map keyed_data c.args.tables.now))) IsNoIndex [] (map index_data xs))
    (sym c.in_ok-indexes.ensures.items) Picks.end

pub returns-in_err-index-clause-refused : goal.returns-in_err-index-clause-refused
returns-in_err-index-clause-refused c =
    let p = err_from_is_err_and c.from_residual-in_err-index.result c.from_residual-in_err-index.ensures.1 in
    rw (p.1, p.2)
    (c.in_err-index.ensures.refused c.args.rows.now (c.loop-row.row-index, c.loop-row-test.true, sym c.row-item.is) c.requires.keyed c.requires.distinct)

pub loop-row-preserved : goal.loop-row-preserved
loop-row-preserved c =
    let pages = c.args.pages in
    let rows = c.args.rows.now in
    let tables = tables_in (map keyed_data c.args.tables.now) in
    let row = c.row-item.result in
    elim c.match-branch-3.branch [
      | in-Some+in_ok-push w ↦
          said_more (SaysAnyIndex pages rows tables) IsNoIndex rows c.loop-row.row-index row c.loop-row-test.true c.row-item.is
          (map index_data c.loop-row.indexes.items) (map index_data c.match-branch-3.indexes.items) (index_data w.in-Some.index)
          (let pushed = w.in_ok-push.ensures.items in let is = w.indexes-is in
          rw is (ap (map index_data) pushed ∙ map_push index_data c.loop-row.indexes.items w.in-Some.index))
          (subst (λ (found : Option Index). IfSome found (λ x. (rows : List Row) → AreKeyedOf pages rows (map keyed_data c.args.tables.now)
          → SaysAnyIndex pages rows tables row (index_data x))) w.in-Some.is c.in_ok-index.ensures.said rows c.requires.keyed)
          c.loop-row.invariant
      | in_default w ↦
          other_more (SaysAnyIndex pages rows tables) IsNoIndex rows c.loop-row.row-index row c.loop-row-test.true c.row-item.is
          (map index_data c.loop-row.indexes.items) (map index_data c.match-branch-3.indexes.items) (let is = w.indexes-is in cc)
          (subst (λ (found : Option Index). IfNone found (IsNoIndex row)) w.in_default.is c.in_ok-index.ensures.other)
          c.loop-row.invariant
    ]
