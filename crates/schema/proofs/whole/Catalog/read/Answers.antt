use Rattle.std.proofs.Common.{◌≡◌, ◌≤◌, All, Bool, MatchBool, map, sym, true, subst, ◌∙◌}
use Rattle.std.specs.List.{Any}
use Rattle.schema.specs.indexes.IndexView.{index_data}
use Rattle.schema_keys.specs.Rows.{SaysTable}
use Rattle.schema_tables.specs.TableData.{TableData}
use Rattle.schema.specs.Keyed.{HasKeyRows, LacksRow, tables_in}
use Rattle.schema.specs.KeyedView.{keyed_data}
use Rattle.schema.specs.Refused.{IsBadSchema}
use Rattle.schema.specs.Says.{AreIndexesOf, AreTablesOf, IsNoTable}
use Rattle.schema.proofs.KeyedLemmas.{are_kept, one_lacks, tables_alone, tables_said}
use Rattle.schema.proofs.PickLemmas.{picks_all}
use Rattle.schema.proofs.whole.Catalog.read.Goals as goal

pub returns-then-are_doubled-clause-refused : goal.returns-then-are_doubled-clause-refused
returns-then-are_doubled-clause-refused c = IsBadSchema.doubled (c.are_doubled.ensures.0 c.if-are_doubled.true)

pub returns-then-lack_row-clause-refused : goal.returns-then-lack_row-clause-refused
returns-then-lack_row-clause-refused c =
    let rows = c.args.rows.now in
    let told = subst (λ (b : Bool). MatchBool b (Any (LacksRow rows) (map keyed_data c.as_slice-2.result.now)) (All (HasKeyRows rows) (map keyed_data c.as_slice-2.result.now)))
    c.if-lack_row.true c.lack_row.ensures in
    let any = subst (λ xs. Any (LacksRow rows) (map keyed_data xs)) c.as_slice-2.ensures.value told in
    let found = one_lacks c.args.pages rows (map keyed_data c.in_ok-keyed.keyed.items) c.in_ok-keyed.ensures.said any in
    IsBadSchema.lacking found.0 found.1 found.2 found.3 found.4 found.5

pub returns-clause-said : goal.returns-clause-said
returns-clause-said c =
    let pages = c.args.pages in
    let rows = c.args.rows.now in
    let items = c.in_ok-keyed.keyed.items in
    let tables = tables_alone items ∙ sym c.in_ok-tables.ensures in
    let told = subst (λ (b : Bool). MatchBool b (Any (LacksRow rows) (map keyed_data c.as_slice-2.result.now)) (All (HasKeyRows rows) (map keyed_data c.as_slice-2.result.now)))
    c.if-lack_row.false c.lack_row.ensures in
    let all = subst (λ xs. All (HasKeyRows rows) (map keyed_data xs)) c.as_slice-2.ensures.value told in
    let indexes = map index_data c.in_ok-indexes.indexes.items in
    record {
      tables_are = subst (AreTablesOf pages rows) tables (tables_said pages c.in_ok-keyed.ensures.said);
      indexes_are = subst (λ ts. AreIndexesOf pages ts rows indexes) tables
          (subst (λ xs. AreIndexesOf pages (tables_in (map keyed_data xs)) rows indexes) c.as_slice.ensures.value c.in_ok-indexes.ensures.said);
      kept = are_kept pages rows (map keyed_data items) c.in_ok-keyed.ensures.said all;
      distinct = λ d. let h : c.are_doubled.result ≡ true = c.are_doubled.ensures.1 d in let e = c.if-are_doubled.false in cc;
    }

pub returns-clause-roots : goal.returns-clause-roots
returns-clause-roots c =
    let pages = c.args.pages in
    subst (All (λ (t : TableData). (2 ≤ t.root) × (t.root ≤ pages))) (tables_alone c.in_ok-keyed.keyed.items ∙ sym c.in_ok-tables.ensures)
    (picks_all (SaysTable pages) IsNoTable (λ (t : TableData). (2 ≤ t.root) × (t.root ≤ pages)) (λ row table says. (says.least, says.most))
    (tables_said pages c.in_ok-keyed.ensures.said))
