use Rattle.std.proofs.Common.{◌≡◌, ℕ, [], ap, arith, false, subst, sym}
use Rattle.std.proofs.lemmas.Result.{err_from_is_err_and}
use Rattle.btree.specs.image.Pages.{pages_seen}
use Rattle.btree_cursor.specs.cursor.Search.{IsSearchableIndex, IsUnchainedIndex}
use Rattle.btree_cursor.specs.key_ranges.Ranges.{Range, has_null}
use Rattle.btree_cursor.specs.key_ranges.View.{range as key_range}
use Rattle.schema_tables.specs.TableData.{RowKeyData}
use Rattle.records_tables.specs.Tables.{kind_of}
use Rattle.records_searches.specs.Sought.{IsEntryLanding}
use Rattle.records_searches.specs.Work.{GoesStraight}
use Rattle.records_searches.proofs.LandingLemmas.{key_landing, none_in, table_entries}
use Rattle.records_searches.proofs.search.first_of_table.Goals as goal

pub returns-in_default-clause-rows : goal.returns-in_default-clause-rows
returns-in_default-clause-rows g c = λ steady levels entries holds wide. (none_in c.args.range.now entries c.in_default.ensures.none, omega arith)

pub returns-in-Rowid-clause-rows : goal.returns-in-Rowid-clause-rows
returns-in-Rowid-clause-rows g c =
    let e = c.in-Some.ensures.found in
    let null : has_null (key_range c.in-Some.bounds) ≡ false = subst (λ (r : Range). has_null r ≡ false) (sym e.0) e.1 in
    let key = sym (rw c.in-Rowid.is at c.key.ensures.same) in
    rw (← e.0)
    (λ steady levels entries holds wide.
    c.row_in_range.ensures.rows steady c.args.table.now _ levels entries (sym c.root-root.ensures) key null
    (table_entries _ (pages_seen c.args.pager.now.state) c.args.table.now levels entries key holds) wide)

pub returns-in_err-cursor-in-Primary-clause-rows : goal.returns-in_err-cursor-in-Primary-clause-rows
returns-in_err-cursor-in-Primary-clause-rows g c = λ steady levels entries holds wide.
    let p = err_from_is_err_and c.from_residual.result c.from_residual.ensures.1 in
    let key = sym (rw c.in-Primary.is at c.key.ensures.same) in
    let has = table_entries _ (pages_seen c.args.pager.now.state) c.args.table.now levels entries key holds in
    rw (p.1, p.2)
    (c.in_err-cursor-in-Primary.ensures.lands steady levels has.values (subst (λ (n : ℕ). IsSearchableIndex (pages_seen c.args.pager.now.state) [] has.values levels n) (sym c.root-root.ensures) has.searchable))

pub returns-in_ok-cursor-in-Primary-clause-rows : goal.returns-in_ok-cursor-in-Primary-clause-rows
returns-in_ok-cursor-in-Primary-clause-rows g c =
    let e = c.in-Some.ensures.found in
    let null : has_null (key_range c.in-Some.bounds) ≡ false = subst (λ (r : Range). has_null r ≡ false) (sym e.0) e.1 in
    let key = sym (rw c.in-Primary.is at c.key.ensures.same) in
    rw (← e.0)
    (λ steady levels entries holds wide.
    let has = table_entries _ (pages_seen c.args.pager.now.state) c.args.table.now levels entries key holds in
    let lands = c.in_ok-cursor-in-Primary.ensures.lands steady levels has.values
    (subst (λ (n : ℕ). IsSearchableIndex (pages_seen c.args.pager.now.state) [] has.values levels n) (sym c.root-root.ensures) has.searchable) in
    let most = lands.1 in (
      key_landing (pages_seen c.args.pager.now.state) c.args.table.now levels (key_range c.in-Some.bounds) null _ key entries has wide c.in_ok-cursor-in-Primary.cursor c.entry_in_range.new.pager.state.asked
          (subst (λ (n : ℕ). IsEntryLanding (pages_seen c.args.pager.now.state) [] has.values levels n (key_range c.in-Some.bounds) c.in_ok-cursor-in-Primary.cursor c.entry_in_range.new.pager.state.asked) c.root-root.ensures lands.0),
      omega (arith, most),
    ))

pub returns-in-Rowid-clause-direct : goal.returns-in-Rowid-clause-direct
returns-in-Rowid-clause-direct g c =
    let e = c.in-Some.ensures.found in
    let key = sym (rw c.in-Rowid.is at c.key.ensures.same) in
    rw (← e.0)
    (λ steady levels entries holds wide straight.
    c.row_in_range.ensures.direct steady c.args.table.now levels entries (sym c.root-root.ensures)
    (table_entries _ (pages_seen c.args.pager.now.state) c.args.table.now levels entries key holds) wide
    (subst (λ (k : RowKeyData). GoesStraight k (key_range c.in-Some.bounds) entries) key straight))

pub returns-in_ok-cursor-in-Primary-clause-direct : goal.returns-in_ok-cursor-in-Primary-clause-direct
returns-in_ok-cursor-in-Primary-clause-direct g c = λ steady levels entries holds wide straight.
    let key = sym (rw c.in-Primary.is at c.key.ensures.same) in
    let has = table_entries _ (pages_seen c.args.pager.now.state) c.args.table.now levels entries key holds in
    let lands = c.in_ok-cursor-in-Primary.ensures.lands steady levels has.values
    (subst (λ (n : ℕ). IsSearchableIndex (pages_seen c.args.pager.now.state) [] has.values levels n) (sym c.root-root.ensures) has.searchable) in
    lands.1

pub returns-in_err-cursor-in-Primary-clause-unchained : goal.returns-in_err-cursor-in-Primary-clause-unchained
returns-in_err-cursor-in-Primary-clause-unchained g c = λ steady keys.
    let key = sym (rw c.in-Primary.is at c.key.ensures.same) in
    c.in_err-cursor-in-Primary.ensures.unchained steady
    (subst (λ (n : ℕ). IsUnchainedIndex (pages_seen c.args.pager.now.state) n) (sym c.root-root.ensures) (keys (ap kind_of key)))

pub returns-in_ok-cursor-in-Primary-clause-unchained : goal.returns-in_ok-cursor-in-Primary-clause-unchained
returns-in_ok-cursor-in-Primary-clause-unchained g c = λ steady keys.
    let key = sym (rw c.in-Primary.is at c.key.ensures.same) in
    c.in_ok-cursor-in-Primary.ensures.unchained steady
    (subst (λ (n : ℕ). IsUnchainedIndex (pages_seen c.args.pager.now.state) n) (sym c.root-root.ensures) (keys (ap kind_of key)))
