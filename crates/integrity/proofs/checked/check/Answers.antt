use Rattle.std.proofs.Common.{rules, ◌≡◌, ◌+◌, All, Contains, IsTrue, List, map, sym, ◌∙◌, ap, subst, inl, inr, ⊎_elim}
use Rattle.std.specs.List.{AllZip}
use Rattle.std.proofs.lemmas.Result.{err_from_is_err_and}
use Rattle.values.specs.declared.fault.Fault.{Fault}
use Rattle.pager.specs.declared.header.Header.{Header}
use Rattle.btree.specs.image.Pages.{pages_seen, Pages}
use Rattle.pager.proofs.CallLemmas.{SameImage-trans}
use Rattle.pager.specs.PagerState.{IsPageNumber, IsSoundHeader}
use Rattle.btree.specs.image.Freelist.{IsFreelist}
use Rattle.btree.specs.page_use.Free.{header_on}
use Rattle.btree.proofs.lemmas.page_use.FrontLemmas.{front_is}
use Rattle.btree.proofs.SeenLemmas.{still_steady, same_pages}
use Rattle.schema.specs.CatalogView.{catalog_data}
use Rattle.schema.specs.indexes.IndexData.{IndexData}
use Rattle.schema.specs.indexes.IndexView.{index_data}
use Rattle.schema_keys.specs.Names.{IsSameName}
use Rattle.schema_tables.specs.TableData.{TableData}
use Rattle.integrity.specs.declared.index_trees.IndexCounts.{IndexCounts}
use Rattle.integrity.specs.Checked.{IsBrokenImage}
use Rattle.integrity.specs.Denotes.{HasCatalog}
use Rattle.integrity.specs.Indexes.{AreBrokenEntries, AreItsEntries, IsBrokenIndexTree, IsCheckedIndexOf, IsOwned, IsTableIndex}
use Rattle.integrity.specs.Keys.{HasKeyCounts}
use Rattle.integrity.specs.Used.{AreTreesTwice, MarksTrees, index_tree_of}
use Rattle.integrity.specs.Tables.{IsAnyBroken, IsAnyChecked, any_tree}
use Rattle.integrity.proofs.CheckedLemmas.{broken_table, has_tables, refused_here, refused_only, refused_rows, use_only, walk_only}
use Rattle.integrity.proofs.EntryLemmas.{tables_now}
use Rattle.integrity.proofs.IndexLemmas.{broken_entries, broken_index_tree, index_only, index_roots, its_entries, unbroken_indexes}
use Rattle.integrity.proofs.OwnerLemmas.{all_owned}
use Rattle.integrity.proofs.OneLemmas.{sound_rows}
use Rattle.integrity.proofs.RowIndexLemmas.{row_indexes}
use Rattle.integrity.proofs.TreesLemmas.{IsRestFault, IsRestOnce, indexes_twice, no_misuse, rest_broken, rest_once, schema_twice, tables_twice}
use Rattle.integrity.proofs.UnbrokenLemmas.{catalog_here, unbroken_image}
use Rattle.integrity.proofs.checked.check.Goals as goal

pub returns-in_err-own-clause-outcome : goal.returns-in_err-own-clause-outcome
returns-in_err-own-clause-outcome g c =
    let p = err_from_is_err_and c.from_residual-in_err-own.result c.from_residual-in_err-own.ensures.1 in
    rw (p.1, p.2) (record {
      only = walk_only _ c.in_err-own.ensures.only;
      cause = λ steady. ⊎_elim (λ cause. cause)
          (λ twice. inr (inr (inl (schema_twice (pages_seen c.args.pager.now.state) (c.header-pages.result.pages + 1) c.as_mut_slice-used.result.now (search rules) _ twice))))
          (c.in_err-own.ensures.fault steady);
    })

pub returns-in_err-catalog-clause-outcome : goal.returns-in_err-catalog-clause-outcome
returns-in_err-catalog-clause-outcome g c =
    let p = err_from_is_err_and c.from_residual-in_err-catalog.result c.from_residual-in_err-catalog.ensures.1 in
    rw (p.1, p.2)
    (record {
      only = refused_only _ _ _ c.in_err-catalog.ensures.refused;
      cause = λ steady.
          let count : c.header-pages.result.pages ≡ (pages_seen c.args.pager.now.state).count = ap (λ (h : Header). h.pages) c.header-pages.ensures.is in
          refused_rows (pages_seen c.args.pager.now.state) c.in_ok-own.own.rows.items (c.in_ok-own.ensures.rows steady) _
          (refused_here _ _ _ _ _ count c.as_slice.ensures.value c.in_err-catalog.ensures.refused);
    })

pub returns-in_err-trees-clause-outcome : goal.returns-in_err-trees-clause-outcome
returns-in_err-trees-clause-outcome g c =
    let p = err_from_is_err_and c.from_residual-in_err-trees.result c.from_residual-in_err-trees.ensures.1 in
    rw (p.1, p.2)
    (record {
      only = walk_only _ c.in_err-trees.ensures.only;
      cause = λ steady.
          let pages = pages_seen c.args.pager.now.state in
          let stays = c.read_schema.ensures.reads.image in
          let now = still_steady _ _ stays steady in
          let count : c.header-pages.result.pages ≡ pages.count = ap (λ (h : Header). h.pages) c.header-pages.ensures.is in
          let first = c.in_ok-own.ensures.checked steady in
          let catalog = catalog_here pages _ c.in_ok-own.own.rows.items _ c.in_ok-own.own.tree (catalog_data c.in_ok-catalog.catalog) first
          (c.in_ok-own.ensures.rows steady) count c.as_slice.ensures.value c.in_ok-catalog.ensures.said in
          (⊎_elim inl
          (λ cause. ⊎_elim
          (λ (broken : (table : TableData) × Contains c.tables-tables.result.now table × IsAnyBroken (pages_seen c.read_schema.new.pager.state) table c.in_err-trees.field-0.0).
          broken_table pages c.in_ok-own.own.rows.items (catalog_data c.in_ok-catalog.catalog) catalog broken.0 _
          (subst (λ (ts : List TableData). Contains ts broken.0) c.tables-tables.ensures broken.1)
          (subst (λ (q : Pages). IsAnyBroken q broken.0 c.in_err-trees.field-0.0) (same_pages _ _ stays) broken.2))
          (λ (twice : AreTreesTwice (pages_seen c.read_schema.new.pager.state) (map any_tree c.tables-tables.result.now) c.read_schema.new.used c.in_err-trees.field-0.0).
          inr (inr (inl (tables_twice pages (catalog_data c.in_ok-catalog.catalog) c.in_ok-own.own.rows.items catalog (c.header-pages.result.pages + 1)
          c.as_mut_slice-used.result.now c.read_schema.new.used (search rules) (c.in_ok-own.ensures.marks steady) c.in_err-trees.field-0.0
          (subst (λ (q : Pages). AreTreesTwice q (map any_tree (catalog_data c.in_ok-catalog.catalog).tables) c.read_schema.new.used c.in_err-trees.field-0.0) (same_pages _ _ stays)
          (subst (λ (ts : List TableData). AreTreesTwice (pages_seen c.read_schema.new.pager.state) (map any_tree ts) c.read_schema.new.used c.in_err-trees.field-0.0) c.tables-tables.ensures twice))))))
          cause)
          (c.in_err-trees.ensures.fault now));
    })

pub returns-in_err-index_counts-clause-outcome : goal.returns-in_err-index_counts-clause-outcome
returns-in_err-index_counts-clause-outcome g c =
    let p = err_from_is_err_and c.from_residual-in_err-index_counts.result c.from_residual-in_err-index_counts.ensures.1 in
    rw (p.1, p.2)
    (record {
      only = index_only _ c.in_err-index_counts.ensures.only;
      cause = λ steady.
          let pages = pages_seen c.args.pager.now.state in
          let stays = c.read_schema.ensures.reads.image in
          let both = SameImage-trans _ _ _ stays c.check_tables.ensures.reads.image in
          let now = still_steady _ _ stays steady in
          let count : c.header-pages.result.pages ≡ pages.count = ap (λ (h : Header). h.pages) c.header-pages.ensures.is in
          let first = c.in_ok-own.ensures.checked steady in
          let found = catalog_data c.in_ok-catalog.catalog in
          let fault = c.in_err-index_counts.field-0.0 in
          let catalog = catalog_here pages _ c.in_ok-own.own.rows.items _ c.in_ok-own.own.tree found first
          (c.in_ok-own.ensures.rows steady) count c.as_slice.ensures.value c.in_ok-catalog.ensures.said in
          let tables = subst (λ (ts : List TableData). MarksTrees pages (map any_tree ts) c.read_schema.new.used c.check_tables.new.used) c.tables-tables.ensures
          (subst (λ (q : Pages). MarksTrees q (map any_tree c.tables-tables.result.now) c.read_schema.new.used c.check_tables.new.used) (same_pages _ _ stays) (c.in_ok-trees.ensures.marks now)) in
          (⊎_elim inl
          (λ cause. ⊎_elim
          (λ (broken : (table : TableData) × (index : IndexData) × Contains c.tables-tables.result.now table × Contains (map index_data c.indexes-indexes.result.now) index
          × IsSameName index.table table.name × IsBrokenIndexTree (pages_seen c.check_tables.new.pager.state) table index fault).
          broken_index_tree pages c.in_ok-own.own.rows.items found catalog broken.0 broken.1 _
          (subst (λ (ts : List TableData). Contains ts broken.0) c.tables-tables.ensures broken.2)
          (subst (λ (is : List IndexData). Contains is broken.1) c.indexes-indexes.ensures broken.3)
          broken.4
          (subst (λ (q : Pages). IsBrokenIndexTree q broken.0 broken.1 fault) (same_pages _ _ both) broken.5))
          (λ (twice : AreTreesTwice (pages_seen c.check_tables.new.pager.state) (map index_tree_of (map index_data c.indexes-indexes.result.now)) c.check_tables.new.used fault).
          inr (inr (inl (indexes_twice pages found c.in_ok-own.own.rows.items catalog (c.header-pages.result.pages + 1)
          c.as_mut_slice-used.result.now c.read_schema.new.used (search rules) (c.in_ok-own.ensures.marks steady) c.check_tables.new.used tables fault
          (subst (λ (q : Pages). AreTreesTwice q (map index_tree_of found.indexes) c.check_tables.new.used fault) (same_pages _ _ both)
          (subst (λ (is : List IndexData). AreTreesTwice (pages_seen c.check_tables.new.pager.state) (map index_tree_of is) c.check_tables.new.used fault) c.indexes-indexes.ensures twice))))))
          cause)
          (c.in_err-index_counts.ensures.fault (still_steady _ _ both steady)));
    })

pub returns-in_err-check_rest-clause-outcome : goal.returns-in_err-check_rest-clause-outcome
returns-in_err-check_rest-clause-outcome g c =
    let p = err_from_is_err_and c.from_residual-in_err-check_rest.result c.from_residual-in_err-check_rest.ensures.1 in
    rw (p.1, p.2)
    (record {
      only = use_only _ c.in_err-check_rest.ensures.only;
      cause = λ steady.
          let state = c.args.pager.now.state in
          let pages = pages_seen state in
          let stays = c.read_schema.ensures.reads.image in
          let both = SameImage-trans _ _ _ stays c.check_tables.ensures.reads.image in
          let three = SameImage-trans _ _ _ both c.check_indexes.ensures.reads.image in
          let now = still_steady _ _ stays steady in
          let count : c.header-pages.result.pages ≡ pages.count = ap (λ (h : Header). h.pages) c.header-pages.ensures.is in
          let first = c.in_ok-own.ensures.checked steady in
          let found = catalog_data c.in_ok-catalog.catalog in
          let catalog = catalog_here pages _ c.in_ok-own.own.rows.items _ c.in_ok-own.own.tree found first
          (c.in_ok-own.ensures.rows steady) count c.as_slice.ensures.value c.in_ok-catalog.ensures.said in
          let is = c.header-pages.ensures.is in
          let front = front_is state (subst (λ (h : Header). IsSoundHeader h) is c.header-pages.ensures.sound) (sym is ∙ c.header-pages.ensures.steady steady) in
          let header : c.check_indexes.new.pager.state.header ≡ header_on pages = three.header ∙ sym front in
          let tables = subst (λ (ts : List TableData). MarksTrees pages (map any_tree ts) c.read_schema.new.used c.check_tables.new.used) c.tables-tables.ensures
          (subst (λ (q : Pages). MarksTrees q (map any_tree c.tables-tables.result.now) c.read_schema.new.used c.check_tables.new.used) (same_pages _ _ stays) (c.in_ok-trees.ensures.marks now)) in
          let indexes = subst (λ (is : List IndexData). MarksTrees pages (map index_tree_of is) c.check_tables.new.used c.check_indexes.new.used) c.indexes-indexes.ensures
          (subst (λ (q : Pages). MarksTrees q (map index_tree_of (map index_data c.indexes-indexes.result.now)) c.check_tables.new.used c.check_indexes.new.used) (same_pages _ _ both)
          (c.in_ok-index_counts.ensures.marks (still_steady _ _ both steady))) in
          (⊎_elim inl
          (λ (broken : IsRestFault (pages_seen c.check_indexes.new.pager.state) c.check_indexes.new.pager.state.header c.check_indexes.new.used c.in_err-check_rest.field-0.0).
          inr (inr (inl (rest_broken pages found c.in_ok-own.own.rows.items catalog (c.header-pages.result.pages + 1)
          c.as_mut_slice-used.result.now c.read_schema.new.used (search rules) (c.in_ok-own.ensures.marks steady) c.check_tables.new.used tables c.check_indexes.new.used indexes
          c.in_err-check_rest.field-0.0
          (subst (λ (h : Header). IsRestFault pages h c.check_indexes.new.used c.in_err-check_rest.field-0.0) header
          (subst (λ (q : Pages). IsRestFault q c.check_indexes.new.pager.state.header c.check_indexes.new.used c.in_err-check_rest.field-0.0) (same_pages _ _ three) broken))))))
          (c.in_err-check_rest.ensures.fault (still_steady _ _ three steady)));
    })

pub returns-in_err-check_entries-clause-outcome : goal.returns-in_err-check_entries-clause-outcome
returns-in_err-check_entries-clause-outcome g c =
    let p = err_from_is_err_and c.from_residual-in_err-check_entries.result c.from_residual-in_err-check_entries.ensures.1 in
    rw (p.1, p.2)
    (record {
      only = c.in_err-check_entries.ensures.only;
      cause = λ steady.
          let pages = pages_seen c.args.pager.now.state in
          let stays = c.read_schema.ensures.reads.image in
          let both = SameImage-trans _ _ _ stays c.check_tables.ensures.reads.image in
          let three = SameImage-trans _ _ _ both c.check_indexes.ensures.reads.image in
          let four = SameImage-trans _ _ _ three c.check_rest.ensures.reads.chains.image in
          let now = still_steady _ _ stays steady in
          let count : c.header-pages.result.pages ≡ pages.count = ap (λ (h : Header). h.pages) c.header-pages.ensures.is in
          let first = c.in_ok-own.ensures.checked steady in
          let found = catalog_data c.in_ok-catalog.catalog in
          let fault = c.in_err-check_entries.field-0.0 in
          let catalog = catalog_here pages _ c.in_ok-own.own.rows.items _ c.in_ok-own.own.tree found first
          (c.in_ok-own.ensures.rows steady) count c.as_slice.ensures.value c.in_ok-catalog.ensures.said in
          let numbers : All (λ table. IsPageNumber c.args.pager.now.state table.root) found.tables = search rules in
          let trees = tables_now pages (pages_seen c.check_rest.new.pager.state) found.tables c.tables-tables.result.now c.in_ok-trees.trees.items (same_pages _ _ four) c.tables-tables.ensures numbers
          (subst (λ (q : Pages). AllZip (IsAnyChecked q) c.tables-tables.result.now c.in_ok-trees.trees.items) (same_pages _ _ stays) (c.in_ok-trees.ensures.checked now)) in
          let index_trees = subst (λ (l : List IndexCounts). AllZip (IsCheckedIndexOf (pages_seen c.check_rest.new.pager.state) c.tables-tables.result.now) (map index_data c.indexes-indexes.result.now) l) (sym c.as_slice-counted.ensures.value)
          (subst (λ (q : Pages). AllZip (IsCheckedIndexOf q c.tables-tables.result.now) (map index_data c.indexes-indexes.result.now) c.in_ok-index_counts.index_counts.items) (same_pages _ _ both ∙ sym (same_pages _ _ four))
          (c.in_ok-index_counts.ensures.checked (still_steady _ _ both steady))) in
          (⊎_elim inl
          (λ (broken : (table : TableData) × (index : IndexData) × Contains c.tables-tables.result.now table × Contains (map index_data c.indexes-indexes.result.now) index
          × IsSameName index.table table.name × AreBrokenEntries (pages_seen c.check_rest.new.pager.state) table index fault).
          broken_entries pages c.in_ok-own.own.rows.items found catalog broken.0 broken.1 fault
          (subst (λ (ts : List TableData). Contains ts broken.0) c.tables-tables.ensures broken.2)
          (subst (λ (is : List IndexData). Contains is broken.1) c.indexes-indexes.ensures broken.3)
          broken.4
          (subst (λ (q : Pages). AreBrokenEntries q broken.0 broken.1 fault) (same_pages _ _ four) broken.5))
          (c.in_err-check_entries.ensures.fault (still_steady _ _ four steady) trees index_trees));
    })

pub returns-in_err-key_counts-clause-outcome : goal.returns-in_err-key_counts-clause-outcome
returns-in_err-key_counts-clause-outcome g c =
    let p = err_from_is_err_and c.from_residual-in_err-key_counts.result c.from_residual-in_err-key_counts.ensures.1 in
    rw (p.1, p.2)
    (record {
      only = c.in_err-key_counts.ensures.only;
      cause = λ steady.
          let pages = pages_seen c.args.pager.now.state in
          let stays = c.read_schema.ensures.reads.image in
          let both = SameImage-trans _ _ _ stays c.check_tables.ensures.reads.image in
          let three = SameImage-trans _ _ _ both c.check_indexes.ensures.reads.image in
          let four = SameImage-trans _ _ _ three c.check_rest.ensures.reads.chains.image in
          let five = SameImage-trans _ _ _ four c.check_entries.ensures.reads.image in
          let found = catalog_data c.in_ok-catalog.catalog in
          let numbers : All (λ table. IsPageNumber c.args.pager.now.state table.root) found.tables = search rules in
          let trees = tables_now pages (pages_seen c.check_entries.new.pager.state) found.tables c.tables-tables.result.now c.in_ok-trees.trees.items (same_pages _ _ five) c.tables-tables.ensures numbers
          (subst (λ (q : Pages). AllZip (IsAnyChecked q) c.tables-tables.result.now c.in_ok-trees.trees.items) (same_pages _ _ stays)
          (c.in_ok-trees.ensures.checked (still_steady _ _ stays steady))) in
          inl (c.in_err-key_counts.ensures.counts (still_steady _ _ five steady) trees);
    })

pub check_indexes-requires-clause-roots : goal.check_indexes-requires-clause-roots
check_indexes-requires-clause-roots g c =
    let both = SameImage-trans _ _ _ c.read_schema.ensures.reads.image c.check_tables.ensures.reads.image in
    let is = c.header-pages.ensures.is in
    subst (λ (all : List IndexData). All (λ index. IsPageNumber c.check_tables.new.pager.state index.root) all) (sym c.indexes-indexes.ensures)
    (index_roots c.check_tables.new.pager.state c.header-pages.result.pages _ (catalog_data c.in_ok-catalog.catalog)
    (ap (λ (h : Header). h.pages) (is ∙ sym both.header)) c.in_ok-catalog.ensures.said)

pub check_indexes-requires-clause-owned : goal.check_indexes-requires-clause-owned
check_indexes-requires-clause-owned g c =
    subst (λ (ts : List TableData). All (IsOwned ts) (map index_data c.indexes-indexes.result.now)) (sym c.tables-tables.ensures)
    (subst (λ (all : List IndexData). All (IsOwned (catalog_data c.in_ok-catalog.catalog).tables) all) (sym c.indexes-indexes.ensures)
    (all_owned c.header-pages.result.pages _ (catalog_data c.in_ok-catalog.catalog) c.in_ok-catalog.ensures.said))

pub check_entries-requires : goal.check_entries-requires
check_entries-requires g c =
    let both = SameImage-trans _ _ _ c.read_schema.ensures.reads.image c.check_tables.ensures.reads.image in
    let four = SameImage-trans _ _ _ (SameImage-trans _ _ _ both c.check_indexes.ensures.reads.image) c.check_rest.ensures.reads.chains.image in
    let is = c.header-pages.ensures.is in
    subst (λ (all : List IndexData). All (λ index. IsPageNumber c.check_rest.new.pager.state index.root) all) (sym c.indexes-indexes.ensures)
    (index_roots c.check_rest.new.pager.state c.header-pages.result.pages _ (catalog_data c.in_ok-catalog.catalog)
    (ap (λ (h : Header). h.pages) (is ∙ sym four.header)) c.in_ok-catalog.ensures.said)

pub returns-clause-outcome : goal.returns-clause-outcome
returns-clause-outcome g c =
    let state = c.args.pager.now.state in
    let pages = pages_seen state in
    let rows = c.in_ok-own.own.rows.items in
    let found = catalog_data c.in_ok-catalog.catalog in
    let stays = c.read_schema.ensures.reads.image in
    let both = SameImage-trans _ _ _ stays c.check_tables.ensures.reads.image in
    let three = SameImage-trans _ _ _ both c.check_indexes.ensures.reads.image in
    let four = SameImage-trans _ _ _ three c.check_rest.ensures.reads.chains.image in
    let is = c.header-pages.ensures.is in
    let count : c.header-pages.result.pages ≡ pages.count = ap (λ (h : Header). h.pages) is in
    let numbers : All (λ table. IsPageNumber c.args.pager.now.state table.root) found.tables = search rules in
    let has : IsTrue state.source.steady → HasCatalog pages rows found = λ steady.
    catalog_here pages _ rows _ c.in_ok-own.own.tree found (c.in_ok-own.ensures.checked steady)
    (c.in_ok-own.ensures.rows steady) count c.as_slice.ensures.value c.in_ok-catalog.ensures.said in
    let trees : IsTrue state.source.steady → AllZip (IsAnyChecked pages) c.tables-tables.result.now c.in_ok-trees.trees.items = λ steady.
    subst (λ (q : Pages). AllZip (IsAnyChecked q) c.tables-tables.result.now c.in_ok-trees.trees.items) (same_pages _ _ stays)
    (c.in_ok-trees.ensures.checked (still_steady _ _ stays steady)) in
    let its_trees : IsTrue state.source.steady → AllZip (IsAnyChecked pages) found.tables c.in_ok-trees.trees.items = λ steady.
    subst (λ (ts : List TableData). AllZip (IsAnyChecked pages) ts c.in_ok-trees.trees.items) c.tables-tables.ensures (trees steady) in
    let index_trees : IsTrue state.source.steady → AllZip (IsCheckedIndexOf pages c.tables-tables.result.now) (map index_data c.indexes-indexes.result.now)
    c.in_ok-index_counts.index_counts.items = λ steady.
    subst (λ (q : Pages). AllZip (IsCheckedIndexOf q c.tables-tables.result.now) (map index_data c.indexes-indexes.result.now) c.in_ok-index_counts.index_counts.items)
    (same_pages _ _ both) (c.in_ok-index_counts.ensures.checked (still_steady _ _ both steady)) in
    let its_index_trees : IsTrue state.source.steady → AllZip (IsCheckedIndexOf pages found.tables) found.indexes c.in_ok-index_counts.index_counts.items = λ steady.
    subst (λ (ts : List TableData). AllZip (IsCheckedIndexOf pages ts) found.indexes c.in_ok-index_counts.index_counts.items) c.tables-tables.ensures
    (subst (λ (all : List IndexData). AllZip (IsCheckedIndexOf pages c.tables-tables.result.now) all c.in_ok-index_counts.index_counts.items) c.indexes-indexes.ensures
    (index_trees steady)) in
    let entries : IsTrue state.source.steady → (table : TableData) (index : IndexData) → IsTableIndex pages table index → AreItsEntries pages table index = λ steady.
    let four_trees = tables_now pages (pages_seen c.check_rest.new.pager.state) found.tables c.tables-tables.result.now c.in_ok-trees.trees.items (same_pages _ _ four) c.tables-tables.ensures numbers
    (trees steady) in
    let four_index_trees = subst (λ (l : List IndexCounts). AllZip (IsCheckedIndexOf (pages_seen c.check_rest.new.pager.state) c.tables-tables.result.now) (map index_data c.indexes-indexes.result.now) l) (sym c.as_slice-counted.ensures.value)
    (subst (λ (q : Pages). AllZip (IsCheckedIndexOf q c.tables-tables.result.now) (map index_data c.indexes-indexes.result.now) c.in_ok-index_counts.index_counts.items) (sym (same_pages _ _ four))
    (index_trees steady)) in
    its_entries pages rows found (has steady)
    (λ table index among_tables among owner.
    subst (λ (q : Pages). AreItsEntries q table index) (same_pages _ _ four)
    (c.in_ok-check_entries.ensures.entries (still_steady _ _ four steady) four_trees four_index_trees table index
    (subst (λ (ts : List TableData). Contains ts table) (sym c.tables-tables.ensures) among_tables)
    (subst (λ (all : List IndexData). Contains all index) (sym c.indexes-indexes.ensures) among) owner)) in
    let whole : IsTrue state.source.steady → (fault : Fault) → ¬ IsBrokenImage pages fault = λ steady fault.
    let front = front_is state (subst (λ (h : Header). IsSoundHeader h) is c.header-pages.ensures.sound) (sym is ∙ c.header-pages.ensures.steady steady) in
    let header : c.check_indexes.new.pager.state.header ≡ header_on pages = three.header ∙ sym front in
    let tables = subst (λ (ts : List TableData). MarksTrees pages (map any_tree ts) c.read_schema.new.used c.check_tables.new.used) c.tables-tables.ensures
    (subst (λ (q : Pages). MarksTrees q (map any_tree c.tables-tables.result.now) c.read_schema.new.used c.check_tables.new.used) (same_pages _ _ stays)
    (c.in_ok-trees.ensures.marks (still_steady _ _ stays steady))) in
    let indexes = subst (λ (all : List IndexData). MarksTrees pages (map index_tree_of all) c.check_tables.new.used c.check_indexes.new.used) c.indexes-indexes.ensures
    (subst (λ (q : Pages). MarksTrees q (map index_tree_of (map index_data c.indexes-indexes.result.now)) c.check_tables.new.used c.check_indexes.new.used) (same_pages _ _ both)
    (c.in_ok-index_counts.ensures.marks (still_steady _ _ both steady))) in
    unbroken_image pages rows found c.in_ok-trees.trees.items c.in_ok-own.own.tree (c.in_ok-own.ensures.checked steady) (has steady) (its_trees steady)
    (no_misuse pages found rows (has steady)
    (subst (λ (h : Header). IsFreelist pages h.freelist h.free_pages) header
    (subst (λ (q : Pages). IsFreelist q c.check_indexes.new.pager.state.header.freelist c.check_indexes.new.pager.state.header.free_pages) (same_pages _ _ three)
    (c.in_ok-check_rest.ensures.freelist (still_steady _ _ three steady))))
    (rest_once pages found rows (has steady) (c.header-pages.result.pages + 1)
    c.as_mut_slice-used.result.now c.read_schema.new.used (search rules) (c.in_ok-own.ensures.marks steady) c.check_tables.new.used tables c.check_indexes.new.used indexes
    (subst (λ (h : Header). IsRestOnce pages h c.check_indexes.new.used) header
    (subst (λ (q : Pages). IsRestOnce q c.check_indexes.new.pager.state.header c.check_indexes.new.used) (same_pages _ _ three)
    (c.in_ok-check_rest.ensures.once (still_steady _ _ three steady))))))
    (sound_rows pages rows found (has steady))
    (unbroken_indexes pages rows found (has steady) c.in_ok-index_counts.index_counts.items (its_index_trees steady) (entries steady))
    fault in
    record {
      own_root = search rules;
      roots = search rules;
      catalog = λ steady. (rows, has steady);
      schema_tree = c.in_ok-own.ensures.checked;
      tables = λ steady.
          has_tables pages rows found c.in_ok-own.own.tree c.in_ok-trees.trees.items (has steady) (c.in_ok-own.ensures.checked steady) (its_trees steady);
      found = λ steady. record {
        trees = its_trees steady;
        key_counts =
            let five = SameImage-trans _ _ _ four c.check_entries.ensures.reads.image in
            let five_trees = tables_now pages (pages_seen c.check_entries.new.pager.state) found.tables c.tables-tables.result.now c.in_ok-trees.trees.items (same_pages _ _ five) c.tables-tables.ensures numbers
            (trees steady) in
            subst (λ (ts : List TableData). AllZip (HasKeyCounts pages) ts c.in_ok-key_counts.key_counts.items) c.tables-tables.ensures
            (subst (λ (q : Pages). AllZip (HasKeyCounts q) c.tables-tables.result.now c.in_ok-key_counts.key_counts.items) (same_pages _ _ five)
            (c.in_ok-key_counts.ensures.counts (still_steady _ _ five steady) five_trees));
        listed = row_indexes pages rows found (has steady) (entries steady) found.indexes c.in_ok-index_counts.index_counts.items (λ index h. h)
            (index_roots state c.header-pages.result.pages _ found (ap (λ (h : Header). h.pages) is) c.in_ok-catalog.ensures.said)
            (its_index_trees steady);
      };
      entries = entries;
      whole = whole;
      unbroken = λ steady fault examined. whole steady fault;
    }
