-- Bytes, a cell and a place are one row of a table at most, which has no fault; and a table's rows are one list.
use Rattle.std.proofs.Common.{◌≡◌, ◌∙◌, ℕ, ℤ, suc, ◌<ℤ◌, Contains, List, [], ◌∷◌, Option, Some, refl, sym, ap, subst, inl, inr, ⊎_elim, arith}
use Rattle.std.specs.List.{AllZip}
use Rattle.std.proofs.lemmas.Int.{ints}
use Rattle.std.proofs.lemmas.Option.{slice_get-get_or}
use Rattle.values.specs.Datum.{Datum}
use Rattle.values.specs.Row.{Row}
use Rattle.values.specs.declared.fault.Fault.{Fault}
use Rattle.values.specs.declared.fault.Fault.TheVariants.{BadChain, BadRecord, FloatValue, BadText, ValueBreaksColumn}
use Rattle.records.specs.declared.fault.RecordFault.{RecordFault}
use Rattle.records.specs.declared.fault.RecordFault.TheVariants as r
use Rattle.records.specs.Record.{Breaks, IsRecord}
use Rattle.records.proofs.RecordLemmas.{not_broken, one_record}
use Rattle.btree.specs.declared.image.kind.Level.TheVariants.{Leaf}
use Rattle.btree.specs.image.Broken.{HasRowid}
use Rattle.btree.specs.image.Cell.{CellData}
use Rattle.btree.specs.image.Pages.{Pages}
use Rattle.btree.specs.image.Sound.{AreRowsOf, RowidsAscend}
use Rattle.btree.specs.image.Tree.{Place}
use Rattle.btree.proofs.lemmas.image.CellLemmas.{one_cell}
use Rattle.btree.proofs.lemmas.image.ChainLemmas.{one_payload}
use Rattle.btree.proofs.lemmas.image.ListLemmas.{cons_cases, in_head, in_none, in_tail}
use Rattle.btree.proofs.lemmas.image.TableLemmas.{leaf_place, rowids}
use Rattle.schema_tables.proofs.ZipLemmas.{zip_same}
use Rattle.schema_tables.specs.TableData.{MissingData, TableData, rowid_of}
use Rattle.records_tables.specs.stored_rows.RowFaults.{HasRecordFault, IsCellFault, IsRecordFault}
use Rattle.records_tables.specs.stored_rows.Stored.{Fits, HoldsRows, IsNoRow, IsRowFrom, IsRowOf, IsRowRecord, StoresRow, filled_values, row_from}
use Rattle.records_tables.proofs.lemmas.stored_rows.FilledLemmas.{fills_same, none_refused}

bad_memory : r.Bad ≡ r.NoMemory → ⊥
bad_memory e = cc

float_memory : r.Float ≡ r.NoMemory → ⊥
float_memory e = cc

text_memory : r.Text ≡ r.NoMemory → ⊥
text_memory e = cc

no_break : (fault : RecordFault) (bytes : List ℕ) (values : List Datum) → Breaks fault bytes → IsRecord bytes values → fault ≡ r.NoMemory
no_break = not_broken

-- bytes are the record of one row at most
pub one_record_row : (table : TableData) (rowid : Option ℤ) (bytes : List ℕ) (a b : Row) → IsRowRecord table rowid bytes a
    → IsRowRecord table rowid bytes b → a ≡ b
one_record_row table rowid bytes a b one other =
    let values = one_record bytes one.values other.values one.record_is other.record_is in
    let filled =
    fills_same one.makes.filled other.makes.filled (one.makes.filled_is ∙ (λ k. filled_values table (values k)) ∙ sym other.makes.filled_is) in
    one.makes.row_is ∙ (λ k. row_from (rowid_of table.key) rowid (filled k)) ∙ sym other.makes.row_is

-- a record that is that of a row isn't that of none
is_some : (table : TableData) (rowid : Option ℤ) (values : List Datum) (row : Row) → IsRowFrom table rowid values row → ¬ IsNoRow table values
is_some table rowid values row makes (inl more) = omega (arith, more, makes.few)
is_some table rowid values row makes (inr refused) =
    none_refused makes.filled (subst (λ (l : List MissingData). Contains l MissingData.Refused) (sym makes.filled_is) refused)

-- bytes that are the record of a row have no fault
pub no_record_fault : (table : TableData) (rowid : Option ℤ) (bytes : List ℕ) (row : Row) (fault : RecordFault) → IsRowRecord table rowid bytes row
    → IsRecordFault table bytes fault → fault ≡ r.NoMemory
no_record_fault table rowid bytes row r.Bad is (inl breaks) = no_break r.Bad bytes is.values breaks is.record_is
no_record_fault table rowid bytes row r.Bad is (inr (values, record_is, none)) =
    absurd (is_some table rowid is.values row is.makes
    (subst (λ (l : List Datum). IsNoRow table l) (one_record bytes values is.values record_is is.record_is) none))
no_record_fault table rowid bytes row r.Float is breaks = no_break r.Float bytes is.values breaks is.record_is
no_record_fault table rowid bytes row r.Text is breaks = no_break r.Text bytes is.values breaks is.record_is
no_record_fault table rowid bytes row r.NoMemory is breaks = refl

module _ (pages : Pages) (table : TableData) (cell : CellData) where
  -- a cell is one row of its table at most
  pub one_row : (a b : Row) → IsRowOf pages table cell a → IsRowOf pages table cell b → a ≡ b
  one_row a b one other =
      let same = one_payload pages cell.payload one.bytes other.bytes one.whole other.whole in
      one_record_row table cell.rowid other.bytes a b (subst (λ (x : List ℕ). IsRowRecord table cell.rowid x a) same one.is) other.is

  no_fault : (row : Row) (fault : RecordFault) → IsRowOf pages table cell row → HasRecordFault pages table cell fault → fault ≡ r.NoMemory
  no_fault row fault is broken =
      let same = one_payload pages cell.payload broken.bytes is.bytes broken.whole is.whole in
      no_record_fault table cell.rowid is.bytes row fault is.is (subst (λ (x : List ℕ). IsRecordFault table x fault) same broken.broken)

  -- a cell that is a row, whose values are of its columns, has no fault
  pub unbroken_cell : (n : ℕ) (row : Row) (fault : Fault) → IsRowOf pages table cell row → Fits table row → IsCellFault pages table n cell fault → ⊥
  unbroken_cell n row (BadChain m) is fits (e, none) = none is.bytes is.whole
  unbroken_cell n row (BadRecord m) is fits (e, broken) = bad_memory (no_fault row r.Bad is broken)
  unbroken_cell n row FloatValue is fits broken = float_memory (no_fault row r.Float is broken)
  unbroken_cell n row BadText is fits broken = text_memory (no_fault row r.Text is broken)
  unbroken_cell n row (ValueBreaksColumn name) is fits (named, (other, is_other, misfit)) =
      misfit (subst (λ (x : Row). Fits table x) (one_row row other is is_other) fits)
  unbroken_cell n row fault is fits broken = absurd broken

module _ (pages : Pages) where
  -- rows of one place are one
  pub one_stored : (table : TableData) (place : Place) (a b : Row) → StoresRow pages table place a → StoresRow pages table place b → a ≡ b
  one_stored table place a b one other =
      let same = one_cell pages place one.cell other.cell one.at other.at in
      one_row pages table other.cell a b (subst (λ (c : CellData). IsRowOf pages table c a) same one.is) other.is

  abbrev HasKey : Place → ℤ → Type 0
  HasKey x key = HasRowid pages Leaf x.page x.index key

  abbrev HaveKeys : List Place → Type 0
  HaveKeys places = (x : Place) → Contains places x → (key : ℤ) × HasKey x key

  never : (x : ℤ) → x <ℤ x → ⊥
  never x less = omega (arith, ints)

  not_both_before : (x y : ℤ) → x <ℤ y → y <ℤ x → ⊥
  not_both_before x y less more = omega (arith, ints)

  -- the first is before each of the others
  first_before : (x y : Place) (xs : List Place) (a b : ℤ) → RowidsAscend pages (x ∷ xs) → Contains xs y → HasKey x a → HasKey y b → a <ℤ b
  first_before x y xs a b ascend h key other =
      ascend 0 (suc h.0) x y a b (omega arith) refl (slice_get-get_or xs h.0 y h.1 ∙ ap Some h.2) key other

  rest_ascend : (x : Place) (xs : List Place) → RowidsAscend pages (x ∷ xs) → RowidsAscend pages xs
  rest_ascend x xs ascend = λ i j y z a b less at_y at_z. ascend (suc i) (suc j) y z a b (omega (arith, less)) at_y at_z

  -- of two such lists of the same places the first are the same
  one_first : (x y : Place) (xs ys : List Place) → RowidsAscend pages (x ∷ xs) → RowidsAscend pages (y ∷ ys) → HaveKeys (x ∷ xs) → HaveKeys (y ∷ ys)
      → Contains (y ∷ ys) x → Contains (x ∷ xs) y → x ≡ y
  one_first x y xs ys p q keys others there back = ⊎_elim
      (λ (e : y ≡ x). sym e)
      (λ (later : Contains ys x). ⊎_elim
      (λ (e : x ≡ y). e)
      (λ (behind : Contains xs y).
      let a = keys x (in_head x xs) in
      let b = others y (in_head y ys) in
      absurd (not_both_before a.0 b.0 (first_before x y xs a.0 b.0 p behind a.1 b.1) (first_before y x ys b.0 a.0 q later b.1 a.1)))
      (cons_cases x y xs back))
      (cons_cases y x ys there)

  -- and so the others
  others_there : (x y z : Place) (xs ys : List Place) → RowidsAscend pages (x ∷ xs) → HaveKeys (x ∷ xs) → x ≡ y → Contains (y ∷ ys) z → Contains xs z → Contains ys z
  others_there x y z xs ys p keys same there h = ⊎_elim
      (λ (e : y ≡ z).
      let a = keys x (in_head x xs) in
      absurd (never a.0 (first_before x z xs a.0 a.0 p h a.1 (subst (λ (w : Place). HasKey w a.0) (same ∙ e) a.1))))
      (λ (later : Contains ys z). later)
      (cons_cases y z ys there)

  one_ascending : (xs ys : List Place) → RowidsAscend pages xs → RowidsAscend pages ys → HaveKeys xs → HaveKeys ys
      → ((z : Place) → Contains xs z → Contains ys z) → ((z : Place) → Contains ys z → Contains xs z) → xs ≡ ys
  one_ascending [] [] p q keys others there back = refl
  one_ascending [] (y ∷ ys) p q keys others there back = absurd (in_none y (back y (in_head y ys)))
  one_ascending (x ∷ xs) [] p q keys others there back = absurd (in_none x (there x (in_head x xs)))
  one_ascending (x ∷ xs) (y ∷ ys) p q keys others there back =
      let first : x ≡ y = one_first x y xs ys p q keys others (there x (in_head x xs)) (back y (in_head y ys)) in
      let rest : xs ≡ ys = one_ascending xs ys (rest_ascend x xs p) (rest_ascend y ys q)
      (λ z h. keys z (in_tail x z xs h)) (λ z h. others z (in_tail y z ys h))
      (λ z h. others_there x y z xs ys p keys first (there z (in_tail x z xs h)) h)
      (λ z h. others_there y x z ys xs q others (sym first) (back z (in_tail y z ys h)) h) in
      λ k. first k ∷ rest k

  have_keys : (root : ℕ) (places : List Place) → AreRowsOf pages root places → HaveKeys places
  have_keys root places are x h =
      let is = are.cells.sound x h in
      (rowids pages).key_of Leaf x.page x.index (leaf_place pages is.level x.page is.entries is.page) is.within

  pub one_places : (root : ℕ) (xs ys : List Place) → AreRowsOf pages root xs → AreRowsOf pages root ys → xs ≡ ys
  one_places root xs ys p q = one_ascending xs ys p.ascend q.ascend (have_keys root xs p) (have_keys root ys q)
      (λ z h. q.cells.complete z (p.cells.sound z h)) (λ z h. p.cells.complete z (q.cells.sound z h))

  pub one_rows : (table : TableData) (a b : List Row) → HoldsRows pages table a → HoldsRows pages table b → a ≡ b
  one_rows table a b p q =
      let places = one_places table.root p.places q.places p.cells q.cells in
      zip_same (StoresRow pages table) (one_stored table) q.places a b
      (subst (λ (l : List Place). AllZip (StoresRow pages table) l a) places p.rows_are) q.rows_are
