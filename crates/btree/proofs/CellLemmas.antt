-- What is read of a cell, and why there is none.
use Rattle.std.proofs.Common.{◌≡◌, ℕ, ℤ, pos, ◌+◌, ◌-◌, ◌<◌, ◌≤◌, List, length, take, drop, Option, Some, None, refl, ap, sym, ◌∙◌, subst, arith, length-drop, length-take}
use Rattle.std.specs.Prelude.{IfNone}
use Rattle.std.proofs.lemmas.List.{take_rest, drop-drop}
use Rattle.records.specs.Varint.{BeginsVarint}
use Rattle.records.proofs.VarintLemmas.{varint_some}
use Rattle.btree.specs.declared.image.kind.Level.TheVariants.{Interior}
use Rattle.btree.specs.image.Layout.{cell_place, places_end}
use Rattle.btree.specs.declared.image.kind.TreeKind.{TreeKind}
use Rattle.btree.specs.declared.image.kind.TreeKind.TheVariants.{Table, Index}
use Rattle.std.proofs.lemmas.Bool.Decides.{nat_tests}
use Rattle.pager.specs.Header.{field}
use Rattle.btree.specs.image.Cell.{most_local, local_size, overflow_size, overflow_of, CellData, PayloadData, IsPayload, IsTableCell, IsIndexCell}
use Rattle.btree.specs.image.Cell.{FitsIn}
use Rattle.btree.specs.Bytes.{IsDividerCell}

pub IfNone-always : {T : Type 0} {P : Type 0} (r : Option T) → P → IfNone r P
IfNone-always None p = p
IfNone-always (Some v) p = tt

pub IfNone-weaker : {T : Type 0} {P Q : Type 0} (r : Option T) → (P → Q) → IfNone r P → IfNone r Q
IfNone-weaker None f p = f p
IfNone-weaker (Some v) f p = tt

-- what a reader of a varint found is the only one that the bytes begin with
abbrev pub IsOnly : List ℕ → Option (ℤ × ℕ) → Type 0
IsOnly bytes found = (value : ℤ) (len : ℕ) → BeginsVarint bytes value len → found ≡ Some (value, len)

Some-same : (x y : ℤ × ℕ) → Some x ≡ Some y → x ≡ y
Some-same x y e = cc

pos-same : (m n : ℕ) → pos m ≡ pos n → m ≡ n
pos-same m n e = cc

-- a payload that isn't whole in its cell
pub overflow_size-long : (kind : TreeKind) (usable size : ℕ) → most_local kind usable < size → overflow_size kind usable size ≡ 4
overflow_size-long kind usable size long = grind (arith, nat_tests)

pub overflow_of-long : (kind : TreeKind) (usable size : ℕ) (bytes : List ℕ) → most_local kind usable < size
    → overflow_of kind usable size bytes ≡ Some (field bytes (local_size kind usable size) 4)
overflow_of-long kind usable size bytes long = grind (arith, nat_tests)

-- one that is
pub local_size-short : (kind : TreeKind) (usable size : ℕ) → size ≤ most_local kind usable → local_size kind usable size ≡ size
local_size-short kind usable size short = grind (arith, nat_tests)

pub overflow_size-short : (kind : TreeKind) (usable size : ℕ) → size ≤ most_local kind usable → overflow_size kind usable size ≡ 0
overflow_size-short kind usable size short = grind (arith, nat_tests)

pub overflow_of-short : (kind : TreeKind) (usable size : ℕ) (bytes : List ℕ) → size ≤ most_local kind usable → overflow_of kind usable size bytes ≡ None
overflow_of-short kind usable size bytes short = grind (arith, nat_tests)

-- no payload stands in fewer bytes than it has there
pub no_short : (kind : TreeKind) (usable size : ℕ) (bytes : List ℕ) → size ≤ most_local kind usable → length bytes < size
    → (payload : PayloadData) → payload.size ≡ size → ¬ IsPayload kind usable bytes payload
no_short kind usable size bytes short few payload same is =
    let local = local_size-short kind usable size short in
    let at : local_size kind usable payload.size ≡ local_size kind usable size = ap (local_size kind usable) same in
    let within = is.within in
    omega (arith, local, at, within, few)

-- a varint has a byte
pub begins_some : (xs : List ℕ) (v : ℤ) (len : ℕ) → BeginsVarint xs v len → 0 < length xs
begins_some xs v len begins = let l : 0 < length (take len xs) = varint_some (take len xs) v begins.is in omega (arith, length-take len xs)

-- so many bytes are behind a place, as a slice has them
abbrev pub rest_of : List ℕ → ℕ → List ℕ
rest_of bytes n = take (length bytes - n) (drop n bytes)

abbrev pub IsNone : (CellData → Type 0) → Type 0
IsNone P = (cell : CellData) → ¬ P cell

module _ (usable most : ℕ) (bytes : List ℕ) (size : ℤ) (size_length : ℕ) (only : IsOnly bytes (Some (size, size_length))) where
  size_at : (cell : CellData) (len : ℕ) → BeginsVarint bytes (pos cell.payload.size) len → size ≡ pos cell.payload.size
  size_at cell len begins = ap (λ (p : ℤ × ℕ). p.0) (Some-same _ _ (only (pos cell.payload.size) len begins))

  length_at : (cell : CellData) (len : ℕ) → BeginsVarint bytes (pos cell.payload.size) len → len ≡ size_length
  length_at cell len begins = sym (ap (λ (p : ℤ × ℕ). p.1) (Some-same _ _ (only (pos cell.payload.size) len begins)))

  rowid_at : (cell : CellData) (h : IsTableCell usable bytes cell) → BeginsVarint (rest_of bytes size_length) h.rowid h.rowid_length
  rowid_at cell h =
      rw (take_rest bytes size_length)
      (subst (λ (n : ℕ). BeginsVarint (drop n bytes) h.rowid h.rowid_length) (length_at cell h.size_length h.size_is) h.rowid_is)

  pub no_rowid : IsOnly (rest_of bytes size_length) None → IsNone (FitsIn most (IsTableCell usable bytes))
  no_rowid none cell h = let e = none _ _ (rowid_at cell h.is) in cc

  pub no_size : ((n : ℕ) → size ≡ pos n → ¬ (n ≤ most)) → IsNone (FitsIn most (IsTableCell usable bytes))
  no_size none cell h = none cell.payload.size (size_at cell h.is.size_length h.is.size_is) h.fits

  module _ (rowid : ℤ) (rowid_length n : ℕ) (n_is : size ≡ pos n) where
    pub no_payload : IsOnly (rest_of bytes size_length) (Some (rowid, rowid_length))
        → ((payload : PayloadData) → payload.size ≡ n → ¬ IsPayload Table usable (rest_of (rest_of bytes size_length) rowid_length) payload)
        → IsNone (FitsIn most (IsTableCell usable bytes))
    no_payload only_rowid none cell h =
        let same : h.is.rowid_length ≡ rowid_length = sym (ap (λ (p : ℤ × ℕ). p.1) (Some-same _ _ (only_rowid _ _ (rowid_at cell h.is)))) in
        let size_is : pos cell.payload.size ≡ pos n = sym (size_at cell h.is.size_length h.is.size_is) ∙ n_is in
        let length_is : h.is.size_length ≡ size_length = length_at cell h.is.size_length h.is.size_is in
        let at : drop (h.is.size_length + h.is.rowid_length) bytes ≡ drop rowid_length (drop size_length bytes) =
        ap (λ (k : ℕ). drop (k + h.is.rowid_length) bytes) length_is ∙ ap (λ (k : ℕ). drop (size_length + k) bytes) same
        ∙ sym (drop-drop rowid_length size_length bytes) in
        none cell.payload (pos-same _ _ size_is)
        (rw (take_rest bytes size_length, take_rest (drop size_length bytes) rowid_length) (subst (λ (b : List ℕ). IsPayload Table usable b cell.payload) at h.is.payload))

    pub table_found : (payload : PayloadData) → BeginsVarint bytes size size_length → BeginsVarint (rest_of bytes size_length) rowid rowid_length → payload.size ≡ n → n ≤ most
        → IsPayload Table usable (rest_of (rest_of bytes size_length) rowid_length) payload
        → FitsIn most (IsTableCell usable bytes) (record { rowid = Some rowid; payload = payload })
    table_found payload first second same fits found = record {
      is = record {
        rowid = rowid;
        size_length = size_length;
        rowid_length = rowid_length;
        size_is = subst (λ (z : ℤ). BeginsVarint bytes z size_length) (n_is ∙ ap pos (sym same)) first;
        rowid_is = (rw (take_rest bytes size_length) at second);
        has_rowid = refl;
        payload =
            let here : IsPayload Table usable (drop rowid_length (drop size_length bytes)) payload = rw (take_rest bytes size_length, take_rest (drop size_length bytes) rowid_length) at found in
            rw (← drop-drop rowid_length size_length bytes) here;
      };
      fits = rw same fits;
    }

  -- the same of an index
  index_size : (cell : CellData) (h : IsIndexCell usable bytes cell) → size ≡ pos cell.payload.size
  index_size cell h = size_at cell h.size_length h.size_is

  pub no_index_size : ((n : ℕ) → size ≡ pos n → ¬ (n ≤ most)) → IsNone (FitsIn most (IsIndexCell usable bytes))
  no_index_size none cell h = none cell.payload.size (index_size cell h.is) h.fits

  module _ (n : ℕ) (n_is : size ≡ pos n) where
    pub no_index_payload : ((payload : PayloadData) → payload.size ≡ n → ¬ IsPayload Index usable (rest_of bytes size_length) payload)
        → IsNone (FitsIn most (IsIndexCell usable bytes))
    no_index_payload none cell h =
        let size_is : pos cell.payload.size ≡ pos n = sym (index_size cell h.is) ∙ n_is in
        let length_is : h.is.size_length ≡ size_length = length_at cell h.is.size_length h.is.size_is in
        none cell.payload (pos-same _ _ size_is)
        (rw (take_rest bytes size_length) (subst (λ (k : ℕ). IsPayload Index usable (drop k bytes) cell.payload) length_is h.is.payload))

    pub index_found : (payload : PayloadData) → BeginsVarint bytes size size_length → payload.size ≡ n → n ≤ most
        → IsPayload Index usable (rest_of bytes size_length) payload → FitsIn most (IsIndexCell usable bytes) (record { rowid = None; payload = payload })
    index_found payload first same fits found = record {
      is = record {
        size_length = size_length;
        size_is = subst (λ (z : ℤ). BeginsVarint bytes z size_length) (n_is ∙ ap pos (sym same)) first;
        no_rowid = refl;
        payload = (rw (take_rest bytes size_length) at found);
      };
      fits = rw same fits;
    }

-- the key of a cell of an interior page, which stands behind the number of its child
module _ (at : ℕ) (page : List ℕ) (i place : ℕ) (is : place ≡ cell_place at Interior page i) where
  abbrev key_bytes : List ℕ
  key_bytes = drop 4 (drop (cell_place at Interior page i) page)

  key_at : rest_of page (place + 4) ≡ key_bytes
  key_at = take_rest page (place + 4) ∙ ap (λ (n : ℕ). drop (n + 4) page) is ∙ sym (drop-drop 4 (cell_place at Interior page i) page)

  pub no_divider_before : place < places_end at Interior page → (key : ℤ) → ¬ IsDividerCell at page i key
  no_divider_before before key h = let begins = h.begins in absurd (omega (arith, is, begins))

  pub no_divider_inside : length page < place + 4 → (key : ℤ) → ¬ IsDividerCell at page i key
  no_divider_inside past key h =
      let some = begins_some key_bytes key h.is.length h.is.key_is in
      let inner = length-drop (cell_place at Interior page i) page in
      let outer = length-drop 4 (drop (cell_place at Interior page i) page) in
      absurd (omega (arith, is, some, inner, outer))

  pub no_divider_key : IsOnly (rest_of page (place + 4)) None → (key : ℤ) → ¬ IsDividerCell at page i key
  no_divider_key none key h =
      let e = none key h.is.length (subst (λ (b : List ℕ). BeginsVarint b key h.is.length) (sym key_at) h.is.key_is) in cc

  pub divider_found : (key : ℤ) (len : ℕ) → places_end at Interior page ≤ place → BeginsVarint (rest_of page (place + 4)) key len → IsDividerCell at page i key
  divider_found key len behind begins = record {
    begins = omega (arith, is);
    is = record { length = len; key_is = subst (λ (b : List ℕ). BeginsVarint b key len) key_at begins };
  }
