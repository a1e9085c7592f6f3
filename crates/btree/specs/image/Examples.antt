-- A leaf of a table, as SQLite 3.40 wrote it: page 2, of 512 bytes, of
--     CREATE TABLE item(id INTEGER PRIMARY KEY, name TEXT NOT NULL, qty INT) STRICT
-- with the rows (-3, 'bolt', 40) and (300, 'nut', NULL).
use Rattle.std.specs.Prelude.{ℕ, ◌==◌, if◌then◌else◌, List, [], ◌∷◌, ◌++◌, replicate, Some, None, negsuc, pos}
use Rattle.btree.specs.image.Pages.{Pages}
use Rattle.btree.specs.image.Cell.{CellData}

-- a header, two cell places, and zeros up to the cells, of which the last begins first
abbrev pub example_front : List ℕ
example_front = 13 ∷ 0 ∷ 0 ∷ 0 ∷ 2 ∷ 1 ∷ 227 ∷ 0 ∷ 1 ∷ 237 ∷ 1 ∷ 227 ∷ []

abbrev pub second_bytes : List ℕ
second_bytes = 7 ∷ 130 ∷ 44 ∷ 4 ∷ 0 ∷ 19 ∷ 0 ∷ 110 ∷ 117 ∷ 116 ∷ []

abbrev pub first_bytes : List ℕ
first_bytes = 9 ∷ 255 ∷ 255 ∷ 255 ∷ 255 ∷ 255 ∷ 255 ∷ 255 ∷ 255 ∷ 253 ∷ 4 ∷ 0 ∷ 21 ∷ 1 ∷ 98 ∷ 111 ∷ 108 ∷ 116 ∷ 40 ∷ []

abbrev pub example_leaf : List ℕ
example_leaf = example_front ++ (replicate 471 0 ++ (second_bytes ++ first_bytes))

abbrev pub example_pages : Pages
example_pages = record { count = 2; usable = 512; size = 1024; page = λ _. example_leaf }

abbrev pub first_cell : CellData
first_cell = record { rowid = Some (negsuc 2); payload = record { size = 9; local = 4 ∷ 0 ∷ 21 ∷ 1 ∷ 98 ∷ 111 ∷ 108 ∷ 116 ∷ 40 ∷ []; overflow = None } }

abbrev pub second_cell : CellData
second_cell = record { rowid = Some (pos 300); payload = record { size = 7; local = 4 ∷ 0 ∷ 19 ∷ 0 ∷ 110 ∷ 117 ∷ 116 ∷ []; overflow = None } }

-- A table's tree of two leaves, as SQLite 3.40 wrote it: pages 2 to 4, of 512 bytes, of
--     CREATE TABLE item(id INTEGER PRIMARY KEY, body BLOB) STRICT
-- with the rows (-3, zeroblob(300)) and (300, zeroblob(300)).

abbrev pub table_root : List ℕ
table_root = (5 ∷ 0 ∷ 0 ∷ 0 ∷ 1 ∷ 1 ∷ 243 ∷ 0 ∷ 0 ∷ 0 ∷ 0 ∷ 4 ∷ 1 ∷ 243 ∷ [])
    ++ (replicate 485 0 ++ (0 ∷ 0 ∷ 0 ∷ 3 ∷ 255 ∷ 255 ∷ 255 ∷ 255 ∷ 255 ∷ 255 ∷ 255 ∷ 255 ∷ 253 ∷ []))

-- the payload of a row: 304 bytes
abbrev pub blob_payload : List ℕ
blob_payload = 4 ∷ 0 ∷ 132 ∷ 100 ∷ replicate 300 0

abbrev pub left_bytes : List ℕ
left_bytes = 130 ∷ 48 ∷ 255 ∷ 255 ∷ 255 ∷ 255 ∷ 255 ∷ 255 ∷ 255 ∷ 255 ∷ 253 ∷ blob_payload

abbrev pub right_bytes : List ℕ
right_bytes = 130 ∷ 48 ∷ 130 ∷ 44 ∷ blob_payload

abbrev pub left_leaf : List ℕ
left_leaf = (13 ∷ 0 ∷ 0 ∷ 0 ∷ 1 ∷ 0 ∷ 197 ∷ 0 ∷ 0 ∷ 197 ∷ []) ++ (replicate 187 0 ++ left_bytes)

abbrev pub right_leaf : List ℕ
right_leaf = (13 ∷ 0 ∷ 0 ∷ 0 ∷ 1 ∷ 0 ∷ 204 ∷ 0 ∷ 0 ∷ 204 ∷ []) ++ (replicate 194 0 ++ right_bytes)

abbrev pub table_pages : Pages
table_pages = record {
  count = 4;
  usable = 512;
  size = 2048;
  page = λ n. if n == 2 then table_root else if n == 3 then left_leaf else right_leaf;
}

abbrev pub left_cell : CellData
left_cell = record { rowid = Some (negsuc 2); payload = record { size = 304; local = blob_payload; overflow = None } }

abbrev pub right_cell : CellData
right_cell = record { rowid = Some (pos 300); payload = record { size = 304; local = blob_payload; overflow = None } }

-- Two overflow pages of 512 bytes, pages 2 and 3: the first is full of ones, and of the second two bytes are used.
abbrev pub chain_front : List ℕ
chain_front = (0 ∷ 0 ∷ 0 ∷ 3 ∷ []) ++ replicate 508 1

abbrev pub chain_back : List ℕ
chain_back = (0 ∷ 0 ∷ 0 ∷ 0 ∷ 2 ∷ 3 ∷ []) ++ replicate 506 0

abbrev pub chain_pages : Pages
chain_pages = record { count = 3; usable = 512; size = 1536; page = λ n. if n == 2 then chain_front else chain_back }
