-- The example leaf, computed.
use Rattle.std.specs.Prelude.{◌≡◌, ◌<◌, ◌≤◌, ℕ, zero, suc, negsuc, pos, [], ◌∷◌, ◌++◌, refl, replicate}
use Rattle.std.proofs.Common.{inl, inr, lit<, lit≤, arith}
use Rattle.std.proofs.lemmas.List.Elements.{All-nil, All-cons, All-replicate}
use Rattle.pager.specs.Header.{field}
use Rattle.records.specs.Varint.{GoesOn, IsVarint}
use Rattle.btree.specs.declared.image.kind.TreeKind.TheVariants.{Table}
use Rattle.btree.specs.declared.image.kind.Level.TheVariants.{Leaf}
use Rattle.btree.specs.image.Layout.{header_at, flag, cell_count, cell_place}
use Rattle.btree.specs.image.Cell.{IsTableCell}
use Rattle.btree.specs.image.Examples.{example_leaf, example_pages, first_cell, second_cell, first_bytes, second_bytes}
use Rattle.btree.specs.image.Tree.{HasCell, IsPageOf, IsRowAt, cell_at}

pub example_flag : flag (header_at 2) example_leaf ≡ 13
unfolding flag field
example_flag = refl

pub example_count : cell_count (header_at 2) example_leaf ≡ 2
unfolding cell_count field
example_count = refl

pub example_first : cell_place (header_at 2) Leaf example_leaf 0 ≡ 493
unfolding cell_place field
example_first = refl

pub example_second : cell_place (header_at 2) Leaf example_leaf 1 ≡ 483
unfolding cell_place field
example_second = refl

nine : IsVarint (9 ∷ []) (pos 9)
nine = record {
  bits = 9;
  spelt = inl (record { front = []; last = 9; parts = refl; at_most_eight = lit< tt; go_on = All-nil GoesOn; ends = lit< tt; number = refl });
  signed = refl;
}

seven : IsVarint (7 ∷ []) (pos 7)
seven = record {
  bits = 7;
  spelt = inl (record { front = []; last = 7; parts = refl; at_most_eight = lit< tt; go_on = All-nil GoesOn; ends = lit< tt; number = refl });
  signed = refl;
}

pub minus_three : IsVarint (replicate 8 0xff ++ 0xfd ∷ []) (negsuc 2)
minus_three = record {
  bits = 18446744073709551613;
  spelt = inr (record { front = replicate 8 0xff; last = 0xfd; parts = refl; eight = refl; go_on = All-replicate GoesOn 8 0xff (lit≤ tt); number = refl });
  signed = refl;
}

pub three_hundred : IsVarint (0x82 ∷ 0x2c ∷ []) (pos 300)
three_hundred = record {
  bits = 300;
  spelt = inl (record { front = 0x82 ∷ []; last = 0x2c; parts = refl; at_most_eight = lit< tt; go_on = All-cons GoesOn 0x82 [] (lit≤ tt) (All-nil GoesOn); ends = lit< tt; number = refl });
  signed = refl;
}

first_is : IsTableCell 512 first_bytes first_cell
unfolding field
first_is = record {
  rowid = negsuc 2;
  size_length = 1;
  rowid_length = 9;
  size_is = record { within = lit≤ tt; is = nine };
  rowid_is = record { within = lit≤ tt; is = minus_three };
  has_rowid = refl;
  payload = record { within = lit≤ tt; local_is = refl; overflow_is = refl };
}

second_is : IsTableCell 512 (second_bytes ++ first_bytes) second_cell
unfolding field
second_is = record {
  rowid = pos 300;
  size_length = 1;
  rowid_length = 2;
  size_is = record { within = lit≤ tt; is = seven };
  rowid_is = record { within = lit≤ tt; is = three_hundred };
  has_rowid = refl;
  payload = record { within = lit≤ tt; local_is = refl; overflow_is = refl };
}

first_at : cell_at example_pages Leaf 2 0 ≡ first_bytes
unfolding cell_place field
first_at = refl

second_at : cell_at example_pages Leaf 2 1 ≡ second_bytes ++ first_bytes
unfolding cell_place field
second_at = refl

pub first_row : IsRowAt example_pages (record { page = 2; index = 0 }) first_cell
first_row = record { is = rw first_at first_is; fits = lit≤ tt }

pub second_row : IsRowAt example_pages (record { page = 2; index = 1 }) second_cell
second_row = record { is = rw second_at second_is; fits = lit≤ tt }

two_cells : (P : ℕ → Type 0) → P 0 → P 1 → (i : ℕ) → i < 2 → P i
two_cells P first second zero h = first
two_cells P first second (suc zero) h = second
two_cells P first second (suc (suc i)) h = absurd (omega arith)

pub leaf_page : IsPageOf example_pages Table Leaf 2
unfolding cell_place cell_count flag field
leaf_page = record {
  header = record { flag_is = refl; places = lit≤ tt };
  begins = two_cells (λ i. 12 ≤ cell_place 0 Leaf example_leaf i) (lit≤ tt) (lit≤ tt);
  cells = two_cells (λ i. HasCell example_pages Table Leaf (cell_at example_pages Leaf 2 i)) (first_cell, record { is = rw first_at first_is; fits = lit≤ tt }) (second_cell, record { is = rw second_at second_is; fits = lit≤ tt });
}
