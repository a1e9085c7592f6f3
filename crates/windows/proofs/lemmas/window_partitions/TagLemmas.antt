-- The rows of entries with their numbers.
use Rattle.std.proofs.Common.{◌≡◌, ◌∙◌, ◌+◌, ℕ, suc, List, [], ◌∷◌, length, map, refl, sym, ap, Vec, Global}
use Rattle.std.specs.List.{range_with_len}
use Rattle.std.proofs.lemmas.List.{length-map}
use Rattle.values.specs.Datum.{datum_of}
use Rattle.values.specs.declared.value.Value.{Value}
use Rattle.windows_groups.specs.declared.window_order.sorting.Entry.{Entry}
use Rattle.windows_groups.specs.window_order.Entries.{rows_of}
use Rattle.windows.specs.window_entries.Tags.{tags_of}
use Rattle.windows.specs.window_partitions.Tagged.{tagged}

tags_from : (es : List Entry) (n : ℕ) → map (λ (e : Entry). e.index) es ≡ range_with_len n (length es) → tags_of es ≡ tagged n (rows_of es)
tags_from [] n is = refl
tags_from (e ∷ es) n is =
    let first : e.index ≡ n = cc in
    let rest : map (λ (e : Entry). e.index) es ≡ range_with_len (n + 1) (length es) = cc in
    (λ i. (map datum_of e.row.now, first i) ∷ tags_from es (n + 1) rest i)

pub all_tags : (es : List Entry) (rows : List (Vec Value Global)) → rows_of es ≡ map (λ (row : Vec Value Global). map datum_of row.items) rows
    → map (λ (e : Entry). e.index) es ≡ range_with_len 0 (length rows) → tags_of es ≡ tagged 0 (map (λ (row : Vec Value Global). map datum_of row.items) rows)
all_tags es rows are places =
    let size : length rows ≡ length es = sym (length-map rows (λ (row : Vec Value Global). map datum_of row.items)) ∙ ap length (sym are) ∙ length-map es (λ (e : Entry). map datum_of e.row.now) in
    tags_from es 0 (places ∙ ap (range_with_len 0) size) ∙ ap (tagged 0) are

pub length-tagged : {X : Type 0} (n : ℕ) (xs : List X) → length (tagged n xs) ≡ length xs
length-tagged n [] = refl
length-tagged n (x ∷ xs) = ap suc (length-tagged (n + 1) xs)
