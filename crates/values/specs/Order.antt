-- The order of values and of rows. (Datatypes In SQLite, "Sort Order"; texts by the collation BINARY)
use Rattle.std.specs.Prelude.{List}
use Rattle.std.specs.Cmp.Lexicographic.{slice_cmp}
use Rattle.std.specs.Ordering.{nat_cmp, int_cmp}
use Rattle.std.specs.declared.cmp.Ordering.{Ordering}
use Rattle.std.specs.declared.cmp.Ordering.TheVariants.{Less, Equal, Greater}
use Rattle.values.specs.Datum.{Datum, null, int, text, blob}

-- NULL, integers, texts, blobs; texts and blobs by their bytes
abbrev pub datum_cmp : Datum → Datum → Ordering
datum_cmp null null = Equal
datum_cmp null _ = Less
datum_cmp (int m) null = Greater
datum_cmp (int m) (int n) = int_cmp m n
datum_cmp (int m) _ = Less
datum_cmp (text s) (text t) = slice_cmp nat_cmp s t
datum_cmp (text s) (blob t) = Less
datum_cmp (text s) _ = Greater
datum_cmp (blob s) (blob t) = slice_cmp nat_cmp s t
datum_cmp (blob s) _ = Greater

-- by the first value in which they differ; a row comes before the longer ones that it begins
abbrev pub row_cmp : List Datum → List Datum → Ordering
row_cmp = slice_cmp datum_cmp
