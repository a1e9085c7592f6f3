-- The examples, computed.
use Rattle.std.proofs.Common.{◌≡◌, [], ◌∷◌, ◌++◌, codes, negsuc, pos, refl}
use Rattle.std.specs.Fmt.{digits}
use Rattle.values.specs.Datum.{null, int}
use Rattle.explain.specs.Text.{row_text}

pub example_numbers : row_text (int (pos 40) ∷ null ∷ int (negsuc 1) ∷ []) ≡ codes "40,NULL,-2" ++ 10 ∷ []
unfolding digits
example_numbers = refl
