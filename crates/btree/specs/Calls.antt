-- What the call for a payload answers.
use Rattle.std.specs.Prelude.{ℕ, List, Option, None, Some}
use Rattle.btree.specs.image.Cell.{PayloadData}
use Rattle.btree.specs.image.Chain.{HasBytes}
use Rattle.btree.specs.image.Pages.{Pages}

-- the bytes of a payload; there are none exactly where its overflow pages are no chain of its size
abbrev pub IsBytesOf : Pages → PayloadData → Option (List ℕ) → Type 0
IsBytesOf pages payload None = (bytes : List ℕ) → ¬ HasBytes pages payload bytes
IsBytesOf pages payload (Some bytes) = HasBytes pages payload bytes
