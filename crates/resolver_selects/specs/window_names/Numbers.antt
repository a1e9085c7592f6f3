-- Numbers that aren't negative, as they are written.
use Rattle.std.specs.Prelude.{ℕ, ℤ, pos, Option, Some, None}

abbrev pub natural : ℤ → Option ℕ
natural (pos n) = Some n
natural _ = None
