-- Numbers that tell most of an order. (SELECT, "The ORDER BY clause")
use Rattle.std.specs.Prelude.{◌+◌, ◌-◌, ◌%◌, ◌^◌, ⊤, Bool, FitsSigned, if◌then◌else◌}
use Rattle.std.specs.Int.{cast_unsigned, from_be_bytes, w64}
use Rattle.values.specs.Datum.{Datum, null, int, text, blob}
use Rattle.semantics.specs.Query.{Direction}
use Rattle.windows_groups.specs.declared.window_order.ranks.Rank.{Rank}

-- a number counted from the least one; or the first eight bytes, of which those that lack are zeros
abbrev pub ascending_rank : Datum → Rank
ascending_rank null = record { class = 0; bits = 0 }
ascending_rank (int n) = record { class = 1; bits = (cast_unsigned w64 n + 2 ^ 63) % 2 ^ 64 }
ascending_rank (text s) = record { class = 2; bits = from_be_bytes w64 s }
ascending_rank (blob s) = record { class = 3; bits = from_be_bytes w64 s }

-- the last rank first
abbrev pub turned : Rank → Rank
turned r = record { class = 4 - r.class; bits = 2 ^ 64 - 1 - r.bits }

abbrev pub along : Bool → Rank → Rank
along descending r = if descending then turned r else r

-- NULLs first or last
abbrev pub rank_of : Direction → Datum → Rank
rank_of d null = record { class = if d.nulls_first then 0 else 4; bits = 0 }
rank_of d (int n) = along d.descending (ascending_rank (int n))
rank_of d (text s) = along d.descending (ascending_rank (text s))
rank_of d (blob s) = along d.descending (ascending_rank (blob s))

-- NULL, or a number of 64 bits: among such values ranks tell the whole order
abbrev pub IsNumber : Datum → Type 0
IsNumber null = ⊤
IsNumber (int n) = FitsSigned w64 n
IsNumber (text _) = ⊥
IsNumber (blob _) = ⊥
