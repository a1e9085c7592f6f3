-- Rows that were written as lines.
use Rattle.std.specs.Prelude.{◌≡◌, ◌≢◌, ◌^◌, ◌-◌, ℕ, min, List, length}
use Rattle.std.specs.Io.KnownBytes.{Appends}
use Rattle.values.specs.Sink.{SinkFacts, WritesFront}
use Rattle.values.specs.declared.fault.Fault.{Fault}
use Rattle.values.specs.declared.fault.Fault.TheVariants.{WriteFailed}
use Rattle.values.specs.Row.{Row}
use Rattle.explain.specs.Text.{rows_text}

-- the text of all these rows was written, and so many were counted, up to the greatest number of 64 bits
pub record Prints (rows : List Row) (counted : ℕ) (old new : SinkFacts) : Type 0 where
  pub written : Appends old.written new.written (rows_text rows)
  pub counted_is : counted ≡ min (length rows) (2 ^ 64 - 1)

-- at a failed write a beginning of the text of these rows was written, at another fault the whole of it
pub record PrintsUntil (fault : Fault) (given : List Row) (old new : SinkFacts) : Type 0 where
  pub cut : fault ≡ WriteFailed → WritesFront (rows_text given) old new
  pub whole : fault ≢ WriteFailed → Appends old.written new.written (rows_text given)
