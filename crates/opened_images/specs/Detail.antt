-- What a fault carries, as a value.
use Rattle.std.specs.Prelude.{◌-◌, ◌^◌, min, pos, string_bytes}
use Rattle.values.specs.Datum.{Datum, null, int, text}
use Rattle.values.specs.declared.fault.Fault.{Fault}
use Rattle.values.specs.declared.fault.Fault.TheVariants.{BadPage, BadChain, PageUse, BadOrder, BadDepth, BadRecord, SchemaText, UnsupportedObject, ValueBreaksColumn, IndexDiffers, NotUnique, Syntax}

-- the number of a page, the place of a byte, or a name
abbrev pub detail_of : Fault → Datum
detail_of (BadPage page) = int (pos page)
detail_of (BadChain page) = int (pos page)
detail_of (PageUse page) = int (pos page)
detail_of (BadOrder page) = int (pos page)
detail_of (BadDepth page) = int (pos page)
detail_of (BadRecord page) = int (pos page)
detail_of (SchemaText name) = text (string_bytes name)
detail_of (UnsupportedObject name) = text (string_bytes name)
detail_of (ValueBreaksColumn name) = text (string_bytes name)
detail_of (IndexDiffers name) = text (string_bytes name)
detail_of (NotUnique name) = text (string_bytes name)
detail_of (Syntax place) = int (pos (min place (2 ^ 63 - 1)))
detail_of _ = null
