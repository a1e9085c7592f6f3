-- How C sees a value.
use Rattle.std.specs.Prelude.{◌≡◌, ℕ, Option, Some, None}
use Rattle.values.specs.Datum.{Datum, null, int, text, blob}
use Rattle.values.specs.Fault.{name_of, number_of}
use Rattle.values.specs.declared.fault.Fault.{Fault}
use Rattle.opened_images.specs.Detail.{detail_of}
use Rattle.seleq_c.specs.declared.column.Column.{Column}
use Rattle.seleq_c.specs.Called.{no_column}

-- the kind of a value, with its number or its bytes
abbrev pub IsShown : Column → Datum → Type 0
IsShown column null = column.kind ≡ 0
IsShown column (int number) = (column.kind ≡ 1) × (column.number ≡ number)
IsShown column (text bytes) = (column.kind ≡ 2) × (column.bytes.now ≡ bytes)
IsShown column (blob bytes) = (column.kind ≡ 3) × (column.bytes.now ≡ bytes)

-- a value that was looked up is shown; where there is none, nothing is changed
abbrev pub AnswersLookup : Option Datum → Column → Column → ℕ → Type 0
AnswersLookup (Some value) old new status = (status ≡ 0) × IsShown new value
AnswersLookup None old new status = (status ≡ no_column) × (new ≡ old)

-- a fault's number is answered, and its name and what it carries are shown; 0 where there is none, and nothing is changed
abbrev pub AnswersFault : Option Fault → Column → Column → Column → Column → ℕ → Type 0
AnswersFault (Some fault) old_name new_name old_detail new_detail status =
    (status ≡ number_of fault) × IsShown new_name (text (name_of fault)) × IsShown new_detail (detail_of fault)
AnswersFault None old_name new_name old_detail new_detail status = (status ≡ 0) × (new_name ≡ old_name) × (new_detail ≡ old_detail)
