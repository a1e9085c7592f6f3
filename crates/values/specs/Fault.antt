-- Faults by their numbers and names, as docs/FAULTS.md lists them.
use Rattle.std.specs.Prelude.{◌≡◌, ◌≢◌, ℕ, List, codes, Result, MatchResult}
use Rattle.values.specs.declared.fault.Fault.{Fault}
use Rattle.values.specs.declared.fault.Fault.TheVariants.{ShortFile, BadMagic, BadPageSize, BadHeaderField, WalImage, NotUtf8Encoding, AutoVacuum, SchemaFormat, SizeMismatch, TooLarge, BadPage, BadChain, PageUse, BadFreelist, BadOrder, BadDepth, BadRecord, FloatValue, BadText, SchemaRow, SchemaText, UnsupportedObject, ValueBreaksColumn, IndexDiffers, NotUnique, NeedsRecovery, ReadFailed, NoMemory, NotYet, Syntax, UnknownTable, UnknownColumn, Ambiguous, TypeMismatch, BareColumn, WrongPlace, BadFrame, Limit, ColumnCount, DuplicateName, Overflow, Changed, WriteFailed, Finished, NoStatement, TooManyStatements}

abbrev pub number_of : Fault → ℕ
number_of ShortFile = 1
number_of BadMagic = 2
number_of BadPageSize = 3
number_of BadHeaderField = 4
number_of WalImage = 5
number_of NotUtf8Encoding = 6
number_of AutoVacuum = 7
number_of SchemaFormat = 8
number_of SizeMismatch = 9
number_of TooLarge = 10
number_of (BadPage _) = 11
number_of (BadChain _) = 12
number_of (PageUse _) = 13
number_of BadFreelist = 14
number_of (BadOrder _) = 15
number_of (BadDepth _) = 16
number_of (BadRecord _) = 17
number_of FloatValue = 18
number_of BadText = 19
number_of SchemaRow = 20
number_of (SchemaText _) = 21
number_of (UnsupportedObject _) = 22
number_of (ValueBreaksColumn _) = 23
number_of (IndexDiffers _) = 24
number_of (NotUnique _) = 25
number_of NeedsRecovery = 26
number_of ReadFailed = 27
number_of NoMemory = 28
number_of NotYet = 29
number_of (Syntax _) = 30
number_of UnknownTable = 31
number_of UnknownColumn = 32
number_of Ambiguous = 33
number_of TypeMismatch = 34
number_of BareColumn = 35
number_of WrongPlace = 36
number_of BadFrame = 37
number_of Limit = 38
number_of ColumnCount = 39
number_of DuplicateName = 40
number_of Overflow = 50
number_of Changed = 51
number_of WriteFailed = 52
number_of Finished = 53
number_of NoStatement = 54
number_of TooManyStatements = 55

abbrev pub name_of : Fault → List ℕ
name_of ShortFile = codes "ShortFile"
name_of BadMagic = codes "BadMagic"
name_of BadPageSize = codes "BadPageSize"
name_of BadHeaderField = codes "BadHeaderField"
name_of WalImage = codes "WalImage"
name_of NotUtf8Encoding = codes "NotUtf8Encoding"
name_of AutoVacuum = codes "AutoVacuum"
name_of SchemaFormat = codes "SchemaFormat"
name_of SizeMismatch = codes "SizeMismatch"
name_of TooLarge = codes "TooLarge"
name_of (BadPage _) = codes "BadPage"
name_of (BadChain _) = codes "BadChain"
name_of (PageUse _) = codes "PageUse"
name_of BadFreelist = codes "BadFreelist"
name_of (BadOrder _) = codes "BadOrder"
name_of (BadDepth _) = codes "BadDepth"
name_of (BadRecord _) = codes "BadRecord"
name_of FloatValue = codes "FloatValue"
name_of BadText = codes "BadText"
name_of SchemaRow = codes "SchemaRow"
name_of (SchemaText _) = codes "SchemaText"
name_of (UnsupportedObject _) = codes "UnsupportedObject"
name_of (ValueBreaksColumn _) = codes "ValueBreaksColumn"
name_of (IndexDiffers _) = codes "IndexDiffers"
name_of (NotUnique _) = codes "NotUnique"
name_of NeedsRecovery = codes "NeedsRecovery"
name_of ReadFailed = codes "ReadFailed"
name_of NoMemory = codes "NoMemory"
name_of NotYet = codes "NotYet"
name_of (Syntax _) = codes "Syntax"
name_of UnknownTable = codes "UnknownTable"
name_of UnknownColumn = codes "UnknownColumn"
name_of Ambiguous = codes "Ambiguous"
name_of TypeMismatch = codes "TypeMismatch"
name_of BareColumn = codes "BareColumn"
name_of WrongPlace = codes "WrongPlace"
name_of BadFrame = codes "BadFrame"
name_of Limit = codes "Limit"
name_of ColumnCount = codes "ColumnCount"
name_of DuplicateName = codes "DuplicateName"
name_of Overflow = codes "Overflow"
name_of Changed = codes "Changed"
name_of WriteFailed = codes "WriteFailed"
name_of Finished = codes "Finished"
name_of NoStatement = codes "NoStatement"
name_of TooManyStatements = codes "TooManyStatements"

-- A count of failures over a call that may answer this fault: the same at Ok, and the fault comes only
-- where the count is another.
abbrev pub Counts : {T : Type 0} → Fault → Result T Fault → ℕ → ℕ → Type 0
Counts fault result before after = MatchResult result (λ _. after ≡ before) (λ e. e ≡ fault → after ≢ before)
