-- The functions that a call may name: how each is spelt, and the number and form of its arguments. (Built-In Scalar SQL
-- Functions; Built-in Aggregate Functions; Window Functions)
use Rattle.std.specs.Prelude.{ℕ, Bool, false, ◌&&◌, List, [], ◌∷◌, Option, codes, find, nat_eq, nat_le}
use Rattle.std.specs.Str.{str_eq_ignore_ascii_case}
use Rattle.sql_reader_syntax.specs.Tree.{Name}
use Rattle.sql_reader_syntax.specs.declared.expr.Function.{Function}
use Rattle.sql_reader_syntax.specs.declared.expr.Function.TheVariants as f

abbrev pub spelling : Function → List ℕ
spelling f.Abs = codes "abs"
spelling f.Coalesce = codes "coalesce"
spelling f.Count = codes "count"
spelling f.DenseRank = codes "dense_rank"
spelling f.FirstValue = codes "first_value"
spelling f.Hex = codes "hex"
spelling f.IfNull = codes "ifnull"
spelling f.Iif = codes "iif"
spelling f.Lag = codes "lag"
spelling f.LastValue = codes "last_value"
spelling f.Lead = codes "lead"
spelling f.Length = codes "length"
spelling f.Lower = codes "lower"
spelling f.Max = codes "max"
spelling f.Min = codes "min"
spelling f.NthValue = codes "nth_value"
spelling f.NTile = codes "ntile"
spelling f.NullIf = codes "nullif"
spelling f.Rank = codes "rank"
spelling f.RowNumber = codes "row_number"
spelling f.Sum = codes "sum"
spelling f.TypeOf = codes "typeof"
spelling f.Upper = codes "upper"

abbrev pub functions : List Function
functions =
    f.Abs ∷ f.Coalesce ∷ f.Count ∷ f.DenseRank ∷ f.FirstValue ∷ f.Hex ∷ f.IfNull ∷ f.Iif ∷ f.Lag ∷ f.LastValue
    ∷ f.Lead ∷ f.Length ∷ f.Lower ∷ f.Max ∷ f.Min ∷ f.NthValue ∷ f.NTile ∷ f.NullIf ∷ f.Rank ∷ f.RowNumber ∷ f.Sum
    ∷ f.TypeOf ∷ f.Upper ∷ []

-- whether a word names a function, in letters of either case
abbrev pub is_function : Function → Name → Bool
is_function function word = str_eq_ignore_ascii_case (spelling function) word

-- the function that an unquoted word names
unfoldable pub function_of : Name → Option Function
function_of word = find (λ function. is_function function word) functions

-- whether a function has so many arguments
abbrev pub takes : Function → ℕ → Bool
takes f.Coalesce n = nat_le 2 n
takes f.DenseRank n = nat_eq n 0
takes f.IfNull n = nat_eq n 2
takes f.Iif n = nat_eq n 3
takes f.Lag n = nat_le 1 n && nat_le n 3
takes f.Lead n = nat_le 1 n && nat_le n 3
takes f.NthValue n = nat_eq n 2
takes f.NullIf n = nat_eq n 2
takes f.Rank n = nat_eq n 0
takes f.RowNumber n = nat_eq n 0
takes _ n = nat_eq n 1

-- whether the argument at this place, counted from 0, is a number alone
abbrev pub takes_number : Function → ℕ → Bool
takes_number f.Lag place = nat_eq place 1
takes_number f.Lead place = nat_eq place 1
takes_number f.NthValue place = nat_eq place 1
takes_number f.NTile place = nat_eq place 0
takes_number _ place = false
