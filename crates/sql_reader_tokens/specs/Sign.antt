-- Operators and punctuation. (SQL Language Expressions, "Operators, and Parse-Affecting Attributes")
use Rattle.std.specs.Prelude.{ℕ, Bool, false, ◌||◌, nat_eq, List, codes}
use Rattle.sql_reader_tokens.specs.declared.sign.Sign.{Sign}
use Rattle.sql_reader_tokens.specs.declared.sign.Sign.TheVariants as s

abbrev pub spelling : Sign → List ℕ
spelling s.Open = codes "("
spelling s.Close = codes ")"
spelling s.Comma = codes ","
spelling s.Dot = codes "."
spelling s.Semicolon = codes ";"
spelling s.Star = codes "*"
spelling s.Slash = codes "/"
spelling s.Percent = codes "%"
spelling s.Plus = codes "+"
spelling s.Minus = codes "-"
spelling s.Tilde = codes "~"
spelling s.Ampersand = codes "&"
spelling s.Bar = codes "|"
spelling s.DoubleBar = codes "||"
spelling s.Equal = codes "="
spelling s.DoubleEqual = codes "=="
spelling s.NotEqual = codes "!="
spelling s.LessGreater = codes "<>"
spelling s.Less = codes "<"
spelling s.LessEqual = codes "<="
spelling s.Greater = codes ">"
spelling s.GreaterEqual = codes ">="

-- what may not follow a sign, since it would make a longer sign of it or begin a comment
abbrev pub joins : Sign → ℕ → Bool
joins s.Slash b = nat_eq b 42
joins s.Minus b = nat_eq b 45
joins s.Bar b = nat_eq b 124
joins s.Equal b = nat_eq b 61
joins s.Less b = nat_eq b 61 || nat_eq b 62
joins s.Greater b = nat_eq b 61
joins _ b = false
