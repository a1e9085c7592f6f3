-- Reserved words. (SQLite Keywords)
use Rattle.std.specs.Prelude.{ℕ, Bool, List, [], ◌∷◌, Option, find, codes}
use Rattle.std.specs.Str.{str_eq_ignore_ascii_case}
use Rattle.sql_reader_tokens.specs.declared.keywords.keyword.Keyword.{Keyword}
use Rattle.sql_reader_tokens.specs.declared.keywords.keyword.Keyword.TheVariants as k
use Rattle.sql_reader_tokens.specs.declared.keywords.keyword.Grammar.{Grammar}
use Rattle.sql_reader_tokens.specs.declared.keywords.keyword.Grammar.TheVariants.{Select, Create}

abbrev pub spelling : Keyword → List ℕ
spelling k.All = codes "ALL"
spelling k.And = codes "AND"
spelling k.As = codes "AS"
spelling k.Asc = codes "ASC"
spelling k.Between = codes "BETWEEN"
spelling k.By = codes "BY"
spelling k.Case = codes "CASE"
spelling k.Check = codes "CHECK"
spelling k.Collate = codes "COLLATE"
spelling k.Constraint = codes "CONSTRAINT"
spelling k.Create = codes "CREATE"
spelling k.Cross = codes "CROSS"
spelling k.Current = codes "CURRENT"
spelling k.Default = codes "DEFAULT"
spelling k.Desc = codes "DESC"
spelling k.Distinct = codes "DISTINCT"
spelling k.Else = codes "ELSE"
spelling k.End = codes "END"
spelling k.Except = codes "EXCEPT"
spelling k.Exclude = codes "EXCLUDE"
spelling k.Exists = codes "EXISTS"
spelling k.Explain = codes "EXPLAIN"
spelling k.Filter = codes "FILTER"
spelling k.First = codes "FIRST"
spelling k.Following = codes "FOLLOWING"
spelling k.Foreign = codes "FOREIGN"
spelling k.From = codes "FROM"
spelling k.Full = codes "FULL"
spelling k.Generated = codes "GENERATED"
spelling k.Group = codes "GROUP"
spelling k.Groups = codes "GROUPS"
spelling k.Having = codes "HAVING"
spelling k.In = codes "IN"
spelling k.Index = codes "INDEX"
spelling k.Inner = codes "INNER"
spelling k.Intersect = codes "INTERSECT"
spelling k.Is = codes "IS"
spelling k.IsNull = codes "ISNULL"
spelling k.Join = codes "JOIN"
spelling k.Last = codes "LAST"
spelling k.Left = codes "LEFT"
spelling k.Like = codes "LIKE"
spelling k.Limit = codes "LIMIT"
spelling k.Natural = codes "NATURAL"
spelling k.No = codes "NO"
spelling k.Not = codes "NOT"
spelling k.NotNull = codes "NOTNULL"
spelling k.Null = codes "NULL"
spelling k.Nulls = codes "NULLS"
spelling k.Offset = codes "OFFSET"
spelling k.On = codes "ON"
spelling k.Or = codes "OR"
spelling k.Order = codes "ORDER"
spelling k.Others = codes "OTHERS"
spelling k.Outer = codes "OUTER"
spelling k.Over = codes "OVER"
spelling k.Partition = codes "PARTITION"
spelling k.Plan = codes "PLAN"
spelling k.Preceding = codes "PRECEDING"
spelling k.Primary = codes "PRIMARY"
spelling k.Query = codes "QUERY"
spelling k.Range = codes "RANGE"
spelling k.References = codes "REFERENCES"
spelling k.Right = codes "RIGHT"
spelling k.Row = codes "ROW"
spelling k.Rows = codes "ROWS"
spelling k.Select = codes "SELECT"
spelling k.Table = codes "TABLE"
spelling k.Then = codes "THEN"
spelling k.Ties = codes "TIES"
spelling k.Unbounded = codes "UNBOUNDED"
spelling k.Union = codes "UNION"
spelling k.Unique = codes "UNIQUE"
spelling k.Using = codes "USING"
spelling k.When = codes "WHEN"
spelling k.Where = codes "WHERE"
spelling k.Window = codes "WINDOW"
spelling k.With = codes "WITH"

abbrev pub reserved_words : Grammar → List Keyword
reserved_words Select =
    k.All ∷ k.And ∷ k.As ∷ k.Asc ∷ k.Between ∷ k.By ∷ k.Case ∷ k.Cross ∷ k.Current ∷ k.Desc ∷
    k.Distinct ∷ k.Else ∷ k.End ∷ k.Except ∷ k.Exclude ∷ k.Exists ∷ k.Explain ∷ k.Filter ∷
    k.First ∷ k.Following ∷ k.From ∷ k.Full ∷ k.Group ∷ k.Groups ∷ k.Having ∷ k.In ∷ k.Inner ∷
    k.Intersect ∷ k.Is ∷ k.IsNull ∷ k.Join ∷ k.Last ∷ k.Left ∷ k.Like ∷ k.Limit ∷ k.Natural ∷
    k.No ∷ k.Not ∷ k.NotNull ∷ k.Null ∷ k.Nulls ∷ k.Offset ∷ k.On ∷ k.Or ∷ k.Order ∷ k.Others ∷
    k.Outer ∷ k.Over ∷ k.Partition ∷ k.Plan ∷ k.Preceding ∷ k.Query ∷ k.Range ∷ k.Right ∷ k.Row ∷
    k.Rows ∷ k.Select ∷ k.Then ∷ k.Ties ∷ k.Unbounded ∷ k.Union ∷ k.Using ∷ k.When ∷ k.Where ∷
    k.Window ∷ k.With ∷ []
reserved_words Create =
    k.And ∷ k.As ∷ k.Between ∷ k.Case ∷ k.Check ∷ k.Collate ∷ k.Constraint ∷ k.Create ∷
    k.Default ∷ k.Else ∷ k.End ∷ k.Foreign ∷ k.From ∷ k.Generated ∷ k.In ∷ k.Index ∷ k.Is ∷
    k.IsNull ∷ k.Like ∷ k.Not ∷ k.NotNull ∷ k.Null ∷ k.On ∷ k.Or ∷ k.Primary ∷ k.References ∷
    k.Select ∷ k.Table ∷ k.Then ∷ k.Unique ∷ k.Using ∷ k.When ∷ k.Where ∷ []

-- a word is this one, without ASCII case
abbrev pub is_word : Keyword → List ℕ → Bool
is_word keyword word = str_eq_ignore_ascii_case (spelling keyword) word

-- the reserved word of a grammar that a word is
abbrev pub keyword_of : Grammar → List ℕ → Option Keyword
keyword_of grammar word = find (λ keyword. is_word keyword word) (reserved_words grammar)
