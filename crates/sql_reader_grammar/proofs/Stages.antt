-- What doesn't go on where a later clause of a statement begins.
use Rattle.std.proofs.Common.{◌≡◌, Bool, false, ℕ, ◌≤◌, List, [], ◌∷◌, None, Ok, refl, arith}
use Rattle.std.specs.Prelude.{not}
use Rattle.sql_reader_tokens.specs.Lexeme.{Lexeme}
use Rattle.sql_reader_tokens.specs.declared.keywords.keyword.Keyword.{Keyword}
use Rattle.sql_reader_tokens.specs.declared.keywords.keyword.Keyword.TheVariants as k
use Rattle.sql_reader_tokens.specs.declared.sign.Sign.{Sign}
use Rattle.sql_reader_tokens.specs.declared.sign.Sign.TheVariants as s
use Rattle.sql_reader_grammar.specs.phrases.Outcomes.{read}
use Rattle.sql_reader_grammar.specs.phrases.Steps.{Rest, after_comma, after_keyword}
use Rattle.sql_reader_syntax.specs.ExprTree.{NameTree}
use Rattle.sql_reader_syntax.specs.declared.query.Exclusion.TheVariants as x
use Rattle.sql_reader_grammar.specs.Fronts.{after_group_by, after_order_by, after_partition_by, binds, compound, exclusion, join_at, nulls, turn, unit_at}
use Rattle.sql_reader_grammar.specs.Reading.{alias, title}

-- the place of the clause that a word begins, among those that may stand behind result columns; the last are the ends
abbrev pub stage_word : Keyword → ℕ
stage_word k.From = 1
stage_word k.Where = 2
stage_word k.Group = 3
stage_word k.Having = 4
stage_word k.Window = 5
stage_word k.Union = 6
stage_word k.Intersect = 6
stage_word k.Except = 6
stage_word k.Order = 7
stage_word k.Limit = 8
stage_word k.Rows = 8
stage_word k.Range = 8
stage_word k.Groups = 8
stage_word k.Offset = 9
stage_word k.Exclude = 9
stage_word _ = 0

abbrev pub stage_sign : Sign → ℕ
stage_sign s.Close = 10
stage_sign s.Semicolon = 10
stage_sign _ = 0

abbrev pub stage : Rest → ℕ
stage [] = 10
stage (Lexeme.Reserved word ∷ ts) = stage_word word
stage (Lexeme.Punctuation sign ∷ ts) = stage_sign sign
stage _ = 0

-- a word that begins a clause is no operator
word_stops : (word : Keyword) (ts : Rest) → 1 ≤ stage_word word → binds (Lexeme.Reserved word ∷ ts) ≡ 0
word_stops k.Or ts h = absurd (omega (arith, h))
word_stops k.And ts h = absurd (omega (arith, h))
word_stops k.Is ts h = absurd (omega (arith, h))
word_stops k.Like ts h = absurd (omega (arith, h))
word_stops k.Between ts h = absurd (omega (arith, h))
word_stops k.In ts h = absurd (omega (arith, h))
word_stops k.Not ts h = absurd (omega (arith, h))
word_stops k.IsNull ts h = absurd (omega (arith, h))
word_stops k.NotNull ts h = absurd (omega (arith, h))
word_stops k.Filter ts h = absurd (omega (arith, h))
word_stops k.Over ts h = absurd (omega (arith, h))
word_stops _ ts h = refl

sign_stops : (sign : Sign) (ts : Rest) → 1 ≤ stage_sign sign → binds (Lexeme.Punctuation sign ∷ ts) ≡ 0
sign_stops s.Close ts h = refl
sign_stops s.Semicolon ts h = refl
sign_stops _ ts h = absurd (omega (arith, h))

pub no_operator : (ts : Rest) → 1 ≤ stage ts → binds ts ≡ 0
no_operator [] h = refl
no_operator (Lexeme.Reserved word ∷ ts) h = word_stops word ts h
no_operator (Lexeme.Punctuation sign ∷ ts) h = sign_stops sign ts h
no_operator _ h = refl

pub no_alias : (ts : Rest) → 1 ≤ stage ts → alias ts ≡ Ok (read None 0 ts)
no_alias (Lexeme.Reserved k.As ∷ ts) h = absurd (omega (arith, h))
no_alias (Lexeme.Name q n ∷ ts) h = absurd (omega (arith, h))
no_alias _ h = refl

pub no_title : (source : List ℕ) (ts : Rest) → 1 ≤ stage ts → title source ts ≡ Ok (read (NameTree.SourceText source) 0 ts)
no_title source (Lexeme.Reserved k.As ∷ ts) h = absurd (omega (arith, h))
no_title source (Lexeme.Name q n ∷ ts) h = absurd (omega (arith, h))
no_title source _ h = refl

pub no_comma : (ts : Rest) → 1 ≤ stage ts → after_comma ts ≡ None
no_comma (Lexeme.Punctuation s.Comma ∷ ts) h = absurd (omega (arith, h))
no_comma _ h = refl

pub no_turn : (ts : Rest) → 1 ≤ stage ts → turn ts ≡ (false, ts)
no_turn (Lexeme.Reserved k.Asc ∷ ts) h = absurd (omega (arith, h))
no_turn (Lexeme.Reserved k.Desc ∷ ts) h = absurd (omega (arith, h))
no_turn _ h = refl

pub no_nulls : (d : Bool) (ts : Rest) → 1 ≤ stage ts → nulls d ts ≡ (not d, ts)
no_nulls d (Lexeme.Reserved k.Nulls ∷ ts) h = absurd (omega (arith, h))
no_nulls d _ h = refl

pub no_join : (ts : Rest) → 1 ≤ stage ts → join_at ts ≡ None
no_join (Lexeme.Punctuation s.Comma ∷ ts) h = absurd (omega (arith, h))
no_join (Lexeme.Reserved k.Cross ∷ ts) h = absurd (omega (arith, h))
no_join (Lexeme.Reserved k.Join ∷ ts) h = absurd (omega (arith, h))
no_join (Lexeme.Reserved k.Inner ∷ ts) h = absurd (omega (arith, h))
no_join (Lexeme.Reserved k.Left ∷ ts) h = absurd (omega (arith, h))
no_join (Lexeme.Reserved k.Right ∷ ts) h = absurd (omega (arith, h))
no_join (Lexeme.Reserved k.Full ∷ ts) h = absurd (omega (arith, h))
no_join _ h = refl

pub no_on : (ts : Rest) → 1 ≤ stage ts → after_keyword k.On ts ≡ None
no_on (Lexeme.Reserved k.On ∷ ts) h = absurd (omega (arith, h))
no_on _ h = refl

pub no_using : (ts : Rest) → 1 ≤ stage ts → after_keyword k.Using ts ≡ None
no_using (Lexeme.Reserved k.Using ∷ ts) h = absurd (omega (arith, h))
no_using _ h = refl

pub no_from : (ts : Rest) → 2 ≤ stage ts → after_keyword k.From ts ≡ None
no_from (Lexeme.Reserved k.From ∷ ts) h = absurd (omega (arith, h))
no_from _ h = refl

pub no_where : (ts : Rest) → 3 ≤ stage ts → after_keyword k.Where ts ≡ None
no_where (Lexeme.Reserved k.Where ∷ ts) h = absurd (omega (arith, h))
no_where _ h = refl

pub no_group_by : (ts : Rest) → 4 ≤ stage ts → after_group_by ts ≡ None
no_group_by (Lexeme.Reserved k.Group ∷ ts) h = absurd (omega (arith, h))
no_group_by _ h = refl

pub no_having : (ts : Rest) → 5 ≤ stage ts → after_keyword k.Having ts ≡ None
no_having (Lexeme.Reserved k.Having ∷ ts) h = absurd (omega (arith, h))
no_having _ h = refl

pub no_window : (ts : Rest) → 6 ≤ stage ts → after_keyword k.Window ts ≡ None
no_window (Lexeme.Reserved k.Window ∷ ts) h = absurd (omega (arith, h))
no_window _ h = refl

pub no_compound : (ts : Rest) → 7 ≤ stage ts → compound ts ≡ None
no_compound (Lexeme.Reserved k.Union ∷ ts) h = absurd (omega (arith, h))
no_compound (Lexeme.Reserved k.Intersect ∷ ts) h = absurd (omega (arith, h))
no_compound (Lexeme.Reserved k.Except ∷ ts) h = absurd (omega (arith, h))
no_compound _ h = refl

pub no_partition_by : (ts : Rest) → 7 ≤ stage ts → after_partition_by ts ≡ None
no_partition_by (Lexeme.Reserved k.Partition ∷ ts) h = absurd (omega (arith, h))
no_partition_by _ h = refl

pub no_order_by : (ts : Rest) → 8 ≤ stage ts → after_order_by ts ≡ None
no_order_by (Lexeme.Reserved k.Order ∷ ts) h = absurd (omega (arith, h))
no_order_by _ h = refl

pub no_frame : (ts : Rest) → 9 ≤ stage ts → unit_at ts ≡ None
no_frame (Lexeme.Reserved k.Rows ∷ ts) h = absurd (omega (arith, h))
no_frame (Lexeme.Reserved k.Range ∷ ts) h = absurd (omega (arith, h))
no_frame (Lexeme.Reserved k.Groups ∷ ts) h = absurd (omega (arith, h))
no_frame _ h = refl

pub no_limit : (ts : Rest) → 9 ≤ stage ts → after_keyword k.Limit ts ≡ None
no_limit (Lexeme.Reserved k.Limit ∷ ts) h = absurd (omega (arith, h))
no_limit _ h = refl

pub no_offset : (ts : Rest) → 10 ≤ stage ts → after_keyword k.Offset ts ≡ None
no_offset (Lexeme.Reserved k.Offset ∷ ts) h = absurd (omega (arith, h))
no_offset _ h = refl

pub no_exclusion : (ts : Rest) → 10 ≤ stage ts → exclusion ts ≡ (x.NoOthers, ts)
no_exclusion (Lexeme.Reserved k.Exclude ∷ ts) h = absurd (omega (arith, h))
no_exclusion _ h = refl
