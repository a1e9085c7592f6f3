-- Steps of a reader that goes from left to right over tokens. No public clause of a reader cites it.
use Rattle.std.specs.Prelude.{
  ◌≡◌,
  Bool,
  true,
  false,
  ℕ,
  zero,
  suc,
  List,
  [],
  ◌∷◌,
  length,
  Option,
  Some,
  None,
  Result,
  Ok,
  Err,
  if◌then◌else◌,
}
use denote.Enum.Bare.{sameb}
use Rattle.values.specs.declared.fault.Fault.{Fault}
use Rattle.values.specs.declared.fault.Fault.TheVariants as f
use Rattle.sql_reader_tokens.specs.Content.{is_bare_word}
use Rattle.sql_reader_tokens.specs.Lexeme.{Lexeme}
use Rattle.sql_reader_tokens.specs.contracts.keywords.keyword.Keyword as keywords
use Rattle.sql_reader_tokens.specs.contracts.sign.Sign as signs
use Rattle.sql_reader_tokens.specs.declared.keywords.keyword.Keyword.{Keyword}
use Rattle.sql_reader_tokens.specs.declared.sign.Sign.{Sign}
use Rattle.sql_reader_tokens.specs.declared.sign.Sign.TheVariants as s
use Rattle.sql_reader_syntax.specs.Tree.{Name}

-- a result and what was to be found: at Ok it is this, and a syntax error comes only where nothing was
abbrev pub IsMissing : {B : Type 0} → Fault → Option B → Type 0
IsMissing (f.Syntax place) found = found ≡ None
IsMissing f.NoMemory found = Unit {0}
IsMissing _ found = ⊥

abbrev pub HasFound : {A B : Type 0} → (A → B) → Result A Fault → Option B → Type 0
HasFound view (Ok a) found = found ≡ Some (view a)
HasFound view (Err e) found = IsMissing e found

abbrev pub IsSyntax : Fault → Type 0
IsSyntax (f.Syntax place) = Unit {0}
IsSyntax _ = ⊥

abbrev pub Rest : Type 0
Rest = List Lexeme

-- Keywords, signs, words, names

abbrev pub after_keyword : Keyword → Rest → Option Rest
after_keyword word (Lexeme.Reserved first ∷ ts) = if sameb keywords.the_type first word then Some ts else None
after_keyword word _ = None

abbrev pub after_sign : Sign → Rest → Option Rest
after_sign sign (Lexeme.Punctuation first ∷ ts) = if sameb signs.the_type first sign then Some ts else None
after_sign sign _ = None

abbrev pub after_open : Rest → Option Rest
after_open = after_sign s.Open

abbrev pub after_close : Rest → Option Rest
after_close = after_sign s.Close

abbrev pub after_comma : Rest → Option Rest
after_comma = after_sign s.Comma

abbrev pub after_dot : Rest → Option Rest
after_dot = after_sign s.Dot

abbrev pub after_star : Rest → Option Rest
after_star = after_sign s.Star

abbrev pub after_word : List ℕ → Rest → Option Rest
after_word word [] = None
after_word word (t ∷ ts) = if is_bare_word t word then Some ts else None

abbrev pub name : Rest → Option (Name × Rest)
name (Lexeme.Name q n ∷ ts) = Some (n, ts)
name _ = None

-- the end of a statement
abbrev pub ends : Rest → Bool
ends [] = true
ends (Lexeme.Punctuation s.Semicolon ∷ []) = true
ends _ = false

abbrev pub behind_semicolon : Rest → Rest
behind_semicolon (Lexeme.Punctuation s.Semicolon ∷ ts) = ts
behind_semicolon ts = ts

-- Lists

abbrev pub Found : Type 0 → Type 0
Found A = Option (List A × Rest)

abbrev pub cons_found : {A : Type 0} → A → Found A → Found A
cons_found x None = None
cons_found x (Some r) = Some (x ∷ r.0, r.1)

-- a phrase, and then others
abbrev pub first_and : {A : Type 0} → (Rest → Found A) → Option (A × Rest) → Found A
first_and others None = None
first_and others (Some r) = cons_found r.0 (others r.1)

-- a phrase and then others, where one begins
abbrev pub turn : {A : Type 0} → (Rest → Option (A × Rest)) → (Rest → Found A) → Rest → Option Rest → Found A
turn item others ts None = Some ([], ts)
turn item others ts (Some start) = first_and others (item start)

-- as many phrases as there are, in at most so many turns; `begins` says where a further one starts, if any does
abbrev pub many_within : {A : Type 0} → (Rest → Option Rest) → (Rest → Option (A × Rest)) → ℕ → Rest → Found A
many_within begins item zero ts = turn item (λ rest. None) ts (begins ts)
many_within begins item (suc n) ts = turn item (many_within begins item n) ts (begins ts)

abbrev pub many : {A : Type 0} → (Rest → Option Rest) → (Rest → Option (A × Rest)) → Rest → Found A
many begins item ts = many_within begins item (length ts) ts

-- phrases with commas between them
abbrev pub listed : {A : Type 0} → (Rest → Option (A × Rest)) → Rest → Found A
listed item ts = first_and (many after_comma item) (item ts)
