-- The words that stand at the front of tokens.
use Rattle.std.proofs.Common.{◌≡◌, Bool, true, false, List, [], ◌∷◌, ℕ, length, Option, Some, None, option_map, option_and_then, cond, refl, sym, ap, ◌∙◌}
use Rattle.std.proofs.lemmas.Slice.Eq.{bytes_eq-Decides}
use Rattle.std.specs.Str.{str_to_ascii_lowercase}
use Rattle.sql_reader_tokens.specs.Content.{is_bare_word}
use Rattle.sql_reader_tokens.specs.Lexeme.{Lexeme}
use Rattle.sql_reader_tokens.specs.declared.keywords.keyword.Keyword.TheVariants as k
use Rattle.sql_reader_tokens.specs.declared.sign.Sign.TheVariants as s
use Rattle.sql_reader_tokens.specs.declared.token.Quoting.TheVariants as q
use Rattle.sql_reader_tokens.specs.declared.token.Quoting.{Quoting}
use Rattle.sql_reader_grammar.proofs.lemmas.phrases.OutcomeLemmas.{some_inj}
use Rattle.sql_reader_grammar.specs.phrases.Steps.{Rest, after_open, after_word, name}
use Rattle.sql_reader_creates.specs.column_reader.ColumnReading.{after_name, after_on}
use Rattle.sql_reader_syntax.specs.Tree.{Name}

-- a word is two words only where these differ in case alone
same_word : (t : Lexeme) (one two : List ℕ) → is_bare_word t one ≡ true → is_bare_word t two ≡ true
    → str_to_ascii_lowercase one ≡ str_to_ascii_lowercase two
same_word (Lexeme.Name q.Bare name) one two h k =
    sym ((bytes_eq-Decides (str_to_ascii_lowercase name) (str_to_ascii_lowercase one)).0 h)
    ∙ (bytes_eq-Decides (str_to_ascii_lowercase name) (str_to_ascii_lowercase two)).0 k
same_word _ one two h k = absurd cc

other_word : (t : Lexeme) (one two : List ℕ) → (str_to_ascii_lowercase one ≡ str_to_ascii_lowercase two → ⊥)
    → is_bare_word t two ≡ true → is_bare_word t one ≡ false
other_word t one two d h = go (is_bare_word t one) refl
  where
    go : (b : Bool) → is_bare_word t one ≡ b → is_bare_word t one ≡ false
    go true e = absurd (d (same_word t one two e h))
    go false e = e

-- words of different lengths differ
pub other_length : (t : Lexeme) (one two : List ℕ)
    → (length (str_to_ascii_lowercase one) ≡ length (str_to_ascii_lowercase two) → ⊥)
    → is_bare_word t two ≡ true → is_bare_word t one ≡ false
other_length t one two d = other_word t one two (λ e. d (ap length e))

pub some_mapped : {A B : Type 0} (f : A → B) (o : Option A) (y : B) → option_map f o ≡ Some y
    → (x : A) × (o ≡ Some x) × (f x ≡ y)
some_mapped f None y h = absurd cc
some_mapped f (Some x) y h = (x, refl, some_inj (f x) y h)

-- the word that stands there
pub word_sound : (word : List ℕ) (ts rest : Rest) → after_word word ts ≡ Some rest
    → (t : Lexeme) × (ts ≡ t ∷ rest) × (is_bare_word t word ≡ true)
word_sound word [] rest h = absurd cc
word_sound word (t ∷ ts) rest h = go (is_bare_word t word) refl h
  where
    none : Option Rest
    none = None

    go : (b : Bool) → is_bare_word t word ≡ b → cond b (Some ts) none ≡ Some rest
        → (u : Lexeme) × (t ∷ ts ≡ u ∷ rest) × (is_bare_word u word ≡ true)
    go true e h = (t, ap (λ rest. t ∷ rest) (some_inj ts rest h), e)
    go false e h = absurd cc

pub then_parts : {A B : Type 0} (f : A → Option B) (o : Option A) (y : B) → option_and_then f o ≡ Some y
    → (x : A) × (o ≡ Some x) × (f x ≡ Some y)
then_parts f None y h = absurd cc
then_parts f (Some x) y h = (x, refl, h)

pub name_sound : (ts : Rest) (r : Name × Rest) → name ts ≡ Some r → (q : Quoting) × (ts ≡ Lexeme.Name q r.0 ∷ r.1)
name_sound (Lexeme.Name q n ∷ ts) r h =
    (q, ap (λ (r : Name × Rest). Lexeme.Name q r.0 ∷ r.1) (some_inj (n, ts) r h))
name_sound _ r h = absurd cc

pub after_name_sound : (ts rest : Rest) → after_name ts ≡ Some rest
    → (q : Quoting) × (n : Name) × (ts ≡ Lexeme.Name q n ∷ rest)
after_name_sound (Lexeme.Name q n ∷ ts) rest h = (q, n, ap (λ rest. Lexeme.Name q n ∷ rest) (some_inj ts rest h))
after_name_sound _ rest h = absurd cc

-- What may follow a part of a constraint: a comma, a parenthesis that closes, or a reserved word other than ON

abbrev pub is_end : Rest → Bool
is_end (Lexeme.Punctuation s.Comma ∷ ts) = true
is_end (Lexeme.Punctuation s.Close ∷ ts) = true
is_end (Lexeme.Reserved k.On ∷ ts) = false
is_end (Lexeme.Reserved word ∷ ts) = true
is_end _ = false

abbrev pub IsEnd : Rest → Type 0
IsEnd ts = is_end ts ≡ true

pub no_word : (word : List ℕ) (ts : Rest) → IsEnd ts → after_word word ts ≡ None
no_word word (Lexeme.Reserved _ ∷ ts) e = refl
no_word word (Lexeme.Punctuation sign ∷ ts) e = refl
no_word word _ e = absurd cc

pub no_open : (ts : Rest) → IsEnd ts → after_open ts ≡ None
no_open (Lexeme.Reserved _ ∷ ts) e = refl
no_open (Lexeme.Punctuation s.Comma ∷ ts) e = refl
no_open (Lexeme.Punctuation s.Close ∷ ts) e = refl
no_open _ e = absurd cc

pub no_on : (ts : Rest) → IsEnd ts → after_on ts ≡ None
no_on (Lexeme.Punctuation sign ∷ ts) e = refl
no_on (Lexeme.Reserved k.On ∷ ts) e = absurd cc
no_on (Lexeme.Reserved _ ∷ ts) e = refl
no_on _ e = absurd cc
