-- Phrases that the statements share. `X tree from after` says that the tokens of from, up to where after begins, spell
-- the tree as a phrase of this kind. There is one constructor for each production.
use Rattle.std.specs.Prelude.{List, [], ◌∷◌}
use Rattle.sql_reader_tokens.specs.Lexeme.{Lexeme}
use Rattle.sql_reader_tokens.specs.declared.sign.Sign.TheVariants as s

-- {item}
pub data Many {A : Type 0} (Item : A → List Lexeme → List Lexeme → Type 0) : List A → List Lexeme → List Lexeme
    → Type 0 where
  none : {after : List Lexeme} → Many Item [] after after
  more : {x : A} {xs : List A} {from mid after : List Lexeme} → Item x from mid → Many Item xs mid after
      → Many Item (x ∷ xs) from after

-- "," item
pub data AfterComma {A : Type 0} (Item : A → List Lexeme → List Lexeme → Type 0) : A → List Lexeme → List Lexeme
    → Type 0 where
  comma : {x : A} {from after : List Lexeme} → Item x from after
      → AfterComma Item x (Lexeme.Punctuation s.Comma ∷ from) after

-- item {"," item}
pub data Listed {A : Type 0} (Item : A → List Lexeme → List Lexeme → Type 0) : List A → List Lexeme → List Lexeme
    → Type 0 where
  listed : {x : A} {xs : List A} {from mid after : List Lexeme} → Item x from mid → Many (AfterComma Item) xs mid after
      → Listed Item (x ∷ xs) from after
