-- What a text spells by any grammar, and why it spells nothing.
use Rattle.std.proofs.Common.{◌≡◌, ℕ, List, [], ◌∷◌, map, Option, Some, None, refl, sym, ap, ◌∙◌, subst}
use Rattle.values.specs.declared.fault.Fault.{Fault}
use Rattle.values.specs.declared.fault.Fault.TheVariants as f
use Rattle.sql_reader_tokens.proofs.ReadLemmas as read
use Rattle.sql_reader_tokens.specs.Content.{placed_of}
use Rattle.sql_reader_tokens.specs.Tokens as tokens
use Rattle.sql_reader_tokens.specs.Tokens.{Tokens}
use Rattle.sql_reader_tokens.specs.declared.keywords.keyword.Grammar.{Grammar}
use Rattle.sql_reader_tokens.specs.declared.token.Token.{Token}
use Rattle.sql_reader_grammar.specs.phrases.Steps.{Rest, IsMissing}
use Rattle.sql_reader_grammar.specs.phrases.Texts.{Spells, IsRefusedText, lexemes, lexemes_of}

pub same_lexemes : (items : List Token) → lexemes (map placed_of items) ≡ lexemes_of items
same_lexemes [] = refl
same_lexemes (t ∷ items) = ap (λ ts. (placed_of t).lexeme ∷ ts) (same_lexemes items)

-- a reader of tokens that finds the statements of a grammar, and nothing else
pub record IsReader {T : Type 0} (Statement : T → Rest → Type 0) (find : Rest → Option T) : Type 0 where
  pub sound : (ts : Rest) (tree : T) → find ts ≡ Some tree → Statement tree ts
  pub complete : (ts : Rest) (tree : T) → Statement tree ts → find ts ≡ Some tree

pub spelt_by : {T : Type 0} (grammar : Grammar) (Statement : T → Rest → Type 0) (find : Rest → Option T)
    → IsReader Statement find → (text : List ℕ) (items : List Token) (tree : T)
    → Tokens grammar text (map placed_of items) → find (lexemes_of items) ≡ Some tree
    → Spells grammar Statement text tree
spelt_by grammar Statement find r text items tree t h = record {
  tokens = map placed_of items;
  are_tokens = t;
  statement = subst (Statement tree) (sym (same_lexemes items)) (r.sound (lexemes_of items) tree h);
}

pub nothing_spelt : {T : Type 0} (grammar : Grammar) (Statement : T → Rest → Type 0) (find : Rest → Option T)
    → IsReader Statement find → (text : List ℕ) (items : List Token) → Tokens grammar text (map placed_of items)
    → find (lexemes_of items) ≡ None → (tree : T) → ¬ (Spells grammar Statement text tree)
nothing_spelt grammar Statement find r text items t h tree s =
    let e = ap lexemes (read.one_list t s.are_tokens) in
    let i = ap find (sym (same_lexemes items) ∙ e) in
    let j = r.complete (lexemes s.tokens) tree s.statement in cc

pub refused : {T : Type 0} (grammar : Grammar) (Statement : T → Rest → Type 0) (find : Rest → Option T) (columns : T → ℕ)
    → IsReader Statement find → (text : List ℕ) (items : List Token) (e : Fault)
    → Tokens grammar text (map placed_of items) → IsMissing e (find (lexemes_of items))
    → IsRefusedText (Spells grammar Statement) columns text e
refused grammar Statement find columns r text items (f.Syntax place) t h =
    nothing_spelt grammar Statement find r text items t h
refused grammar Statement find columns r text items f.NoMemory t h = tt
refused grammar Statement find columns r text items _ t h = absurd h

pub tokens_refused : {T : Type 0} (grammar : Grammar) (Statement : T → Rest → Type 0) (columns : T → ℕ) (text : List ℕ)
    (e : Fault) → tokens.HasNoTokens grammar text e → IsRefusedText (Spells grammar Statement) columns text e
tokens_refused grammar Statement columns text (f.Syntax place) h = λ tree s. read.no_list h s.tokens s.are_tokens
tokens_refused grammar Statement columns text f.NoMemory h = tt
tokens_refused grammar Statement columns text _ h = absurd h

pub one_tree : {T : Type 0} (grammar : Grammar) (Statement : T → Rest → Type 0) (find : Rest → Option T)
    → IsReader Statement find → (text : List ℕ) (a b : T)
    → Spells grammar Statement text a → Spells grammar Statement text b → a ≡ b
one_tree grammar Statement find r text a b x y =
    let e = ap lexemes (read.one_list x.are_tokens y.are_tokens) in
    let i = ap find e in
    let j = r.complete (lexemes x.tokens) a x.statement in
    let k = r.complete (lexemes y.tokens) b y.statement in cc
