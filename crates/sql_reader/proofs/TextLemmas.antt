-- What a text spells as a statement, and why it spells none.
use Rattle.std.proofs.Common.{◌≡◌, ◌<◌, ◌≤◌, ℕ, suc, List, [], ◌∷◌, length, map, Option, Some, None, Result, Ok, Err, refl, sym, ap, ◌∙◌, arith, subst}
use Rattle.std.specs.Prelude.{◌↔◌, ◌⊎◌, IsOk}
use mathlib.Core.Logic.{inl, inr}
use Rattle.values.specs.declared.fault.Fault.{Fault}
use Rattle.values.specs.declared.fault.Fault.TheVariants as f
use Rattle.sql_reader_grammar.proofs.SoundStatements.{says}
use Rattle.sql_reader_grammar.proofs.StatementLemmas as grammar
use Rattle.sql_reader_grammar.specs.Read.{SaysOfStatement}
use Rattle.sql_reader_grammar.specs.Reading.{statement}
use Rattle.sql_reader_grammar.specs.Statements.{States}
use Rattle.sql_reader_grammar.proofs.lemmas.phrases.TextLemmas.{same_lexemes}
use Rattle.sql_reader_grammar.specs.phrases.Outcomes.{Yields}
use Rattle.sql_reader_grammar.specs.phrases.Texts.{lexemes, lexemes_of, max_levels}
use Rattle.sql_reader_tokens.specs.source_texts.Sources.{source_of, source_text}
use Rattle.sql_reader.proofs.lemmas.statement_limits.LimitLemmas.{none_beyond, not_both, some_within}
use Rattle.sql_reader.specs.statement_limits.Limits.{IsBeyond, IsWithin, max_written}
use Rattle.sql_reader.specs.statement_limits.Spending.{after_statement}
use Rattle.sql_reader.specs.StatementTexts.{IsAllowed, IsRefusedStatement, SpellsAt, SpellsStatement}
use Rattle.sql_reader.specs.Told.{TellsOfStatement}
use Rattle.sql_reader_grammar.specs.statement_trees.StatementView.{statement_of}
use Rattle.sql_reader_grammar.specs.declared.statement_trees.queries.Statement.{Statement}
use Rattle.sql_reader_syntax.specs.StatementTree.{StatementTree}
use Rattle.sql_reader_tokens.proofs.ReadLemmas as tokens_read
use Rattle.sql_reader_tokens.specs.Content.{placed_of}
use Rattle.sql_reader_tokens.specs.Tokens as tokens
use Rattle.sql_reader_tokens.specs.Tokens.{Tokens}
use Rattle.sql_reader_tokens.specs.declared.keywords.keyword.Grammar.TheVariants as g
use Rattle.sql_reader_tokens.specs.declared.token.Token.{Token}

-- What the reader on lists says, as the program tells it

count_lexemes : (items : List Token) → length (lexemes_of items) ≡ length items
count_lexemes [] = refl
count_lexemes (t ∷ items) = ap suc (count_lexemes items)

pub told : (source : ℕ → ℕ → List ℕ) (items : List Token) (r : Result Statement Fault)
    → Yields statement_of r (statement source max_levels (lexemes_of items)) → (r ≡ Err f.Limit → max_levels < length items)
    → TellsOfStatement source (lexemes_of items) r
told source items (Ok s) h many = subst (SaysOfStatement source max_levels (lexemes_of items)) h (says source max_levels (lexemes_of items))
told source items (Err (f.Syntax place)) h many =
    subst (SaysOfStatement source max_levels (lexemes_of items)) h (says source max_levels (lexemes_of items))
told source items (Err f.Limit) h many = (
  let m = many refl in omega (arith, m, count_lexemes items),
  subst (SaysOfStatement source max_levels (lexemes_of items)) h (says source max_levels (lexemes_of items)),
)
told source items (Err f.NoMemory) h many = tt
told source items (Err _) h many = absurd h

pub told_long : (source : ℕ → ℕ → List ℕ) (items : List Token) (r : Result Statement Fault) (e : Fault)
    → Yields statement_of r (statement source max_levels (lexemes_of items)) → r ≡ Err e → max_levels < length items
    → TellsOfStatement source (lexemes_of items) (Err e)
told_long source items r e h is many = subst (TellsOfStatement source (lexemes_of items)) is (told source items r h (λ k. many))

pub told_short : (source : ℕ → ℕ → List ℕ) (items : List Token) (r : Result Statement Fault) (place : ℕ)
    → Yields statement_of r (statement source max_levels (lexemes_of items)) → r ≡ Err f.Limit → length items ≤ max_levels
    → TellsOfStatement source (lexemes_of items) (Err (f.Syntax place))
told_short source items (Err f.Limit) place h e few = λ levels tree x.
    let deep = subst (SaysOfStatement source max_levels (lexemes_of items)) h (says source max_levels (lexemes_of items)) in
    let k = deep levels tree x in let l = grammar.statement_room source x in absurd (omega (arith, k, l, few, count_lexemes items))
told_short source items (Ok s) place h e few = absurd cc
told_short source items (Err _) place h e few = absurd cc

-- Tokens of the program

placed : (text : List ℕ) (items : List Token) (levels : ℕ) (tree : StatementTree)
    → States (source_of text items) levels tree (lexemes_of items)
    → States (source_text text (map placed_of items)) levels tree (lexemes (map placed_of items))
placed text items levels tree = subst (States (source_of text items) levels tree) (sym (same_lexemes items))

-- what any tokens of the text spell, those of the program do
spelt_by_items : (text : List ℕ) (items : List Token) (levels : ℕ) (tree : StatementTree)
    → Tokens g.Select text (map placed_of items) → SpellsAt levels text tree
    → States (source_of text items) levels tree (lexemes_of items)
spelt_by_items text items levels tree t s =
    let i = tokens_read.one_list s.are_tokens t in
    subst (States (source_of text items) levels tree) (same_lexemes items)
    (subst (λ ts. States (source_text text ts) levels tree (lexemes ts)) i s.statement)

length_lexemes : (items : List Token) → length (lexemes_of items) ≡ length (map placed_of items)
length_lexemes [] = refl
length_lexemes (t ∷ items) = ap suc (length_lexemes items)

pub statement_spelt : (text : List ℕ) (items : List Token) (s : Statement) → Tokens g.Select text (map placed_of items)
    → TellsOfStatement (source_of text items) (lexemes_of items) (Ok s) → SpellsStatement text (statement_of s)
statement_spelt text items s t told = record {
  levels = told.0;
  few = told.1;
  spelt = record {
    tokens = map placed_of items;
    are_tokens = t;
    statement = placed text items told.0 (statement_of s) told.2;
  };
}

pub statement_refused : (text : List ℕ) (items : List Token) (e : Fault) → Tokens g.Select text (map placed_of items)
    → TellsOfStatement (source_of text items) (lexemes_of items) (Err e) → IsRefusedStatement text e
statement_refused text items (f.Syntax place) t told = λ levels tree s.
    told levels tree (spelt_by_items text items levels tree t s)
statement_refused text items f.Limit t told =
    inr (inl (record {
      tokens = map placed_of items;
      are_tokens = t;
      many = subst (λ n. max_levels < n) (length_lexemes items) told.0;
      deep = λ levels tree s. told.1 levels tree (spelt_by_items text items levels tree t s);
    }))
statement_refused text items f.NoMemory t told = tt
statement_refused text items _ t told = absurd told

pub tokens_refused : (text : List ℕ) (e : Fault) → tokens.HasNoTokens g.Select text e → IsRefusedStatement text e
tokens_refused text (f.Syntax place) h = λ levels tree s. tokens_read.no_list h s.tokens s.are_tokens
tokens_refused text f.NoMemory h = tt
tokens_refused text _ h = absurd h

same_fault : (d e : Fault) → (let r : Result Unit Fault = Err d in r) ≡ Err e → d ≡ e
same_fault d e h = cc

-- a statement is within the limits or beyond them
decided_by : (tree : StatementTree) (o : Option ℕ) → after_statement tree max_written ≡ o → IsWithin tree ⊎ IsBeyond tree
decided_by tree (Some rest) h = inl (some_within tree rest h)
decided_by tree None h = inr (none_beyond tree h)

-- what the test of a statement's limits refuses is beyond them
pub too_large : (text : List ℕ) (tree : StatementTree) (r : Result Unit Fault) (e : Fault) → SpellsStatement text tree
    → (IsOk r ↔ IsWithin tree) → ((r ≡ Err f.Limit) ↔ IsBeyond tree) → r ≡ Err e → IsRefusedStatement text e
too_large text tree r e spelt within beyond is = elim (decided_by tree (after_statement tree max_written) refl) [
  | inl w ↦ (let passes = subst IsOk is (within.1 w) in absurd cc)
  | inr b ↦
      let i : f.Limit ≡ e = same_fault f.Limit e (sym (beyond.1 b) ∙ is) in
      subst (IsRefusedStatement text) i (inr (inr (record { tree = tree; spelt = spelt; large = b })))
]

pub one_text : (text : List ℕ) (m n : ℕ) (a b : StatementTree) → SpellsAt m text a → SpellsAt n text b → a ≡ b
one_text text m n a b x y =
    let i = tokens_read.one_list y.are_tokens x.are_tokens in
    grammar.one_statement (source_text text x.tokens) m n a b (lexemes x.tokens) x.statement
    (subst (λ ts. States (source_text text ts) n b (lexemes ts)) i y.statement)

pub only_memory : (text : List ℕ) (tree : StatementTree) (e : Fault) → SpellsStatement text tree → IsAllowed text tree
    → IsRefusedStatement text e → e ≡ f.NoMemory
only_memory text tree (f.Syntax place) s a h = absurd (h s.levels tree s.spelt)
only_memory text tree f.Limit s a h = elim h [
  | inl long ↦ (let short = a.short in absurd (omega (arith, long, short)))
  | inr (inl deep) ↦ (let l = deep.deep s.levels tree s.spelt in let few = s.few in absurd (omega (arith, l, few)))
  | inr (inr large) ↦
      absurd (not_both large.tree
      (subst IsWithin (one_text text s.levels large.spelt.levels tree large.tree s.spelt large.spelt.spelt) a.small)
      large.large)
]
only_memory text tree f.NoMemory s a h = refl
only_memory text tree _ s a h = absurd h
