-- What a text spells as a CREATE INDEX, and why it spells none.
use Rattle.std.proofs.Common.{◌≡◌, ℕ, ◌<◌, ◌≤◌, List, length, map, Result, Ok, Err, refl, sym, ◌∙◌, arith, subst}
use mathlib.Core.Logic.{inl, inr}
use Rattle.std.proofs.lemmas.List.{length-map}
use Rattle.values.specs.declared.fault.Fault.{Fault}
use Rattle.values.specs.declared.fault.Fault.TheVariants as f
use Rattle.sql_reader_tokens.proofs.ReadLemmas as tokens_read
use Rattle.sql_reader_tokens.specs.Content.{lexeme_of, placed_of}
use Rattle.sql_reader_tokens.specs.Tokens as tokens
use Rattle.sql_reader_tokens.specs.Tokens.{Tokens}
use Rattle.sql_reader_tokens.specs.declared.keywords.keyword.Grammar.TheVariants as g
use Rattle.sql_reader_tokens.specs.declared.token.Token.{Token}
use Rattle.sql_reader_grammar.proofs.lemmas.phrases.TextLemmas.{same_lexemes}
use Rattle.sql_reader_grammar.specs.phrases.Outcomes.{Yields}
use Rattle.sql_reader_grammar.specs.phrases.Texts.{AreWithinLimits, lexemes, lexemes_of, max_columns, max_levels}
use Rattle.sql_reader_tokens.specs.source_texts.Sources.{source_of, source_text}
use Rattle.sql_reader_creates.proofs.IndexLemmas.{index_room, one_spelt, says}
use Rattle.sql_reader_creates.specs.IndexGrammar.{CreatesIndex}
use Rattle.sql_reader_creates.specs.IndexReading.{create_index}
use Rattle.sql_reader_creates.specs.IndexTexts.{IsRefusedIndex, SpellsIndex, SpellsIndexAt}
use Rattle.sql_reader_creates.specs.Told.{SaysOfIndex, TellsOfIndex}
use Rattle.sql_reader_grammar.specs.create_trees.CreateTrees.{IndexTree, columns_of_index}
use Rattle.sql_reader_grammar.specs.create_trees.CreateView.{index_of}
use Rattle.sql_reader_grammar.specs.declared.create_trees.create.CreateIndex.{CreateIndex}

-- What the reader on lists says, as the program tells it

count_lexemes : (items : List Token) → length (lexemes_of items) ≡ length items
count_lexemes items = length-map items (λ (t : Token). lexeme_of t.kind)

pub told : (source : ℕ → ℕ → List ℕ) (items : List Token) (r : Result CreateIndex Fault)
    → Yields index_of r (create_index source max_levels (lexemes_of items)) → (r ≡ Err f.Limit → max_levels < length items)
    → TellsOfIndex source (lexemes_of items) r
told source items (Ok s) h many = subst (SaysOfIndex source max_levels (lexemes_of items)) h (says source max_levels (lexemes_of items))
told source items (Err (f.Syntax place)) h many =
    subst (SaysOfIndex source max_levels (lexemes_of items)) h (says source max_levels (lexemes_of items))
told source items (Err f.Limit) h many = (
  let m = many refl in omega (arith, m, count_lexemes items),
  subst (SaysOfIndex source max_levels (lexemes_of items)) h (says source max_levels (lexemes_of items)),
)
told source items (Err f.NoMemory) h many = tt
told source items (Err _) h many = absurd h

pub told_long : (source : ℕ → ℕ → List ℕ) (items : List Token) (r : Result CreateIndex Fault) (e : Fault)
    → Yields index_of r (create_index source max_levels (lexemes_of items)) → r ≡ Err e → max_levels < length items
    → TellsOfIndex source (lexemes_of items) (Err e)
told_long source items r e h is many = subst (TellsOfIndex source (lexemes_of items)) is (told source items r h (λ k. many))

pub told_short : (source : ℕ → ℕ → List ℕ) (items : List Token) (r : Result CreateIndex Fault) (place : ℕ)
    → Yields index_of r (create_index source max_levels (lexemes_of items)) → r ≡ Err f.Limit → length items ≤ max_levels
    → TellsOfIndex source (lexemes_of items) (Err (f.Syntax place))
told_short source items (Err f.Limit) place h e few = λ levels tree x.
    let deep = subst (SaysOfIndex source max_levels (lexemes_of items)) h (says source max_levels (lexemes_of items)) in
    let k = deep levels tree x in let l = index_room source x in absurd (omega (arith, k, l, few, count_lexemes items))
told_short source items (Ok s) place h e few = absurd cc
told_short source items (Err _) place h e few = absurd cc

-- Tokens of the program

-- what any tokens of the text spell, those of the program do
spelt_by_items : (text : List ℕ) (items : List Token) (levels : ℕ) (tree : IndexTree)
    → Tokens g.Create text (map placed_of items) → SpellsIndexAt levels text tree
    → CreatesIndex (source_of text items) levels tree (lexemes_of items)
spelt_by_items text items levels tree t s =
    let i = tokens_read.one_list s.are_tokens t in
    subst (CreatesIndex (source_of text items) levels tree) (same_lexemes items)
    (subst (λ ts. CreatesIndex (source_text text ts) levels tree (lexemes ts)) i s.statement)

pub index_spelt : (text : List ℕ) (items : List Token) (s : CreateIndex) → Tokens g.Create text (map placed_of items)
    → TellsOfIndex (source_of text items) (lexemes_of items) (Ok s) → SpellsIndex text (index_of s)
index_spelt text items s t told = record {
  levels = told.0;
  few = told.1;
  spelt = record {
    tokens = map placed_of items;
    are_tokens = t;
    statement = subst (CreatesIndex (source_of text items) told.0 (index_of s)) (sym (same_lexemes items)) told.2;
  };
}

pub index_refused : (text : List ℕ) (items : List Token) (e : Fault) → Tokens g.Create text (map placed_of items)
    → TellsOfIndex (source_of text items) (lexemes_of items) (Err e) → IsRefusedIndex text e
index_refused text items (f.Syntax place) t told = λ levels tree s.
    told levels tree (spelt_by_items text items levels tree t s)
index_refused text items f.Limit t told =
    inr (inl (record {
      tokens = map placed_of items;
      are_tokens = t;
      many = subst (λ n. max_levels < n) (count_lexemes items ∙ sym (length-map items placed_of)) told.0;
      deep = λ levels tree s. told.1 levels tree (spelt_by_items text items levels tree t s);
    }))
index_refused text items f.NoMemory t told = tt
index_refused text items _ t told = absurd told

pub index_tokens_refused : (text : List ℕ) (e : Fault) → tokens.HasNoTokens g.Create text e → IsRefusedIndex text e
index_tokens_refused text (f.Syntax place) h = λ levels tree s. tokens_read.no_list h s.tokens s.are_tokens
index_tokens_refused text f.NoMemory h = tt
index_tokens_refused text _ h = absurd h

pub one_index : (text : List ℕ) (m n : ℕ) (a b : IndexTree) → SpellsIndexAt m text a → SpellsIndexAt n text b → a ≡ b
one_index text m n a b x y =
    let i = tokens_read.one_list y.are_tokens x.are_tokens in
    one_spelt (source_text text x.tokens) m n a b (lexemes x.tokens) x.statement
    (subst (λ ts. CreatesIndex (source_text text ts) n b (lexemes ts)) i y.statement)

pub only_memory : (text : List ℕ) (tree : IndexTree) (e : Fault) → SpellsIndex text tree → AreWithinLimits columns_of_index text tree
    → IsRefusedIndex text e → e ≡ f.NoMemory
only_memory text tree (f.Syntax place) s a h = absurd (h s.levels tree s.spelt)
only_memory text tree f.Limit s a h = elim h [
  | inl long ↦ (let short = a.0 in absurd (omega (arith, long, short)))
  | inr (inl deep) ↦ (let l = deep.deep s.levels tree s.spelt in let few = s.few in absurd (omega (arith, l, few)))
  | inr (inr wide) ↦
      let e = one_index text s.levels wide.spelt.levels tree wide.tree s.spelt wide.spelt.spelt in
      let few = a.1 in
      let w = subst (λ tree. max_columns < columns_of_index tree) (sym e) wide.wide in
      absurd (omega (arith, few, w))
]
only_memory text tree f.NoMemory s a h = refl
only_memory text tree _ s a h = absurd h
