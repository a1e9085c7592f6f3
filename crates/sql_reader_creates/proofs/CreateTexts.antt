-- What a text spells as a CREATE TABLE, and why it spells none.
use Rattle.std.proofs.Common.{◌≡◌, ℕ, List, map, Some}
use Rattle.values.specs.declared.fault.Fault.{Fault}
use Rattle.sql_reader_tokens.specs.Content.{placed_of}
use Rattle.sql_reader_tokens.specs.Tokens as tokens
use Rattle.sql_reader_tokens.specs.Tokens.{Tokens}
use Rattle.sql_reader_tokens.specs.declared.keywords.keyword.Grammar.TheVariants as g
use Rattle.sql_reader_tokens.specs.declared.token.Token.{Token}
use Rattle.sql_reader_grammar.proofs.lemmas.phrases.TextLemmas.{IsReader, one_tree, refused, spelt_by, tokens_refused}
use Rattle.sql_reader_grammar.specs.phrases.Steps.{IsMissing}
use Rattle.sql_reader_grammar.specs.phrases.Texts.{IsRefusedText, lexemes_of}
use Rattle.sql_reader_grammar.specs.create_trees.CreateTrees.{TableTree, columns_of_table}
use Rattle.sql_reader_creates.proofs.CreateLemmas.{create_complete, create_sound}
use Rattle.sql_reader_creates.specs.CreateGrammar.{Creates, SpellsCreate}
use Rattle.sql_reader_creates.specs.CreateReading.{create}

reads_create : IsReader Creates create
reads_create = record { sound = create_sound; complete = λ ts tree s. create_complete s }

pub create_spelt : (text : List ℕ) (items : List Token) (tree : TableTree)
    → Tokens g.Create text (map placed_of items) → create (lexemes_of items) ≡ Some tree → SpellsCreate text tree
create_spelt = spelt_by g.Create Creates create reads_create

pub create_refused : (text : List ℕ) (items : List Token) (e : Fault) → Tokens g.Create text (map placed_of items)
    → IsMissing e (create (lexemes_of items)) → IsRefusedText SpellsCreate columns_of_table text e
create_refused = refused g.Create Creates create columns_of_table reads_create

pub create_tokens_refused : (text : List ℕ) (e : Fault) → tokens.HasNoTokens g.Create text e
    → IsRefusedText SpellsCreate columns_of_table text e
create_tokens_refused = tokens_refused g.Create Creates columns_of_table

pub one_create : (text : List ℕ) (a b : TableTree) → SpellsCreate text a → SpellsCreate text b → a ≡ b
one_create = one_tree g.Create Creates create reads_create
