use Rattle.std.proofs.Common.{List, Ok, subst, inr, arith}
use Rattle.std.proofs.lemmas.List.{length-map}
use Rattle.sql_reader_grammar.specs.phrases.Texts.{lexemes_of}
use Rattle.sql_reader_tokens.specs.source_texts.Sources.{source_of}
use Rattle.sql_reader_creates.proofs.IndexTexts.{index_spelt}
use Rattle.sql_reader_creates.proofs.index.read_create_index.Goals as goal
use Rattle.sql_reader_creates.specs.Told.{TellsOfIndex}
use Rattle.sql_reader_grammar.specs.create_trees.CreateView.{index_of, indexed_of}
use Rattle.sql_reader_tokens.specs.declared.token.Token.{Token}

pub returns-then-len-gt-MAX_COLUMNS-clause-refused :
    goal.returns-then-len-gt-MAX_COLUMNS-clause-refused
returns-then-len-gt-MAX_COLUMNS-clause-refused c =
    let index = c.in_ok-index.index in
    let told = subst (λ (ts : List Token). TellsOfIndex (source_of c.args.text.now ts) (lexemes_of ts) (Ok index))
    c.as_slice.ensures.value c.in_ok-index.ensures in
    let columns = length-map index.columns.items indexed_of in
    inr (inr (record {
      tree = index_of index;
      spelt = index_spelt c.args.text.now c.in_ok-tokens.tokens.items index c.in_ok-tokens.ensures.spelt told;
      wide = omega (arith, columns, c.len.ensures, c.if-len-gt-MAX_COLUMNS.true);
    }))
