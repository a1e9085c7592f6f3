use Rattle.std.proofs.Common.{List, sym, ap, ◌∙◌, inr, arith}
use Rattle.std.proofs.lemmas.List.{length-map}
use Rattle.sql_reader_creates.proofs.CreateTexts.{create_spelt}
use Rattle.sql_reader_creates.proofs.create.read_create.Goals as goal
use Rattle.sql_reader_creates.specs.CreateReading.{create}
use Rattle.sql_reader_grammar.specs.create_trees.CreateView.{column_of, table_of}
use Rattle.sql_reader_grammar.specs.phrases.Texts.{lexemes_of}
use Rattle.sql_reader_tokens.specs.declared.token.Token.{Token}

pub returns-then-len-gt-MAX_COLUMNS-clause-refused :
    goal.returns-then-len-gt-MAX_COLUMNS-clause-refused
returns-then-len-gt-MAX_COLUMNS-clause-refused c =
    let found = ap (λ (ts : List Token). create (lexemes_of ts)) (sym c.as_slice.ensures.value)
    ∙ c.in_ok-table.ensures in
    let columns = length-map c.in_ok-table.table.columns.items column_of in
    inr (
      table_of c.in_ok-table.table,
      create_spelt c.args.text.now c.in_ok-tokens.tokens.items (table_of c.in_ok-table.table)
          c.in_ok-tokens.ensures.spelt found,
      omega (arith, columns, c.len.ensures, c.if-len-gt-MAX_COLUMNS.true),
    )
