use Rattle.std.proofs.Common.{[], ◌∷◌, ◌++◌, refl, sym, arith}
use Rattle.sql_reader_grammar.proofs.lemmas.phrases.ListLemmas.{goes_from_nothing, goes_more}
use Rattle.sql_reader_grammar.specs.phrases.Texts.{lexemes_of}
use Rattle.sql_reader_creates.proofs.lemmas.column_reader.ReferenceLemmas.{act_shortens}
use Rattle.sql_reader_creates.proofs.column_reader.references.after_reference.Goals as goal
use Rattle.sql_reader_creates.specs.column_reader.ColumnReading.{act, acts, after_on}

pub loop-act-init : goal.loop-act-init
loop-act-init c = record {
  all = ([], goes_from_nothing (λ (u : Unit {0}). u) after_on act (lexemes_of c.in_ok-rest.rest.now) [] refl);
  no_longer = omega arith;
}

pub loop-act-preserved : goal.loop-act-preserved
loop-act-preserved c =
    let front = c.loop-act.invariant.all.0 in
    record {
      all = (
        front ++ tt ∷ [],
        goes_more (λ (u : Unit {0}). u) after_on act act_shortens (acts (lexemes_of c.in_ok-rest.rest.now))
            (lexemes_of c.loop-act.rest.now) (lexemes_of c.in-Some-after_keyword.act.now) (lexemes_of c.in_ok-after.after.now) front
            (front ++ tt ∷ []) tt refl (sym c.in-Some-after_keyword.ensures.found) c.in_ok-after.ensures.value
            c.loop-act.invariant.all.1,
      );
      no_longer = omega (arith, c.in_ok-after.ensures.shorter, c.in-Some-after_keyword.ensures.shorter, c.loop-act.invariant.no_longer);
    }
