use Rattle.std.proofs.Common.{sym, arith}
use Rattle.std.proofs.lemmas.Result.{err_from_is_err_and}
use Rattle.sql_reader_grammar.proofs.lemmas.phrases.TurnLemmas.{first_err, first_ok, next_err, next_ok}
use Rattle.sql_reader_grammar.specs.phrases.Texts.{lexemes_of}
use Rattle.sql_reader_exprs.specs.clause_reader.Seen.{bytes_of}
use Rattle.sql_reader_grammar.specs.Reading.{a_name, names}
use Rattle.sql_reader_grammar.specs.phrases.Steps.{after_comma}
use Rattle.sql_reader_exprs.proofs.lemmas.clause_reader.NameLemmas.{names_shrink}
use Rattle.sql_reader_exprs.proofs.clause_reader.name_lists.names.Goals as goal

pub returns-in_err-first-clause-value : goal.returns-in_err-first-clause-value
returns-in_err-first-clause-value c =
    let p = err_from_is_err_and c.from_residual.result c.from_residual.ensures.1 in
    rw (p.1, p.2) (first_err (λ place. a_name) after_comma (lexemes_of c.args.tokens.now) c.in_err-first.field-0.0
    c.in_err-first.ensures.value)

pub loop-start-init : goal.loop-start-init
loop-start-init c =
    let first = c.in_ok-first.first in
    record {
      all = first_ok bytes_of (λ place. a_name) after_comma names_shrink (lexemes_of c.args.tokens.now)
          (lexemes_of first.rest.now)
          c.new-names.result.items c.push.new.self.items first.tree first.levels c.new-names.ensures.items
          c.in_ok-push.ensures.items
          c.in_ok-first.ensures.value;
      within = c.in_ok-first.ensures.within;
    }

pub returns-in_err-next-clause-value : goal.returns-in_err-next-clause-value
returns-in_err-next-clause-value c =
    let p = err_from_is_err_and c.from_residual-in_err-next.result c.from_residual-in_err-next.ensures.1 in
    rw (p.1, p.2) (next_err bytes_of (λ place. a_name) after_comma (names (lexemes_of c.args.tokens.now))
    c.loop-start.names.items c.loop-start.levels
    (lexemes_of c.loop-start.rest.now) (lexemes_of c.in-Some.start.now) c.in_err-next.field-0.0
    c.loop-start.invariant.all
    (sym c.in-Some.ensures.found) c.in_err-next.ensures.value)

pub loop-start-preserved : goal.loop-start-preserved
loop-start-preserved c =
    let next = c.in_ok-next.next in
    record {
      all = rw (c.max-levels.ensures) (next_ok bytes_of (λ place. a_name) after_comma names_shrink (names (lexemes_of
          c.args.tokens.now)) c.loop-start.names.items
          c.push-in-Some.new.self.items c.loop-start.levels next.levels (lexemes_of c.loop-start.rest.now)
          (lexemes_of c.in-Some.start.now) (lexemes_of next.rest.now) next.tree c.in_ok-push-2.ensures.items
          c.loop-start.invariant.all
          (sym c.in-Some.ensures.found) c.in_ok-next.ensures.value);
      within = omega (arith, c.max-levels.ensures, c.loop-start.invariant.within, c.in_ok-next.ensures.within);
    }
