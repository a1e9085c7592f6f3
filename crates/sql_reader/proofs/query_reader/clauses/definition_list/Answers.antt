use Rattle.sql_reader_exprs.specs.clause_reader.Seen.{seen}
use Rattle.sql_reader_tokens.specs.declared.sign.Sign.TheVariants as s
use Rattle.sql_reader_grammar.proofs.lemmas.phrases.StepLemmas.{at_sign}
use Rattle.std.proofs.Common.{ap, length, sym, arith}
use Rattle.std.proofs.lemmas.Result.{err_from_is_err_and}
use Rattle.sql_reader_grammar.proofs.lemmas.phrases.TurnLemmas.{first_err, first_ok, next_err, next_ok}
use Rattle.sql_reader_grammar.specs.phrases.Texts.{lexemes_of}
use Rattle.sql_reader_grammar.specs.Reading.{all, definition}
use Rattle.sql_reader_grammar.specs.phrases.Steps.{after_comma}
use Rattle.sql_reader_grammar.specs.statement_trees.TreeView.{definition_of}
use Rattle.sql_reader_exprs.specs.window_reader.Setting.{at}
use Rattle.sql_reader.proofs.lemmas.query_reader.Shrinking.{definition_shorter, definitions_shrink}
use Rattle.sql_reader.proofs.query_reader.clauses.definition_list.Goals as goal

pub returns-in_err-first-clause-value : goal.returns-in_err-first-clause-value
returns-in_err-first-clause-value g c =
    let t = g.I.Inner.setting c.args.inner.now in
    let p = err_from_is_err_and c.from_residual.result c.from_residual.ensures.1 in
    rw (p.1, p.2) (first_err (λ place. at definition t) after_comma (lexemes_of c.args.tokens.now)
    c.in_err-first.field-0.0
    c.in_err-first.ensures.value)

pub loop-start-init : goal.loop-start-init
loop-start-init g c =
    let t = g.I.Inner.setting c.args.inner.now in
    let first = c.in_ok-first.first in
    record {
      all = first_ok definition_of (λ place. at definition t) after_comma (definitions_shrink t) (lexemes_of
          c.args.tokens.now) (lexemes_of first.rest.now)
          c.new-trees.result.items c.push.new.self.items first.tree first.levels c.new-trees.ensures.items
          c.in_ok-push.ensures.items
          c.in_ok-first.ensures.value;
      within = c.in_ok-first.ensures.within;
    }

pub returns-in_err-next-clause-value : goal.returns-in_err-next-clause-value
returns-in_err-next-clause-value g c =
    let t = g.I.Inner.setting c.args.inner.now in
    let p = err_from_is_err_and c.from_residual-in_err-next.result c.from_residual-in_err-next.ensures.1 in
    rw (p.1, p.2) (next_err definition_of (λ place. at definition t) after_comma (all (λ place. at definition t)
    (lexemes_of c.args.tokens.now)) c.loop-start.trees.items c.loop-start.levels
    (lexemes_of c.loop-start.rest.now) (lexemes_of c.in-Some.start.now) c.in_err-next.field-0.0
    c.loop-start.invariant.all
    (sym c.in-Some.ensures.found) c.in_err-next.ensures.value)

pub loop-start-preserved : goal.loop-start-preserved
loop-start-preserved g c =
    let t = g.I.Inner.setting c.args.inner.now in
    let next = c.in_ok-next.next in
    record {
      all = rw (c.max-levels.ensures) (next_ok definition_of (λ place. at definition t) after_comma
          (definitions_shrink t) (all (λ place. at definition t) (lexemes_of c.args.tokens.now))
          c.loop-start.trees.items
          c.push-in-Some.new.self.items c.loop-start.levels next.levels (lexemes_of c.loop-start.rest.now)
          (lexemes_of c.in-Some.start.now) (lexemes_of next.rest.now) next.tree c.in_ok-push-2.ensures.items
          c.loop-start.invariant.all
          (sym c.in-Some.ensures.found) c.in_ok-next.ensures.value);
      within = omega (arith, c.max-levels.ensures, c.loop-start.invariant.within, c.in_ok-next.ensures.within);
    }

pub loop-start-smaller : goal.loop-start-smaller
loop-start-smaller g c =
    let t = g.I.Inner.setting c.args.inner.now in
    let l = definition_shorter t (lexemes_of c.in-Some.start.now) (seen definition_of c.in_ok-next.next)
    c.in_ok-next.ensures.value in
    let i = ap length (at_sign s.Comma (lexemes_of c.loop-start.rest.now) (lexemes_of c.in-Some.start.now)
    (sym c.in-Some.ensures.found)) in
    omega (arith, l, i)
