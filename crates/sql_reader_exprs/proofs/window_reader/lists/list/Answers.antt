use Rattle.sql_reader_tokens.specs.declared.sign.Sign.TheVariants as s
use Rattle.sql_reader_grammar.proofs.lemmas.phrases.StepLemmas.{at_sign}
use Rattle.std.proofs.Common.{◌≡◌, Ok, length, sym, ap, ◌∙◌, subst, arith}
use Rattle.sql_reader_exprs.specs.clause_reader.Seen.{seen}
use Rattle.sql_reader_grammar.specs.phrases.Outcomes.{Fails}
use Rattle.std.proofs.lemmas.Result.{err_from_is_err_and}
use Rattle.sql_reader_grammar.proofs.lemmas.phrases.TurnLemmas.{first_err, first_ok, next_err, next_ok}
use Rattle.sql_reader_grammar.specs.phrases.Texts.{lexemes_of}
use Rattle.sql_reader_exprs.specs.window_reader.Setting.{at}
use Rattle.sql_reader_exprs.specs.window_reader.Views.{numbers_of}
use Rattle.sql_reader_grammar.specs.Reading.{item, list}
use Rattle.sql_reader_grammar.specs.phrases.Steps.{after_comma}
use Rattle.sql_reader_grammar.specs.statement_trees.TreeView.{expr_of}
use Rattle.sql_reader_exprs.proofs.lemmas.window_reader.Shrinking.{item_shorter, items_shrink}
use Rattle.sql_reader_exprs.proofs.window_reader.lists.list.Goals as goal

pub returns-in_err-first-clause-value : goal.returns-in_err-first-clause-value
returns-in_err-first-clause-value g c =
    let t = g.I.Inner.setting c.args.inner.now in
    let p = err_from_is_err_and c.from_residual.result c.from_residual.ensures.1 in
    rw (p.1, p.2) (first_err (λ place. at item t (numbers_of c.args.function place)) after_comma (lexemes_of
    c.args.tokens.now) c.in_err-first.field-0.0
    (subst (λ b. Fails c.in_err-first.field-0.0 (at item t b (lexemes_of c.args.tokens.now))) c.is_number_at.ensures
    c.in_err-first.ensures.value))

pub loop-start-init : goal.loop-start-init
loop-start-init g c =
    let t = g.I.Inner.setting c.args.inner.now in
    let first = c.in_ok-first.first in
    record {
      all = first_ok expr_of (λ place. at item t (numbers_of c.args.function place)) after_comma (items_shrink t
          (numbers_of c.args.function)) (lexemes_of c.args.tokens.now) (lexemes_of first.rest.now)
          c.new-trees.result.items c.push.new.self.items first.tree first.levels c.new-trees.ensures.items
          c.in_ok-push.ensures.items
          (subst (λ b. at item t b (lexemes_of c.args.tokens.now) ≡ Ok (seen expr_of first)) c.is_number_at.ensures
          c.in_ok-first.ensures.value);
      within = c.in_ok-first.ensures.within;
    }

pub returns-in_err-next-clause-value : goal.returns-in_err-next-clause-value
returns-in_err-next-clause-value g c =
    let t = g.I.Inner.setting c.args.inner.now in
    let p = err_from_is_err_and c.from_residual-in_err-next.result c.from_residual-in_err-next.ensures.1 in
    rw (p.1, p.2) (next_err expr_of (λ place. at item t (numbers_of c.args.function place)) after_comma (at list t
    (numbers_of c.args.function) (lexemes_of c.args.tokens.now)) c.loop-start.trees.items c.loop-start.levels
    (lexemes_of c.loop-start.rest.now) (lexemes_of c.in-Some.start.now) c.in_err-next.field-0.0
    c.loop-start.invariant.all
    (sym c.in-Some.ensures.found)
    (subst (λ b. Fails c.in_err-next.field-0.0 (at item t b (lexemes_of c.in-Some.start.now)))
    (c.is_number_at-number.ensures ∙ ap (numbers_of c.args.function) (c.len.ensures ∙ c.loop-start.trees.ok.0))
    c.in_err-next.ensures.value))

pub loop-start-preserved : goal.loop-start-preserved
loop-start-preserved g c =
    let t = g.I.Inner.setting c.args.inner.now in
    let next = c.in_ok-next.next in
    record {
      all = rw (c.max-levels.ensures) (next_ok expr_of (λ place. at item t (numbers_of c.args.function place))
          after_comma (items_shrink t (numbers_of c.args.function)) (at list t (numbers_of c.args.function)
          (lexemes_of c.args.tokens.now)) c.loop-start.trees.items
          c.push-in-Some.new.self.items c.loop-start.levels next.levels (lexemes_of c.loop-start.rest.now)
          (lexemes_of c.in-Some.start.now) (lexemes_of next.rest.now) next.tree c.in_ok-push-2.ensures.items
          c.loop-start.invariant.all
          (sym c.in-Some.ensures.found)
          (subst (λ b. at item t b (lexemes_of c.in-Some.start.now) ≡ Ok (seen expr_of next))
          (c.is_number_at-number.ensures ∙ ap (numbers_of c.args.function) (c.len.ensures ∙ c.loop-start.trees.ok.0))
          c.in_ok-next.ensures.value));
      within = omega (arith, c.max-levels.ensures, c.loop-start.invariant.within, c.in_ok-next.ensures.within);
    }

pub loop-start-smaller : goal.loop-start-smaller
loop-start-smaller g c =
    let t = g.I.Inner.setting c.args.inner.now in
    let l = item_shorter t c.is_number_at-number.result (lexemes_of c.in-Some.start.now) (seen expr_of
    c.in_ok-next.next) c.in_ok-next.ensures.value in
    let i = ap length (at_sign s.Comma (lexemes_of c.loop-start.rest.now) (lexemes_of c.in-Some.start.now) (sym
    c.in-Some.ensures.found)) in
    omega (arith, l, i)
