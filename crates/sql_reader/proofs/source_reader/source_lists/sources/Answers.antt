use Rattle.std.proofs.Common.{arith}
use Rattle.std.proofs.lemmas.Result.{err_from_is_err_and}
use Rattle.sql_reader_exprs.specs.clause_reader.Seen.{seen}
use Rattle.sql_reader_exprs.specs.lookahead.QueryFronts.{joining_of}
use Rattle.sql_reader_grammar.specs.Reading.{sources}
use Rattle.sql_reader_grammar.specs.phrases.Outcomes.{read}
use Rattle.sql_reader_grammar.specs.phrases.Texts.{lexemes_of}
use Rattle.sql_reader_grammar.specs.statement_trees.TreeView.{source_of}
use Rattle.sql_reader_exprs.specs.window_reader.Setting.{at}
use Rattle.sql_reader.specs.source_reader.Views.{source_and_on}
use Rattle.sql_reader.proofs.lemmas.source_reader.SourceLemmas.{first_err, first_ok, further_shorter, next_err, next_ok, sources_so_far}
use Rattle.sql_reader.proofs.source_reader.source_lists.sources.Goals as goal

pub returns-in_err-first-clause-value : goal.returns-in_err-first-clause-value
returns-in_err-first-clause-value g c =
    let t = g.I.Inner.setting c.args.inner.now in
    let p = err_from_is_err_and c.from_residual.result c.from_residual.ensures.1 in
    rw (p.1, p.2) (first_err t (lexemes_of c.args.tokens.now) c.in_err-first.field-0.0 c.in_err-first.ensures.value)

pub loop-joining-init : goal.loop-joining-init
loop-joining-init g c =
    let t = g.I.Inner.setting c.args.inner.now in
    record {
      all = first_ok t (lexemes_of c.args.tokens.now) c.new-others.result.items (seen source_of c.in_ok-first.first)
          c.new-others.ensures.items c.in_ok-first.ensures.value;
      within = c.in_ok-first.ensures.within;
    }

pub returns-in_err-next-clause-value : goal.returns-in_err-next-clause-value
returns-in_err-next-clause-value g c =
    let t = g.I.Inner.setting c.args.inner.now in
    let p = err_from_is_err_and c.from_residual-in_err-next.result c.from_residual-in_err-next.ensures.1 in
    rw (p.1, p.2)
    (next_err t
    (read (sources_so_far (source_of c.in_ok-first.first.tree) c.loop-joining.others.items) c.loop-joining.levels
    (lexemes_of c.loop-joining.rest.now))
    (at sources t (lexemes_of c.args.tokens.now)) (joining_of c.in-Some.joining) c.in_err-next.field-0.0
    c.loop-joining.invariant.all c.in-Some.ensures c.in_err-next.ensures.value)

pub loop-joining-preserved : goal.loop-joining-preserved
loop-joining-preserved g c =
    let t = g.I.Inner.setting c.args.inner.now in
    let next = c.in_ok-next.next in
    record {
      all = rw (c.max-levels.ensures)
          (next_ok t (source_of c.in_ok-first.first.tree) c.loop-joining.others.items c.push.new.self.items
          c.loop-joining.levels (lexemes_of c.loop-joining.rest.now) (at sources t (lexemes_of c.args.tokens.now))
          (joining_of c.in-Some.joining) c.joined.result (seen source_and_on next) c.loop-joining.invariant.all
          c.in-Some.ensures c.in_ok-next.ensures.value c.joined.ensures c.in_ok-push.ensures.items);
      within = omega (arith, c.max-levels.ensures, c.loop-joining.invariant.within, c.in_ok-next.ensures.within);
    }

pub loop-joining-smaller : goal.loop-joining-smaller
loop-joining-smaller g c =
    further_shorter (g.I.Inner.setting c.args.inner.now) (lexemes_of c.loop-joining.rest.now) (joining_of c.in-Some.joining)
    (seen source_and_on c.in_ok-next.next) c.in-Some.ensures c.in_ok-next.ensures.value
