use Rattle.std.proofs.Common.{add-one, arith}
use Rattle.std.proofs.lemmas.Result.{err_from_is_err_and}
use Rattle.sql_reader_exprs.specs.clause_reader.Seen.{seen}
use Rattle.sql_reader_grammar.specs.Reading.{query_by}
use Rattle.sql_reader_grammar.specs.phrases.Outcomes.{read}
use Rattle.sql_reader_grammar.specs.phrases.Texts.{lexemes_of}
use Rattle.sql_reader_grammar.specs.statement_trees.TreeView.{core_of}
use Rattle.sql_reader_exprs.specs.window_reader.Setting.{at}
use Rattle.sql_reader.proofs.lemmas.query_reader.CompoundLemmas.{first_err, first_ok, full, next_err, next_ok, query_so_far}
use Rattle.sql_reader.proofs.query_reader.queries.query_by.Goals as goal

pub returns-in_err-first-clause-value : goal.returns-in_err-first-clause-value
returns-in_err-first-clause-value g c =
    let t = g.I.Inner.setting c.args.inner.now in
    let p = err_from_is_err_and c.from_residual.result c.from_residual.ensures.1 in
    rw (p.1, p.2) (first_err t (lexemes_of c.args.tokens.now) c.in_err-first.field-0.0 c.in_err-first.ensures.value)

pub loop-operator-init : goal.loop-operator-init
loop-operator-init g c =
    let t = g.I.Inner.setting c.args.inner.now in
    record {
      whole = first_ok t (lexemes_of c.args.tokens.now) c.new-others.result.items (seen core_of c.in_ok-first.first)
          c.new-others.ensures.items c.in_ok-first.ensures.value;
      within = c.in_ok-first.ensures.within;
    }

pub returns-then-levels-depth-clause-value : goal.returns-then-levels-depth-clause-value
returns-then-levels-depth-clause-value g c =
    let t = g.I.Inner.setting c.args.inner.now in
    full t (read (query_so_far (core_of c.in_ok-first.first.tree) c.loop-operator.others.items) c.loop-operator.levels
    (lexemes_of c.loop-operator.rest.now))
    (at query_by t (lexemes_of c.args.tokens.now)) (c.in-Some.operator, lexemes_of c.in-Some.start.now)
    c.loop-operator.invariant.whole c.in-Some.ensures
    (omega (arith, c.depth.ensures, c.if-levels-depth.true))

pub returns-in_err-next-clause-value : goal.returns-in_err-next-clause-value
returns-in_err-next-clause-value g c =
    let t = g.I.Inner.setting c.args.inner.now in
    let p = err_from_is_err_and c.from_residual-in_err-next.result c.from_residual-in_err-next.ensures.1 in
    rw (p.1, p.2)
    (next_err t
    (read (query_so_far (core_of c.in_ok-first.first.tree) c.loop-operator.others.items) c.loop-operator.levels
    (lexemes_of c.loop-operator.rest.now))
    (at query_by t (lexemes_of c.args.tokens.now)) (c.in-Some.operator, lexemes_of c.in-Some.start.now)
    c.in_err-next.field-0.0 c.loop-operator.invariant.whole c.in-Some.ensures
    (omega (arith, c.depth.ensures, c.if-levels-depth.false)) c.in_err-next.ensures.value)

pub loop-operator-preserved : goal.loop-operator-preserved
loop-operator-preserved g c =
    let t = g.I.Inner.setting c.args.inner.now in
    let next = c.in_ok-next.next in
    record {
      whole = rw (c.max-levels.ensures, add-one)
          (next_ok t (core_of c.in_ok-first.first.tree) c.loop-operator.others.items c.push.new.self.items
          c.loop-operator.levels (lexemes_of c.loop-operator.rest.now) (at query_by t (lexemes_of c.args.tokens.now))
          (c.in-Some.operator, lexemes_of c.in-Some.start.now) c.arranged.result (seen core_of next)
          c.loop-operator.invariant.whole c.in-Some.ensures
          (omega (arith, c.depth.ensures, c.if-levels-depth.false)) c.in_ok-next.ensures.value c.arranged.ensures
          c.in_ok-push.ensures.items);
      within = omega (
        arith,
        c.max-levels.ensures,
        c.loop-operator.invariant.within,
        c.in_ok-next.ensures.within,
        c.depth.ensures,
        c.if-levels-depth.false,
      );
    }
