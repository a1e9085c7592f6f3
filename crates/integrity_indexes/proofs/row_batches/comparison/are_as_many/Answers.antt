use Rattle.std.proofs.Common.{◌∙◌, ap, subst, arith}
use Rattle.std.proofs.lemmas.Bool.{eqb-true, le-leb, leb-true}
use Rattle.pager.specs.PagerState.{IsSoundHeader}
use Rattle.pager.specs.declared.header.Header.{Header}
use Rattle.integrity_indexes.proofs.lemmas.index_rows.CountLemmas.{as_many_tell}
use Rattle.integrity_indexes.proofs.row_batches.comparison.are_as_many.Goals as goal

pub returns-then-rows-entries : goal.returns-then-rows-entries
returns-then-rows-entries g c = λ root many places number are rows_are entries_are.
    let state = c.args.pager.now.state in
    let sound = subst IsSoundHeader c.header.ensures.is c.header.ensures.sound in
    let tell = as_many_tell state.header state.source.bytes sound root many places number are c.args.rows c.args.entries rows_are entries_are in
    let most = c.from-most.ensures ∙ ap (λ (h : Header). h.pages) c.header.ensures.is in (
      λ t. tell.0 c.if-rows-entries.true (let least = leb-true _ _ t in omega (arith, least, most)),
      λ same. le-leb _ _ (let few = (tell.1 same).1 in omega (arith, few, most)),
    )

pub returns-else-rows-entries : goal.returns-else-rows-entries
returns-else-rows-entries g c = λ root many places number are rows_are entries_are.
    let state = c.args.pager.now.state in
    let sound = subst IsSoundHeader c.header.ensures.is c.header.ensures.sound in
    let tell = as_many_tell state.header state.source.bytes sound root many places number are c.args.rows c.args.entries rows_are entries_are in (
      λ t. absurd (c.if-rows-entries.false (eqb-true _ _ t)),
      λ same. absurd (c.if-rows-entries.false (tell.1 same).0),
    )
