use Rattle.std.proofs.Common.{◌≡◌, ◌∙◌, ◌++◌, List, ℕ, SFits, ap, arith, false, rules, sym, take, true, w64}
use Rattle.std.proofs.lemmas.Int.{to_z-of_z}
use Rattle.integrity_indexes.specs.entry_batches.Codes.{codes_of}
use Rattle.integrity_indexes.proofs.lemmas.index_batches.KeyLemmas.{by_has, long_keyed, passed, rowless}
use Rattle.integrity_indexes.proofs.index_batches.fields.is_placed.Goals as goal

pub returns-in_default : goal.returns-in_default
returns-in_default c = λ values is.
    let s = c.args.sought.now in
    rowless s.columns values s.batch.now s.above s.most (λ rowid front. c.in_default.ensures.none values rowid front is)

pub returns-then-not-is_for : goal.returns-then-not-is_for
returns-then-not-is_for c = λ values is.
    let s = c.args.sought.now in
    let fits : SFits w64 c.in-Some.rowid = search rules in
    passed s.columns values s.batch.now s.above s.most c.in-Some.rowid (c.in-Some.ensures.found values is)
    (λ within. let t = (rw (to_z-of_z w64 c.in-Some.rowid fits) at c.is_for.ensures).1 within in let e : false ≡ true = sym c.if-not-is_for.true ∙ t in cc)

pub returns-then-not-branch : goal.returns-then-not-branch
returns-then-not-branch c = λ values is.
    let s = c.args.sought.now in
    let few = c.in_ok-push_columns.ensures.none c.if-not-branch.true values is in
    let long = long_keyed s.columns values c.in-Some.rowid (take s.columns values) (c.in-Some.ensures.found values is) in
    absurd (omega (arith, few, long))

pub returns : goal.returns
returns c = λ values is.
    let s = c.args.sought.now in
    let fits : SFits w64 c.in-Some.rowid = search rules in
    let pushed = c.in_ok-push_columns.ensures.code c.if-not-branch.false values is in
    by_has s.columns values s.batch.now s.above s.most c.has.result c.in-Some.rowid (c.in-Some.ensures.found values is)
    ((rw (to_z-of_z w64 c.in-Some.rowid fits) at c.is_for.ensures).0 c.if-not-is_for.false)
    c.as_slice.result.now (c.as_slice.ensures.value ∙ pushed.0 ∙ ap (λ (l : List ℕ). l ++ codes_of (take s.columns values)) c.clear.ensures.items)
    pushed.1 (rw (to_z-of_z w64 c.in-Some.rowid fits) at c.has.ensures)
