use Rattle.std.proofs.Common.{arith, inr, ap}
use Rattle.std.proofs.lemmas.Result.{err_from_is_err_and}
use Rattle.pager.specs.declared.header.Header.{Header}
use Rattle.btree.specs.image.Pages.{pages_seen}
use Rattle.btree.proofs.lemmas.page_use.WalkLemmas.{free_fault, once_all, unused_all}
use Rattle.btree.proofs.page_use.rest.check_rest.Goals as goal

pub returns-clause-once : goal.returns-clause-once
returns-clause-once g c = λ steady users done is trees all n number.
    let same = ap (λ (h : Header). h.pages) c.header-header.ensures.is in
    once_all (pages_seen c.args.pager.now.state) users done c.check_freelist.new.used (c.in_ok-check_freelist.ensures.marks steady users done is trees) all n
    (c.in_default.ensures.none n number.0 (omega (arith, number.1, same)))

pub returns-in-Some-clause-fault : goal.returns-in-Some-clause-fault
returns-in-Some-clause-fault g c = λ steady.
    let same = ap (λ (h : Header). h.pages) c.header-header.ensures.is in
    let found = c.in-Some.ensures.found in
    inr (λ users done is trees all. (
      (found.0, omega (arith, found.1, same)),
      unused_all (pages_seen c.args.pager.now.state) users done c.check_freelist.new.used (c.in_ok-check_freelist.ensures.marks steady users done is trees) all c.in-Some.n found.2,
    ))

pub returns-in_err-check_freelist-clause-fault : goal.returns-in_err-check_freelist-clause-fault
returns-in_err-check_freelist-clause-fault g c = λ steady.
    let p = err_from_is_err_and c.from_residual.result c.from_residual.ensures.1 in
    rw (p.1, p.2) (free_fault (pages_seen c.args.pager.now.state) c.args.pager.now.state.header.freelist c.args.pager.now.state.header.free_pages c.args.used.now c.in_err-check_freelist.field-0.0 (c.in_err-check_freelist.ensures.fault steady))
