use Rattle.std.proofs.Common.{rules, arith, ◌≡◌, ℕ, List, ◌-◌, ◌++◌, ◌≤◌, take, drop, length, min, Option, IfSome, sym, ap, ◌∙◌, subst, length-take-le}
use Rattle.pager.specs.Header.{field}
use Rattle.pager.specs.declared.header.Header.{Header}
use Rattle.btree.specs.image.Pages.{pages_seen, Pages, IsNumber}
use Rattle.btree.proofs.ChainLemmas.{first_field, goes_on, no_page, read_all, read_page}
use Rattle.btree.proofs.SeenLemmas.{same_pages, still_steady}
use Rattle.pager.proofs.CallLemmas.{AsksChainsOnly-trans}
use Rattle.btree.proofs.chains.append_chain.Goals as goal

pub returns-in_default-clause-broken : goal.returns-in_default-clause-broken
returns-in_default-clause-broken g c = λ steady no.
    let inv = c.loop-left.invariant in
    let none : ¬ IsNumber (pages_seen c.loop-left.pager.state) c.loop-left.next = search rules in
    no_page _ _ _ _ _ _ _ (inv.read steady) c.loop-left-test.true
    (subst (λ (p : Pages). ¬ IsNumber p c.loop-left.next) (same_pages _ _ inv.chained.image) none)

pub loop-left-preserved : goal.loop-left-preserved
loop-left-preserved g c =
    let inv = c.loop-left.invariant in
    let told = c.in_ok-page.ensures in
    let header : c.header-usable.result ≡ c.args.pager.now.state.header = c.header-usable.ensures.is in
    let pages = pages_seen c.args.pager.now.state in
    record {
      chained = AsksChainsOnly-trans _ _ _ inv.chained c.overflow_page.ensures.reads.chains;
      failures = told.reads.failures ∙ inv.failures;
      read = λ steady.
          let now = still_steady _ _ inv.chained.image steady in
          let used = take c.header-usable.result.usable c.as_slice.result.now in
          let page : c.as_slice.result.now ≡ c.in-Some.page = search rules in
          let usable : c.loop-left.pager.state.header.usable ≡ c.header-usable.result.usable =
          ap (λ (h : Header). h.usable) (inv.chained.image.header ∙ sym header) in
          let seen : take c.loop-left.pager.state.header.usable c.in-Some.page ≡ (pages_seen c.loop-left.pager.state).page c.loop-left.next =
          subst (λ (o : Option (List ℕ)). IfSome o (λ (x : List ℕ). take c.loop-left.pager.state.header.usable x ≡ (pages_seen c.loop-left.pager.state).page c.loop-left.next)) c.in-Some.is (told.page now) in
          let number : IsNumber (pages_seen c.loop-left.pager.state) c.loop-left.next =
          subst (λ (o : Option (List ℕ)). IfSome o (λ (x : List ℕ). IsNumber (pages_seen c.loop-left.pager.state) c.loop-left.next)) c.in-Some.is told.number in
          let wide : c.loop-left.pager.state.header.usable ≤ length c.in-Some.page =
          subst (λ (o : Option (List ℕ)). IfSome o (λ (x : List ℕ). c.loop-left.pager.state.header.usable ≤ length x)) c.in-Some.is told.long in
          let same : used ≡ pages.page c.loop-left.next =
          (λ k. take (sym usable k) (page k)) ∙ seen ∙ ap (λ (p : Pages). p.page c.loop-left.next) (same_pages _ _ inv.chained.image) in
          let long : length used ≡ c.header-usable.result.usable = length-take-le c.header-usable.result.usable c.as_slice.result.now
          (omega (arith, ap length page, usable, wide)) in
          let taken : c.min-taken.result ≡ min c.loop-left.left (c.header-usable.result.usable - 4) = search rules in
          let items : c.extend_from_slice.new.self.items ≡ c.loop-left.bytes.items ++ take c.min-taken.result (drop 4 used) = search rules in
          let next : c.read_u32-next.result ≡ field used 0 4 = first_field used c.read_u32-next.result (search rules) in
          read_page pages c.args.first c.args.size c.args.bytes.now.items c.loop-left.bytes.items c.loop-left.next c.loop-left.left (inv.read steady)
          used c.header-usable.result.usable c.min-taken.result c.extend_from_slice.new.self.items c.read_u32-next.result (c.loop-left.left - c.min-taken.result)
          (subst (λ (p : Pages). IsNumber p c.loop-left.next) (same_pages _ _ inv.chained.image) number) c.loop-left-test.true
          same long (ap (λ (h : Header). h.usable) header) taken items next (λ i. c.loop-left.left - c.min-taken.result);
    }

pub returns-clause-joined : goal.returns-clause-joined
returns-clause-joined g c = λ steady last.
    read_all _ _ _ _ _ _ _ (c.loop-left.invariant.read steady) (omega (arith, c.loop-left-test.false)) (search rules)

pub returns-clause-broken : goal.returns-clause-broken
returns-clause-broken g c = λ steady other.
    goes_on _ _ _ _ _ _ _ (c.loop-left.invariant.read steady) (omega (arith, c.loop-left-test.false)) (search rules)
