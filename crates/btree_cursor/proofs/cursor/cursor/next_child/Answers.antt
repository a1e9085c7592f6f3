use Rattle.std.proofs.Common.{◌≡◌, inr, ◌+◌, ◌≤◌, length, arith, sym, ◌∙◌, ap, subst, Some}
use Rattle.std.proofs.lemmas.List.{length_push}
use Rattle.pager.specs.declared.header.Header.{Header}
use Rattle.pager.specs.PagerState.{IsSoundHeader}
use Rattle.btree.specs.image.Pages.{pages_seen}
use Rattle.btree.specs.image.Tree.{child_at, count_at}
use Rattle.btree_cursor.proofs.lemmas.cursor.FrameLemmas.{IfOk-weaker}
use Rattle.btree_cursor.proofs.lemmas.cursor.HeldLemmas.{down_filled, takes_next}
use Rattle.btree_cursor.proofs.lemmas.cursor.LeftLemmas.{left_child}
use Rattle.btree.proofs.SeenLemmas.{readable}
use Rattle.btree_cursor.proofs.lemmas.cursor.SeenLemmas.{next_within, next_number, next_heads}
use Rattle.btree_cursor.proofs.lemmas.cursor.WayLemmas.{blames_child, leads_next}
use Rattle.btree_cursor.proofs.cursor.cursor.next_child.Goals as goal

pub returns-in_default-clause-stands : goal.returns-in_default-clause-stands
returns-in_default-clause-stands g c = λ steady total places budget b.
    let seen = pages_seen c.args.pager.now.state in
    let header : c.header-header.result ≡ c.args.pager.now.state.header = c.header-header.ensures.is in
    let e = c.in_default.ensures.found seen b.step.holds (readable _ _ (subst (λ (x : Header). IsSoundHeader x) header c.header-header.ensures.sound)) (ap (λ (x : Header). x.usable) (sym header)) (ap (λ (x : Header). x.pages) (sym header)) b.step.page
    (next_within seen _ _ _ c.args.frame _ _ _ b c.requires) (next_number seen _ _ _ c.args.frame _ _ _ b c.requires) in cc

pub returns-in_default-clause-way : goal.returns-in_default-clause-way
returns-in_default-clause-way g c = λ steady way met.
    let seen = pages_seen c.args.pager.now.state in
    let header : c.header-header.result ≡ c.args.pager.now.state.header = c.header-header.ensures.is in
    let count : c.args.frame.count ≡ count_at seen c.args.frame.number = met.holds.count in
    let within : c.args.frame.at + 1 ≤ count_at seen c.args.frame.number = omega (arith, count, c.requires) in
    inr (blames_child seen c.args.kind c.args.root _ c.args.frame.number (c.args.frame.at + 1) met.met met.header within (λ page number.
    let e = c.in_default.ensures.found seen met.holds (readable _ _ (subst (λ (x : Header). IsSoundHeader x) header c.header-header.ensures.sound)) (ap (λ (x : Header). x.usable) (sym header)) (ap (λ (x : Header). x.pages) (sym header)) page within number in cc))

pub returns-clause-stands : goal.returns-clause-stands
returns-clause-stands g c = λ steady total places budget b.
    let seen = pages_seen c.args.pager.now.state in
    let header : c.header-header.result ≡ c.args.pager.now.state.header = c.header-header.ensures.is in
    let found : Some c.in-Some.child ≡ Some (child_at seen c.args.frame.number (c.args.frame.at + 1)) =
    c.in-Some.ensures.found seen b.step.holds (readable _ _ (subst (λ (x : Header). IsSoundHeader x) header c.header-header.ensures.sound)) (ap (λ (x : Header). x.usable) (sym header)) (ap (λ (x : Header). x.pages) (sym header)) b.step.page
    (next_within seen _ _ _ c.args.frame _ _ _ b c.requires) (next_number seen _ _ _ c.args.frame _ _ _ b c.requires) in
    let child : c.in-Some.child ≡ child_at seen c.args.frame.number (c.args.frame.at + 1) = cc in
    c.descend.ensures.stands steady total places budget (next_heads seen _ _ _ c.args.frame _ _ _ b c.requires c.in-Some.child child c.push.new.self.items c.in_ok-push.ensures.items)

pub returns-clause-way : goal.returns-clause-way
returns-clause-way g c = λ steady way met.
    let seen = pages_seen c.args.pager.now.state in
    let header : c.header-header.result ≡ c.args.pager.now.state.header = c.header-header.ensures.is in
    let named = c.in-Some.ensures.named seen met.holds (ap (λ (x : Header). x.usable) (sym header)) (ap (λ (x : Header). x.pages) (sym header)) in
    c.descend.ensures.way steady (leads_next seen c.args.kind c.args.root _ _ c.args.frame c.in-Some.child way met named c.in_ok-push.ensures.items)

pub returns-clause-asks : goal.returns-clause-asks
returns-clause-asks g c =
    let pushed : length c.push.new.self.items ≡ length c.args.frames.now.items + 1 = ap length c.in_ok-push.ensures.items ∙ length_push c.args.frames.now.items _ in
    omega (arith, pushed, c.descend.ensures.asks)

pub returns-clause-left : goal.returns-clause-left
returns-clause-left g c =
    let next = left_child c.args.frames.now.items c.push.new.self.items c.args.frame c.in_ok-push.ensures.items c.requires in
    IfOk-weaker c.descend.result (λ leaf less. omega (arith, next, less)) c.descend.ensures.left

pub returns-clause-next : goal.returns-clause-next
returns-clause-next g c = IfOk-weaker c.descend.result
    (λ leaf down. takes_next c.args.frames.now.items c.push.new.self.items c.descend.new.frames.items c.args.frame leaf c.requires c.in_ok-push.ensures.items down)
    c.descend.ensures.down

pub returns-clause-filled : goal.returns-clause-filled
returns-clause-filled g c = IfOk-weaker c.descend.result
    (λ leaf down. down_filled c.args.frames.now.items c.push.new.self.items c.descend.new.frames.items _ leaf c.in_ok-push.ensures.items down)
    c.descend.ensures.down
