use Rattle.std.proofs.Common.{rules, ◌≡◌, ℕ, List, ◌-◌, ◌++◌, length, ap, ◌∙◌, subst}
use Rattle.btree.specs.image.Chain.{IsChain, joined}
use Rattle.btree.specs.image.Pages.{pages_seen}
use Rattle.btree.proofs.chains.payload.Goals as goal

pub returns-clause-outcome : goal.returns-clause-outcome
returns-clause-outcome g c = λ steady.
    let told = c.in_ok-append_chain.ensures.joined steady (search rules) in
    let start : c.extend_from_slice.new.self.items ≡ c.args.cell.now.payload.local.now = search rules in
    let left : c.saturating_sub-left.result ≡ c.args.cell.now.payload.size - length c.args.cell.now.payload.local.now = search rules in
    joined c.in-Some.first told.0 (search rules)
    (subst (λ (k : ℕ). IsChain (pages_seen c.args.pager.now.state) c.in-Some.first k told.0) left told.1)
    (told.2 ∙ ap (λ (x : List ℕ). x ++ told.0) start)
