use Rattle.std.proofs.Common.{rules, ◌≡◌, ℕ, List, ◌-◌, ◌++◌, length, inl, inr, ap, ◌∙◌, subst, ⊎_elim}
use Rattle.std.proofs.lemmas.Result.{err_from_is_err_and}
use Rattle.btree.specs.Views.{payload_data}
use Rattle.btree.specs.image.Chain.{IsChain, joined}
use Rattle.btree.specs.image.Pages.{pages_seen}
use Rattle.btree.proofs.lemmas.page_use.ChainMarks.{no_links, payload_marks, payload_twice}
use Rattle.btree.proofs.page_use.chains.payload.Goals as goal

pub returns-in_default-clause-marks : goal.returns-in_default-clause-marks
returns-in_default-clause-marks g c = λ steady.
    no_links (pages_seen c.args.pager.now.state) (payload_data c.args.cell.now.payload) c.args.used.now (search rules)

pub returns-clause-bytes : goal.returns-clause-bytes
returns-clause-bytes g c = λ steady.
    let told = c.in_ok-append_chain.ensures.joined steady (search rules) in
    let start : c.extend_from_slice.new.self.items ≡ c.args.cell.now.payload.local.now = search rules in
    let left : c.saturating_sub-left.result ≡ c.args.cell.now.payload.size - length c.args.cell.now.payload.local.now = search rules in
    joined c.in-Some.first told.0 (search rules)
    (subst (λ (k : ℕ). IsChain (pages_seen c.args.pager.now.state) c.in-Some.first k told.0) left told.1)
    (told.2 ∙ ap (λ (x : List ℕ). x ++ told.0) start)

pub returns-clause-marks : goal.returns-clause-marks
returns-clause-marks g c = λ steady.
    let left : c.saturating_sub-left.result ≡ c.args.cell.now.payload.size - length c.args.cell.now.payload.local.now = search rules in
    payload_marks (pages_seen c.args.pager.now.state) (payload_data c.args.cell.now.payload) c.in-Some.first c.saturating_sub-left.result
    c.args.used.now c.append_chain.new.used (search rules) left (c.in_ok-append_chain.ensures.marks steady (search rules))

pub returns-in_err-append_chain-clause-fault : goal.returns-in_err-append_chain-clause-fault
returns-in_err-append_chain-clause-fault g c = λ steady.
    let left : c.saturating_sub-left.result ≡ c.args.cell.now.payload.size - length c.args.cell.now.payload.local.now = search rules in
    let p = err_from_is_err_and c.from_residual-in_err-append_chain.result c.from_residual-in_err-append_chain.ensures.1 in
    rw (p.1, p.2)
    (⊎_elim inl (λ twice. inr (payload_twice (pages_seen c.args.pager.now.state) (payload_data c.args.cell.now.payload) c.in-Some.first c.saturating_sub-left.result
    c.args.used.now (search rules) left c.in_err-append_chain.field-0.0 twice)) (c.in_err-append_chain.ensures.fault steady))
