use Rattle.std.proofs.Common.{◌≡◌, ℕ, false, true, refl, subst, sym, ◌∙◌}
use Rattle.integrity_trees.specs.index_walk.Walked.{HasAllEntries}
use Rattle.integrity_trees.proofs.lemmas.index_walk.SeenLemmas.{index_page_is, no_entries, no_view, not_filled}
use Rattle.integrity_trees.proofs.index_walk.page.index_page.Goals.{then-not-has_entries-via-then-not-has_entries, then-not-has_entries-via-else-not-has_entries+then-not-is_filled}
use Rattle.integrity_trees.proofs.index_walk.page.index_page.Goals as goal

pub returns-in_default-clause-fault : goal.returns-in_default-clause-fault
returns-in_default-clause-fault c =
    (refl, λ pager header page steady reaches. no_view pager c.args.header.now header c.args.n c.args.page.now page steady c.args.root reaches c.in_default.ensures.none)

pub returns-then-not-has_entries-clause-fault : goal.returns-then-not-has_entries-clause-fault
returns-then-not-has_entries-clause-fault c = (
  refl,
  λ pager header page steady reaches. elim c.then-not-has_entries.branch [
    | then-not-has_entries-via-then-not-has_entries w ↦
        no_entries pager c.args.header.now header c.args.n c.args.page.now page steady c.in-Some.view c.in-Some.ensures.found.0 c.args.root reaches
        (λ entries.
        let all : HasAllEntries c.in-Some.view c.image_size.result = subst (λ (m : ℕ). HasAllEntries c.in-Some.view m) (sym c.image_size.ensures) entries in
        let yes : c.has_entries.result ≡ true = c.has_entries.ensures.1 all in
        let no : c.has_entries.result ≡ false = w.if-not-has_entries.true in
        let e : false ≡ true = sym no ∙ yes in cc)
    | then-not-has_entries-via-else-not-has_entries+then-not-is_filled w ↦
        not_filled pager c.args.header.now header c.args.n c.args.page.now page steady c.in-Some.view c.in-Some.ensures.found.0 c.args.root reaches
        (λ filled.
        let yes : w.is_filled.result ≡ true = w.is_filled.ensures.1 filled in
        let no : w.is_filled.result ≡ false = w.if-not-is_filled.true in
        let e : false ≡ true = sym no ∙ yes in cc)
  ],
)

pub returns-clause-found : goal.returns-clause-found
returns-clause-found c = λ pager header page steady.
    index_page_is pager c.args.header.now header c.args.n c.args.page.now page steady c.in-Some.view c.in-Some.ensures.found.0 c.args.root
    (subst (λ (m : ℕ). HasAllEntries c.in-Some.view m) c.image_size.ensures (c.has_entries.ensures.0 c.if-not-has_entries.false))
    (c.is_filled.ensures.0 c.if-not-is_filled.false)
