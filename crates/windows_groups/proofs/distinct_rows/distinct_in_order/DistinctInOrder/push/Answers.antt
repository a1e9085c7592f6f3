use Rattle.std.proofs.Common.{◌≡◌, ◌∙◌, ◌++◌, ◌∷◌, [], false, if◌then◌else◌, map, refl, sym, ap, subst}
use Rattle.std.specs.List.{list_any}
use Rattle.values.specs.Datum.{datum_of}
use Rattle.values.specs.Row.{Row}
use Rattle.semantics.specs.Times.{same_row}
use Rattle.windows_groups.specs.Firsts.{IsBehind}
use Rattle.windows_groups.specs.Keys.{comes_before}
use Rattle.windows_groups.specs.distinct_rows.OnceView.{KeepsOnce, first_of}
use Rattle.windows_groups.specs.declared.distinct_rows.distinct_in_order.DistinctInOrder.{DistinctInOrder}
use Rattle.windows_groups.proofs.lemmas.distinct_rows.OnceLemmas.{once_again, once_behind, once_new}
use Rattle.windows_groups.proofs.distinct_rows.distinct_in_order.DistinctInOrder.push.Goals as goal

pub returns-then-is_behind-clause-kept : goal.returns-then-is_behind-clause-kept
returns-then-is_behind-clause-kept c = λ came keeps.
    once_behind c.args.order.now c.args.self.now came keeps (map datum_of c.args.row.items)
    (rw c.as_slice.ensures.value at (c.is_behind.ensures.behind c.if-is_behind.true keeps.keeps.keeps.ascends))

pub returns-then-contains-clause-kept : goal.returns-then-contains-clause-kept
returns-then-contains-clause-kept c = λ came keeps.
    subst (λ (row : Row). KeepsOnce c.args.order.now c.args.self.now (came ++ row ∷ [])) c.from-row.ensures
    (once_again c.args.order.now c.args.self.now came keeps c.from-row.result (sym c.contains.ensures ∙ c.if-contains.true))

pub returns-then-not-is_full-clause-kept : goal.returns-then-not-is_full-clause-kept
returns-then-not-is_full-clause-kept c = λ came keeps.
    let keys = c.args.self.now.kept.keys in
    let row = c.from-row.result in
    let out : list_any (same_row row) keys ≡ false = sym c.contains.ensures ∙ c.if-contains.false in
    let now : DistinctInOrder = record { most = c.args.self.now.most; kept = c.insert.new.self; ordered = c.args.self.now.ordered } in
    subst (λ (row : Row). KeepsOnce c.args.order.now now (came ++ row ∷ [])) c.from-row.ensures
    (once_new c.args.order.now c.args.self.now came keeps row now refl refl (c.in_ok-insert.ensures.keys ∙ ap (λ b. if b then keys else (keys ++ row ∷ [])) out)
    (λ behind. c.is_behind.ensures.ahead c.if-is_behind.false keeps.keeps.keeps.ascends
    (subst (λ (row : Row). IsBehind (comes_before c.args.order.now) c.args.self.now.most (first_of c.args.self.now) row) (c.from-row.ensures ∙ sym (ap (map datum_of) c.as_slice.ensures.value)) behind)) out)

pub returns-clause-kept : goal.returns-clause-kept
returns-clause-kept c = λ came keeps.
    let keys = c.args.self.now.kept.keys in
    let row = c.from-row.result in
    let out : list_any (same_row row) keys ≡ false = sym c.contains.ensures ∙ c.if-contains.false in
    let now : DistinctInOrder = record { most = c.args.self.now.most; kept = c.insert.new.self; ordered = c.args.self.now.ordered } in
    c.in_ok-put_in_order.ensures.kept _
    (subst (λ (row : Row). KeepsOnce c.args.order.now now (came ++ row ∷ [])) c.from-row.ensures
    (once_new c.args.order.now c.args.self.now came keeps row now refl refl (c.in_ok-insert.ensures.keys ∙ ap (λ b. if b then keys else (keys ++ row ∷ [])) out)
    (λ behind. c.is_behind.ensures.ahead c.if-is_behind.false keeps.keeps.keeps.ascends
    (subst (λ (row : Row). IsBehind (comes_before c.args.order.now) c.args.self.now.most (first_of c.args.self.now) row) (c.from-row.ensures ∙ sym (ap (map datum_of) c.as_slice.ensures.value)) behind)) out))
