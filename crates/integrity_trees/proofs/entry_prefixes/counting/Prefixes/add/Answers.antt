use Rattle.std.proofs.Common.{◌≡◌, ◌∙◌, ◌++◌, ◌≤◌, ◌<◌, ◌∷◌, [], List, Option, ℕ, length, subst, sym}
use Rattle.records.specs.Record.{IsRecord}
use Rattle.values.specs.Row.{Row}
use Rattle.integrity_trees.specs.entry_prefixes.Counting.{EndsWith, IsCounted}
use Rattle.integrity_trees.proofs.lemmas.entry_prefixes.CountLemmas.{no_last, some_last}
use Rattle.integrity_trees.proofs.entry_prefixes.counting.Prefixes.add.Goals as goal

pub returns-then-not-is_some-clause-counted : goal.returns-then-not-is_some-clause-counted
returns-then-not-is_some-clause-counted c = λ rows before row ends last_is row_is long_last long_row are.
    let none = no_last c.args.last.now before last_is (sym c.is_some.ensures ∙ c.if-not-is_some.true) in
    let empty : rows ≡ [] = subst (λ (o : Option Row). EndsWith rows o) none ends in
    subst (λ (l : List Row). IsCounted (l ++ row ∷ []) c.add_first.new.self) (sym empty)
    (c.add_first.ensures.counted row (subst (λ (l : List Row). IsCounted l c.args.self.now) empty are))

pub returns-clause-counted : goal.returns-clause-counted
returns-clause-counted c = λ rows before row ends last_is row_is long_last long_row are.
    let one = some_last c.args.last.now before last_is (sym c.is_some.ensures ∙ c.if-not-is_some.false) in
    let width : c.len.result ≡ length c.args.self.now.distinct.items = c.len.ensures ∙ c.args.self.now.distinct.ok.0 in
    let one_is = subst (λ (b : List ℕ). IsRecord b one.0) (sym c.bytes.ensures) one.2 in
    let wide : c.len.result ≤ length one.0 = subst (λ (n : ℕ). n ≤ length one.0) (sym width) (long_last one.0 one.1) in
    let long : c.len.result ≤ length row = subst (λ (n : ℕ). n ≤ length row) (sym width) long_row in
    c.add_later.ensures.counted rows one.0 row (subst (λ (o : Option Row). EndsWith rows o) one.1 ends) row_is long_row
    (c.shared_columns-shared.ensures.agree one.0 row one_is wide row_is long)
    (λ less. c.shared_columns-shared.ensures.differ one.0 row one_is wide row_is long (subst (λ (n : ℕ). c.shared_columns-shared.result < n) (sym width) less))
    are
