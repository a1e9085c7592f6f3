use Rattle.std.proofs.Common.{◌≡◌, ◌∙◌, ◌++◌, ◌∷◌, [], false, if◌then◌else◌, sym, ap}
use Rattle.std.specs.List.{list_any}
use Rattle.semantics.specs.Times.{same_row}
use Rattle.operators_results.specs.Slices.{sliced}
use Rattle.operators_results.specs.distinct_results.Firsts.{firsts, unmet}
use Rattle.windows_groups.proofs.lemmas.distinct_rows.FirstLemmas.{met_passed, new_first}
use Rattle.operators_results.proofs.distinct_results.first_rows.FirstRows.meet.Goals as goal

pub returns-then-contains-clause-passed : goal.returns-then-contains-clause-passed
returns-then-contains-clause-passed c = λ no rows.
    ap (sliced c.args.self.now.slice) (met_passed c.args.self.now.met.keys c.args.row rows (sym c.contains.ensures ∙ c.if-contains.true))

pub returns-then-not-gives-clause-passed : goal.returns-then-not-gives-clause-passed
returns-then-not-gives-clause-passed c = λ no rows.
    let met = c.args.self.now.met.keys in
    let row = c.args.row in
    let out : list_any (same_row row) met ≡ false = sym c.contains.ensures ∙ c.if-contains.false in
    let keys : c.insert.new.self.keys ≡ met ++ row ∷ [] = c.in_ok-insert.ensures.keys ∙ ap (λ b. if b then met else (met ++ row ∷ [])) out in
    ap (sliced c.args.self.now.slice) (new_first met row rows out)
    ∙ c.gives.ensures.passed c.if-not-gives.true row (unmet (met ++ row ∷ []) (firsts rows))
    ∙ ap (λ keys. sliced c.gives.new.self (unmet keys (firsts rows))) (sym keys)

pub returns-clause-given : goal.returns-clause-given
returns-clause-given c = λ yes rows.
    let met = c.args.self.now.met.keys in
    let row = c.args.row in
    let out : list_any (same_row row) met ≡ false = sym c.contains.ensures ∙ c.if-contains.false in
    let keys : c.insert-2.new.self.keys ≡ met ++ row ∷ [] = c.in_ok-insert-2.ensures.keys ∙ ap (λ b. if b then met else (met ++ row ∷ [])) out in
    ap (sliced c.args.self.now.slice) (new_first met row rows out)
    ∙ c.gives.ensures.given c.if-not-gives.false row (unmet (met ++ row ∷ []) (firsts rows))
    ∙ ap (λ keys. row ∷ sliced c.gives.new.self (unmet keys (firsts rows))) (sym keys)
