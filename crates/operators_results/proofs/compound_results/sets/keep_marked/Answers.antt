use Rattle.std.proofs.Common.{rules, ◌≡◌, ◌∙◌, refl}
use Rattle.logical_plan.specs.answers.Joined.{has_row}
use Rattle.operators_results.proofs.lemmas.compound_results.SetLemmas.{filtered_is, kept_by_marks}
use Rattle.operators_results.specs.contracts.compound_results.sets.fn.keep_marked.retain as closure
use Rattle.operators_results.proofs.compound_results.sets.keep_marked.Goals as goal

pub returns : goal.returns
returns c = λ others marks.
    kept_by_marks _ c.args.wanted (λ p. (closure.captures p).rest.now) (λ p. (closure.captures p).wanted ≡ c.args.wanted)
    (λ p x b q is called. search rules) (has_row others) _ _ _ refl marks c.retain.ensures.filtered
    ∙ filtered_is c.args.wanted c.args.set.now.keys others
