-- The sources of a FROM, one after another.
use Rattle.std.proofs.Common.{◌≡◌, ◌+◌, ◌-◌, ◌^◌, ℕ, Bool, true, false, List, [], ◌∷◌, Ok, Err, add_assoc, add-zero, ap, arith, min, nat_le, sum_by, sym, zero-add, ◌∙◌}
use Rattle.std.proofs.lemmas.List.Sums.{sum_by-cons}
use Rattle.values.specs.declared.fault.Fault.TheVariants.{Limit}
use Rattle.resolver_bodies.specs.BodyView.{JoinedData, joined_all}
use Rattle.semantics.specs.Query.{Body, From, InnerQuery, Source}
use Rattle.semantics_names.specs.Outcome.{checked}
use Rattle.values.specs.Bounds.{counted}
use Rattle.semantics_names.specs.Statement.{max_sources, sources_of, sources_of_body, sources_of_from, sources_of_inner, with_answers, within}

joined_are : (from : From) (js : List JoinedData) → sources_of_from (joined_all from js) ≡ sources_of_from from + sum_by (λ j. sources_of j.source) js
joined_are from [] = sym (add-zero (sources_of_from from))
joined_are from (j ∷ js) =
    joined_are (From.joined from j.kind j.source j.condition) js
    ∙ add_assoc (sources_of_from from) (sources_of j.source) (sum_by (λ j. sources_of j.source) js)
    ∙ ap (λ n. sources_of_from from + n) (sym (sum_by-cons (λ j. sources_of j.source) j js))

answered_are : (from : From) (qs : List InnerQuery) → sources_of_from (with_answers from qs) ≡ sources_of_from from + sum_by sources_of_inner qs
answered_are from [] = sym (add-zero (sources_of_from from))
answered_are from (q ∷ qs) =
    answered_are (From.with_inner from q) qs ∙ add_assoc (sources_of_from from) (sources_of_inner q) (sum_by sources_of_inner qs)
    ∙ ap (λ n. sources_of_from from + n) (sym (sum_by-cons sources_of_inner q qs))

-- those of a FROM with its inner queries
pub tables_are : (js : List JoinedData) (qs : List InnerQuery)
    → sources_of_from (with_answers (joined_all From.nothing js) qs) ≡ sum_by (λ j. sources_of j.source) js + sum_by sources_of_inner qs
tables_are js qs =
    answered_are (joined_all From.nothing js) qs
    ∙ ap (λ n. n + sum_by sources_of_inner qs) (joined_are From.nothing js ∙ zero-add (sum_by (λ j. sources_of j.source) js))

-- two counts together
pub both_counted : (x y r a b whole : ℕ) → r ≡ min (x + y) (2 ^ 64 - 1) → x ≡ counted a → y ≡ counted b → whole ≡ a + b → r ≡ counted whole
both_counted x y r a b whole sum first second all = omega arith

-- what an item of WITH is as a source
module _ (body : Body) (r : Bool) (e : r ≡ nat_le (sources_of_body body) max_sources) where
  pub within_none : r ≡ false → Err Limit ≡ within body
  within_none beyond = ap (λ b. checked b Limit (Ok (Source.derived body))) (sym beyond ∙ e)

  pub within_some : r ≡ true → Ok (Source.derived body) ≡ within body
  within_some few = ap (λ b. checked b Limit (Ok (Source.derived body))) (sym few ∙ e)
