use Rattle.windows.proofs.lemmas.first_values.BestLemmas.{one_null, one_whole}
use Rattle.windows.proofs.first_values.best.own_place.Goals as goal

pub returns-in-Null-clause-first : goal.returns-in-Null-clause-first
returns-in-Null-clause-first c = λ side.
    one_null side c.args.values.now c.args.at c.requires c.index-values-at.result c.index-values-at.is c.in-Null.is

pub returns-in_default : goal.returns-in_default
returns-in_default c = record {
  first = λ side. one_whole side c.args.values.now c.args.at c.requires c.index-values-at.result c.index-values-at.is c.in_default.not-Null;
  within = c.requires;
}
