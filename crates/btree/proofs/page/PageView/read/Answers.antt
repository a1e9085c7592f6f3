use Rattle.std.proofs.Common.{◌∙◌, rules}
use Rattle.btree.proofs.CellLemmas.{IfNone-always}
use Rattle.btree.proofs.PageLemmas.{has_header, places_past}
use Rattle.btree.proofs.page.PageView.read.Goals as goal

pub returns-in_err-level-clause-none : goal.returns-in_err-level-clause-none
returns-in_err-level-clause-none c = λ least most. IfNone-always c.from_residual.result
    (rw (← c.header_place-at.ensures.place) (λ level h. c.in_err-level.ensures.none level (c.flag_at.ensures ∙ h.flag_is)))

pub returns-then-at-places-clause-none : goal.returns-then-at-places-clause-none
returns-then-at-places-clause-none c = λ least most.
    rw (← c.header_place-at.ensures.place)
    (places_past _ _ _ _ _ _ _ c.flag_at.ensures c.in_ok-level.ensures.found c.size_of_header.ensures c.count_of.ensures c.if-at-places.true)

pub invariant_of-result : goal.invariant_of-result
invariant_of-result c = record {
  header = has_header _ _ _ _ _ _ _ c.flag_at.ensures c.in_ok-level.ensures.found c.size_of_header.ensures c.count_of.ensures c.if-at-places.false;
  at_most = search rules;
  least = search rules;
  most = search rules;
}

pub returns-clause-found : goal.returns-clause-found
returns-clause-found c = record {
  is = search rules;
  header = rw (← c.header_place-at.ensures.place)
      (has_header _ _ _ _ _ _ _ c.flag_at.ensures c.in_ok-level.ensures.found c.size_of_header.ensures c.count_of.ensures c.if-at-places.false);
}
