use Rattle.std.proofs.Common.{◌≡◌, ◌∙◌, List, ap, length, map, rules, sym, arith}
use Rattle.semantics_names.specs.Sources.{kind_of}
use Rattle.logical_plan_queries.proofs.ScanLemmas.{one_from}
use Rattle.expr.specs.View.{term}
use Rattle.expr.specs.declared.tree.Expr.{Expr}
use Rattle.logical_plan_terms.specs.table_plans.Input.{from_of}
use Rattle.logical_plan_queries.proofs.scans.scan_of.Goals as goal

pub returns : goal.returns
returns c =
    let served = rw c.in-Some.is at c.in_ok-served.ensures in
    let least = c.in-len1.len_at_least in
    let most = c.in-len1.len_below in
    let long : length c.as_slice.result.now ≡ 1 = omega (arith, least, most) in record {
      width = c.table-item.result.width;
      from_is =
          served.0 ∙ ap from_of (sym c.as_slice.ensures.value)
          ∙ one_from c.as_slice.result.now c.table-item.result long c.table-item.is (ap kind_of c.in-Inner.is) c.if-not-is_always.ensures;
      bare = search rules;
      columns_are = ap (λ (ts : List Expr). map term ts) (sym c.as_slice-2.ensures.value) ∙ (rw c.in-Some-places.is at c.in_ok-places.ensures);
    }
