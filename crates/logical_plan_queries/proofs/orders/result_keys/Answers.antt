use Rattle.std.proofs.Common.{◌∙◌, ℕ, map, sym, ap, subst}
use Rattle.logical_plan.specs.answers.Permitted.{IsResultColumn}
use Rattle.windows_groups.specs.Keys.{result_key}
use Rattle.semantics.specs.Query as query
use Rattle.logical_plan_queries.proofs.ResultLemmas.{keys_more, not_all, results_more}
use Rattle.logical_plan_queries.proofs.orders.result_keys.Goals as goal

pub returns-in-None : goal.returns-in-None
returns-in-None c = not_all c.args.order.now c.loop-key.key-index c.key-item.result c.loop-key-test.true c.key-item.is c.in-None.ensures

pub loop-key-preserved : goal.loop-key-preserved
loop-key-preserved c =
    let key = c.key-item.result in record {
      all = results_more c.args.order.now c.loop-key.key-index key c.loop-key-test.true c.key-item.is c.loop-key.invariant.all (subst IsResultColumn (sym c.in-Some.ensures) tt);
      same =
          ap (map result_key) c.in_ok-push.ensures.items
          ∙ keys_more c.args.order.now c.loop-key.key-index key c.loop-key-test.true c.key-item.is c.loop-key.keys.items c.key_at.result c.loop-key.invariant.same
          (λ j. let q : query.Key = record {
            by = (ap (λ (at : ℕ). query.KeyTerm.result at) c.key_at.ensures.at ∙ sym c.in-Some.ensures) j;
            direction = c.key_at.ensures.direction j;
          } in q);
    }
