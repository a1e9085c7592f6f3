use Rattle.std.proofs.Common.{rules, inr}
use Rattle.pager.specs.Header.{IsLeastBroken}
use Rattle.pager.proofs.CallLemmas.{IfErr-weaker}
use Rattle.pager.proofs.pager.load.Goals as goal

pub returns-clause-fault : goal.returns-clause-fault
returns-clause-fault g c = IfErr-weaker c.read_header.result
    (λ e h. inr (h.0, λ steady. let least : IsLeastBroken (g.S.Source.facts c.args.source.now).bytes e = search rules in least))
    c.read_header.ensures.err
