use Rattle.resolver.proofs.KnownLemmas.{with_schema}
use Rattle.resolver.proofs.known.known_tables.Goals as goal

pub returns : goal.returns
returns c =
    with_schema c.args.tables.now c.in_ok-known.known.items c.push.new.self.items c.push-2.new.self.items c.in_ok-schema.schema c.in_ok-master.master
    c.in_ok-push.ensures.items c.in_ok-push-2.ensures.items c.in_ok-known.ensures c.in_ok-schema.ensures c.in_ok-master.ensures
