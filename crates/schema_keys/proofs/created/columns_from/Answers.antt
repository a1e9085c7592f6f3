use Rattle.std.proofs.Common.{length, map, ◌∙◌}
use Rattle.std.proofs.lemmas.Iterator.Adapters.{YieldsList-from_vec}
use Rattle.std.proofs.lemmas.Iterator.Consumers.{YieldsList-turn}
use Rattle.schema_keys.specs.declared_keys.KeyView.{key_data}
use Rattle.schema_keys.proofs.ColumnLemmas.{no_columns, one_column_more}
use Rattle.schema_keys.proofs.created.columns_from.Goals as goal

pub loop-definition-preserved : goal.loop-definition-preserved
loop-definition-preserved c =
    one_column_more c.args.options.now (map key_data c.args.keys.now) c.loop-definition.yielded c.loop-definition.columns.items c.push.new.self.items
    c.in-Some.definition c.in-Some-column_from.column c.in_ok-push.ensures.items c.loop-definition.invariant
    c.in-Some-column_from.ensures.found

pub returns-in_default-clause-none : goal.returns-in_default-clause-none
returns-in_default-clause-none c =
    let given = c.into_iter-definition-iterator.ensures.into_iter_gives in
    let at = YieldsList-turn (YieldsList-from_vec c.args.definitions.items given.0 (given.1 ∙ c.args.definitions.ok.0))
    c.loop-definition.yielded _ c.loop-definition.yielded_by _ c.next.new.self c.in-Some.definition c.in-Some.is c.next.ensures.steps in
    no_columns c.args.options.now (map key_data c.args.keys.now) c.args.definitions.items (length c.loop-definition.yielded) c.in-Some.definition at
    c.in_default.ensures.none
