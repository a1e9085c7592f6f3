use Rattle.std.proofs.Common.{sym, ◌∙◌}
use Rattle.schema_keys.specs.Types.{IsType}
use Rattle.schema_keys.proofs.types.type_of.Goals as goal
use Rattle.schema_keys.proofs.types.type_of.Goals.{else-is_only, then-is_only}

pub returns-then-is_only-2-clause-found : goal.returns-then-is_only-2-clause-found
returns-then-is_only-2-clause-found c =
    elim c.if-is_only.branch [
      | then-is_only w ↦ IsType.int (c.is_only.ensures.0 w.if-is_only.true)
      | else-is_only w ↦ IsType.integer (w.is_only-else-is_only.ensures.0 (sym w.value-is ∙ c.if-is_only-2.true))
    ]

pub returns-then-is_only-3-clause-found : goal.returns-then-is_only-3-clause-found
returns-then-is_only-3-clause-found c = IsType.text (c.is_only-else-is_only-2.ensures.0 c.if-is_only-3.true)

pub returns-then-is_only-4-clause-found : goal.returns-then-is_only-4-clause-found
returns-then-is_only-4-clause-found c = IsType.blob (c.is_only-else-is_only-3.ensures.0 c.if-is_only-4.true)
