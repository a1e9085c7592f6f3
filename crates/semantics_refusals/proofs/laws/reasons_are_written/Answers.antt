use Rattle.semantics_refusals.proofs.ExampleLemmas as examples
use Rattle.semantics_refusals.proofs.laws.reasons_are_written.Goals as goal

pub returns-clause-reasons : goal.returns-clause-reasons
returns-clause-reasons c =
    examples.reasons_are_written
    (c.names_are_columns.ensures.none, c.names_are_columns.ensures.two, c.names_are_distinct.ensures.names, c.same_is_equal.ensures, c.names_are_columns.ensures.one, c.places_are_kept.ensures.scalar)
    c.refused_statements.ensures.names c.refused_statements.ensures.types c.refused_statements.ensures.frames c.refused_statements.ensures.places

pub returns-clause-nothing : goal.returns-clause-nothing
returns-clause-nothing c =
    examples.nothing_is_written c.names_are_columns.ensures.none c.names_are_columns.ensures.two c.names_are_distinct.ensures.names c.typed_is_taken.ensures c.places_are_kept.ensures.scalar

pub returns-clause-bare : goal.returns-clause-bare
returns-clause-bare c =
    examples.bare_columns_are_written
    (c.names_are_columns.ensures.none, c.names_are_columns.ensures.two, c.names_are_distinct.ensures.names, c.same_is_equal.ensures, c.names_are_columns.ensures.one, c.places_are_kept.ensures.scalar)
    c.refused_statements.ensures.places

pub returns-clause-unbare : goal.returns-clause-unbare
returns-clause-unbare c = examples.no_column_is_bare c.same_is_equal.ensures
