use Rattle.std.proofs.Common.{string_bytes, sym, ◌∙◌, arith}
use Rattle.std.proofs.lemmas.Result.{err_from_is_err_and}
use Rattle.sql_reader_creates.proofs.lemmas.column_reader.ColumnLemmas.{begins_here, column_found, column_wrong, ends_here}
use Rattle.sql_reader_creates.proofs.lemmas.column_reader.ConstraintLemmas.{constraint_shortens}
use Rattle.sql_reader_grammar.proofs.lemmas.phrases.ListLemmas.{goes_from_nothing, goes_more}
use Rattle.sql_reader_creates.proofs.column_reader.columns.column.Goals as goal
use Rattle.sql_reader_creates.specs.column_reader.ColumnReading.{at_constraint, constraint, constraints}
use Rattle.sql_reader_grammar.specs.create_trees.CreateView.{constraint_of, type_of}
use Rattle.sql_reader_grammar.specs.phrases.Texts.{lexemes_of}

pub loop-alloc-init : goal.loop-alloc-init
loop-alloc-init c = (
  goes_from_nothing constraint_of at_constraint constraint (lexemes_of c.in_ok-ty.rest.now)
      c.new-constraints.result.items c.new-constraints.ensures.items,
  omega arith,
)

pub returns-in_err-next-clause-value : goal.returns-in_err-next-clause-value
returns-in_err-next-clause-value c =
    let p = err_from_is_err_and c.from_residual-in_err-next.result c.from_residual-in_err-next.ensures.1 in
    rw (p.1, p.2)
    (column_wrong c.in_err-next.field-0.0 (lexemes_of c.args.tokens.now) (lexemes_of c.in_ok-name.rest.now)
    (lexemes_of c.in_ok-ty.rest.now) (lexemes_of c.loop-alloc.rest.now) (string_bytes c.in_ok-name.name)
    (type_of c.in_ok-ty.ty) c.loop-alloc.constraints.items c.in_ok-name.ensures.value c.in_ok-ty.ensures.value
    (begins_here (lexemes_of c.loop-alloc.rest.now) (sym c.begins_constraint.ensures ∙ c.loop-alloc-test.true))
    c.in_err-next.ensures.value c.loop-alloc.invariant.0)

pub loop-alloc-preserved : goal.loop-alloc-preserved
loop-alloc-preserved c = (
  goes_more constraint_of at_constraint constraint constraint_shortens (constraints (lexemes_of c.in_ok-ty.rest.now))
      (lexemes_of c.loop-alloc.rest.now) (lexemes_of c.loop-alloc.rest.now) (lexemes_of c.in_ok-next.after.now)
      c.loop-alloc.constraints.items c.push.new.self.items c.in_ok-next.next c.in_ok-push.ensures.items
      (begins_here (lexemes_of c.loop-alloc.rest.now) (sym c.begins_constraint.ensures ∙ c.loop-alloc-test.true))
      c.in_ok-next.ensures.value c.loop-alloc.invariant.0,
  omega (arith, c.in_ok-next.ensures.shorter, c.loop-alloc.invariant.1),
)

pub returns-clause-value : goal.returns-clause-value
returns-clause-value c =
    column_found (lexemes_of c.args.tokens.now) (lexemes_of c.in_ok-name.rest.now) (lexemes_of c.in_ok-ty.rest.now)
    (lexemes_of c.loop-alloc.rest.now) (string_bytes c.in_ok-name.name) (type_of c.in_ok-ty.ty)
    c.loop-alloc.constraints.items c.in_ok-name.ensures.value c.in_ok-ty.ensures.value
    (ends_here (lexemes_of c.loop-alloc.rest.now) (sym c.begins_constraint.ensures ∙ c.loop-alloc-test.false))
    c.loop-alloc.invariant.0
