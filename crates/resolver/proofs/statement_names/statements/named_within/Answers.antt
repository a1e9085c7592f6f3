use Rattle.std.proofs.Common.{map, string_bytes, ap, inr, subst, sym, ◌∙◌}
use Rattle.std.proofs.lemmas.Result.{err_from_is_err_and}
use Rattle.semantics_names.specs.Statement.{queried}
use Rattle.resolver_terms.specs.Outcome.{Gives}
use Rattle.resolver_sources.specs.source_names.GivenView.{known_of}
use Rattle.resolver.proofs.lemmas.statement_names.StatementLemmas.{items_refused, items_taken, name_twice}
use Rattle.resolver_bodies.specs.NamedView.{named_data}
use Rattle.resolver.specs.statement_names.WithView.{with_data}
use Rattle.sql_reader_grammar.specs.statement_trees.StatementView.{statement_of}
use Rattle.resolver.proofs.statement_names.statements.named_within.Goals as goal

pub returns-then-not-are_distinct : goal.returns-then-not-are_distinct
returns-then-not-are_distinct c =
    inr (name_twice (statement_of c.args.statement.now) (queried c.args.depth) (map known_of c.args.tables.items)
    (map (λ n. string_bytes n) c.as_slice.result.now)
    (ap (map (λ n. string_bytes n)) c.as_slice.ensures.value ∙ (rw c.as_slice-items.ensures.value at c.in_ok-names.ensures))
    c.are_distinct.result c.are_distinct.ensures c.if-not-are_distinct.true)

pub returns-in_err-with : goal.returns-in_err-with
returns-in_err-with c =
    let p = err_from_is_err_and c.from_residual-in_err-with.result c.from_residual-in_err-with.ensures.1 in
    rw (p.1, p.2) (items_refused (statement_of c.args.statement.now) (queried c.args.depth) (map known_of c.args.tables.items)
    (map (λ n. string_bytes n) c.as_slice.result.now)
    (ap (map (λ n. string_bytes n)) c.as_slice.ensures.value ∙ (rw c.as_slice-items.ensures.value at c.in_ok-names.ensures))
    c.are_distinct.result c.are_distinct.ensures c.if-not-are_distinct.false c.in_err-with.field-0.0
    (rw (c.as_slice-items.ensures.value, c.new.ensures.items) at c.in_err-with.ensures))

pub returns : goal.returns
returns c =
    subst (Gives named_data c.behind_items.result)
    (sym (items_taken (statement_of c.args.statement.now) (queried c.args.depth) (map known_of c.args.tables.items)
    (map (λ n. string_bytes n) c.as_slice.result.now)
    (ap (map (λ n. string_bytes n)) c.as_slice.ensures.value ∙ (rw c.as_slice-items.ensures.value at c.in_ok-names.ensures))
    c.are_distinct.result c.are_distinct.ensures c.if-not-are_distinct.false (with_data c.in_ok-with.with)
    (rw (c.as_slice-items.ensures.value, c.new.ensures.items) at c.in_ok-with.ensures)))
    c.behind_items.ensures
