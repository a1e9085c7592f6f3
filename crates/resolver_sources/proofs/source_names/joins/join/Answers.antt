use Rattle.std.proofs.Common.{◌≡◌, false, Ok, map, option_map, string_bytes, length, refl, ap, sym, ◌∙◌}
use Rattle.std.proofs.lemmas.Result.{err_from_is_err_and}
use Rattle.std.specs.List.{list_any}
use Rattle.resolver_bodies.specs.BodyView.{body_of, joined_of, source_of}
use Rattle.semantics_names.specs.Sources.{is_same_source, kind_of, shown_from}
use Rattle.expr.specs.View.{term}
use Rattle.resolver_sources.proofs.lemmas.source_names.JoinLemmas.{lists_are, none_more, one_more}
use Rattle.resolver_sources.specs.source_names.GivenView.{condition_of, given_of, joined_data, sources_of}
use Rattle.sql_reader_grammar.specs.statement_trees.TreeView.{on_of}
use Rattle.resolver_sources.proofs.source_names.joins.join.Goals as goal

pub returns-in_err-condition : goal.returns-in_err-condition
returns-in_err-condition g c =
    let answers = g.I.InnerQueries.answers c.args.inner.now in
    let apart : list_any (is_same_source (given_of c.args.given).name) ((sources_of c.args.left).names) ≡ false =
    ap (λ names. list_any (is_same_source (given_of c.args.given).name) (map (option_map (λ n. string_bytes n)) names)) (sym c.as_slice.ensures.value)
    ∙ sym c.is_among.ensures ∙ c.if-is_among.false in
    let p = err_from_is_err_and c.from_residual-in_err-condition.result c.from_residual-in_err-condition.ensures.1 in
    rw (p.1, p.2) (none_more answers (sources_of c.args.left) (kind_of c.args.join) (on_of c.args.on.now) (given_of c.args.given) c.in_ok-right.right
    (Ok (shown_from (given_of c.args.given).name (length c.args.left.scope) (given_of c.args.given).columns)) apart refl
    (rw (c.len.ensures, c.as_slice-2.ensures.value) at c.in_ok-right.ensures) c.in_err-condition.field-0.0 c.in_err-condition.ensures)

pub returns : goal.returns
returns g c =
    let answers = g.I.InnerQueries.answers c.args.inner.now in
    let apart : list_any (is_same_source (given_of c.args.given).name) ((sources_of c.args.left).names) ≡ false =
    ap (λ names. list_any (is_same_source (given_of c.args.given).name) (map (option_map (λ n. string_bytes n)) names)) (sym c.as_slice.ensures.value)
    ∙ sym c.is_among.ensures ∙ c.if-is_among.false in
    one_more answers (sources_of c.args.left) (kind_of c.args.join) (on_of c.args.on.now) (given_of c.args.given) c.in_ok-right.right
    (Ok (shown_from (given_of c.args.given).name (length c.args.left.scope) (given_of c.args.given).columns)) apart refl
    (rw (c.len.ensures, c.as_slice-2.ensures.value) at c.in_ok-right.ensures) (condition_of c.in_ok-condition.condition) c.in_ok-condition.ensures
    ∙ ap Ok (lists_are joined_of (option_map (λ n. string_bytes n)) body_of c.in_ok-condition.condition.scope
    c.args.left.joined.items c.push.new.self.items c.joined_by.result
    (joined_data (kind_of c.args.join) (source_of c.args.given.source) (term c.in_ok-condition.condition.term))
    c.args.left.names.items c.push-2.new.self.items c.args.given.name c.args.left.beside.items c.append.new.self.items c.args.given.beside.items
    c.joined_by.ensures c.in_ok-push.ensures.items c.in_ok-push-2.ensures.items c.in_ok-append.ensures.items)
