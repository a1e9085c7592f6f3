-- The list is gone along from the left.
use Rattle.std.proofs.Common.{◌≡◌, ◌+◌, ◌++◌, drop, map, option_map, refl, string_bytes, subst, sym}
use Rattle.std.proofs.lemmas.Result.{err_from_is_err_and}
use Rattle.resolver_exprs.proofs.lemmas.expression_names.OutcomeLemmas.{all_done, begun, one_fails, one_more}
use Rattle.sql_reader_grammar.specs.Reading.{terms_of}
use Rattle.semantics_names.specs.Outcome.{also}
use Rattle.semantics_names.specs.Statement.{keys_of}
use Rattle.sql_reader_grammar.specs.statement_trees.TreeView.{term_of}
use Rattle.resolver_exprs.proofs.lemmas.order_keys.KeyLemmas.{one_by_one}
use Rattle.resolver_exprs.specs.order_keys.Named.{on_rows, sort_key}
use Rattle.resolver_exprs.proofs.order_keys.terms.keys.Goals as goal
use Rattle.resolver_terms.specs.SelectView.{key_of}

pub loop-sort-init : goal.loop-sort-init
loop-sort-init g c =
    let names = map (λ n. string_bytes n) c.args.names.now in
    let otherwise = on_rows (g.I.InnerQueries.answers c.args.inner.now) (option_map (λ p. g.P.Place.meaning p.now) c.args.place) in
    let all = keys_of names otherwise (terms_of (map term_of c.args.order.now)) in
    subst (λ done. all ≡ also (λ rest. map key_of done ++ rest) all) (sym c.new-keys.ensures.items) (begun all)

pub returns-in_err-key : goal.returns-in_err-key
returns-in_err-key g c =
    let names = map (λ n. string_bytes n) c.args.names.now in
    let otherwise = on_rows (g.I.InnerQueries.answers c.args.inner.now) (option_map (λ p. g.P.Place.meaning p.now) c.args.place) in
    let p = err_from_is_err_and c.from_residual.result c.from_residual.ensures.1 in
    rw (p.1, p.2) (one_fails key_of (λ x. sort_key names otherwise (term_of x)) (λ xs. keys_of names otherwise (terms_of (map term_of xs))) refl
    (one_by_one names otherwise) c.args.order.now c.loop-sort.sort-index c.sort-item.result c.loop-sort.keys.items c.in_err-key.field-0.0
    (keys_of names otherwise (terms_of (map term_of c.args.order.now))) c.loop-sort-test.true c.sort-item.is c.loop-sort.invariant c.in_err-key.ensures)

pub loop-sort-preserved : goal.loop-sort-preserved
loop-sort-preserved g c =
    let names = map (λ n. string_bytes n) c.args.names.now in
    let otherwise = on_rows (g.I.InnerQueries.answers c.args.inner.now) (option_map (λ p. g.P.Place.meaning p.now) c.args.place) in
    let all = keys_of names otherwise (terms_of (map term_of c.args.order.now)) in
    subst (λ done. all ≡ also (λ rest. map key_of done ++ rest)
    (keys_of names otherwise (terms_of (map term_of (drop (c.loop-sort.sort-index + 1) c.args.order.now)))))
    (sym c.in_ok-push.ensures.items)
    (one_more key_of (λ x. sort_key names otherwise (term_of x)) (λ xs. keys_of names otherwise (terms_of (map term_of xs))) refl
    (one_by_one names otherwise) c.args.order.now c.loop-sort.sort-index c.sort-item.result c.loop-sort.keys.items c.in_ok-key.key all
    c.loop-sort-test.true c.sort-item.is c.in_ok-key.ensures c.loop-sort.invariant)

pub returns : goal.returns
returns g c =
    let names = map (λ n. string_bytes n) c.args.names.now in
    let otherwise = on_rows (g.I.InnerQueries.answers c.args.inner.now) (option_map (λ p. g.P.Place.meaning p.now) c.args.place) in
    all_done key_of (λ x. sort_key names otherwise (term_of x)) (λ xs. keys_of names otherwise (terms_of (map term_of xs))) refl
    (one_by_one names otherwise) c.args.order.now c.loop-sort.sort-index c.loop-sort.keys.items
    (keys_of names otherwise (terms_of (map term_of c.args.order.now))) c.loop-sort-test.false c.loop-sort.invariant
