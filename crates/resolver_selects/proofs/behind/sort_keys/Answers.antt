use Rattle.std.proofs.Common.{map, string_bytes, subst}
use Rattle.sql_reader_grammar.specs.Reading.{terms_of}
use Rattle.semantics_names.specs.Statement.{keys_of}
use Rattle.resolver_terms.specs.Outcome.{Gives}
use Rattle.sql_reader_grammar.specs.statement_trees.TreeView.{term_of}
use Rattle.resolver_selects.proofs.KeyLemmas.{one_row}
use Rattle.resolver_selects.proofs.behind.sort_keys.Goals as goal
use Rattle.resolver_terms.specs.SelectView.{key_of}

pub returns : goal.returns
returns g c =
    subst (λ row. Gives (λ v. map key_of v.items) c.keys.result (keys_of (map (λ n. string_bytes n) c.args.names.now) row (terms_of (map term_of c.args.order.now))))
    (one_row (λ row. row.now) g.P.Place.meaning (g.I.InnerQueries.answers c.args.inner.now) c.args.distinct c.args.place.now c.rows.result c.rows.ensures)
    c.keys.ensures
