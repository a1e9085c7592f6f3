-- A list that is joined from the left
use Rattle.std.proofs.Common.{rules}
use Rattle.sql_reader.proofs.lemmas.statement_limits.ShapeLemmas.{query_seen, sources_seen}
use Rattle.sql_reader.proofs.statement_limits.spending.+walk.Goals as goal

pub behind_query-returns-in_err-left : goal.behind_query-returns-in_err-left
behind_query-returns-in_err-left t c = rw (query_seen c.args.query.now c.args.left) (search rules)

pub behind_query-returns : goal.behind_query-returns
behind_query-returns t c = rw (query_seen c.args.query.now c.args.left) (search rules)

pub behind_sources-returns-in_err-left : goal.behind_sources-returns-in_err-left
behind_sources-returns-in_err-left t c = rw (sources_seen c.args.sources.now c.args.left) (search rules)

pub behind_sources-returns : goal.behind_sources-returns
behind_sources-returns t c = rw (sources_seen c.args.sources.now c.args.left) (search rules)
