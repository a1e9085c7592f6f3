-- What stands before this one was put behind what was there.
use Rattle.std.proofs.Common.{◌≡◌, []}
use Rattle.pager.specs.Calls.{SameImage}
use Rattle.resolver_bodies.specs.BodyView.{inner_of, joined_of}
use Rattle.operators_runs.specs.inner_rows.Computed.{AddsAsMany}
use Rattle.operators_runs.specs.inner_rows.InnerView.{inner_data}
use Rattle.operators_runs.proofs.lemmas.inner_rows.AddingLemmas.{AddsWhere, first_among, first_asked}
use Rattle.operators_runs.proofs.lemmas.inner_rows.AskedLemmas.{AsksWhere}
use Rattle.operators_runs.proofs.inner_rows.computing.+computing.Given as goal

abbrev pub invariant-add_sources-loop-joined : goal.invariant-add_sources-loop-joined
invariant-add_sources-loop-joined g l = record {
  stays : SameImage l.fn.pager.state l.pager.state;
  failures : l.pager.state.source.failures ≡ l.fn.pager.state.source.failures;
  many : AddsAsMany (first_among joined_of l.sources l.joined-index) [] (inner_data l.fn.inner) (inner_data l.inner);
  rows : AddsWhere l.tables l.fn.pager.state (first_among joined_of l.sources l.joined-index) [] (inner_data l.fn.inner) (inner_data l.inner);
  asked : AsksWhere l.tables l.fn.pager.state (first_among joined_of l.sources l.joined-index) [] l.pager.state;
}

abbrev pub invariant-add_queries-loop-query : goal.invariant-add_queries-loop-query
invariant-add_queries-loop-query g l = record {
  stays : SameImage l.fn.pager.state l.pager.state;
  failures : l.pager.state.source.failures ≡ l.fn.pager.state.source.failures;
  many : AddsAsMany [] (first_asked inner_of l.queries l.query-index) (inner_data l.fn.inner) (inner_data l.inner);
  rows : AddsWhere l.tables l.fn.pager.state [] (first_asked inner_of l.queries l.query-index) (inner_data l.fn.inner) (inner_data l.inner);
  asked : AsksWhere l.tables l.fn.pager.state [] (first_asked inner_of l.queries l.query-index) l.pager.state;
}
