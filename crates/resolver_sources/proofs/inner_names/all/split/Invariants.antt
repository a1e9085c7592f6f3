-- The queries so far, and what stands beside them.
use Rattle.std.proofs.Common.{◌≡◌, map}
use Rattle.std.specs.List.{flat_map}
use Rattle.resolver_bodies.specs.BodyView.{body_of, inner_of}
use Rattle.resolver_sources.specs.inner_names.InnerView.{inner_data}
use Rattle.resolver_sources.proofs.inner_names.all.split.Given as goal

abbrev pub invariant-loop-one : goal.invariant-loop-one
invariant-loop-one l = record {
  queries : map inner_of l.queries.items ≡ map (λ i. i.query) (map inner_data l.yielded);
  beside : map body_of l.beside.items ≡ flat_map (λ i. i.beside) (map inner_data l.yielded);
}
