-- A sink that gathers what is written to it.
use Rattle.std.specs.Prelude.{ℕ, List, ◌++◌, option_map}
use Rattle.values.specs.Sink.{SinkFacts}

-- what the inner sink has, and what is not yet handed on
pub record Gathering : Type 0 where
  pub inner : SinkFacts
  pub held : List ℕ

-- both, as the facts of one sink
abbrev pub gathered_facts : Gathering → SinkFacts
gathered_facts g = record {
  written = option_map (λ bytes. bytes ++ g.held) g.inner.written;
  failures = g.inner.failures;
}
