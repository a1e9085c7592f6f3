-- What a clause knows of a sink.
use Rattle.std.specs.Prelude.{◌≡◌, ◌≢◌, ℕ, List, [], ◌++◌, take, Option, Result, MatchResult}
use Rattle.std.specs.Io.KnownBytes.{Appends}
use Rattle.values.specs.Fault.{Counts}
use Rattle.values.specs.declared.fault.Fault.{Fault}
use Rattle.values.specs.declared.fault.Fault.TheVariants.{WriteFailed}

-- the bytes that were written, where it tells them, and how often it has failed (the count may wrap)
pub record SinkFacts : Type 0 where
  pub written : Option (List ℕ)
  pub failures : ℕ

-- a call takes so many bytes of the piece, or fails, takes nothing, and counts the failure
abbrev pub TakesFront : {E : Type 0} → List ℕ → Result ℕ E → SinkFacts → SinkFacts → Type 0
TakesFront piece result old new = MatchResult result
    (λ n. Appends old.written new.written (take n piece) × (new.failures ≡ old.failures))
    (λ _. Appends old.written new.written [] × (new.failures ≢ old.failures))

-- a beginning of the text is written
pub record WritesFront (text : List ℕ) (old new : SinkFacts) : Type 0 where
  pub done : List ℕ
  pub rest : List ℕ
  pub whole : done ++ rest ≡ text
  pub written : Appends old.written new.written done

-- A call writes the text at Ok, and a beginning of it at an error; WriteFailed comes only where the sink failed.
pub record Writes {T : Type 0} (text : List ℕ) (result : Result T Fault) (old new : SinkFacts) : Type 0 where
  pub written : MatchResult result
      (λ _. Appends old.written new.written text)
      (λ _. WritesFront text old new)
  pub failures : Counts WriteFailed result old.failures new.failures

-- A call that writes as much of the text as its sink takes has written the first `done` bytes; an error says that
-- the sink has failed.
pub record WritesTo {T E : Type 0} (text : List ℕ) (done : ℕ) (result : Result T E) (old new : SinkFacts) : Type 0 where
  pub written : Appends old.written new.written (take done text)
  pub failures : MatchResult result (λ _. new.failures ≡ old.failures) (λ _. new.failures ≢ old.failures)
