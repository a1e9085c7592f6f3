use Rattle.std.proofs.Common.{◌≡◌, ◌≤◌, ℕ, length, take, vec_capacity}
use Rattle.shell_sessions.specs.Replies.{base_of}
use Rattle.shell_sessions.specs.Run.{TellReads}
use Rattle.shell_sessions.specs.SessionState.{AreSound}
use Rattle.shell_sessions.specs.Stands.{KeepsImage}
use Rattle.shell_sessions.proofs.RunLemmas.{HasRun}
use Rattle.shell_sessions.proofs.schedules.replay.Given as goal

abbrev pub invariant-loop-step : goal.invariant-loop-step
invariant-loop-step g l = record {
  run : (number : ℕ) → HasRun (base_of l.initial.engine) l.engine l.slots (take l.step-index l.steps) l.replies.items number;
  sound : AreSound l.engine l.slots;
  image : KeepsImage l.initial.engine l.engine;
  each : length l.replies.items ≡ l.step-index;
  room : length l.steps ≤ vec_capacity l.replies;
  told : TellReads l.replies.items l.initial.engine.pager.source.failures l.engine.pager.source.failures;
}
