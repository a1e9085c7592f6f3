-- Which replies a list of steps may get. (SELECT; EXPLAIN QUERY PLAN)
use Rattle.std.specs.Prelude.{◌≡◌, ◌==◌, ℕ, List, [], ◌∷◌, length}
use Rattle.std.specs.List.{filter, zip}
use Rattle.pager.specs.Calls.{TellsFailedRead}
use Rattle.shell_sessions.specs.Replies.{Base, MayReply, SlotState, first_state, request_of, slot_of}
use Rattle.shell_sessions.specs.declared.step.Step.{Step}
use Rattle.shell_sessions.specs.declared.step.Reply.{Reply}
use Rattle.shell_sessions.specs.declared.step.Reply.TheVariants as answers

-- a slot that stands so gets these replies to its steps, one after the other, and stands so behind them
abbrev pub Runs : Base → SlotState → List (Step × Reply) → SlotState → Type 0
Runs base at [] last = at ≡ last
Runs base at ((step, reply) ∷ more) last = (next : SlotState) × MayReply base (request_of step) at reply next × Runs base next more last

-- the steps on one slot, with their replies
abbrev pub steps_on : ℕ → List Step → List Reply → List (Step × Reply)
steps_on slot steps replies = filter (λ pair. slot_of pair.0 == slot) (zip steps replies)

-- Each step has its reply, and each slot by itself, closed before its first step, may give those to its own steps: what is asked of the
-- others changes nothing.
pub record IsSessionRun (base : Base) (steps : List Step) (replies : List Reply) : Type 0 where
  pub each : length replies ≡ length steps
  pub alone : (slot : ℕ) → (last : SlotState) × Runs base (first_state slot) (steps_on slot steps replies) last

-- a step told of a failed read exactly where the count of failures became another
abbrev pub TellsRead : Reply → ℕ → ℕ → Type 0
TellsRead (answers.Fault fault) before after = TellsFailedRead fault before after
TellsRead (answers.Opened names) before after = after ≡ before
TellsRead (answers.Row row) before after = after ≡ before
TellsRead answers.End before after = after ≡ before
TellsRead answers.Closed before after = after ≡ before

-- so did each of these, one after the other
abbrev pub TellReads : List Reply → ℕ → ℕ → Type 0
TellReads [] before after = after ≡ before
TellReads (reply ∷ more) before after = (between : ℕ) × TellsRead reply before between × TellReads more between after
