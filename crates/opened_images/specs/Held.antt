-- An image that is held for a program in another language, its steps, and what may be looked at of its last reply. (SELECT)
use Rattle.std.specs.Prelude.{◌≡◌, ◌≢◌, ◌++◌, ◌∷◌, [], true, ℕ, List, map, nat_eq, if◌then◌else◌, MatchOption, Option, Some, None, string_bytes}
use Rattle.std.specs.Coded.{Coded}
use Rattle.values.specs.Row.{Row}
use Rattle.values.specs.declared.fault.Fault.{Fault}
use Rattle.pager.specs.Source.{SourceFacts}
use Rattle.schema_tables.specs.TableData.{TableData}
use Rattle.semantics.specs.Query.{QueryData}
use Rattle.shell.specs.Answer.{IsAnswerOver}
use Rattle.shell.specs.State.{EngineState, IsEngineFault, IsOpenedOver}
use Rattle.shell.specs.Stepped.{IsBeginningOver, IsStepCause}
use Rattle.shell_sessions.specs.Replies.{Request, SlotState, base_of, ended, first_state, running}
use Rattle.shell_sessions.specs.Run.{TellsRead}
use Rattle.shell_sessions.specs.SessionState.{SessionState}
use Rattle.shell_sessions.specs.Stands.{KeepsImage, Replied, SlotStands}
use Rattle.shell_sessions.specs.contracts.slot.Slot as slot
use Rattle.shell_sessions.specs.declared.slot.Slot.{Slot}
use Rattle.shell_sessions.specs.declared.step.Reply.{Reply}
use Rattle.shell_sessions.specs.declared.step.Reply.TheVariants as answers

-- by what slots are told apart
abbrev pub coded_slot : Coded Slot
coded_slot = slot.the_row.coded

-- its session, if it was not refused; the slot of the last step, and the reply to it
pub record ImageState : Type 0 where
  pub session : Option SessionState
  pub slot : ℕ
  pub reply : Reply

-- ---- opening

-- bytes in memory as a source
abbrev pub in_memory : List ℕ → SourceFacts
in_memory bytes = record { bytes = bytes; steady = true; failures = 0 }

-- a session over a source, whose slots are closed
pub record IsFreshSession (source : SourceFacts) (cache : ℕ) (session : SessionState) : Type 0 where
  pub engine : IsOpenedOver source cache session.engine
  pub closed : (number : ℕ) → SlotStands session.engine session.slots number (first_state number)

-- the reply is a fault for which a source is refused
abbrev pub IsRefusal : SourceFacts → Reply → Type 0
IsRefusal source (answers.Fault fault) = IsEngineFault source fault
IsRefusal source (answers.Opened names) = ⊥
IsRefusal source (answers.Row row) = ⊥
IsRefusal source answers.End = ⊥
IsRefusal source answers.Closed = ⊥

-- an image was opened over bytes in memory, or they were refused, and a fault that they have is its reply
abbrev pub IsOpening : List ℕ → ℕ → ImageState → Type 0
IsOpening bytes cache image =
    MatchOption image.session (IsRefusal (in_memory bytes) image.reply) (IsFreshSession (in_memory bytes) cache)

-- ---- steps

-- A step on a slot of a session, whose other slots stay as they were.
pub record HasSteppedSlot (old : SessionState) (slot : ℕ) (request : Request) (reply : Reply) (new : SessionState) : Type 0 where
  pub replies : (at : SlotState) → SlotStands old.engine old.slots slot at
      → Replied (base_of old.engine) request at reply (SlotStands new.engine new.slots slot)
  pub others : (number : ℕ) (at : SlotState) → number ≢ slot → SlotStands old.engine old.slots number at → SlotStands new.engine new.slots number at
  pub image : KeepsImage old.engine new.engine
  pub reads : TellsRead reply old.engine.pager.source.failures new.engine.pager.source.failures

-- it was made on the session, and its reply is kept
pub record KeepsReply (old : SessionState) (slot : ℕ) (request : Request) (new : ImageState) : Type 0 where
  pub slot_is : new.slot ≡ slot
  pub stepped : MatchOption new.session ⊥ (λ session. HasSteppedSlot old slot request new.reply session)

-- a step on an image, which leaves one that was refused as it is
abbrev pub MakesStep : ImageState → ℕ → Request → ImageState → Type 0
MakesStep old slot request new = MatchOption old.session (new ≡ old) (λ session. KeepsReply session slot request new)

-- ---- the exact answer

-- bytes in memory, which an image was opened over and keeps
abbrev pub HasBytes : List ℕ → EngineState → Type 0
HasBytes bytes engine = (engine.pager.source.bytes ≡ bytes) × (engine.pager.source.steady ≡ true)

-- the image has these tables, and the statement in this slot is of this query and has given these rows
pub record StandsAt (bytes : List ℕ) (tables : List TableData) (image : ImageState) (slot : ℕ) (at : SlotState) : Type 0 where
  pub session : SessionState
  pub is : image.session ≡ Some session
  pub bytes_are : HasBytes bytes session.engine
  pub tables_are : session.engine.tables ≡ tables
  pub stands : SlotStands session.engine session.slots slot at

-- What a step to the next row gives of a query over bytes in memory, with no premise on the source: a row, with which those
-- that were given begin an answer; the end, where they are one; or a fault that has its cause.
abbrev pub GivesExactly : List ℕ → List TableData → QueryData → List Row → Reply → Type 0
GivesExactly bytes tables query given (answers.Row row) = IsBeginningOver bytes tables query (given ++ row ∷ [])
GivesExactly bytes tables query given answers.End = IsAnswerOver bytes tables query given
GivesExactly bytes tables query given (answers.Fault fault) = IsStepCause bytes tables query fault
GivesExactly bytes tables query given (answers.Opened names) = ⊥
GivesExactly bytes tables query given answers.Closed = ⊥

-- where the statement is after that
abbrev pub after : QueryData → List Row → Reply → SlotState
after query given (answers.Row row) = running query (given ++ row ∷ [])
after query given answers.End = ended
after query given (answers.Fault fault) = ended
after query given (answers.Opened names) = ended
after query given answers.Closed = ended

-- ---- what is looked at

-- what the last step gave to a slot, if it was made on that: a row, or the names of columns
abbrev pub row_of : Reply → Row
row_of (answers.Row row) = row
row_of (answers.Opened names) = []
row_of answers.End = []
row_of answers.Closed = []
row_of (answers.Fault fault) = []

abbrev pub names_of : Reply → List (List ℕ)
names_of (answers.Opened names) = map (λ name. string_bytes name) names.items
names_of (answers.Row row) = []
names_of answers.End = []
names_of answers.Closed = []
names_of (answers.Fault fault) = []

abbrev pub row_shown : ImageState → ℕ → Row
row_shown image slot = if nat_eq image.slot slot then row_of image.reply else []

abbrev pub names_shown : ImageState → ℕ → List (List ℕ)
names_shown image slot = if nat_eq image.slot slot then names_of image.reply else []

-- the fault that the last step was answered with
abbrev pub fault_replied : Reply → Option Fault
fault_replied (answers.Fault fault) = Some fault
fault_replied (answers.Opened names) = None
fault_replied (answers.Row row) = None
fault_replied answers.End = None
fault_replied answers.Closed = None
