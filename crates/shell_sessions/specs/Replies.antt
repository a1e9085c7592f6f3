-- What a step on a slot of a session may answer, and how the slot stands behind it. (SELECT; EXPLAIN QUERY PLAN)
use Rattle.std.specs.Prelude.{◌≡◌, ◌⊎◌, ◌≤◌, IsTrue, Bool, ℕ, List, [], ◌∷◌, ◌++◌, map, string_bytes, if◌then◌else◌, nat_lt}
use Rattle.values.specs.Row.{Row}
use Rattle.values.specs.Fault.{number_of}
use Rattle.values.specs.declared.fault.Fault.{Fault}
use Rattle.values.specs.declared.fault.Fault.TheVariants.{Finished, NoMemory, NoStatement, TooManyStatements}
use Rattle.semantics.specs.Query.{QueryData}
use Rattle.operators_loops.specs.Basis.{IsOperatorFault}
use Rattle.schema_tables.specs.TableData.{TableData}
use Rattle.shell.specs.Answer.{IsAnswerOver}
use Rattle.shell.specs.State.{EngineState}
use Rattle.shell.specs.Stepped.{IsBeginningOver, IsStatement, IsStepCause, IsUnstarted}
use Rattle.shell_sessions.specs.declared.step.Step.{Step}
use Rattle.shell_sessions.specs.declared.step.Step.TheVariants.{Open, Next, Close}
use Rattle.shell_sessions.specs.declared.step.Reply.{Reply}
use Rattle.shell_sessions.specs.declared.step.Reply.TheVariants as answers

-- an image, whether each read that succeeds gives its bytes, and the tables that it denotes
pub record Base : Type 0 where
  pub image : List ℕ
  pub steady : Bool
  pub tables : List TableData

abbrev pub base_of : EngineState → Base
base_of engine = record { image = engine.pager.source.bytes; steady = engine.pager.source.steady; tables = engine.tables }

-- A slot by its number: there is none of it, no statement stands in it, one stands in it of a query that has given these rows, or one
-- that has ended.
pub data SlotState : Type 0 where
  missing : SlotState
  closed : SlotState
  running : QueryData → List Row → SlotState
  ended : SlotState

-- what is asked of a slot: to open a text, for the next row, and to close
pub data Request : Type 0 where
  opens : List ℕ → Request
  asks : Request
  closes : Request

abbrev pub request_of : Step → Request
request_of (Open slot text) = opens (string_bytes text)
request_of (Next slot) = asks
request_of (Close slot) = closes

abbrev pub slot_of : Step → ℕ
slot_of (Open slot text) = slot
slot_of (Next slot) = slot
slot_of (Close slot) = slot

-- the step is refused, and the slot stays as it was
abbrev pub Refuses : Fault → SlotState → Reply → SlotState → Type 0
Refuses fault at reply next = (reply ≡ answers.Fault fault) × (next ≡ at)

-- the faults of a text: memory ran out, or it is refused, by one of the faults that docs/FAULTS.md numbers 30 to 40
abbrev pub IsTextFault : Fault → Type 0
IsTextFault fault = (fault ≡ NoMemory) ⊎ ((30 ≤ number_of fault) × (number_of fault ≤ 40))

-- A text was opened: it spells a statement without EXPLAIN that is the query of the slot, of which no row was given; or it is refused,
-- for one of the reasons that a text has, and the slot is closed still.
abbrev pub MayOpen : Base → List ℕ → Reply → SlotState → Type 0
MayOpen base text (answers.Opened names) next =
    (query : QueryData) × IsStatement base.tables text query (map (λ name. string_bytes name) names.items) × (next ≡ running query [])
MayOpen base text (answers.Fault fault) next = IsTextFault fault × IsUnstarted base.tables text fault × (next ≡ closed)
MayOpen base text (answers.Row row) next = ⊥
MayOpen base text answers.End next = ⊥
MayOpen base text answers.Closed next = ⊥

-- The next row was asked for. It comes, and with it the rows that were given may begin an answer; or they are one, and the statement
-- has ended; or it has failed, and has ended too.
abbrev pub MayGive : Base → QueryData → List Row → Reply → SlotState → Type 0
MayGive base query given (answers.Row row) next =
    (IsTrue base.steady → IsBeginningOver base.image base.tables query (given ++ row ∷ [])) × (next ≡ running query (given ++ row ∷ []))
MayGive base query given answers.End next = (IsTrue base.steady → IsAnswerOver base.image base.tables query given) × (next ≡ ended)
MayGive base query given (answers.Fault fault) next =
    IsOperatorFault fault × (IsTrue base.steady → IsStepCause base.image base.tables query fault) × (next ≡ ended)
MayGive base query given (answers.Opened names) next = ⊥
MayGive base query given answers.Closed next = ⊥

-- what is answered, and how the slot stands then
abbrev pub MayReply : Base → Request → SlotState → Reply → SlotState → Type 0
MayReply base (opens text) missing reply next = Refuses TooManyStatements missing reply next
MayReply base (opens text) closed reply next = MayOpen base text reply next
MayReply base (opens text) (running query given) reply next = Refuses TooManyStatements (running query given) reply next
MayReply base (opens text) ended reply next = Refuses TooManyStatements ended reply next
MayReply base asks missing reply next = Refuses NoStatement missing reply next
MayReply base asks closed reply next = Refuses NoStatement closed reply next
MayReply base asks (running query given) reply next = MayGive base query given reply next
MayReply base asks ended reply next = Refuses Finished ended reply next
MayReply base closes missing reply next = Refuses NoStatement missing reply next
MayReply base closes closed reply next = Refuses NoStatement closed reply next
MayReply base closes (running query given) reply next = (reply ≡ answers.Closed) × (next ≡ closed)
MayReply base closes ended reply next = (reply ≡ answers.Closed) × (next ≡ closed)

-- the fault of a request of a slot that there isn't
abbrev pub missing_fault : Request → Fault
missing_fault (opens text) = TooManyStatements
missing_fault asks = NoStatement
missing_fault closes = NoStatement

-- how a slot stands before the first step: there are sixteen
abbrev pub first_state : ℕ → SlotState
first_state slot = if nat_lt slot 16 then closed else missing
