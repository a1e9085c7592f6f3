-- What a slot replies, by what stands in it.
use Rattle.std.proofs.Common.{◌≡◌, ◌∙◌, ◌⊎◌, inl, inr, IsTrue, ℕ, List, [], ◌∷◌, ◌++◌, Some, None, Result, Ok, Err, append_assoc, refl, sym, subst}
use Rattle.std.specs.Global.{Vec}
use Rattle.values.specs.Row.{Row}
use Rattle.values.specs.declared.fault.Fault.{Fault}
use Rattle.values.specs.declared.fault.Fault.TheVariants.{Finished, NoStatement, TooManyStatements}
use Rattle.semantics.specs.Query.{QueryData}
use Rattle.operators_loops.specs.Basis.{IsOperatorFault}
use Rattle.pager.proofs.CallLemmas.{SameImage-trans}
use Rattle.shell.specs.Answer.{IsAnswerOver}
use Rattle.shell.specs.State.{EngineState}
use Rattle.shell.specs.Stepped.{HasGivenSoFar, HasStarted, HasSteppedStatement, IsStepCause, IsUnstarted, StepsStatement}
use Rattle.shell.specs.declared.stepped.Started.{Started}
use Rattle.shell.specs.declared.stepped.Statement.{Statement}
use Rattle.shell.proofs.SteppedLemmas.{stands_kept}
use Rattle.shell_sessions.specs.Replies.{Base, SlotState, asks, base_of, closed, closes, ended, missing, opens, running}
use Rattle.shell_sessions.specs.Stands.{HasCollected, HasCompleted, KeepsImage, Replied, SlotStandsAt}
use Rattle.shell_sessions.specs.declared.slot.Slot.{Slot}
use Rattle.shell_sessions.specs.declared.slot.Slot.TheVariants.{Closed, Running, Ended}
use Rattle.shell_sessions.specs.declared.step.Reply.TheVariants as answers
use Rattle.shell_sessions.proofs.TextLemmas.{text_fault}

-- ---- nothing stands in the slot, or what has ended

module _ (engine : EngineState) where
  -- a closed slot isn't asked, nor closed
  pub closed_asked : (new : EngineState) (at : SlotState) → SlotStandsAt engine Closed at
      → Replied (base_of engine) asks at (answers.Fault NoStatement) (SlotStandsAt new Closed)
  closed_asked new at is =
      subst (λ (s : SlotState). Replied (base_of engine) asks s (answers.Fault NoStatement) (SlotStandsAt new Closed)) (sym is)
      (record { next = closed; may = (refl, refl); stands = refl })

  pub closed_closed : (at : SlotState) → SlotStandsAt engine Closed at
      → Replied (base_of engine) closes at (answers.Fault NoStatement) (SlotStandsAt engine Closed)
  closed_closed at is =
      subst (λ (s : SlotState). Replied (base_of engine) closes s (answers.Fault NoStatement) (SlotStandsAt engine Closed)) (sym is)
      (record { next = closed; may = (refl, refl); stands = refl })

  pub ended_asked : (new : EngineState) (at : SlotState) → SlotStandsAt engine Ended at
      → Replied (base_of engine) asks at (answers.Fault Finished) (SlotStandsAt new Ended)
  ended_asked new at is =
      subst (λ (s : SlotState). Replied (base_of engine) asks s (answers.Fault Finished) (SlotStandsAt new Ended)) (sym is)
      (record { next = ended; may = (refl, refl); stands = refl })

  -- ---- a statement stands in the slot, or what has ended

  abbrev pub IsTaken : Slot → Type 0
  IsTaken slot = ((statement : Statement) × (slot ≡ Running statement)) ⊎ (slot ≡ Ended)

  not_taken : IsTaken Closed → ⊥
  not_taken (inl some) = let is = some.1 in cc
  not_taken (inr none) = cc

  pub taken : (text : List ℕ) (slot : Slot) (at : SlotState) → IsTaken slot → SlotStandsAt engine slot at
      → Replied (base_of engine) (opens text) at (answers.Fault TooManyStatements) (SlotStandsAt engine slot)
  taken text Closed at is stands = absurd (not_taken is)
  taken text (Running statement) missing some stands = absurd stands
  taken text (Running statement) closed some stands = absurd stands
  taken text (Running statement) (running query given) some stands = record { next = running query given; may = (refl, refl); stands = stands }
  taken text (Running statement) ended some stands = absurd stands
  taken text Ended at some is =
      subst (λ (s : SlotState). Replied (base_of engine) (opens text) s (answers.Fault TooManyStatements) (SlotStandsAt engine Ended)) (sym is)
      (record { next = ended; may = (refl, refl); stands = refl })

  pub closing : (slot : Slot) (at : SlotState) → IsTaken slot → SlotStandsAt engine slot at
      → Replied (base_of engine) closes at answers.Closed (SlotStandsAt engine Closed)
  closing Closed at is stands = absurd (not_taken is)
  closing (Running statement) missing some stands = absurd stands
  closing (Running statement) closed some stands = absurd stands
  closing (Running statement) (running query given) some stands = record { next = closed; may = (refl, refl); stands = refl }
  closing (Running statement) ended some stands = absurd stands
  closing Ended at some is =
      subst (λ (s : SlotState). Replied (base_of engine) closes s answers.Closed (SlotStandsAt engine Closed)) (sym is)
      (record { next = closed; may = (refl, refl); stands = refl })

  -- ---- a text is opened

  pub opening : (text : List ℕ) (started : Started) (at : SlotState) → HasStarted engine text started → SlotStandsAt engine Closed at
      → Replied (base_of engine) (opens text) at (answers.Opened started.names) (SlotStandsAt engine (Running started.statement))
  opening text started at has is =
      subst (λ (s : SlotState). Replied (base_of engine) (opens text) s (answers.Opened started.names) (SlotStandsAt engine (Running started.statement))) (sym is)
      (record { next = running has.query []; may = (has.query, has.means, refl); stands = has.stands })

  pub unopened : (text : List ℕ) (fault : Fault) (at : SlotState) → IsUnstarted engine.tables text fault → SlotStandsAt engine Closed at
      → Replied (base_of engine) (opens text) at (answers.Fault fault) (SlotStandsAt engine Closed)
  unopened text fault at refused is =
      subst (λ (s : SlotState). Replied (base_of engine) (opens text) s (answers.Fault fault) (SlotStandsAt engine Closed)) (sym is)
      (record { next = closed; may = (text_fault engine.tables text fault refused, refused, refl); stands = refl })

-- ---- a statement is asked for its next row

module _ (old new : EngineState) (statement then : Statement) where
  pub row_asked : (row : Row) (at : SlotState)
      → ((query : QueryData) (given : List Row) → HasGivenSoFar old query statement given → StepsStatement old new query given statement then (Ok (Some row)))
      → SlotStandsAt old (Running statement) at → Replied (base_of old) asks at (answers.Row row) (SlotStandsAt new (Running then))
  row_asked row missing steps stands = absurd stands
  row_asked row closed steps stands = absurd stands
  row_asked row (running query given) steps stands =
      let has = (steps query given stands).rows in
      record { next = running query (given ++ row ∷ []); may = (has.begins, refl); stands = has.stands }
  row_asked row ended steps stands = absurd stands

  pub end_asked : (at : SlotState)
      → ((query : QueryData) (given : List Row) → HasGivenSoFar old query statement given → StepsStatement old new query given statement then (Ok None))
      → SlotStandsAt old (Running statement) at → Replied (base_of old) asks at answers.End (SlotStandsAt new Ended)
  end_asked missing steps stands = absurd stands
  end_asked closed steps stands = absurd stands
  end_asked (running query given) steps stands = record { next = ended; may = ((steps query given stands).rows, refl); stands = refl }
  end_asked ended steps stands = absurd stands

  pub fault_asked : (fault : Fault) (at : SlotState)
      → ((query : QueryData) (given : List Row) → HasGivenSoFar old query statement given → StepsStatement old new query given statement then (Err fault))
      → SlotStandsAt old (Running statement) at → Replied (base_of old) asks at (answers.Fault fault) (SlotStandsAt new Ended)
  fault_asked fault missing steps stands = absurd stands
  fault_asked fault closed steps stands = absurd stands
  fault_asked fault (running query given) steps stands =
      let step = steps query given stands in record { next = ended; may = (step.only, step.rows, refl); stands = refl }
  fault_asked fault ended steps stands = absurd stands

-- ---- all further rows

module _ (old new : EngineState) where
  pub closed_completed : (at : SlotState) → SlotStandsAt old Closed at → HasCompleted (base_of old) at (Err NoStatement) (SlotStandsAt new Closed)
  closed_completed at is =
      subst (λ (s : SlotState). HasCompleted (base_of old) s (Err NoStatement) (SlotStandsAt new Closed)) (sym is)
      (record { next = closed; may = (refl, refl); stands = refl })

  pub ended_completed : (at : SlotState) → SlotStandsAt old Ended at → HasCompleted (base_of old) at (Err Finished) (SlotStandsAt new Ended)
  ended_completed at is =
      subst (λ (s : SlotState). HasCompleted (base_of old) s (Err Finished) (SlotStandsAt new Ended)) (sym is)
      (record { next = ended; may = (refl, refl); stands = refl })

  pub completed : (statement : Statement) (result : Result (Vec Row) Fault) (at : SlotState)
      → ((query : QueryData) (given : List Row) → HasGivenSoFar old query statement given → HasCollected (base_of old) query given result)
      → SlotStandsAt old (Running statement) at → HasCompleted (base_of old) at result (SlotStandsAt new Ended)
  completed statement result missing rows stands = absurd stands
  completed statement result closed rows stands = absurd stands
  completed statement result (running query given) rows stands = record { next = ended; may = (rows query given stands, refl); stands = refl }
  completed statement result ended rows stands = absurd stands

-- ---- the engine asks for pages meanwhile

pub base_kept : (old new : EngineState) → KeepsImage old new → base_of new ≡ base_of old
base_kept old new kept = rw (kept.image.bytes, kept.image.steady, kept.tables) refl

pub kept_trans : (first between last : EngineState) → KeepsImage first between → KeepsImage between last → KeepsImage first last
kept_trans first between last a b = record { image = SameImage-trans first.pager between.pager last.pager a.image b.image; tables = b.tables ∙ a.tables }

pub slot_kept : (old new : EngineState) → KeepsImage old new → (slot : Slot) (at : SlotState) → SlotStandsAt old slot at → SlotStandsAt new slot at
slot_kept old new kept Closed at is = is
slot_kept old new kept (Running statement) missing stands = absurd stands
slot_kept old new kept (Running statement) closed stands = absurd stands
slot_kept old new kept (Running statement) (running query given) stands = stands_kept old new query statement given kept.image kept.tables stands
slot_kept old new kept (Running statement) ended stands = absurd stands
slot_kept old new kept Ended at is = is

-- the further rows of a statement stop at a fault
pub collecting_stops : (old now new : EngineState) (query : QueryData) (given : List Row) (statement : Statement) (fault : Fault) → KeepsImage old now → IsOperatorFault fault
    → HasSteppedStatement now new query given statement (Err fault) → (before : List Row) → HasCollected (base_of old) query before (Err fault)
collecting_stops old now new query given statement fault kept only stops before =
    (only, subst (λ (b : Base). IsTrue b.steady → IsStepCause b.image b.tables query fault) (base_kept old now kept) stops)

-- and end where none comes
pub collecting_ends : (old now : EngineState) (query : QueryData) (all : List Row) → KeepsImage old now
    → (IsTrue now.pager.source.steady → IsAnswerOver now.pager.source.bytes now.tables query all)
    → IsTrue old.pager.source.steady → IsAnswerOver old.pager.source.bytes old.tables query all
collecting_ends old now query all kept ends =
    subst (λ (b : Base). IsTrue b.steady → IsAnswerOver b.image b.tables query all) (base_kept old now kept) ends

-- one row more was gathered behind those that were given before
pub one_more_behind : (engine : EngineState) (query : QueryData) (statement : Statement) (given rows all : List Row) (row : Row) → all ≡ rows ++ row ∷ []
    → HasGivenSoFar engine query statement ((given ++ rows) ++ row ∷ []) → HasGivenSoFar engine query statement (given ++ all)
one_more_behind engine query statement given rows all row is stands = rw is (rw append_assoc at stands)
