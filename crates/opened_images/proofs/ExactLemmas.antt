-- A step to the next row over bytes in memory. (SELECT)
use Rattle.std.proofs.Common.{◌≡◌, ◌≢◌, ℕ, List, MatchOption, Option, Some, None, IsTrue, refl, subst, ◌∙◌}
use Rattle.values.specs.Row.{Row}
use Rattle.schema_tables.specs.TableData.{TableData}
use Rattle.semantics.specs.Query.{QueryData}
use Rattle.shell_sessions.specs.Replies.{Request, SlotState, asks, base_of, running}
use Rattle.shell_sessions.specs.SessionState.{SessionState}
use Rattle.shell_sessions.specs.Stands.{Replied, SlotStands}
use Rattle.shell_sessions.specs.declared.step.Reply.{Reply}
use Rattle.shell_sessions.specs.declared.step.Reply.TheVariants as answers
use Rattle.opened_images.specs.Held.{GivesExactly, HasBytes, HasSteppedSlot, ImageState, KeepsReply, MakesStep, StandsAt, after}

-- what a slot may give of a query, where nothing changes the bytes
gives : (old new : SessionState) (slot : ℕ) (query : QueryData) (given : List Row) (reply : Reply) → IsTrue old.engine.pager.source.steady
    → Replied (base_of old.engine) asks (running query given) reply (SlotStands new.engine new.slots slot)
    → GivesExactly old.engine.pager.source.bytes old.engine.tables query given reply × SlotStands new.engine new.slots slot (after query given reply)
gives old new slot query given (answers.Row row) steady replied =
    (replied.may.0 steady, subst (λ (at : SlotState). SlotStands new.engine new.slots slot at) replied.may.1 replied.stands)
gives old new slot query given answers.End steady replied =
    (replied.may.0 steady, subst (λ (at : SlotState). SlotStands new.engine new.slots slot at) replied.may.1 replied.stands)
gives old new slot query given (answers.Fault fault) steady replied =
    (replied.may.1 steady, subst (λ (at : SlotState). SlotStands new.engine new.slots slot at) replied.may.2 replied.stands)
gives old new slot query given (answers.Opened names) steady replied = absurd replied.may
gives old new slot query given answers.Closed steady replied = absurd replied.may

-- the same of the session of an image
kept_exactly : (bytes : List ℕ) (tables : List TableData) (query : QueryData) (given : List Row) (old : SessionState) (slot : ℕ) (new : ImageState)
    → HasBytes bytes old.engine → old.engine.tables ≡ tables → SlotStands old.engine old.slots slot (running query given) → KeepsReply old slot asks new
    → GivesExactly bytes tables query given new.reply × StandsAt bytes tables new slot (after query given new.reply)
kept_exactly bytes tables query given old slot new has tables_are stands kept = of_session new.session refl kept.stepped
  where
    of_session : (session : Option SessionState) → new.session ≡ session → MatchOption session ⊥ (λ later. HasSteppedSlot old slot asks new.reply later)
        → GivesExactly bytes tables query given new.reply × StandsAt bytes tables new slot (after query given new.reply)
    of_session None is stepped = absurd stepped
    of_session (Some later) is stepped =
        let both = gives old later slot query given new.reply has.1 (stepped.replies (running query given) stands) in (
          subst (λ (ts : List TableData). GivesExactly bytes ts query given new.reply) tables_are
              (subst (λ (b : List ℕ). GivesExactly b old.engine.tables query given new.reply) has.0 both.0),
          record {
            session = later;
            is = is;
            bytes_are = (stepped.image.image.bytes ∙ has.0, stepped.image.image.steady ∙ has.1);
            tables_are = stepped.image.tables ∙ tables_are;
            stands = both.1;
          },
        )

-- the same of an image
pub made_exactly : (old new : ImageState) (slot : ℕ) → MakesStep old slot asks new → (bytes : List ℕ) (tables : List TableData) (query : QueryData)
    (given : List Row) → StandsAt bytes tables old slot (running query given)
    → GivesExactly bytes tables query given new.reply × StandsAt bytes tables new slot (after query given new.reply)
made_exactly old new slot made bytes tables query given at =
    kept_exactly bytes tables query given at.session slot new at.bytes_are at.tables_are at.stands
    (subst (λ (session : Option SessionState). MatchOption session (new ≡ old) (λ s. KeepsReply s slot asks new)) at.is made)

-- ---- the other slots

-- a step on a slot leaves how another one stands
kept_still : (bytes : List ℕ) (tables : List TableData) (old : SessionState) (slot number : ℕ) (request : Request) (at : SlotState) (new : ImageState)
    → HasBytes bytes old.engine → old.engine.tables ≡ tables → number ≢ slot → SlotStands old.engine old.slots number at
    → KeepsReply old slot request new → StandsAt bytes tables new number at
kept_still bytes tables old slot number request at new has tables_are other stands kept = of_session new.session refl kept.stepped
  where
    of_session : (session : Option SessionState) → new.session ≡ session → MatchOption session ⊥ (λ later. HasSteppedSlot old slot request new.reply later)
        → StandsAt bytes tables new number at
    of_session None is stepped = absurd stepped
    of_session (Some later) is stepped = record {
      session = later;
      is = is;
      bytes_are = (stepped.image.image.bytes ∙ has.0, stepped.image.image.steady ∙ has.1);
      tables_are = stepped.image.tables ∙ tables_are;
      stands = stepped.others number at other stands;
    }

pub made_still : (old new : ImageState) (slot : ℕ) (request : Request) → MakesStep old slot request new → (bytes : List ℕ) (tables : List TableData)
    (number : ℕ) (at : SlotState) → number ≢ slot → StandsAt bytes tables old number at → StandsAt bytes tables new number at
made_still old new slot request made bytes tables number at other stood =
    kept_still bytes tables stood.session slot number request at new stood.bytes_are stood.tables_are other stood.stands
    (subst (λ (session : Option SessionState). MatchOption session (new ≡ old) (λ s. KeepsReply s slot request new)) stood.is made)
