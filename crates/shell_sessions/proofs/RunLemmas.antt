-- Slots by their numbers, and a step more of a run.
use Rattle.std.proofs.Common.{◌≡◌, ◌≢◌, ◌∙◌, ◌==◌, ◌<◌, ◌≤◌, ◌⊎◌, inl, inr, true, false, ℕ, zero, suc, List, [], ◌∷◌, ◌++◌, length, get_or, MatchOption, Option, Some, None, Result, slice_get, set, replicate, if◌then◌else◌, refl, sym, ap, append-nil, subst, arith}
use Rattle.std.specs.Global.{Vec}
use Rattle.std.specs.List.{filter, zip}
use Rattle.std.proofs.lemmas.List.Elements.{filter-append}
use Rattle.std.proofs.Math.Dec.{eqb, leb}
use Rattle.std.proofs.lemmas.Bool.Decides.{eqb_tells, leb_tells}
use Rattle.std.proofs.lemmas.List.{get_or-replicate}
use Rattle.std.proofs.lemmas.Option.{slice_get-get_or, slice_get_past}
use Rattle.values.specs.Row.{Row}
use Rattle.values.specs.declared.fault.Fault.{Fault}
use Rattle.shell.specs.State.{EngineState}
use Rattle.shell_sessions.specs.Replies.{Base, MayReply, Request, SlotState, asks, base_of, closed, closes, first_state, missing, missing_fault, opens, request_of, slot_of}
use Rattle.shell_sessions.specs.Run.{Runs, TellReads, TellsRead, steps_on}
use Rattle.shell_sessions.specs.Stands.{HasCompleted, KeepsImage, Replied, SlotStands, SlotStandsAt}
use Rattle.shell_sessions.specs.declared.slot.Slot.{Slot}
use Rattle.shell_sessions.specs.declared.slot.Slot.TheVariants.{Closed}
use Rattle.shell_sessions.specs.declared.step.Reply.{Reply}
use Rattle.shell_sessions.specs.declared.step.Reply.TheVariants as answers
use Rattle.shell_sessions.specs.declared.step.Step.{Step}
use Rattle.shell_sessions.proofs.SlotLemmas.{slot_kept}

-- ---- slots by their numbers

-- there is no slot of this number
pub none_there : (engine new : EngineState) (slots : List Slot) (number : ℕ) (request : Request) (at : SlotState) → length slots ≤ number
    → SlotStands engine slots number at → Replied (base_of engine) request at (answers.Fault (missing_fault request)) (SlotStands new slots number)
none_there engine new slots number request at past stands =
    let is : at ≡ missing = subst (λ (o : Option Slot). MatchOption o (at ≡ missing) (λ slot. SlotStandsAt engine slot at)) (slice_get_past slots number past) stands in
    subst (λ (s : SlotState). Replied (base_of engine) request s (answers.Fault (missing_fault request)) (SlotStands new slots number)) (sym is)
    (record {
      next = missing;
      may = refused request;
      stands = subst (λ (o : Option Slot). MatchOption o (missing ≡ missing) (λ slot. SlotStandsAt new slot missing)) (sym (slice_get_past slots number past)) refl;
    })
  where
    refused : (request : Request) → MayReply (base_of engine) request missing (answers.Fault (missing_fault request)) missing
    refused (opens text) = (refl, refl)
    refused asks = (refl, refl)
    refused closes = (refl, refl)

got_some : (engine : EngineState) (slots : List Slot) (number : ℕ) (slot : Slot) (at : SlotState) → slice_get slots number ≡ Some slot
    → SlotStands engine slots number at → SlotStandsAt engine slot at
got_some engine slots number slot at here stands =
    subst (λ (o : Option Slot). MatchOption o (at ≡ missing) (λ slot. SlotStandsAt engine slot at)) here stands

some_got : (engine : EngineState) (slots : List Slot) (number : ℕ) (slot : Slot) (at : SlotState) → slice_get slots number ≡ Some slot
    → SlotStandsAt engine slot at → SlotStands engine slots number at
some_got engine slots number slot at here stands =
    subst (λ (o : Option Slot). MatchOption o (at ≡ missing) (λ slot. SlotStandsAt engine slot at)) (sym here) stands

got_set : {X : Type 0} (xs : List X) (i : ℕ) (x : X) → i < length xs → slice_get (set xs i x) i ≡ Some x
got_set [] i x within = absurd (omega (arith, within))
got_set (y ∷ ys) zero x within = refl
got_set (y ∷ ys) (suc i) x within = got_set ys i x (omega (arith, within))

got_other : {X : Type 0} (xs : List X) (i j : ℕ) (x : X) → j ≢ i → slice_get (set xs i x) j ≡ slice_get xs j
got_other [] i j x other = refl
got_other (y ∷ ys) zero zero x other = absurd (other refl)
got_other (y ∷ ys) zero (suc j) x other = refl
got_other (y ∷ ys) (suc i) zero x other = refl
got_other (y ∷ ys) (suc i) (suc j) x other = got_other ys i j x (λ same. other (ap suc same))

-- a step is made on the slot of this number
pub made_there : (old new : EngineState) (slots : List Slot) (at number : ℕ) (first later : Slot) (request : Request) (reply : Reply) → at ≡ number → at < length slots
    → ((state : SlotState) → SlotStandsAt old (get_or slots at first) state → Replied (base_of old) request state reply (SlotStandsAt new later))
    → (state : SlotState) → SlotStands old slots number state → Replied (base_of old) request state reply (SlotStands new (set slots at later) number)
made_there old new slots at number first later request reply same within replies state stands =
    subst (λ (n : ℕ). SlotStands old slots n state → Replied (base_of old) request state reply (SlotStands new (set slots at later) n)) same
    (λ stands.
    let has = replies state (got_some old slots at (get_or slots at first) state (slice_get-get_or slots at first within) stands) in
    record {
      next = has.next;
      may = has.may;
      stands = some_got new (set slots at later) at later has.next (got_set slots at later within) has.stands;
    })
    stands

-- what the slot of this number has still to give was gathered
pub completed_there : (old new : EngineState) (slots : List Slot) (at number : ℕ) (first later : Slot) (result : Result (Vec Row) Fault) → at ≡ number → at < length slots
    → ((state : SlotState) → SlotStandsAt old (get_or slots at first) state → HasCompleted (base_of old) state result (SlotStandsAt new later))
    → (state : SlotState) → SlotStands old slots number state → HasCompleted (base_of old) state result (SlotStands new (set slots at later) number)
completed_there old new slots at number first later result same within rows state stands =
    subst (λ (n : ℕ). SlotStands old slots n state → HasCompleted (base_of old) state result (SlotStands new (set slots at later) n)) same
    (λ stands.
    let has = rows state (got_some old slots at (get_or slots at first) state (slice_get-get_or slots at first within) stands) in
    record {
      next = has.next;
      may = has.may;
      stands = some_got new (set slots at later) at later has.next (got_set slots at later within) has.stands;
    })
    stands

-- the other slots stand as they stood
pub others_kept : (old new : EngineState) → KeepsImage old new → (slots : List Slot) (at number : ℕ) (later : Slot) → at ≡ number
    → (other : ℕ) (state : SlotState) → other ≢ number → SlotStands old slots other state → SlotStands new (set slots at later) other state
others_kept old new kept slots at number later same other state apart stands =
    subst (λ (o : Option Slot). MatchOption o (state ≡ missing) (λ slot. SlotStandsAt new slot state))
    (sym (got_other slots at other later (λ is. apart (is ∙ same)))) (kept_at (slice_get slots other) stands)
  where
    kept_at : (o : Option Slot) → MatchOption o (state ≡ missing) (λ slot. SlotStandsAt old slot state) → MatchOption o (state ≡ missing) (λ slot. SlotStandsAt new slot state)
    kept_at None is = is
    kept_at (Some slot) stands = slot_kept old new kept slot state stands

-- ---- slots before the first step

first_of : (engine : EngineState) (number : ℕ) → SlotStands engine (replicate 16 Closed) number (first_state number)
first_of engine number = by_number (leb_tells (suc number) 16)
  where
    by_number : ((leb (suc number) 16 ≡ true) × (suc number ≤ 16)) ⊎ ((leb (suc number) 16 ≡ false) × (16 < suc number))
        → SlotStands engine (replicate 16 Closed) number (first_state number)
    by_number (inl within) =
        some_got engine (replicate 16 Closed) number Closed (first_state number)
        (slice_get-get_or (replicate 16 Closed) number Closed (omega (arith, within.1)) ∙ ap Some (get_or-replicate 16 number Closed Closed (omega (arith, within.1))))
        (ap (λ b. if b then closed else missing) within.0)
    by_number (inr past) =
        subst (λ (o : Option Slot). MatchOption o (first_state number ≡ missing) (λ slot. SlotStandsAt engine slot (first_state number)))
        (sym (slice_get_past (replicate 16 Closed) number (omega (arith, past.1)))) (ap (λ b. if b then closed else missing) past.0)

pub first_stands : (engine : EngineState) (slots : List Slot) → slots ≡ replicate 16 Closed → (number : ℕ) → SlotStands engine slots number (first_state number)
first_stands engine slots are number = subst (λ (ss : List Slot). SlotStands engine ss number (first_state number)) (sym are) (first_of engine number)

-- ---- a step more of a run

zip_more : {X Y : Type 0} (xs : List X) (ys : List Y) (x : X) (y : Y) → length ys ≡ length xs → zip (xs ++ x ∷ []) (ys ++ y ∷ []) ≡ zip xs ys ++ (x, y) ∷ []
zip_more [] [] x y long = refl
zip_more [] (other ∷ ys) x y long = absurd (omega (arith, long))
zip_more (first ∷ xs) [] x y long = absurd (omega (arith, long))
zip_more (first ∷ xs) (other ∷ ys) x y long = ap (λ rest. (first, other) ∷ rest) (zip_more xs ys x y (omega (arith, long)))

module _ (base : Base) where
  -- a run, and one step behind it
  runs_on : (at last next : SlotState) (run : List (Step × Reply)) (step : Step) (reply : Reply) → Runs base at run last
      → MayReply base (request_of step) last reply next → Runs base at (run ++ (step, reply) ∷ []) next
  runs_on at last next [] step reply is may =
      (next, subst (λ (s : SlotState). MayReply base (request_of step) s reply next) (sym is) may, refl)
  runs_on at last next ((first, answer) ∷ run) step reply runs may = (runs.0, runs.1, runs_on runs.0 last next run step reply runs.2 may)

  -- the run of a slot so far, and how it stands behind it
  pub record HasRun (engine : EngineState) (slots : List Slot) (steps : List Step) (replies : List Reply) (number : ℕ) : Type 0 where
    pub last : SlotState
    pub runs : Runs base (first_state number) (steps_on number steps replies) last
    pub stands : SlotStands engine slots number last

  -- no step was made
  pub none_run : (engine : EngineState) (slots : List Slot) → slots ≡ replicate 16 Closed → (number : ℕ) → HasRun engine slots [] [] number
  none_run engine slots are number = record { last = first_state number; runs = refl; stands = first_stands engine slots are number }

  module _ (old new : EngineState) (slots later : List Slot) (steps : List Step) (replies : List Reply) (step : Step) (reply : Reply)
      (long : length replies ≡ length steps) where
    more_steps : (number : ℕ) → steps_on number (steps ++ step ∷ []) (replies ++ reply ∷ [])
        ≡ steps_on number steps replies ++ filter (λ pair. slot_of pair.0 == number) ((step, reply) ∷ [])
    more_steps number =
        ap (filter (λ pair. slot_of pair.0 == number)) (zip_more steps replies step reply long)
        ∙ filter-append (λ pair. slot_of pair.0 == number) (zip steps replies) ((step, reply) ∷ [])

    one_more_run : base_of old ≡ base
        → ((state : SlotState) → SlotStands old slots (slot_of step) state
        → Replied (base_of old) (request_of step) state reply (SlotStands new later (slot_of step)))
        → ((number : ℕ) (state : SlotState) → number ≢ slot_of step → SlotStands old slots number state → SlotStands new later number state)
        → (number : ℕ) → HasRun old slots steps replies number → HasRun new later (steps ++ step ∷ []) (replies ++ reply ∷ []) number
    one_more_run same replies_so others number has = by_slot (eqb_tells (slot_of step) number)
      where
        by_slot : ((eqb (slot_of step) number ≡ true) × (slot_of step ≡ number)) ⊎ ((eqb (slot_of step) number ≡ false) × (slot_of step ≢ number))
            → HasRun new later (steps ++ step ∷ []) (replies ++ reply ∷ []) number
        by_slot (inl here) =
            let replied = replies_so has.last (subst (λ (n : ℕ). SlotStands old slots n has.last) (sym here.1) has.stands) in
            record {
              last = replied.next;
              runs =
                  subst (λ (run : List (Step × Reply)). Runs base (first_state number) run replied.next) (sym (more_steps number ∙ kept here.0))
                  (runs_on (first_state number) has.last replied.next (steps_on number steps replies) step reply has.runs
                  (subst (λ (b : Base). MayReply b (request_of step) has.last reply replied.next) same replied.may));
              stands = subst (λ (n : ℕ). SlotStands new later n replied.next) here.1 replied.stands;
            }
          where
            kept : eqb (slot_of step) number ≡ true → steps_on number steps replies ++ filter (λ pair. slot_of pair.0 == number) ((step, reply) ∷ [])
                ≡ steps_on number steps replies ++ (step, reply) ∷ []
            kept is = rw is refl
        by_slot (inr there) = record {
          last = has.last;
          runs = subst (λ (run : List (Step × Reply)). Runs base (first_state number) run has.last) (sym (more_steps number ∙ dropped there.0)) has.runs;
          stands = others number has.last (λ is. there.1 (sym is)) has.stands;
        }
          where
            dropped : eqb (slot_of step) number ≡ false → steps_on number steps replies ++ filter (λ pair. slot_of pair.0 == number) ((step, reply) ∷ [])
                ≡ steps_on number steps replies
            dropped is = rw is (append-nil (steps_on number steps replies))

    -- the same of lists that are these
    pub one_more_of : (all : List Step) (given : List Reply) → all ≡ steps ++ step ∷ [] → given ≡ replies ++ reply ∷ [] → base_of old ≡ base
        → ((state : SlotState) → SlotStands old slots (slot_of step) state
        → Replied (base_of old) (request_of step) state reply (SlotStands new later (slot_of step)))
        → ((number : ℕ) (state : SlotState) → number ≢ slot_of step → SlotStands old slots number state → SlotStands new later number state)
        → (number : ℕ) → HasRun old slots steps replies number → HasRun new later all given number
    one_more_of all given steps_are replies_are same replies_so others number has = rw (steps_are, replies_are) (one_more_run same replies_so others number has)

-- a reply more tells of its reads
tell_more : (replies : List Reply) (reply : Reply) (before between after : ℕ) → TellReads replies before between → TellsRead reply between after
    → TellReads (replies ++ reply ∷ []) before after
tell_more [] reply before between after told tells =
    (after, subst (λ (n : ℕ). TellsRead reply n after) told tells, refl)
tell_more (first ∷ replies) reply before between after told tells = (told.0, told.1, tell_more replies reply told.0 between after told.2 tells)

pub tell_more_of : (given replies : List Reply) (reply : Reply) (before between after : ℕ) → given ≡ replies ++ reply ∷ [] → TellReads replies before between
    → TellsRead reply between after → TellReads given before after
tell_more_of given replies reply before between after is told tells = rw is (tell_more replies reply before between after told tells)
