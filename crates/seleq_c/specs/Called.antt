-- What a call answers, and what it leaves of an image.
use Rattle.std.specs.Prelude.{◌≡◌, ◌⊎◌, ℕ, IsUtf8, List, MatchOption, Option}
use Rattle.values.specs.Fault.{number_of}
use Rattle.values.specs.declared.fault.Fault.TheVariants.{NoMemory}
use Rattle.shell_sessions.specs.Replies.{Request, opens}
use Rattle.shell_sessions.specs.declared.step.Reply.{Reply}
use Rattle.shell_sessions.specs.declared.step.Reply.TheVariants as answers
use Rattle.opened_images.specs.Held.{ImageState, IsOpening, MakesStep}

-- what a call answers that is no number of a fault, as include/seleq.h has it
abbrev pub not_open : ℕ
not_open = 60

abbrev pub already_open : ℕ
already_open = 61

abbrev pub no_column : ℕ
no_column = 62

abbrev pub not_utf8 : ℕ
not_utf8 = 63

abbrev pub no_cache : ℕ
no_cache = 64

abbrev pub end_of_rows : ℕ
end_of_rows = 100

-- what a call answers whose step was replied so
abbrev pub status_of : Reply → ℕ
status_of (answers.Fault fault) = number_of fault
status_of answers.End = end_of_rows
status_of (answers.Opened names) = 0
status_of (answers.Row row) = 0
status_of answers.Closed = 0

-- An image was opened, or was refused and is kept with its fault; or there is no memory to keep it, and it is closed still.
abbrev pub AnswersOpening : List ℕ → ℕ → Option ImageState → ℕ → Type 0
AnswersOpening bytes cache kept status =
    MatchOption kept (status ≡ number_of NoMemory) (λ image. IsOpening bytes cache image × (status ≡ status_of image.reply))

-- a step on an image that is open, which is open still
abbrev pub AnswersStep : ImageState → ℕ → Request → Option ImageState → ℕ → Type 0
AnswersStep old slot request kept status = MatchOption kept ⊥ (λ new. MakesStep old slot request new × (status ≡ status_of new.reply))

-- A text was to be opened: it isn't UTF-8, and nothing was done; or memory was refused before the step, and that is the reply; or
-- the step was made.
abbrev pub AnswersStart : ImageState → ℕ → List ℕ → Option ImageState → ℕ → Type 0
AnswersStart old slot text kept status = MatchOption kept ⊥ (λ new.
    (¬ IsUtf8 text × (status ≡ not_utf8) × (new ≡ old))
    ⊎ ((MakesStep old slot (opens text) new ⊎ (new ≡ record old { slot = slot; reply = answers.Fault NoMemory })) × (status ≡ status_of new.reply)))
