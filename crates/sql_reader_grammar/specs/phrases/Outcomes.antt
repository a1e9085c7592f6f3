-- What a reader that goes from left to right comes to: a tree and the tokens behind it, or why there is none. No public
-- clause of a reader cites it.
use Rattle.std.specs.Prelude.{◌≡◌, Bool, ℕ, zero, suc, max, List, [], ◌∷◌, Option, Some, None, Result, Ok, Err, if◌then◌else◌}
use Rattle.values.specs.declared.fault.Fault.{Fault}
use Rattle.values.specs.declared.fault.Fault.TheVariants as e
use Rattle.sql_reader_grammar.specs.phrases.Steps.{Rest}

-- why nothing is read: the tokens are wrong, or they have too many levels
pub data Refusal : Type 0 where
  Syntax : Refusal
  Limit : Refusal

abbrev pub Outcome : Type 0 → Type 0
Outcome A = Result A Refusal

infixl 10 ◌>>=◌
abbrev pub ◌>>=◌ : {A B : Type 0} → Outcome A → (A → Outcome B) → Outcome B
(Ok x) >>= f = f x
(Err e) >>= f = Err e

abbrev pub needed : {A : Type 0} → Option A → Outcome A
needed None = Err Refusal.Syntax
needed (Some x) = Ok x

abbrev pub kept_if : {A : Type 0} → Bool → A → Outcome A
kept_if kept x = if kept then Ok x else Err Refusal.Syntax

-- what a function of the program returned, seen by view, is this outcome, unless memory ran out
abbrev pub Fails : {B : Type 0} → Fault → Outcome B → Type 0
Fails (e.Syntax place) outcome = outcome ≡ Err Refusal.Syntax
Fails e.Limit outcome = outcome ≡ Err Refusal.Limit
Fails e.NoMemory outcome = Unit {0}
Fails _ outcome = ⊥

abbrev pub Yields : {A B : Type 0} → (A → B) → Result A Fault → Outcome B → Type 0
Yields view (Ok x) outcome = outcome ≡ Ok (view x)
Yields view (Err fault) outcome = Fails fault outcome

-- a tree, how many levels it has, and the tokens after it
pub record Read (A : Type 0) : Type 0 where
  pub tree : A
  pub levels : ℕ
  pub rest : Rest

abbrev pub read : {A : Type 0} → A → ℕ → Rest → Read A
read tree levels rest = record { tree = tree; levels = levels; rest = rest }

-- Lists

-- one phrase before others
abbrev pub put : {A : Type 0} → Read A → Read (List A) → Read (List A)
put x xs = read (x.tree ∷ xs.tree) (max x.levels xs.levels) xs.rest

-- what follows a phrase: none, or the others
abbrev pub others : {A : Type 0} → (Rest → Outcome (Read (List A))) → Rest → Option Rest → Outcome (Read (List A))
others more ts None = Ok (read [] 0 ts)
others more ts (Some start) = more start

-- one phrase or more, where `next` tells whether a further one follows, in at most so many turns; a phrase is told its
-- place
unfoldable pub series : {A : Type 0} → (ℕ → Rest → Outcome (Read A)) → (Rest → Option Rest) → ℕ → ℕ → Rest
    → Outcome (Read (List A))
series phrase next zero place ts = Err Refusal.Syntax
series phrase next (suc n) place ts =
    phrase place ts
    >>= λ x. others (series phrase next n (suc place)) x.rest (next x.rest)
    >>= λ xs. Ok (put x xs)
