-- Steps that may fail, one after another.
use Rattle.std.proofs.Common.{◌≡◌, ℕ, suc, ◌<◌, ◌≤◌, max, true, false, Option, Some, Result, Ok, Err, cond, leb, refl, sym, ap, ◌∙◌, arith, subst}
use Rattle.std.proofs.lemmas.Bool.{le-leb, lt-leb, cond-true, cond-false, cases_lt}
use mathlib.Core.Logic.{inl, inr}
use Rattle.values.specs.declared.fault.Fault.{Fault}
use Rattle.values.specs.declared.fault.Fault.TheVariants as f
use Rattle.sql_reader_grammar.specs.phrases.Outcomes.{Fails, Refusal, Outcome, Yields, ◌>>=◌, needed}
use Rattle.sql_reader_grammar.specs.phrases.Steps.{HasFound}

pub some_inj : {A : Type 0} (x y : A) → Some x ≡ Some y → x ≡ y
some_inj x y h = cc

pub bind_ok : {A B : Type 0} (r : Outcome A) (f : A → Outcome B) (y : B) → (r >>= f) ≡ Ok y
    → (x : A) × (r ≡ Ok x) × (f x ≡ Ok y)
bind_ok (Ok x) f y h = (x, refl, h)
bind_ok (Err e) f y h = absurd cc

pub ok_inj : {A : Type 0} (x y : A) → (let r : Outcome A = Ok x in r) ≡ Ok y → x ≡ y
ok_inj x y h = cc

pub bind_same : {A B : Type 0} (r : Outcome A) (f g : A → Outcome B) → ((x : A) → r ≡ Ok x → f x ≡ g x)
    → (r >>= f) ≡ (r >>= g)
bind_same (Ok x) f g h = h x refl
bind_same (Err e) f g h = refl

-- x where a tree of h levels is within d of them
abbrev pub fits : {A : Type 0} → ℕ → ℕ → Outcome A → Outcome A
fits d h x = cond (leb h d) x (Err Refusal.Limit)

pub fits_in : {A : Type 0} (d h : ℕ) (x : Outcome A) → h ≤ d → fits d h x ≡ x
fits_in d h x k = cond-true _ _ _ (le-leb h d k)

pub fits_out : {A : Type 0} (d h : ℕ) (x : Outcome A) → d < h → fits d h x ≡ Err Refusal.Limit
fits_out d h x k = cond-false _ _ _ (lt-leb h d k)

pub fits_bind : {A B : Type 0} (d h : ℕ) (x : A) (f : A → Outcome B) → (fits d h (Ok x) >>= f) ≡ fits d h (f x)
fits_bind d h x f =
    elim (leb h d) as (λ b. (cond b (Ok x) (Err Refusal.Limit) >>= f) ≡ cond b (f x) (Err Refusal.Limit))
    [ true ↦ refl | false ↦ refl ]

pub fits_same : {A : Type 0} (d m n : ℕ) (x y : Outcome A) → (m ≤ d → n ≤ d) → (n ≤ d → m ≤ d) → (n ≤ d → x ≡ y)
    → fits d m x ≡ fits d n y
fits_same d m n x y f g e = elim (cases_lt d n) [
  | inl h ↦
      fits_out d m x (elim (cases_lt d m) [ inl k ↦ k | inr k ↦ absurd (let j = f k in omega arith) ])
      ∙ sym (fits_out d n y h)
  | inr h ↦ fits_in d m x (g h) ∙ (e h ∙ sym (fits_in d n y h))
]

pub fits_both : {A : Type 0} (d m n : ℕ) (x : Outcome A) → fits d m (fits d n x) ≡ fits d (max m n) x
fits_both d m n x = elim (cases_lt d m) [
  | inl h ↦ fits_out d m _ h ∙ sym (fits_out d (max m n) x (omega arith))
  | inr h ↦ fits_in d m _ h ∙ fits_same d n (max m n) x x (λ k. omega arith) (λ k. omega arith) (λ k. refl)
]

pub fits_suc : {A : Type 0} (d h : ℕ) (x : Outcome A) → fits d h x ≡ fits (suc d) (suc h) x
fits_suc d h x = elim (cases_lt d h) [
  | inl k ↦ fits_out d h x k ∙ sym (fits_out (suc d) (suc h) x (omega arith))
  | inr k ↦ fits_in d h x k ∙ sym (fits_in (suc d) (suc h) x (omega arith))
]

-- a step that fits, and what follows it
pub step : {A B : Type 0} (d h m : ℕ) (r : Outcome A) (x : A) (f : A → Outcome B) (y : B) → r ≡ fits d h (Ok x)
    → f x ≡ fits d m (Ok y) → (r >>= f) ≡ fits d (max h m) (Ok y)
step d h m r x f y e i =
    ap (λ r. r >>= f) e ∙ (fits_bind d h x f ∙ (ap (fits d h) i ∙ fits_both d h m (Ok y)))

-- the last step that may not fit
pub step_last : {A B : Type 0} (d h : ℕ) (r : Outcome A) (x : A) (f : A → Outcome B) (y : B) → r ≡ fits d h (Ok x)
    → f x ≡ Ok y → (r >>= f) ≡ fits d h (Ok y)
step_last d h r x f y e i = ap (λ r. r >>= f) e ∙ (fits_bind d h x f ∙ ap (fits d h) i)

-- the same with its levels told in another way
pub fits_is : {A : Type 0} (d m n : ℕ) (x : Outcome A) → m ≡ n → fits d m x ≡ fits d n x
fits_is d m n x e = ap (λ n. fits d n x) e

pub fails_bind : {A B : Type 0} (e : Fault) (r : Outcome A) (g : A → Outcome B) → Fails e r → Fails e (r >>= g)
fails_bind (f.Syntax place) r g h = ap (λ r. r >>= g) h
fails_bind f.Limit r g h = ap (λ r. r >>= g) h
fails_bind f.NoMemory r g h = tt
fails_bind _ r g h = absurd h

pub fails_along : {A : Type 0} (e : Fault) (r s : Outcome A) → r ≡ s → Fails e r → Fails e s
fails_along e r s i h = subst (Fails e) i h

-- What was to be found

pub gives_yields : {A B : Type 0} (view : A → B) (r : Result A Fault) (o : Option B) → HasFound view r o
    → Yields view r (needed o)
gives_yields view (Ok x) o h = ap needed h
gives_yields view (Err (f.Syntax place)) o h = ap needed h
gives_yields view (Err f.NoMemory) o h = tt
gives_yields view (Err _) o h = absurd h
