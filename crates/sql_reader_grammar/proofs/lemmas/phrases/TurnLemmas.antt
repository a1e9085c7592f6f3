-- What loops over phrases keep.
use Rattle.std.proofs.Common.{◌≡◌, ℕ, zero, suc, ◌<◌, max, List, [], ◌∷◌, ◌++◌, length, map, Option, Some, None, Ok, Err, refl, sym, ap, ◌∙◌, append_assoc, arith}
use Rattle.std.proofs.lemmas.List.{append-nil}
use Rattle.values.specs.declared.fault.Fault.{Fault}
use Rattle.sql_reader_grammar.specs.phrases.Outcomes.{Outcome, ◌>>=◌, Fails, Read, read, others, put, series}
use Rattle.sql_reader_grammar.specs.phrases.Steps.{Rest}
use Rattle.sql_reader_grammar.proofs.lemmas.phrases.OutcomeLemmas.{bind_same, fails_along, fails_bind}

abbrev pub Shrinks : {A : Type 0} → (ℕ → Rest → Outcome (Read A)) → (Rest → Option Rest) → Type 0
Shrinks {A = A} phrase next =
    (place : ℕ) (ts start : Rest) (x : Read A) → phrase place ts ≡ Ok x → next x.rest ≡ Some start
    → length start < length ts

others_same : {A : Type 0} (g h : Rest → Outcome (Read (List A))) (ts : Rest) (o : Option Rest)
    → ((start : Rest) → o ≡ Some start → g start ≡ h start) → others g ts o ≡ others h ts o
others_same g h ts None e = refl
others_same g h ts (Some start) e = e start refl

-- more turns than there are tokens find nothing else
same_turns : {A : Type 0} (phrase : ℕ → Rest → Outcome (Read A)) (next : Rest → Option Rest) → Shrinks phrase next
    → (m n place : ℕ) (ts : Rest) → length ts < m → length ts < n
    → series phrase next m place ts ≡ series phrase next n place ts
unfolding series
same_turns phrase next s zero n place ts h k = absurd (omega (arith, h))
same_turns phrase next s (suc m) zero place ts h k = absurd (omega (arith, k))
same_turns phrase next s (suc m) (suc n) place ts h k =
    bind_same (phrase place ts) _ _ (λ x i.
    ap (λ r. r >>= λ xs. Ok (put x xs))
    (others_same (series phrase next m (suc place)) (series phrase next n (suc place)) x.rest (next x.rest)
    (λ start e. let l = s place ts start x i e in
    same_turns phrase next s m n (suc place) start (omega (arith, l, h)) (omega (arith, l, k)))))

-- as many as there are
abbrev pub all : {A : Type 0} → (ℕ → Rest → Outcome (Read A)) → (Rest → Option Rest) → ℕ → Rest
    → Outcome (Read (List A))
all phrase next place ts = series phrase next (suc (length ts)) place ts

abbrev pub still : {A : Type 0} → (ℕ → Rest → Outcome (Read A)) → (Rest → Option Rest) → ℕ → Rest
    → Outcome (Read (List A))
still phrase next place ts = others (all phrase next place) ts (next ts)

all_step : {A : Type 0} (phrase : ℕ → Rest → Outcome (Read A)) (next : Rest → Option Rest) → Shrinks phrase next
    → (place : ℕ) (ts : Rest)
    → all phrase next place ts ≡ phrase place ts >>= λ x. still phrase next (suc place) x.rest >>= λ xs. Ok (put x xs)
unfolding series
all_step phrase next s place ts =
    bind_same (phrase place ts) _ _ (λ x i.
    ap (λ r. r >>= λ xs. Ok (put x xs))
    (others_same (series phrase next (length ts) (suc place)) (all phrase next (suc place)) x.rest (next x.rest)
    (λ start e. let l = s place ts start x i e in
    same_turns phrase next s (length ts) (suc (length start)) (suc place) start (omega (arith, l)) (omega arith))))

-- these phrases before what is found
abbrev pub before : {A : Type 0} → List A → ℕ → Outcome (Read (List A)) → Outcome (Read (List A))
before front h r = r >>= λ xs. Ok (read (front ++ xs.tree) (max h xs.levels) xs.rest)

-- what is found is the phrases that were read, and then the ones that follow
abbrev pub GoesOn : {A B : Type 0} → (B → A) → (ℕ → Rest → Outcome (Read A)) → (Rest → Option Rest)
    → Outcome (Read (List A)) → List B → ℕ → Rest → Type 0
GoesOn view phrase next whole front h rest =
    before (map view front) h (still phrase next (length front) rest) ≡ whole

map_push : {A B : Type 0} (g : B → A) (xs ys : List B) (x : B) → ys ≡ xs ++ x ∷ [] → map g ys ≡ map g xs ++ g x ∷ []
map_push g xs ys x e = ap (map g) e ∙ push xs
  where
    push : (xs : List _) → map g (xs ++ x ∷ []) ≡ map g xs ++ g x ∷ []
    push [] = refl
    push (y ∷ xs) = ap (λ zs. g y ∷ zs) (push xs)

length_push : {B : Type 0} (xs ys : List B) (x : B) → ys ≡ xs ++ x ∷ [] → length ys ≡ suc (length xs)
length_push xs ys x e = ap length e ∙ push xs
  where
    push : (xs : List _) → length (xs ++ x ∷ []) ≡ suc (length xs)
    push [] = refl
    push (y ∷ xs) = ap suc (push xs)

pub first_err : {A : Type 0} (phrase : ℕ → Rest → Outcome (Read A)) (next : Rest → Option Rest) (ts : Rest)
    (e : Fault) → Fails e (phrase 0 ts) → Fails e (all phrase next 0 ts)
unfolding series
first_err phrase next ts e h = fails_bind e (phrase 0 ts) _ h

pub first_ok : {A B : Type 0} (view : B → A) (phrase : ℕ → Rest → Outcome (Read A)) (next : Rest → Option Rest)
    → Shrinks phrase next → (ts rest : Rest) (xs ys : List B) (x : B) (h : ℕ) → xs ≡ [] → ys ≡ xs ++ x ∷ []
    → phrase 0 ts ≡ Ok (read (view x) h rest) → GoesOn view phrase next (all phrase next 0 ts) ys h rest
first_ok view phrase next s ts rest xs ys x h e i k =
    ap (λ ys. before (map view ys) h (still phrase next (length ys) rest)) (i ∙ ap (λ xs. xs ++ x ∷ []) e)
    ∙ sym (all_step phrase next s 0 ts
    ∙ ap (λ r. r >>= λ x. still phrase next 1 x.rest >>= λ xs. Ok (put x xs)) k)

pub next_err : {A B : Type 0} (view : B → A) (phrase : ℕ → Rest → Outcome (Read A)) (next : Rest → Option Rest)
    (whole : Outcome (Read (List A))) (front : List B) (h : ℕ) (rest start : Rest) (e : Fault)
    → GoesOn view phrase next whole front h rest → next rest ≡ Some start → Fails e (phrase (length front) start)
    → Fails e whole
unfolding series
next_err view phrase next whole front h rest start e g i k =
    fails_along e _ whole
    (ap (λ o. before (map view front) h (others (all phrase next (length front)) rest o)) (sym i) ∙ g)
    (fails_bind e (all phrase next (length front) start) _ (fails_bind e (phrase (length front) start) _ k))

before_put : {A : Type 0} (front : List A) (h : ℕ) (x : Read A) (r : Outcome (Read (List A)))
    → before front h (r >>= λ xs. Ok (put x xs)) ≡ before (front ++ x.tree ∷ []) (max h x.levels) r
before_put front h x (Ok xs) =
    ap (λ ys. Ok (read ys (max h (max x.levels xs.levels)) xs.rest)) (sym (append_assoc front (x.tree ∷ []) xs.tree))
    ∙ ap (λ n. Ok (read ((front ++ x.tree ∷ []) ++ xs.tree) n xs.rest)) (omega arith)
before_put front h x (Err e) = refl

pub next_ok : {A B : Type 0} (view : B → A) (phrase : ℕ → Rest → Outcome (Read A)) (next : Rest → Option Rest)
    → Shrinks phrase next → (whole : Outcome (Read (List A))) (xs ys : List B) (h i : ℕ) (rest start after : Rest)
    (x : B) → ys ≡ xs ++ x ∷ [] → GoesOn view phrase next whole xs h rest → next rest ≡ Some start
    → phrase (length xs) start ≡ Ok (read (view x) i after) → GoesOn view phrase next whole ys (max h i) after
next_ok view phrase next s whole xs ys h i rest start after x e g some k =
    ap (λ zs. before zs (max h i) (still phrase next (length ys) after)) (map_push view xs ys x e)
    ∙ (ap (λ n. before (map view xs ++ view x ∷ []) (max h i) (still phrase next n after)) (length_push xs ys x e)
    ∙ (sym (before_put (map view xs) h (read (view x) i after) (still phrase next (suc (length xs)) after))
    ∙ (ap (before (map view xs) h)
    (sym (all_step phrase next s (length xs) start
    ∙ ap (λ r. r >>= λ x. still phrase next (suc (length xs)) x.rest >>= λ xs. Ok (put x xs)) k))
    ∙ (ap (λ o. before (map view xs) h (others (all phrase next (length xs)) rest o)) (sym some) ∙ g))))

pub series_end : {A B : Type 0} (view : B → A) (phrase : ℕ → Rest → Outcome (Read A)) (next : Rest → Option Rest)
    (whole : Outcome (Read (List A))) (front : List B) (h : ℕ) (rest : Rest)
    → GoesOn view phrase next whole front h rest → next rest ≡ None → whole ≡ Ok (read (map view front) h rest)
series_end view phrase next whole front h rest g none =
    sym g
    ∙ (ap (λ o. before (map view front) h (others (all phrase next (length front)) rest o)) none
    ∙ (ap (λ ys. Ok (read ys (max h 0) rest)) (append-nil (map view front))
    ∙ ap (λ n. Ok (read (map view front) n rest)) (omega arith)))
