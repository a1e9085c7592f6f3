-- What a reader comes to, where there is room for its levels.
use Rattle.std.proofs.Common.{◌≡◌, ℕ, suc, ◌<◌, max, List, [], ◌∷◌, Option, Some, None, Ok, refl, sym, ap, ◌∙◌, arith}
use Rattle.std.proofs.lemmas.Bool.{cases_lt, cond-false, cond-true, le-ltb, lt-ltb}
use mathlib.Core.Logic.{inl, inr}
use Rattle.sql_reader_grammar.specs.phrases.Outcomes.{Outcome, Read, ◌>>=◌, needed, others, put, read, series}
use Rattle.sql_reader_grammar.specs.phrases.Steps.{Rest}
use Rattle.sql_reader_grammar.proofs.lemmas.phrases.OutcomeLemmas.{fits, fits_in, fits_is, fits_out, fits_same, step, step_last}
use Rattle.sql_reader_grammar.specs.Reading.{Inner, both, closed, counted, joined, made, optional}
use Rattle.sql_reader_syntax.specs.ExprTree.{ExprTree}

-- The outcome is this tree of so many levels and what is behind it, where d levels leave room for it.
abbrev pub Comes : {A : Type 0} → ℕ → ℕ → Outcome (Read A) → A → Rest → Type 0
Comes d m r t after = r ≡ fits d m (Ok (read t m after))

-- The same of a phrase whose inner phrases have h levels. It counts one more than these, or none where it has none.
pub record Got {A : Type 0} (d h : ℕ) (r : Outcome (Read A)) (t : A) (after : Rest) : Type 0 where
  pub levels : ℕ
  pub is : max 1 levels ≡ suc h
  pub gives : Comes d levels r t after

-- the same levels told in another way
pub fits_read : {A : Type 0} (d m n i j : ℕ) (t : A) (after : Rest) → m ≡ n → i ≡ j
    → fits d m (Ok (read t i after)) ≡ fits d n (Ok (read t j after))
fits_read d m n i j t after e k = fits_is d m n _ e ∙ ap (λ l. fits d n (Ok (read t l after))) k

pub comes_levels : {A : Type 0} (d m n : ℕ) (r : Outcome (Read A)) (t : A) (after : Rest) → m ≡ n → Comes d m r t after
    → Comes d n r t after
comes_levels d m n r t after e g = g ∙ fits_read d m n m n t after e e

pub comes_flat : {A : Type 0} (d : ℕ) (r : Outcome (Read A)) (t : A) (after : Rest) → r ≡ Ok (read t 0 after)
    → Comes d 0 r t after
comes_flat d r t after e = e ∙ sym (fits_in d 0 _ (omega arith))

pub comes_both : {A B : Type 0} (d m n : ℕ) (r : Outcome (Read A)) (f : Rest → Outcome (Read B)) (x : A) (y : B)
    (mid after : Rest) → Comes d m r x mid → Comes d n (f mid) y after → Comes d (max m n) (both r f) (x, y) after
comes_both d m n r f x y mid after g k =
    step d m n r (read x m mid)
    (λ x. f x.rest >>= λ y. Ok (read (x.tree, y.tree) (max x.levels y.levels) y.rest))
    (read (x, y) (max m n) after) g
    (step_last d n (f mid) (read y n after) (λ z. Ok (read (x, z.tree) (max m z.levels) z.rest))
    (read (x, y) (max m n) after) k refl)

pub comes_made : {A B : Type 0} (d m : ℕ) (g : A → B) (r : Outcome (Read A)) (x : A) (after : Rest) → Comes d m r x after
    → Comes d m (made g r) (g x) after
comes_made d m g r x after k =
    step_last d m r (read x m after) (λ x. Ok (read (g x.tree) x.levels x.rest)) (read (g x) m after) k refl

pub comes_closed : {A : Type 0} (d m : ℕ) (close : Rest → Option Rest) (r : Outcome (Read A)) (x : A) (mid after : Rest)
    → Comes d m r x mid → close mid ≡ Some after → Comes d m (closed close r) x after
comes_closed d m close r x mid after k e =
    step_last d m r (read x m mid) (λ x. needed (close x.rest) >>= λ rest. Ok (read x.tree x.levels rest))
    (read x m after) k (ap (λ o. needed o >>= λ rest. Ok (read x m rest)) e)

pub comes_last : {A : Type 0} (d m : ℕ) (phrase : ℕ → Rest → Outcome (Read A)) (next : Rest → Option Rest) (n place : ℕ)
    (x : A) (from after : Rest) → Comes d m (phrase place from) x after → next after ≡ None
    → Comes d (max m 0) (series phrase next (suc n) place from) (x ∷ []) after
unfolding series
comes_last d m phrase next n place x from after g none =
    step_last d m (phrase place from) (read x m after)
    (λ z. others (series phrase next n (suc place)) z.rest (next z.rest) >>= λ zs. Ok (put z zs))
    (read (x ∷ []) (max m 0) after) g
    (ap (λ o. others (series phrase next n (suc place)) after o >>= λ zs. Ok (put (read x m after) zs)) none)
    ∙ fits_read d m (max m 0) (max m 0) (max m 0) (x ∷ []) after (omega arith) refl

pub comes_more : {A : Type 0} (d m i : ℕ) (phrase : ℕ → Rest → Outcome (Read A)) (next : Rest → Option Rest)
    (n place : ℕ) (x : A) (xs : List A) (from rest start after : Rest) → Comes d m (phrase place from) x rest
    → next rest ≡ Some start → Comes d i (series phrase next n (suc place) start) xs after
    → Comes d (max m i) (series phrase next (suc n) place from) (x ∷ xs) after
unfolding series
comes_more d m i phrase next n place x xs from rest start after g some k =
    step d m i (phrase place from) (read x m rest)
    (λ z. others (series phrase next n (suc place)) z.rest (next z.rest) >>= λ zs. Ok (put z zs))
    (read (x ∷ xs) (max m i) after) g
    (ap (λ o. others (series phrase next n (suc place)) rest o >>= λ zs. Ok (put (read x m rest) zs)) some
    ∙ step_last d i (series phrase next n (suc place) start) (read xs i after)
    (λ zs. Ok (put (read x m rest) zs)) (read (x ∷ xs) (max m i) after) k refl)

-- The same of inner phrases

pub got_inner : {A : Type 0} (d h : ℕ) (r : Outcome (Read A)) (t : A) (after : Rest) → Comes d (suc h) r t after
    → Got d h r t after
got_inner d h r t after e = record { levels = suc h; is = omega arith; gives = e }

pub got_flat : {A : Type 0} (d : ℕ) (r : Outcome (Read A)) (t : A) (after : Rest) → r ≡ Ok (read t 0 after)
    → Got d 0 r t after
got_flat d r t after e = record { levels = 0; is = refl; gives = comes_flat d r t after e }

pub got_same : {A : Type 0} (d h : ℕ) (r q : Outcome (Read A)) (t : A) (after : Rest) → q ≡ r → Got d h r t after
    → Got d h q t after
got_same d h r q t after e g = record { levels = g.levels; is = g.is; gives = e ∙ g.gives }

pub got_levels : {A : Type 0} (d h i : ℕ) (r : Outcome (Read A)) (t : A) (after : Rest) → h ≡ i → Got d h r t after
    → Got d i r t after
got_levels d h i r t after e g = record { levels = g.levels; is = g.is ∙ ap suc e; gives = g.gives }

pub got_both : {A B : Type 0} (d h i : ℕ) (r : Outcome (Read A)) (f : Rest → Outcome (Read B)) (x : A) (y : B)
    (mid after : Rest) → Got d h r x mid → Got d i (f mid) y after → Got d (max h i) (both r f) (x, y) after
got_both d h i r f x y mid after g k = record {
  levels = max g.levels k.levels;
  is = omega (arith, g.is, k.is);
  gives = comes_both d g.levels k.levels r f x y mid after g.gives k.gives;
}

pub got_made : {A B : Type 0} (d h : ℕ) (g : A → B) (r : Outcome (Read A)) (x : A) (after : Rest) → Got d h r x after
    → Got d h (made g r) (g x) after
got_made d h g r x after k = record {
  levels = k.levels;
  is = k.is;
  gives = comes_made d k.levels g r x after k.gives;
}

pub got_closed : {A : Type 0} (d h : ℕ) (close : Rest → Option Rest) (r : Outcome (Read A)) (x : A) (mid after : Rest)
    → Got d h r x mid → close mid ≡ Some after → Got d h (closed close r) x after
got_closed d h close r x mid after k e = record {
  levels = k.levels;
  is = k.is;
  gives = comes_closed d k.levels close r x mid after k.gives e;
}

pub got_absent : {A : Type 0} (d : ℕ) (absent : A) (f : Rest → Outcome (Read A)) (ts : Rest) (o : Option Rest) → o ≡ None
    → Got d 0 (optional absent f ts o) absent ts
got_absent d absent f ts o e = got_flat d _ absent ts (ap (optional absent f ts) e)

pub got_present : {A : Type 0} (d h : ℕ) (absent : A) (f : Rest → Outcome (Read A)) (ts rest : Rest) (o : Option Rest)
    (x : A) (after : Rest) → o ≡ Some rest → Got d h (f rest) x after → Got d h (optional absent f ts o) x after
got_present d h absent f ts rest o x after e g = got_same d h (f rest) _ x after (ap (optional absent f ts) e) g

pub got_last : {A : Type 0} (d h : ℕ) (phrase : ℕ → Rest → Outcome (Read A)) (next : Rest → Option Rest) (n place : ℕ)
    (x : A) (from after : Rest) → Got d h (phrase place from) x after → next after ≡ None
    → Got d h (series phrase next (suc n) place from) (x ∷ []) after
got_last d h phrase next n place x from after g none = record {
  levels = max g.levels 0;
  is = omega (arith, g.is);
  gives = comes_last d g.levels phrase next n place x from after g.gives none;
}

pub got_more : {A : Type 0} (d h i : ℕ) (phrase : ℕ → Rest → Outcome (Read A)) (next : Rest → Option Rest)
    (n place : ℕ) (x : A) (xs : List A) (from rest start after : Rest) → Got d h (phrase place from) x rest
    → next rest ≡ Some start → Got d i (series phrase next n (suc place) start) xs after
    → Got d (max h i) (series phrase next (suc n) place from) (x ∷ xs) after
got_more d h i phrase next n place x xs from rest start after g some k = record {
  levels = max g.levels k.levels;
  is = omega (arith, g.is, k.is);
  gives = comes_more d g.levels k.levels phrase next n place x xs from rest start after g.gives some k.gives;
}

-- a construct around them is a level itself
pub comes_counted : {A : Type 0} (source : ℕ → ℕ → List ℕ) (inner : Inner) (d h : ℕ) (r : Outcome (Read A)) (t : A)
    (after : Rest) → Got d h r t after → Comes d (suc h) (counted source inner d r) t after
comes_counted source inner d h r t after g = elim (cases_lt 0 d) [
  | inl i ↦
      cond-true _ _ _ (lt-ltb 0 d i)
      ∙ (step_last d g.levels r (read t g.levels after) (λ x. Ok (read x.tree (max 1 x.levels) x.rest))
      (read t (max 1 g.levels) after) g.gives refl
      ∙ fits_same d g.levels (suc h) _ _ (λ k. omega (arith, g.is, k, i)) (λ k. omega (arith, g.is, k))
      (λ k. ap (λ n. Ok (read t n after)) g.is))
  | inr i ↦ cond-false _ _ _ (le-ltb 0 d i) ∙ sym (fits_out d (suc h) _ (omega (arith, i)))
]

-- an operator behind its left operand, which leaves room for it
pub comes_joined : (source : ℕ → ℕ → List ℕ) (inner : Inner) (d h i : ℕ) (e : ExprTree) (mid : Rest)
    (r : Outcome (Read ExprTree)) (t : ExprTree) (after : Rest) → h < d → Got d i r t after
    → Comes d (suc (max h i)) (joined source inner d (read e h mid) r) t after
comes_joined source inner d h i e mid r t after room g =
    step_last d g.levels r (read t g.levels after) (λ y. Ok (read y.tree (max (suc h) y.levels) y.rest))
    (read t (max (suc h) g.levels) after) g.gives refl
    ∙ fits_same d g.levels (suc (max h i)) _ _ (λ k. omega (arith, room, k, g.is)) (λ k. omega (arith, k, g.is))
    (λ k. ap (λ n. Ok (read t n after)) (omega (arith, g.is)))
