-- What was read is spelt: steps that readers share.
use Rattle.std.proofs.Common.{◌≡◌, ◌⊎◌, ℕ, zero, suc, ◌≤◌, max, List, [], ◌∷◌, Option, Some, None, Ok, refl, ap, arith, subst}
use mathlib.Core.Logic.{inl, inr}
use Rattle.sql_reader_tokens.specs.Lexeme.{Lexeme}
use Rattle.sql_reader_grammar.specs.phrases.Outcomes.{Outcome, Read, ◌>>=◌, needed, others, put, read, series}
use Rattle.sql_reader_grammar.specs.phrases.Steps.{Rest}
use Rattle.sql_reader_grammar.proofs.lemmas.phrases.OutcomeLemmas.{bind_ok, ok_inj}
use Rattle.sql_reader_grammar.proofs.lemmas.phrases.StepLemmas.{needed_some}
use Rattle.sql_reader_grammar.specs.Reading.{both, closed, made, optional}

abbrev pub Phrase : Type 0 → Type 1
Phrase A = ℕ → A → Rest → Rest → Type 0

-- What was read is spelt, and its inner phrases have h levels; it counts one more than these, or none where it has none.
-- It counts l at least.
pub record Within {A : Type 0} (l : ℕ) (X : Phrase A) (d : ℕ) (from : Rest) (x : Read A) : Type 0 where
  pub h : ℕ
  pub is : max 1 x.levels ≡ suc h
  pub least : l ≤ x.levels
  pub within : x.levels ≤ d
  pub spelt : X h x.tree from x.rest

abbrev pub Sound : {A : Type 0} → ℕ → Phrase A → ℕ → Outcome (Read A) → Rest → Type 0
Sound {A = A} l X d r from = (x : Read A) → r ≡ Ok x → Within l X d from x

-- fewer at least
pub sound_less : {A : Type 0} (l m : ℕ) (X : Phrase A) (d : ℕ) (from : Rest) (x : Read A) → m ≤ l → Within l X d from x
    → Within m X d from x
sound_less l m X d from x le w =
    record { h = w.h; is = w.is; least = omega (arith, le, w.least); within = w.within; spelt = w.spelt }

pub sound_flat : {A : Type 0} (X : Phrase A) (d : ℕ) (from after : Rest) (t : A) (x : Read A)
    → (let r : Outcome (Read A) = Ok (read t 0 after) in r) ≡ Ok x → X 0 t from after → Within 0 X d from x
sound_flat X d from after t x e s =
    subst (Within 0 X d from) (ok_inj (read t 0 after) x e)
    (record { h = 0; is = refl; least = omega arith; within = omega arith; spelt = s })

-- Two phrases

pub record Both {A B : Type 0} (X : Phrase A) (Y : Phrase B) (h : ℕ) (t : A × B) (from after : Rest) : Type 0 where
  pub i : ℕ
  pub j : ℕ
  pub mid : Rest
  pub is : h ≡ max i j
  pub front : X i t.0 from mid
  pub rest : Y j t.1 mid after

pub sound_both : {A B : Type 0} (l m : ℕ) (X : Phrase A) (Y : Phrase B) (d : ℕ) (r : Outcome (Read A))
    (f : Rest → Outcome (Read B)) (from : Rest) → Sound l X d r from → ((mid : Rest) → Sound m Y d (f mid) mid)
    → Sound (max l m) (Both X Y) d (both r f) from
sound_both l m X Y d r f from sx sy z e =
    let a = bind_ok r (λ x. f x.rest >>= λ y. Ok (read (x.tree, y.tree) (max x.levels y.levels) y.rest)) z e in
    let b = bind_ok (f a.0.rest) (λ y. Ok (read (a.0.tree, y.tree) (max a.0.levels y.levels) y.rest)) z a.2 in
    let v = sx a.0 a.1 in
    let w = sy a.0.rest b.0 b.1 in
    subst (Within (max l m) (Both X Y) d from)
    (ok_inj (read (a.0.tree, b.0.tree) (max a.0.levels b.0.levels) b.0.rest) z b.2) (record {
      h = max v.h w.h;
      is = omega (arith, v.is, w.is);
      least = omega (arith, v.least, w.least);
      within = omega (arith, v.within, w.within);
      spelt = record { i = v.h; j = w.h; mid = a.0.rest; is = refl; front = v.spelt; rest = w.spelt };
    })

pub sound_made : {A B : Type 0} (l : ℕ) (X : Phrase A) (Y : Phrase B) (d : ℕ) (g : A → B) (r : Outcome (Read A)) (from : Rest)
    → ((h : ℕ) (t : A) (after : Rest) → X h t from after → Y h (g t) from after) → Sound l X d r from
    → Sound l Y d (made g r) from
sound_made l X Y d g r from f s z e =
    let a = bind_ok r (λ x. Ok (read (g x.tree) x.levels x.rest)) z e in
    let v = s a.0 a.1 in
    subst (Within l Y d from) (ok_inj (read (g a.0.tree) a.0.levels a.0.rest) z a.2)
    (record { h = v.h; is = v.is; least = v.least; within = v.within; spelt = f v.h a.0.tree a.0.rest v.spelt })

-- a phrase before this token
abbrev pub Before : {A : Type 0} → Lexeme → Phrase A → Phrase A
Before word X h t from after = X h t from (word ∷ after)

-- what a step finds
abbrev pub Finds : (Rest → Option Rest) → Lexeme → Type 0
Finds step word = (ts us : Rest) → step ts ≡ Some us → ts ≡ word ∷ us

pub sound_closed : {A : Type 0} (l : ℕ) (X : Phrase A) (d : ℕ) (close : Rest → Option Rest) (word : Lexeme)
    (r : Outcome (Read A)) (from : Rest) → Finds close word → Sound l X d r from
    → Sound l (Before word X) d (closed close r) from
sound_closed l X d close word r from f s z e =
    let a = bind_ok r (λ x. needed (close x.rest) >>= λ rest. Ok (read x.tree x.levels rest)) z e in
    let b = bind_ok (needed (close a.0.rest)) (λ rest. Ok (read a.0.tree a.0.levels rest)) z a.2 in
    let v = s a.0 a.1 in
    subst (Within l (Before word X) d from) (ok_inj (read a.0.tree a.0.levels b.0) z b.2) (record {
      h = v.h;
      is = v.is;
      least = v.least;
      within = v.within;
      spelt = subst (λ ts. X v.h a.0.tree from ts) (f a.0.rest b.0 (needed_some (close a.0.rest) b.0 b.1)) v.spelt;
    })

pub sound_optional : {A : Type 0} (X : Phrase A) (d : ℕ) (absent : A) (f : Rest → Outcome (Read A)) (ts : Rest)
    (o : Option Rest) → X 0 absent ts ts → ((rest : Rest) → o ≡ Some rest → Sound 0 X d (f rest) ts)
    → Sound 0 X d (optional absent f ts o) ts
sound_optional X d absent f ts None n s x e = sound_flat X d ts ts absent x e n
sound_optional X d absent f ts (Some rest) n s x e = s rest refl x e

-- a phrase behind what was found
pub sound_behind : {A : Type 0} (l : ℕ) (X Y : Phrase A) (d : ℕ) (r : Outcome (Read A)) (from ts : Rest)
    → ((h : ℕ) (t : A) (after : Rest) → X h t ts after → Y h t from after) → Sound l X d r ts → Sound 0 Y d r from
sound_behind l X Y d r from ts f s x e =
    let v = s x e in record { h = v.h; is = v.is; least = omega arith; within = v.within; spelt = f v.h x.tree x.rest v.spelt }

pub sound_needed : {A B : Type 0} (l : ℕ) (Y : Phrase B) (d : ℕ) (o : Option A) (f : A → Outcome (Read B)) (from : Rest)
    → ((a : A) → o ≡ Some a → Sound l Y d (f a) from) → Sound l Y d (needed o >>= f) from
sound_needed l Y d o f from s x e =
    let a = bind_ok (needed o) f x e in s a.0 (needed_some o a.0 a.1) x a.2

-- Lists

others_cases : {A : Type 0} (f : Rest → Outcome (Read (List A))) (ts : Rest) (o : Option Rest) (xs : Read (List A))
    → others f ts o ≡ Ok xs
    → ((us : Rest) × (o ≡ Some us) × (f us ≡ Ok xs)) ⊎ ((let none : List A = [] in read none 0 ts) ≡ xs)
others_cases f ts (Some us) xs h = inl (us, refl, h)
others_cases f ts None xs h = inr (ok_inj _ xs h)

pub sound_series : {A : Type 0} (l : ℕ) (X : ℕ → Phrase A) (L : ℕ → Phrase (List A)) (d : ℕ)
    (phrase : ℕ → Rest → Outcome (Read A)) (next : Rest → Option Rest) (word : Lexeme) → Finds next word
    → ((place : ℕ) (from : Rest) → Sound l (X place) d (phrase place from) from)
    → ((place h : ℕ) (x : A) (from after : Rest) → X place h x from after → L place h (x ∷ []) from after)
    → ((place h i : ℕ) (x : A) (xs : List A) (from rest after : Rest) → X place h x from (word ∷ rest)
    → L (suc place) i xs rest after → L place (max h i) (x ∷ xs) from after)
    → (n place : ℕ) (from : Rest) → Sound l (L place) d (series phrase next n place from) from
unfolding series
sound_series l X L d phrase next word finds sx last more zero place from z e = absurd cc
sound_series l X L d phrase next word finds sx last more (suc n) place from z e =
    let a = bind_ok (phrase place from)
    (λ x. others (series phrase next n (suc place)) x.rest (next x.rest) >>= λ xs. Ok (put x xs)) z e in
    let b = bind_ok (others (series phrase next n (suc place)) a.0.rest (next a.0.rest)) (λ xs. Ok (put a.0 xs)) z a.2 in
    let v = sx place from a.0 a.1 in
    subst (Within l (L place) d from) (ok_inj (put a.0 b.0) z b.2)
    (elim (others_cases (series phrase next n (suc place)) a.0.rest (next a.0.rest) b.0 b.1) [
      | inl c ↦
          let w = sound_series l X L d phrase next word finds sx last more n (suc place) c.0 b.0 c.2 in
          record {
            h = max v.h w.h;
            is = omega (arith, v.is, w.is);
            least = omega (arith, v.least);
            within = omega (arith, v.within, w.within);
            spelt = more place v.h w.h a.0.tree b.0.tree from c.0 b.0.rest
                (subst (λ ts. X place v.h a.0.tree from ts) (finds a.0.rest c.0 c.1) v.spelt) w.spelt;
          }
      | inr i ↦
          let levels = ap (λ (r : Read (List _)). r.levels) i in
          record {
            h = v.h;
            is = omega (arith, v.is, levels);
            least = omega (arith, v.least);
            within = omega (arith, v.within, levels);
            spelt = subst (λ (r : Read (List _)). L place v.h (a.0.tree ∷ r.tree) from r.rest) i
                (last place v.h a.0.tree from a.0.rest v.spelt);
          }
    ])
