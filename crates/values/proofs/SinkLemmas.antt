-- Writes one after another.
use Rattle.std.proofs.Common.{refl, ◌≡◌, ℕ, zero, suc, ◌+◌, List, [], ◌∷◌, ◌++◌, take, drop, Option, Some, None, ap, append_assoc, append-nil, suc-add, zero-add, Result, Ok, Err, sym, ◌∙◌, subst, ◌<◌, get_or, length, ◌-◌, arith}
use Rattle.std.proofs.lemmas.List.{take_rest, take-append-drop}
use Rattle.std.proofs.Math.Seq.{take-nil}
use Rattle.std.specs.List.{flat_map}
use Rattle.std.specs.Io.KnownBytes.{Appends}
use Rattle.values.specs.Sink.{SinkFacts, Writes, WritesFront}
use Rattle.values.specs.declared.fault.Fault.{Fault}

pub Appends-none : (a : Option (List ℕ)) → Appends a a []
Appends-none None = tt
Appends-none (Some xs) = sym (append-nil xs)

pub Appends-then : (a b c : Option (List ℕ)) (xs ys : List ℕ) → Appends a b xs → Appends b c ys → Appends a c (xs ++ ys)
Appends-then None b c xs ys h i = tt
Appends-then (Some a) None c xs ys h i = absurd h
Appends-then (Some a) (Some b) None xs ys h i = absurd i
Appends-then (Some a) (Some b) (Some c) xs ys h i = rw (i, h) (append_assoc a xs ys)

pub take-add : (m n : ℕ) (xs : List ℕ) → take (m + n) xs ≡ take m xs ++ take n (drop m xs)
take-add zero n xs = rw (zero-add n)
take-add (suc m) n [] = rw suc-add (sym (take-nil n))
take-add (suc m) n (x ∷ xs) = rw suc-add (ap (λ t. x ∷ t) (take-add m n xs))

-- a piece of what is left goes behind what is written
pub Appends-more : (a b c : Option (List ℕ)) (text : List ℕ) (d k : ℕ) → Appends a b (take d text)
    → Appends b c (take k (take (length text - d) (drop d text))) → Appends a c (take (d + k) text)
Appends-more a b c text d k first more =
    rw (take-add d k text) (Appends-then a b c _ _ first (rw (take_rest text d) at more))

-- a sink that took so much of a text has written that much, and the rest of it not
pub Writes-front : (text : List ℕ) (done : ℕ) (old new : SinkFacts) → Appends old.written new.written (take done text) → WritesFront text old new
Writes-front text done old new wrote = record {
  done = take done text;
  rest = drop done text;
  whole = take-append-drop done text;
  written = wrote;
}

module _ {T : Type 0} where
  -- nothing is written where nothing was to be
  pub Writes-none : (v : T) (a : SinkFacts) → Writes [] (Ok v) a a
  Writes-none v a = record { written = Appends-none a.written; failures = refl }

  -- a second text goes behind the first
  pub Writes-then : {U : Type 0} (v : U) (r : Result T Fault) (xs ys : List ℕ) (a b c : SinkFacts)
      → Writes {T = U} xs (Ok v) a b → Writes ys r b c → Writes (xs ++ ys) r a c
  Writes-then v (Ok w) xs ys a b c first second = record {
    written = Appends-then _ _ _ xs ys first.written second.written;
    failures = second.failures ∙ first.failures;
  }
  Writes-then v (Err e) xs ys a b c first second = record {
    written = record {
      done = xs ++ second.written.done;
      rest = second.written.rest;
      whole = append_assoc xs second.written.done second.written.rest ∙ ap (λ t. xs ++ t) second.written.whole;
      written = Appends-then _ _ _ xs second.written.done first.written second.written.written;
    };
    failures = λ is same. second.failures is (same ∙ sym first.failures);
  }

  -- what is left of a text goes behind a piece that was taken
  pub Writes-more : (text : List ℕ) (n : ℕ) (r : Result T Fault) (a b c : SinkFacts) → Appends a.written b.written (take n text)
      → b.failures ≡ a.failures → Writes (take (length text - n) (drop n text)) r b c → Writes text r a c
  Writes-more text n r a b c piece same rest =
      subst (λ (t : List ℕ). Writes t r a c) (take-append-drop n text)
      (Writes-then {U = Unit {0}} tt r (take n text) (drop n text) a b c (record { written = piece; failures = same }) (rw (take_rest text n) at rest))

  -- a failure within the first is one within both
  pub Writes-cut : {U : Type 0} (e : Fault) (xs ys : List ℕ) (a b : SinkFacts)
      → Writes {T = U} xs (Err e) a b → Writes {T = T} (xs ++ ys) (Err e) a b
  Writes-cut e xs ys a b first = record {
    written = record {
      done = first.written.done;
      rest = first.written.rest ++ ys;
      whole = sym (append_assoc first.written.done first.written.rest ys) ∙ ap (λ t. t ++ ys) first.written.whole;
      written = first.written.written;
    };
    failures = first.failures;
  }

-- A text between an opening and a closing one: the last piece decides, or one of the first two failed.
module _ {T : Type 0} where
  pub Writes-around : (u v : Unit {0}) (opening text closing : List ℕ) (r : Result T Fault) (a b c d : SinkFacts)
      → Writes {T = Unit {0}} opening (Ok u) a b → Writes {T = Unit {0}} text (Ok v) b c → Writes closing r c d → Writes ((opening ++ text) ++ closing) r a d
  Writes-around u v opening text closing r a b c d first second third =
      Writes-then v r (opening ++ text) closing a c d (Writes-then u (Ok v) opening text a b c first second) third

  pub Writes-around_cut : (e : Fault) (opening text closing : List ℕ) (v : Unit {0}) (a b c : SinkFacts)
      → Writes {T = Unit {0}} opening (Ok v) a b → Writes {T = Unit {0}} text (Err e) b c → Writes {T = T} ((opening ++ text) ++ closing) (Err e) a c
  Writes-around_cut e opening text closing v a b c first second =
      Writes-cut {U = Unit {0}} e (opening ++ text) closing a c (Writes-then v (Err e) opening text a b c first second)

  pub Writes-around_open : (e : Fault) (opening text closing : List ℕ) (a b : SinkFacts)
      → Writes {T = Unit {0}} opening (Err e) a b → Writes {T = T} ((opening ++ text) ++ closing) (Err e) a b
  Writes-around_open e opening text closing a b first =
      Writes-cut {U = Unit {0}} e (opening ++ text) closing a b (Writes-cut {U = Unit {0}} e opening text a b first)

module _ {X : Type 0} (f : X → List ℕ) where
  -- a text in pieces, cut at one of them
  pub flat_map-at : (xs : List X) (i : ℕ) (x : X) → i < length xs
      → (flat_map f (take i xs) ++ f (get_or xs i x)) ++ flat_map f (drop (suc i) xs) ≡ flat_map f xs
  flat_map-at (x ∷ xs) zero d h = refl
  flat_map-at (x ∷ xs) (suc i) d h = simp append_assoc (ap (λ t. f x ++ t) (simp append_assoc at (flat_map-at xs i d (omega arith))))
  flat_map-at [] i d h = absurd (omega arith)

  -- a failure in the i-th piece is one in the whole
  pub Writes-cut_at : {T : Type 0} (xs : List X) (i : ℕ) (x : X) (e : Fault) (a b c : SinkFacts) → i < length xs
      → Writes {T = Unit {0}} (flat_map f (take i xs)) (Ok (tt {0})) a b → Writes {T = Unit {0}} (f (get_or xs i x)) (Err e) b c
      → Writes {T = T} (flat_map f xs) (Err e) a c
  Writes-cut_at xs i x e a b c within before piece =
      rw (← flat_map-at xs i x within)
      (Writes-cut {U = Unit {0}} e (flat_map f (take i xs) ++ f (get_or xs i x)) (flat_map f (drop (suc i) xs)) a c
      (Writes-then _ _ (flat_map f (take i xs)) (f (get_or xs i x)) a b c before piece))
