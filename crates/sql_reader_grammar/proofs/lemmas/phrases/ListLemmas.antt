-- Phrases that are read one after the other, in turns.
use Rattle.std.proofs.Common.{
  ◌≡◌,
  ℕ,
  zero,
  suc,
  ◌<◌,
  ◌≤◌,
  List,
  [],
  ◌∷◌,
  ◌++◌,
  length,
  map,
  Option,
  Some,
  None,
  option_map,
  refl,
  sym,
  ap,
  ◌∙◌,
  append_assoc,
  arith,
}
use Rattle.std.proofs.lemmas.List.{append-nil}
use Rattle.sql_reader_grammar.specs.phrases.Steps.{Rest, Found, cons_found, first_and, turn, many_within, many, after_comma, listed}

-- each turn takes a token at least
abbrev pub Shortens : {A : Type 0} → (Rest → Option Rest) → (Rest → Option (A × Rest)) → Type 0
Shortens {A = A} begins item =
    (ts start : Rest) (r : A × Rest) → begins ts ≡ Some start → item start ≡ Some r → length r.1 < length ts

first_same : {A : Type 0} (o : Option (A × Rest)) (f g : Rest → Found A)
    → ((r : A × Rest) → o ≡ Some r → f r.1 ≡ g r.1) → first_and f o ≡ first_and g o
first_same None f g h = refl
first_same (Some r) f g h = ap (cons_found r.0) (h r refl)

turn_same : {A : Type 0} (item : Rest → Option (A × Rest)) (f g : Rest → Found A) (ts : Rest) (o : Option Rest)
    → ((start : Rest) (r : A × Rest) → o ≡ Some start → item start ≡ Some r → f r.1 ≡ g r.1)
    → turn item f ts o ≡ turn item g ts o
turn_same item f g ts None h = refl
turn_same item f g ts (Some start) h = first_same (item start) f g (λ r e. h start r refl e)

-- more turns than there are tokens find nothing else
same_within : {A : Type 0} (begins : Rest → Option Rest) (item : Rest → Option (A × Rest)) → Shortens begins item
    → (m n : ℕ) (ts : Rest) → length ts ≤ m → length ts ≤ n
    → many_within begins item m ts ≡ many_within begins item n ts
same_within begins item s zero zero ts h k = refl
same_within begins item s zero (suc n) ts h k =
    turn_same item (λ rest. None) (many_within begins item n) ts (begins ts)
    (λ start r e i. absurd (let l = s ts start r e i in omega (arith, l, h)))
same_within begins item s (suc m) zero ts h k =
    turn_same item (many_within begins item m) (λ rest. None) ts (begins ts)
    (λ start r e i. absurd (let l = s ts start r e i in omega (arith, l, k)))
same_within begins item s (suc m) (suc n) ts h k =
    turn_same item (many_within begins item m) (many_within begins item n) ts (begins ts)
    (λ start r e i. let l = s ts start r e i in
    same_within begins item s m n r.1 (omega (arith, l, h)) (omega (arith, l, k)))

pub many_step : {A : Type 0} (begins : Rest → Option Rest) (item : Rest → Option (A × Rest)) → Shortens begins item
    → (ts : Rest) → many begins item ts ≡ turn item (many begins item) ts (begins ts)
many_step begins item s ts =
    same_within begins item s (length ts) (suc (length ts)) ts (omega arith) (omega arith)
    ∙ turn_same item (many_within begins item (length ts)) (many begins item) ts (begins ts)
    (λ start r e i. let l = s ts start r e i in
    same_within begins item s (length ts) (length r.1) r.1 (omega (arith, l)) (omega arith))

pub many_end : {A : Type 0} (begins : Rest → Option Rest) (item : Rest → Option (A × Rest)) → Shortens begins item
    → (ts : Rest) → begins ts ≡ None → (let nothing : List A = [] in many begins item ts ≡ Some (nothing, ts))
many_end begins item s ts e = many_step begins item s ts ∙ ap (turn item (many begins item) ts) e

pub many_next : {A : Type 0} (begins : Rest → Option Rest) (item : Rest → Option (A × Rest)) → Shortens begins item
    → (ts start : Rest) → begins ts ≡ Some start → many begins item ts ≡ first_and (many begins item) (item start)
many_next begins item s ts start e = many_step begins item s ts ∙ ap (turn item (many begins item) ts) e

-- these phrases before what is found
abbrev pub before : {A : Type 0} → List A → Found A → Found A
before front o = option_map (λ r. (front ++ r.0, r.1)) o

before_nothing : {A : Type 0} (o : Found A) → (let nothing : List A = [] in o ≡ before nothing o)
before_nothing None = refl
before_nothing (Some r) = refl

before_cons : {A : Type 0} (front : List A) (x : A) (o : Found A)
    → before front (cons_found x o) ≡ before (front ++ x ∷ []) o
before_cons front x None = refl
before_cons front x (Some r) = ap (λ xs. Some (xs, r.1)) (sym (append_assoc front (x ∷ []) r.0))

cons_before : {A : Type 0} (x : A) (o : Found A) → cons_found x o ≡ before (x ∷ []) o
cons_before x None = refl
cons_before x (Some r) = refl

map_push : {A B : Type 0} (f : B → A) (xs ys : List B) (x : B) → ys ≡ xs ++ x ∷ [] → map f ys ≡ map f xs ++ f x ∷ []
map_push f xs ys x e = ap (map f) e ∙ push xs
  where
    push : (xs : List _) → map f (xs ++ x ∷ []) ≡ map f xs ++ f x ∷ []
    push [] = refl
    push (y ∷ xs) = ap (λ zs. f y ∷ zs) (push xs)

-- what is found is the phrases that were read, and then the ones that follow
abbrev pub GoesOn : {A B : Type 0} → (B → A) → (Rest → Option Rest) → (Rest → Option (A × Rest)) → Found A → List B
    → Rest → Type 0
GoesOn view begins item found front rest = found ≡ before (map view front) (many begins item rest)

pub goes_from_nothing : {A B : Type 0} (view : B → A) (begins : Rest → Option Rest) (item : Rest → Option (A × Rest))
    (ts : Rest) (xs : List B) → xs ≡ [] → GoesOn view begins item (many begins item ts) xs ts
goes_from_nothing view begins item ts xs e =
    before_nothing (many begins item ts) ∙ ap (λ xs. before (map view xs) (many begins item ts)) (sym e)

pub goes_first : {A B : Type 0} (view : B → A) (item : Rest → Option (A × Rest)) (ts after : Rest) (xs ys : List B)
    (x : B) → xs ≡ [] → ys ≡ xs ++ x ∷ [] → (let r : A × Rest = (view x, after) in item ts ≡ Some r)
    → GoesOn view after_comma item (listed item ts) ys after
goes_first view item ts after xs ys x e f h =
    ap (first_and (many after_comma item)) h
    ∙ (cons_before (view x) (many after_comma item after)
    ∙ ap (λ front. before front (many after_comma item after))
    (sym (map_push view xs ys x f ∙ ap (λ xs. map view xs ++ view x ∷ []) e)))

pub goes_more : {A B : Type 0} (view : B → A) (begins : Rest → Option Rest) (item : Rest → Option (A × Rest))
    → Shortens begins item → (found : Found A) (rest start after : Rest) (xs ys : List B) (x : B) → ys ≡ xs ++ x ∷ []
    → begins rest ≡ Some start → (let r : A × Rest = (view x, after) in item start ≡ Some r)
    → GoesOn view begins item found xs rest → GoesOn view begins item found ys after
goes_more view begins item s found rest start after xs ys x f e h g =
    g
    ∙ (ap (before (map view xs)) (many_next begins item s rest start e ∙ ap (first_and (many begins item)) h)
    ∙ (before_cons (map view xs) (view x) (many begins item after)
    ∙ ap (λ front. before front (many begins item after)) (sym (map_push view xs ys x f))))

pub goes_end : {A B : Type 0} (view : B → A) (begins : Rest → Option Rest) (item : Rest → Option (A × Rest))
    → Shortens begins item → (found : Found A) (rest : Rest) (xs : List B) → begins rest ≡ None
    → GoesOn view begins item found xs rest → found ≡ Some (map view xs, rest)
goes_end view begins item s found rest xs e g =
    g
    ∙ (ap (before (map view xs)) (many_end begins item s rest e)
    ∙ ap (λ front. Some (front, rest)) (append-nil (map view xs)))

pub goes_wrong : {A B : Type 0} (view : B → A) (begins : Rest → Option Rest) (item : Rest → Option (A × Rest))
    → Shortens begins item → (found : Found A) (rest start : Rest) (xs : List B) → begins rest ≡ Some start
    → item start ≡ None → GoesOn view begins item found xs rest → found ≡ None
goes_wrong view begins item s found rest start xs e h g =
    g ∙ ap (before (map view xs)) (many_next begins item s rest start e ∙ ap (first_and (many begins item)) h)
