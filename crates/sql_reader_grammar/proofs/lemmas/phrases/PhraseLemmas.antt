-- A reader of lists finds exactly what the grammar of lists says, where the reader of one phrase does.
use Rattle.std.proofs.Common.{◌≡◌, ℕ, zero, suc, ◌<◌, ◌≤◌, List, ◌∷◌, length, Option, Some, None, refl, sym, ap, ◌∙◌, subst, arith}
use Rattle.sql_reader_tokens.specs.Lexeme.{Lexeme}
use Rattle.sql_reader_tokens.specs.declared.sign.Sign.TheVariants as s
use Rattle.sql_reader_grammar.proofs.lemmas.phrases.ListLemmas.{Shortens, many_end, many_next}
use Rattle.sql_reader_grammar.proofs.lemmas.phrases.OutcomeLemmas.{some_inj}
use Rattle.sql_reader_grammar.proofs.lemmas.phrases.StepLemmas.{at_sign}
use Rattle.sql_reader_grammar.specs.phrases.Lists.{Many, AfterComma, Listed}
use Rattle.sql_reader_grammar.specs.phrases.Steps.{Rest, Found, cons_found, first_and, turn, many_within, many, after_comma, listed}

abbrev pub Phrase : Type 0 → Type 1
Phrase A = A → Rest → Rest → Type 0

-- Completeness. `Follows` says what may follow a phrase.

-- what is spelt where a phrase begins is found there
abbrev pub IsFound : {A : Type 0} → Phrase A → (Rest → Type 0) → (Rest → Option Rest) → (Rest → Option (A × Rest))
    → Type 0
IsFound {A = A} Item Follows begins item =
    (x : A) (from mid : Rest) → Item x from mid → Follows mid
    → (start : Rest) × (begins from ≡ Some start) × (let r : A × Rest = (x, mid) in item start ≡ Some r)

pub follows_many : {A : Type 0} (Item : Phrase A) (Follows : Rest → Type 0)
    → ((x : A) (from mid : Rest) → Item x from mid → Follows from)
    → {xs : List A} {from after : Rest} → Many Item xs from after → Follows after → Follows from
follows_many Item Follows begins Many.none f = f
follows_many Item Follows begins (Many.more {x = x} {from = from} {mid = mid} i m) f = begins x from mid i

pub many_complete : {A : Type 0} (Item : Phrase A) (Follows : Rest → Type 0) (begins : Rest → Option Rest)
    (item : Rest → Option (A × Rest)) → Shortens begins item
    → ((x : A) (from mid : Rest) → Item x from mid → Follows from) → IsFound Item Follows begins item
    → {xs : List A} {from after : Rest} → Many Item xs from after → Follows after → begins after ≡ None
    → many begins item from ≡ Some (xs, after)
many_complete Item Follows begins item s h is_found (Many.none {after = after}) f e = many_end begins item s after e
many_complete Item Follows begins item s h is_found
    (Many.more {x = x} {xs = xs} {from = from} {mid = mid} {after = after} i m) f e =
    let found = is_found x from mid i (follows_many Item Follows h m f) in
    many_next begins item s from found.0 found.1
    ∙ (ap (first_and (many begins item)) found.2
    ∙ ap (cons_found x) (many_complete Item Follows begins item s h is_found m f e))

-- a phrase behind a comma is found where the phrase is
pub found_after_comma : {A : Type 0} (Item : Phrase A) (Follows : Rest → Type 0) (item : Rest → Option (A × Rest))
    → ((x : A) (from mid : Rest) → Item x from mid → Follows mid → (let r : A × Rest = (x, mid) in item from ≡ Some r))
    → IsFound (AfterComma Item) Follows after_comma item
found_after_comma Item Follows item h x _ mid (AfterComma.comma {from = from} i) f = (from, refl, h x from mid i f)

pub follows_comma : {A : Type 0} (Item : Phrase A) (Follows : Rest → Type 0)
    → ((ts : Rest) → Follows (Lexeme.Punctuation s.Comma ∷ ts))
    → (x : A) (from mid : Rest) → AfterComma Item x from mid → Follows from
follows_comma Item Follows h x _ mid (AfterComma.comma {from = from} i) = h from

pub listed_complete : {A : Type 0} (Item : Phrase A) (Follows : Rest → Type 0) (item : Rest → Option (A × Rest))
    → Shortens after_comma item → ((ts : Rest) → Follows (Lexeme.Punctuation s.Comma ∷ ts))
    → ((x : A) (from mid : Rest) → Item x from mid → Follows mid → (let r : A × Rest = (x, mid) in item from ≡ Some r))
    → {xs : List A} {from after : Rest} → Listed Item xs from after → Follows after → after_comma after ≡ None
    → listed item from ≡ Some (xs, after)
listed_complete Item Follows item s c h (Listed.listed {x = x} {from = from} {mid = mid} i m) f e =
    let comma = follows_comma Item Follows c in
    ap (first_and (many after_comma item)) (h x from mid i (follows_many (AfterComma Item) Follows comma m f))
    ∙ ap (cons_found x)
    (many_complete (AfterComma Item) Follows after_comma item s comma (found_after_comma Item Follows item h) m f e)

-- Soundness

abbrev pub At : {A : Type 0} → Phrase A → Rest → A × Rest → Type 0
At Item from r = Item r.0 from r.1

cons_parts : {A : Type 0} (x : A) (o : Found A) (r : List A × Rest) → cons_found x o ≡ Some r
    → (y : List A × Rest) × (o ≡ Some y) × ((let p : List A × Rest = (x ∷ y.0, y.1) in p) ≡ r)
cons_parts x None r h = absurd cc
cons_parts x (Some y) r h = (y, refl, some_inj _ r h)

pub first_parts : {A : Type 0} (others : Rest → Found A) (o : Option (A × Rest)) (r : List A × Rest)
    → first_and others o ≡ Some r
    → (x : A × Rest) × (o ≡ Some x) × (y : List A × Rest) × (others x.1 ≡ Some y)
    × ((let p : List A × Rest = (x.0 ∷ y.0, y.1) in p) ≡ r)
first_parts others None r h = absurd cc
first_parts others (Some x) r h = let p = cons_parts x.0 (others x.1) r h in (x, refl, p.0, p.1, p.2)

-- what is found where a phrase begins is spelt there
abbrev pub IsSpelt : {A : Type 0} → Phrase A → (Rest → Option Rest) → (Rest → Option (A × Rest)) → Type 0
IsSpelt {A = A} Item begins item =
    (ts start : Rest) (r : A × Rest) → begins ts ≡ Some start → item start ≡ Some r → At Item ts r

turn_sound : {A : Type 0} (Item : Phrase A) (begins : Rest → Option Rest) (item : Rest → Option (A × Rest))
    (others : Rest → Found A) → IsSpelt Item begins item
    → ((ts : Rest) (r : List A × Rest) → others ts ≡ Some r → At (Many Item) ts r)
    → (ts : Rest) (o : Option Rest) (r : List A × Rest) → begins ts ≡ o → turn item others ts o ≡ Some r
    → At (Many Item) ts r
turn_sound Item begins item others is_spelt h ts None r e t = subst (At (Many Item) ts) (some_inj _ r t) Many.none
turn_sound Item begins item others is_spelt h ts (Some start) r e t =
    let p = first_parts others (item start) r t in
    subst (At (Many Item) ts) p.4 (Many.more (is_spelt ts start p.0 e p.1) (h p.0.1 p.2 p.3))

within_sound : {A : Type 0} (Item : Phrase A) (begins : Rest → Option Rest) (item : Rest → Option (A × Rest))
    → IsSpelt Item begins item
    → (n : ℕ) (ts : Rest) (r : List A × Rest) → many_within begins item n ts ≡ Some r → At (Many Item) ts r
within_sound Item begins item is_spelt zero ts r e =
    turn_sound Item begins item (λ rest. None) is_spelt (λ rest x h. absurd cc) ts (begins ts) r refl e
within_sound Item begins item is_spelt (suc n) ts r e =
    turn_sound Item begins item (many_within begins item n) is_spelt (within_sound Item begins item is_spelt n) ts
    (begins ts) r refl e

pub many_sound : {A : Type 0} (Item : Phrase A) (begins : Rest → Option Rest) (item : Rest → Option (A × Rest))
    → IsSpelt Item begins item → (ts : Rest) (r : List A × Rest) → many begins item ts ≡ Some r → At (Many Item) ts r
many_sound Item begins item is_spelt ts = within_sound Item begins item is_spelt (length ts) ts

pub spelt_after_comma : {A : Type 0} (Item : Phrase A) (item : Rest → Option (A × Rest))
    → ((ts : Rest) (r : A × Rest) → item ts ≡ Some r → At Item ts r) → IsSpelt (AfterComma Item) after_comma item
spelt_after_comma Item item h ts start r e i =
    subst (λ ts. AfterComma Item r.0 ts r.1) (sym (at_sign s.Comma ts start e)) (AfterComma.comma (h start r i))

pub listed_sound : {A : Type 0} (Item : Phrase A) (item : Rest → Option (A × Rest))
    → ((ts : Rest) (r : A × Rest) → item ts ≡ Some r → At Item ts r)
    → (ts : Rest) (r : List A × Rest) → listed item ts ≡ Some r → At (Listed Item) ts r
listed_sound Item item h ts r e =
    let p = first_parts (many after_comma item) (item ts) r e in
    subst (At (Listed Item) ts) p.4
    (Listed.listed (h ts p.0 p.1)
    (many_sound (AfterComma Item) after_comma item (spelt_after_comma Item item h) p.0.1 p.2 p.3))

-- Lengths

-- a phrase that is found takes a token at least
abbrev pub TakesOne : {A : Type 0} → (Rest → Option (A × Rest)) → Type 0
TakesOne {A = A} item = (ts : Rest) (r : A × Rest) → item ts ≡ Some r → length r.1 < length ts

pub shortens_after_comma : {A : Type 0} (item : Rest → Option (A × Rest)) → TakesOne item → Shortens after_comma item
shortens_after_comma item h ts start r e i =
    let same = ap length (at_sign s.Comma ts start e) in omega (arith, same, h start r i)

pub many_length : {A : Type 0} (Item : Phrase A)
    → ((x : A) (from mid : Rest) → Item x from mid → length mid ≤ length from)
    → {xs : List A} {from after : Rest} → Many Item xs from after → length after ≤ length from
many_length Item h Many.none = omega arith
many_length Item h (Many.more {x = x} {from = from} {mid = mid} i m) =
    let k = h x from mid i in let l = many_length Item h m in omega (arith, k, l)
