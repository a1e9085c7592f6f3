-- A text is at most one list of tokens, and none where it stops.
use Rattle.std.proofs.Common.{◌≡◌, ℕ, true, ◌||◌, ◌==◌, ◌-◌, ◌<◌, ◌⊎◌, List, [], ◌∷◌, ◌++◌, length, Some, None, refl, sym, ap, ◌∙◌, subst, arith}
use mathlib.Core.Logic.{inl, inr}
use Rattle.std.proofs.lemmas.List.{append-nil}
use Rattle.std.proofs.lemmas.Bool.{eqb-true, or_cases}
use Rattle.sql_reader_tokens.proofs.BlankLemmas.{blank_complete, blank_sound}
use Rattle.sql_reader_tokens.proofs.LexemeLemmas.{complete, sound}
use Rattle.sql_reader_tokens.specs.byte_runs.Bytes.{is_space}
use Rattle.sql_reader_tokens.specs.Lexeme.{Lexeme, Blank, Begins}
use Rattle.sql_reader_tokens.specs.Reading.{token, blank}
use Rattle.sql_reader_tokens.specs.Tokens.{Placed, between, Reads, Tokens, StopsAt}
use Rattle.sql_reader_tokens.specs.declared.keywords.keyword.Grammar.{Grammar}

-- no token begins with a space
space_begins : (grammar : Grammar) (b : ℕ) (bs : List ℕ) → is_space b ≡ true → token grammar (b ∷ bs) ≡ None
unfolding token
space_begins grammar b bs h = elim (or_cases (b == 32) (b == 9 || (b == 10 || (b == 12 || b == 13))) h) [
  | inl e ↦ ap (λ c. token grammar (c ∷ bs)) (eqb-true b 32 e)
  | inr h ↦ elim (or_cases (b == 9) (b == 10 || (b == 12 || b == 13)) h) [
    | inl e ↦ ap (λ c. token grammar (c ∷ bs)) (eqb-true b 9 e)
    | inr h ↦ elim (or_cases (b == 10) (b == 12 || b == 13) h) [
      | inl e ↦ ap (λ c. token grammar (c ∷ bs)) (eqb-true b 10 e)
      | inr h ↦ elim (or_cases (b == 12) (b == 13) h) [
        | inl e ↦ ap (λ c. token grammar (c ∷ bs)) (eqb-true b 12 e)
        | inr e ↦ ap (λ c. token grammar (c ∷ bs)) (eqb-true b 13 e)
      ]
    ]
  ]
]

blank_begins : {from mid : List ℕ} (grammar : Grammar) → Blank from mid → token grammar from ≡ None
unfolding token
blank_begins grammar (Blank.space {b = b} {bs = bs} h) = space_begins grammar b bs h
blank_begins grammar (Blank.line_comment r) = refl
blank_begins grammar (Blank.block_comment r) = refl

-- where a token begins, neither a space nor a comment does
apart : {grammar : Grammar} {from mid after : List ℕ} {t : Lexeme} → Blank from mid → Begins grammar from t after → ⊥
apart {grammar = grammar} b t = let x = blank_begins grammar b in let y = complete t in cc

one_blank : {from mid after : List ℕ} → Blank from mid → Blank from after → mid ≡ after
one_blank a b = let x = blank_complete a in let y = blank_complete b in cc

some_pair : {x y : Lexeme × List ℕ} → Some x ≡ Some y → x ≡ y
some_pair h = cc

pub one_token : {grammar : Grammar} {from a b : List ℕ} {t u : Lexeme} → Begins grammar from t a → Begins grammar from u b → (t ≡ u) × (a ≡ b)
one_token {a = a} {b = b} {t = t} {u = u} x y =
    let i : (let p : Lexeme × List ℕ = (t, a) in p) ≡ (u, b) = some_pair (sym (complete x) ∙ complete y) in
    (ap (λ (p : Lexeme × List ℕ). p.0) i, ap (λ (p : Lexeme × List ℕ). p.1) i)

no_blank : blank [] ≡ None
unfolding blank
no_blank = refl

no_token : (grammar : Grammar) → token grammar [] ≡ None
unfolding token
no_token grammar = refl

nothing_blank : {mid : List ℕ} → ¬ (Blank [] mid)
nothing_blank b = let x = blank_complete b in let y = no_blank in cc

nothing_begins : {grammar : Grammar} {t : Lexeme} {after : List ℕ} → ¬ (Begins grammar [] t after)
nothing_begins {grammar = grammar} t = let x = complete t in let y = no_token grammar in cc

-- how a list begins: at its end, with a blank, or with a token
pub record FirstBlank (grammar : Grammar) (len : ℕ) (from : List ℕ) (us : List Placed) (after : List ℕ) : Type 0 where
  pub mid : List ℕ
  pub is : Blank from mid
  pub rest : Reads grammar len mid us after

pub record FirstToken (grammar : Grammar) (len : ℕ) (from : List ℕ) (us : List Placed) (after : List ℕ) : Type 0 where
  pub t : Lexeme
  pub mid : List ℕ
  pub vs : List Placed
  pub begins : Begins grammar from t mid
  pub list_is : us ≡ between len from t mid ∷ vs
  pub rest : Reads grammar len mid vs after

first : {grammar : Grammar} {len : ℕ} {from after : List ℕ} {us : List Placed} → Reads grammar len from us after
    → ((from ≡ after) × (us ≡ [])) ⊎ (FirstBlank grammar len from us after ⊎ FirstToken grammar len from us after)
first Reads.none = inl (refl, refl)
first (Reads.blank {mid = mid} b r) = inr (inl (record { mid = mid; is = b; rest = r }))
first (Reads.token {mid = mid} {t = t} {ts = ts} b r) = inr (inr (record { t = t; mid = mid; vs = ts; begins = b; list_is = refl; rest = r }))

-- what follows a front of tokens, if the whole is a list of tokens
pub record Follows (grammar : Grammar) (len : ℕ) (front us : List Placed) (mid : List ℕ) : Type 0 where
  pub vs : List Placed
  pub list_is : us ≡ front ++ vs
  pub rest : Reads grammar len mid vs []

pub goes_on : {grammar : Grammar} {len : ℕ} {from mid : List ℕ} {front : List Placed} → Reads grammar len from front mid
    → (us : List Placed) → Reads grammar len from us [] → Follows grammar len front us mid
goes_on Reads.none us y = record { vs = us; list_is = refl; rest = y }
goes_on {grammar = grammar} {len = len} (Reads.blank {mid = middle} b r) us y = elim (first y) [
  | inl k ↦ absurd (nothing_blank (subst (λ xs. Blank xs middle) k.0 b))
  | inr (inl f) ↦ goes_on r us (subst (λ xs. Reads grammar len xs us []) (one_blank f.is b) f.rest)
  | inr (inr f) ↦ absurd (apart b f.begins)
]
goes_on {grammar = grammar} {len = len} {from = from} (Reads.token {mid = middle} {t = t} {ts = ts} b r) us y = elim (first y) [
  | inl k ↦ absurd (nothing_begins (subst (λ xs. Begins grammar xs t middle) k.0 b))
  | inr (inl f) ↦ absurd (apart f.is b)
  | inr (inr f) ↦
      let same = one_token f.begins b in
      let x = goes_on r f.vs (subst (λ xs. Reads grammar len xs f.vs []) same.1 f.rest) in
      record {
        vs = x.vs;
        list_is = f.list_is ∙ (ap (λ u. between len from u f.mid ∷ f.vs) same.0
            ∙ (ap (λ xs. between len from t xs ∷ f.vs) same.1 ∙ ap (λ vs. between len from t middle ∷ vs) x.list_is));
        rest = x.rest;
      }
]

at_end : {grammar : Grammar} {len : ℕ} {us : List Placed} → Reads grammar len [] us [] → us ≡ []
at_end y = elim (first y) [
  | inl k ↦ k.1
  | inr (inl f) ↦ absurd (nothing_blank f.is)
  | inr (inr f) ↦ absurd (nothing_begins f.begins)
]

pub one_list : {grammar : Grammar} {text : List ℕ} {ts us : List Placed} → Tokens grammar text ts → Tokens grammar text us → ts ≡ us
one_list {ts = ts} {us = us} x y =
    let f = goes_on x us y in
    sym (f.list_is ∙ (ap (λ vs. ts ++ vs) (at_end f.rest) ∙ append-nil ts))

pub no_list : {grammar : Grammar} {text : List ℕ} {place : ℕ} → StopsAt grammar text place → (us : List Placed) → ¬ (Tokens grammar text us)
no_list s us y = let f = goes_on s.read us y in elim (first f.rest) [
  | inl k ↦ (let n : 0 < length s.rest = s.more in let e = ap length k.0 in omega arith)
  | inr (inl b) ↦ s.no_blank b.mid b.is
  | inr (inr t) ↦ s.no_token t.t t.mid t.begins
]

-- one more at the end
pub more_blank : {grammar : Grammar} {len : ℕ} {from mid after : List ℕ} {ts : List Placed} → Reads grammar len from ts mid → Blank mid after → Reads grammar len from ts after
more_blank Reads.none b = Reads.blank b Reads.none
more_blank (Reads.blank a r) b = Reads.blank a (more_blank r b)
more_blank (Reads.token t r) b = Reads.token t (more_blank r b)

pub more_token : {grammar : Grammar} {len : ℕ} {from mid after : List ℕ} {ts : List Placed} {t : Lexeme} → Reads grammar len from ts mid → Begins grammar mid t after
    → Reads grammar len from (ts ++ between len mid t after ∷ []) after
more_token Reads.none b = Reads.token b Reads.none
more_token (Reads.blank a r) b = Reads.blank a (more_token r b)
more_token (Reads.token t r) b = Reads.token t (more_token r b)

-- the same, by what a reader found
pub blank_step : (grammar : Grammar) (len : ℕ) (from mid after : List ℕ) (ts : List Placed) → Reads grammar len from ts mid → blank mid ≡ Some after → Reads grammar len from ts after
blank_step grammar len from mid after ts r h = more_blank r (blank_sound mid after h)

pub token_step : (grammar : Grammar) (len : ℕ) (from mid after : List ℕ) (ts : List Placed) (t : Lexeme) → Reads grammar len from ts mid → token grammar mid ≡ Some (t, after)
    → Reads grammar len from (ts ++ between len mid t after ∷ []) after
token_step grammar len from mid after ts t r h = more_token r (sound grammar mid (t, after) h)

pub stops_at : (grammar : Grammar) (text rest : List ℕ) (ts : List Placed) (place : ℕ) → Reads grammar (length text) text ts rest → place ≡ length text - length rest → 0 < length rest
    → blank rest ≡ None → token grammar rest ≡ None → StopsAt grammar text place
stops_at grammar text rest ts place r e more b t = record {
  front = ts;
  rest = rest;
  read = r;
  at = e;
  more = more;
  no_blank = λ after x. (let y = blank_complete x in cc);
  no_token = λ u after x. (let y = complete x in cc);
}

-- no token, space or comment stands at the front
abbrev IsStuck : Grammar → List ℕ → Type 0
IsStuck grammar rest = ((after : List ℕ) → ¬ (Blank rest after)) × ((t : Lexeme) (after : List ℕ) → ¬ (Begins grammar rest t after))

-- where a reading is stuck, any other reading comes
reaches : {grammar : Grammar} {len : ℕ} {from mid rest : List ℕ} {ts : List Placed} → Reads grammar len from ts mid
    → (us : List Placed) → Reads grammar len from us rest → IsStuck grammar rest → (vs : List Placed) × Reads grammar len mid vs rest
reaches Reads.none us y stuck = (us, y)
reaches {grammar = grammar} {len = len} {rest = rest} (Reads.blank {from = from} {mid = middle} b r) us y stuck = elim (first y) [
  | inl k ↦ absurd (stuck.0 middle (subst (λ xs. Blank xs middle) k.0 b))
  | inr (inl f) ↦ reaches r us (subst (λ xs. Reads grammar len xs us rest) (one_blank f.is b) f.rest) stuck
  | inr (inr f) ↦ absurd (apart b f.begins)
]
reaches {grammar = grammar} {len = len} {rest = rest} (Reads.token {from = from} {mid = middle} {t = t} b r) us y stuck = elim (first y) [
  | inl k ↦ absurd (stuck.1 t middle (subst (λ xs. Begins grammar xs t middle) k.0 b))
  | inr (inl f) ↦ absurd (apart f.is b)
  | inr (inr f) ↦ reaches r f.vs (subst (λ xs. Reads grammar len xs f.vs rest) (one_token f.begins b).1 f.rest) stuck
]

pub one_stop : {grammar : Grammar} {text : List ℕ} {p q : ℕ} → StopsAt grammar text p → StopsAt grammar text q → p ≡ q
one_stop {text = text} x y =
    let z = reaches x.read y.front y.read (y.no_blank, y.no_token) in
    elim (first z.1) [
      | inl k ↦ x.at ∙ (ap (λ rest. length text - length rest) k.0 ∙ sym y.at)
      | inr (inl f) ↦ absurd (x.no_blank f.mid f.is)
      | inr (inr f) ↦ absurd (x.no_token f.t f.mid f.begins)
    ]
