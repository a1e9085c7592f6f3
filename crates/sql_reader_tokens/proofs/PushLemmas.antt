-- Tokens that are read one after the other.
use Rattle.std.proofs.Common.{◌≡◌, ℕ, List, [], ◌∷◌, ◌++◌, All, map, Some, refl, sym, ap, ◌∙◌, subst}
use Rattle.std.proofs.lemmas.List.Elements.{All-nil, All-push}
use Rattle.sql_reader_tokens.proofs.ReadLemmas.{token_step}
use Rattle.sql_reader_tokens.specs.Content.{lexeme_of, placed_of}
use Rattle.sql_reader_tokens.specs.Reading.{token}
use Rattle.sql_reader_tokens.specs.Tokens.{Placed, between, StandsIn, Reads}
use Rattle.sql_reader_tokens.specs.declared.keywords.keyword.Grammar.{Grammar}
use Rattle.sql_reader_tokens.specs.declared.token.Token.{Token}

map_push : {A B : Type 0} (f : A → B) (xs : List A) (x : A) → map f (xs ++ x ∷ []) ≡ map f xs ++ f x ∷ []
map_push f [] x = refl
map_push f (y ∷ xs) x = ap (λ ys. f y ∷ ys) (map_push f xs x)

pub read_none : (grammar : Grammar) (len : ℕ) (from : List ℕ) (ts : List Token) → ts ≡ [] → Reads grammar len from (map placed_of ts) from
read_none grammar len from ts e = subst (λ us. Reads grammar len from (map placed_of us) from) (sym e) Reads.none

pub read_more : (grammar : Grammar) (len : ℕ) (from mid after : List ℕ) (ts us : List Token) (t : Token) → us ≡ ts ++ t ∷ [] → Reads grammar len from (map placed_of ts) mid
    → token grammar mid ≡ Some (lexeme_of t.kind, after) → placed_of t ≡ between len mid (lexeme_of t.kind) after
    → Reads grammar len from (map placed_of us) after
read_more grammar len from mid after ts us t e r h p =
    subst (λ xs. Reads grammar len from xs after) (sym (ap (map placed_of) e ∙ (map_push placed_of ts t ∙ ap (λ x. map placed_of ts ++ x ∷ []) p)))
    (token_step grammar len from mid after (map placed_of ts) (lexeme_of t.kind) r h)

-- the text may be cut before and behind each token
abbrev pub StandIn : List ℕ → List Token → Type 0
StandIn text ts = All (λ t. StandsIn text (placed_of t)) ts

pub stand_none : (text : List ℕ) (ts : List Token) → ts ≡ [] → StandIn text ts
stand_none text ts e = subst (StandIn text) (sym e) (All-nil (λ (t : Token). StandsIn text (placed_of t)))

pub stand_more : (text : List ℕ) (ts us : List Token) (t : Token) (p : Placed) → us ≡ ts ++ t ∷ [] → StandIn text ts → placed_of t ≡ p → StandsIn text p → StandIn text us
stand_more text ts us t p e a same s =
    subst (StandIn text) (sym e) (All-push (λ (x : Token). StandsIn text (placed_of x)) ts t a (subst (StandsIn text) (sym same) s))
