-- The source text of a phrase.
use Rattle.std.proofs.Common.{◌≡◌, ℕ, zero, suc, ◌-◌, ◌≤◌, List, [], ◌∷◌, drop, length, map, take, Option, Some, None, refl, sym, ap, ◌∙◌, arith, subst}
use mathlib.Core.Logic.{inl, inr}
use Rattle.std.proofs.lemmas.Bool.{cases_lt}
use Rattle.std.proofs.lemmas.List.{drop_all, get_or-take, length-take}
use Rattle.std.proofs.lemmas.List.Elements.{All-head, All-tail}
use Rattle.std.proofs.lemmas.Option.{slice_get-map}
use Rattle.std.specs.Prelude.{option_map, slice_get}
use Rattle.std.specs.Str.{IsCharBoundary}
use Rattle.sql_reader_tokens.specs.source_texts.Sources.{AreCut, reach, source_of}
use Rattle.sql_reader_tokens.specs.Content.{placed_of}
use Rattle.sql_reader_tokens.specs.Tokens.{StandsIn}
use Rattle.sql_reader_tokens.specs.declared.token.Token.{Token}

-- Where the front of a text can't be cut at a place at which the text can, the place is behind the front.
pub cut_front : (text : List ℕ) (place end : ℕ) → IsCharBoundary text place → end ≤ length text
    → ¬ IsCharBoundary (take end text) place → drop place (take end text) ≡ []
cut_front text place end cut le none = elim (cases_lt place end) [
  | inl l ↦
      absurd (none (
        omega (arith, length-take end text, l, le),
        λ inside high. let i = get_or-take end text place 0 l in
            subst (λ b. 192 ≤ b) (sym i) (cut.1 (omega (arith, length-take end text, inside, le, l)) (subst (λ b. 128 ≤ b) i high)),
      ))
  | inr l ↦ drop_all place (take end text) (omega (arith, length-take end text, le, l))
]

length_map : (tokens : List Token) → length (map placed_of tokens) ≡ length tokens
length_map [] = refl
length_map (t ∷ tokens) = ap suc (length_map tokens)

-- by the tokens of the program
by_tokens : (text : List ℕ) (tokens : List Token) (left behind : ℕ)
    → source_of text tokens left behind
    ≡ reach text (option_map placed_of (slice_get tokens (length tokens - left)))
    (option_map placed_of (slice_get tokens (length tokens - behind - 1)))
by_tokens text tokens left behind =
    ap (λ n. reach text (slice_get (map placed_of tokens) (n - left)) (slice_get (map placed_of tokens) (n - behind - 1)))
    (length_map tokens)
    ∙ (ap (λ o. reach text o (slice_get (map placed_of tokens) (length tokens - behind - 1)))
    (slice_get-map placed_of tokens (length tokens - left))
    ∙ ap (λ o. reach text (option_map placed_of (slice_get tokens (length tokens - left))) o)
    (slice_get-map placed_of tokens (length tokens - behind - 1)))

pub reach_at : (text : List ℕ) (tokens : List Token) (left behind i j : ℕ) (first last : Token)
    → i ≡ length tokens - left → j ≡ length tokens - behind - 1
    → slice_get tokens i ≡ Some first → slice_get tokens j ≡ Some last
    → source_of text tokens left behind ≡ reach text (Some (placed_of first)) (Some (placed_of last))
reach_at text tokens left behind i j first last is js h k =
    by_tokens text tokens left behind
    ∙ (ap (λ n. reach text (option_map placed_of (slice_get tokens n))
    (option_map placed_of (slice_get tokens (length tokens - behind - 1)))) (sym is)
    ∙ (ap (λ n. reach text (option_map placed_of (slice_get tokens i)) (option_map placed_of (slice_get tokens n))) (sym js)
    ∙ (ap (λ o. reach text (option_map placed_of o) (option_map placed_of (slice_get tokens j))) h
    ∙ ap (λ o. reach text (Some (placed_of first)) (option_map placed_of o)) k)))

pub no_first : (text : List ℕ) (tokens : List Token) (left behind i : ℕ) → i ≡ length tokens - left
    → slice_get tokens i ≡ None → source_of text tokens left behind ≡ []
no_first text tokens left behind i is h =
    by_tokens text tokens left behind
    ∙ ap (λ o. reach text (option_map placed_of o) (option_map placed_of (slice_get tokens (length tokens - behind - 1))))
    (ap (slice_get tokens) (sym is) ∙ h)

nothing : (text : List ℕ) (first : Option Token) → reach text (option_map placed_of first) None ≡ []
nothing text (Some t) = refl
nothing text None = refl

pub no_last : (text : List ℕ) (tokens : List Token) (left behind j : ℕ) → j ≡ length tokens - behind - 1
    → slice_get tokens j ≡ None → source_of text tokens left behind ≡ []
no_last text tokens left behind j js h =
    by_tokens text tokens left behind
    ∙ (ap (λ o. reach text (option_map placed_of (slice_get tokens (length tokens - left))) (option_map placed_of o))
    (ap (slice_get tokens) (sym js) ∙ h)
    ∙ nothing text (slice_get tokens (length tokens - left)))

pub stands_at : (text : List ℕ) (tokens : List Token) (i : ℕ) (t : Token) → AreCut text tokens
    → slice_get tokens i ≡ Some t → StandsIn text (placed_of t)
stands_at text [] i t all h = absurd cc
stands_at text (x ∷ tokens) zero t all h = subst (λ t. StandsIn text (placed_of t)) (let e : x ≡ t = cc in e)
    (All-head (λ t. StandsIn text (placed_of t)) x tokens all)
stands_at text (x ∷ tokens) (suc i) t all h = stands_at text tokens i t
    (All-tail (λ t. StandsIn text (placed_of t)) x tokens all) h
