-- Which texts a pattern of LIKE matches. (SQL Language Expressions, "The LIKE, GLOB, REGEXP, MATCH, and extract operators")
use Rattle.std.specs.Prelude.{◌≡◌, ◌↔◌, ℕ, Bool, true, false, ◌==◌, ◌||◌, ◌&&◌, if◌then◌else◌, List, [], ◌∷◌, ◌++◌, IsTrue, MatchBool, Option, Some, None}
use Rattle.std.specs.Char.{eq_ignore_ascii_case}
use Rattle.std.specs.Str.{chars}
use Rattle.values.specs.Datum.{Datum, null, text}
use Rattle.expr.specs.operations.Operations.{condition}

-- `_` is any character, and a letter of ASCII is itself in either case
abbrev pub fits_one : ℕ → ℕ → Bool
fits_one p c = (p == 95) || eq_ignore_ascii_case p c

-- the pattern matches the text: `%` stands for any run of characters, and all else for one
abbrev pub Likes : List ℕ → List ℕ → Type 0
Likes [] t = t ≡ []
Likes (p ∷ ps) t =
    MatchBool (p == 37)
    ((run : List ℕ) × (rest : List ℕ) × (t ≡ run ++ rest) × Likes ps rest)
    ((c : ℕ) × (rest : List ℕ) × (t ≡ c ∷ rest) × IsTrue (fits_one p c) × Likes ps rest)

-- some end of the text passes
abbrev pub any_rest : (List ℕ → Bool) → List ℕ → Bool
any_rest f [] = f []
any_rest f (c ∷ cs) = f (c ∷ cs) || any_rest f cs

abbrev pub on_first : (ℕ → List ℕ → Bool) → List ℕ → Bool
on_first f [] = false
on_first f (c ∷ cs) = f c cs

abbrev pub is_empty : List ℕ → Bool
is_empty [] = true
is_empty (c ∷ cs) = false

-- the same relation as a test
abbrev pub likes : List ℕ → List ℕ → Bool
likes [] t = is_empty t
likes (p ∷ ps) t =
    if p == 37 then any_rest (likes ps) t else on_first (λ c cs. fits_one p c && likes ps cs) t

-- the test and the relation agree
abbrev pub TestIsRelation : Type 0
TestIsRelation = (p t : List ℕ) → IsTrue (likes p t) ↔ Likes p t

abbrev pub past_one : ℕ → (List ℕ → Option (List ℕ × List ℕ)) → List ℕ → Option (List ℕ × List ℕ)
past_one p f [] = None
past_one p f (c ∷ cs) = if fits_one p c then f cs else None

-- what is left of the pattern and of the text where the pattern up to its next `%` stands at the text's front
abbrev pub past : List ℕ → List ℕ → Option (List ℕ × List ℕ)
past [] t = Some ([], t)
past (p ∷ ps) t = if p == 37 then Some (p ∷ ps, t) else past_one p (past ps) t

-- whether a text matches a pattern; NULL where one of them is no text
unfoldable pub like_of : Datum → Datum → Datum
like_of (text s) (text p) = condition (Some (likes (chars p) (chars s)))
like_of _ _ = null
