-- A parenthesis whose inside isn't kept is read up to the one that closes it.
use Rattle.std.proofs.Common.{◌≡◌, ℕ, zero, suc, ◌<◌, [], ◌∷◌, length, Option, Some, refl, ◌∙◌, subst, arith}
use Rattle.sql_reader_tokens.specs.Lexeme.{Lexeme}
use Rattle.sql_reader_tokens.specs.declared.sign.Sign.TheVariants as s
use Rattle.sql_reader_grammar.proofs.lemmas.phrases.OutcomeLemmas.{some_inj}
use Rattle.sql_reader_grammar.specs.phrases.Steps.{Rest}
use Rattle.sql_reader_creates.specs.column_reader.ColumnGrammar.{Balanced, IsInside}
use Rattle.sql_reader_creates.specs.column_reader.ColumnReading.{balanced}

-- what is found behind a parenthesis that closes, where so many more are open
abbrev goes_on : ℕ → Rest → Option Rest
goes_on zero ts = Some ts
goes_on (suc depth) ts = balanced depth ts

closed_step : (depth : ℕ) (ts : Rest) → balanced depth (Lexeme.Punctuation s.Close ∷ ts) ≡ goes_on depth ts
closed_step zero ts = refl
closed_step (suc depth) ts = refl

inside_step : (depth : ℕ) (token : Lexeme) (ts : Rest) → IsInside token → balanced depth (token ∷ ts) ≡ balanced depth ts
inside_step depth (Lexeme.Punctuation s.Open) ts h = absurd h
inside_step depth (Lexeme.Punctuation s.Close) ts h = absurd h
inside_step depth _ ts h = refl

pub balanced_complete : {from after : Rest} → Balanced from after → (depth : ℕ) → balanced depth from ≡ goes_on depth after
balanced_complete (Balanced.closed {after = after}) depth = closed_step depth after
balanced_complete (Balanced.nested b c) depth = balanced_complete b (suc depth) ∙ balanced_complete c depth
balanced_complete (Balanced.inside {token = token} {from = from} h b) depth =
    inside_step depth token from h ∙ balanced_complete b depth

-- the parentheses that are open are closed one after the other
abbrev pub Closing : ℕ → Rest → Rest → Type 0
Closing zero ts after = Balanced ts after
Closing (suc depth) ts after = (mid : Rest) × Balanced ts mid × Closing depth mid after

nest : (depth : ℕ) (ts after : Rest) → Closing (suc depth) ts after → Closing depth (Lexeme.Punctuation s.Open ∷ ts) after
nest zero ts after c = Balanced.nested c.1 c.2
nest (suc depth) ts after c = (c.2.0, Balanced.nested c.1 c.2.1, c.2.2)

pass : (depth : ℕ) (token : Lexeme) (ts after : Rest) → IsInside token → Closing depth ts after
    → Closing depth (token ∷ ts) after
pass zero token ts after h c = Balanced.inside h c
pass (suc depth) token ts after h c = (c.0, Balanced.inside h c.1, c.2)

pub balanced_sound : (depth : ℕ) (ts after : Rest) → balanced depth ts ≡ Some after → Closing depth ts after
balanced_sound depth [] after h = absurd cc
balanced_sound depth (Lexeme.Punctuation s.Open ∷ ts) after h = nest depth ts after (balanced_sound (suc depth) ts after h)
balanced_sound zero (Lexeme.Punctuation s.Close ∷ ts) after h =
    subst (Balanced (Lexeme.Punctuation s.Close ∷ ts)) (some_inj ts after h) Balanced.closed
balanced_sound (suc depth) (Lexeme.Punctuation s.Close ∷ ts) after h =
    (ts, Balanced.closed, balanced_sound depth ts after h)
balanced_sound depth (token ∷ ts) after h = pass depth token ts after tt (balanced_sound depth ts after h)

pub balanced_length : {from after : Rest} → Balanced from after → length after < length from
balanced_length Balanced.closed = omega arith
balanced_length (Balanced.nested b c) =
    let i = balanced_length b in let j = balanced_length c in omega (arith, i, j)
balanced_length (Balanced.inside h b) = let i = balanced_length b in omega (arith, i)
