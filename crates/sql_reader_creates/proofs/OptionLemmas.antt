-- The reader of a table's options finds exactly what their grammar says.
use Rattle.std.proofs.Common.{◌≡◌, ◌==◌, Bool, true, false, ◌<◌, List, [], ◌∷◌, length, codes, Option, Some, None, option_map, cond, refl, sym, ap, ◌∙◌, subst, arith}
use Rattle.std.proofs.lemmas.Bool.{cond-true, cond-false, eqb-true}
use Rattle.sql_reader_tokens.specs.Content.{is_bare_word}
use Rattle.std.proofs.lemmas.List.{map-id}
use Rattle.sql_reader_tokens.specs.Lexeme.{Lexeme}
use Rattle.sql_reader_tokens.specs.declared.token.Token.{Token}
use Rattle.sql_reader_grammar.proofs.lemmas.phrases.ListLemmas.{GoesOn, Shortens, goes_end}
use Rattle.sql_reader_grammar.proofs.lemmas.phrases.PhraseLemmas.{At, TakesOne, listed_complete, listed_sound, shortens_after_comma}
use Rattle.sql_reader_grammar.proofs.lemmas.phrases.OutcomeLemmas.{some_inj}
use Rattle.sql_reader_grammar.specs.phrases.Lists.{Listed}
use Rattle.sql_reader_grammar.specs.phrases.Texts.{lexemes_of}
use Rattle.sql_reader_grammar.specs.phrases.Steps.{Found, Rest, after_comma, after_word, listed}
use Rattle.sql_reader_creates.proofs.lemmas.column_reader.WordLemmas.{other_length, some_mapped, word_sound}
use Rattle.sql_reader_creates.specs.CreateGrammar.{Closes, Opts}
use Rattle.sql_reader_creates.specs.CreateReading.{finished, options_finished, rowid_option, table_option, table_options}
use Rattle.sql_reader_grammar.specs.declared.create_trees.create.TableOption.{TableOption}
use Rattle.sql_reader_grammar.specs.declared.create_trees.create.TableOption.TheVariants as o

no_strict : (t : Lexeme) → is_bare_word t (codes "WITHOUT") ≡ true → is_bare_word t (codes "STRICT") ≡ false
no_strict t = other_length t (codes "STRICT") (codes "WITHOUT") (λ e. let i : 6 ≡ 7 = e in omega (arith, i))

option_complete : (x : TableOption) (from mid : Rest) → Opts x from mid → Unit {0}
    → (let r : TableOption × Rest = (x, mid) in table_option from ≡ Some r)
option_complete x from mid (Opts.strict h) e = cond-true _ _ _ h
option_complete x from mid (Opts.without_rowid {word = t} h k) e =
    cond-false _ _ _ (no_strict t h)
    ∙ (cond-true _ _ _ h ∙ ap (option_map (λ rest. (o.WithoutRowid, rest))) (cond-true _ _ _ k))

option_sound : (ts : Rest) (r : TableOption × Rest) → table_option ts ≡ Some r → At Opts ts r
option_sound [] r h = absurd cc
option_sound (word ∷ ts) r h = strict (is_bare_word word (codes "STRICT")) refl h
  where
    none : Option (TableOption × Rest)
    none = None

    without : (b : Bool) → is_bare_word word (codes "WITHOUT") ≡ b → cond b (rowid_option ts) none ≡ Some r
        → At Opts (word ∷ ts) r
    without true e h =
        let m = some_mapped (λ rest. (let r : TableOption × Rest = (o.WithoutRowid, rest) in r)) (after_word (codes "ROWID") ts) r h in
        let w = word_sound (codes "ROWID") ts m.0 m.1 in
        subst (λ ts. At Opts (word ∷ ts) r) (sym w.1)
        (subst (At Opts (word ∷ w.0 ∷ m.0)) m.2 (Opts.without_rowid e w.2))
    without false e h = absurd cc

    strict : (b : Bool) → is_bare_word word (codes "STRICT") ≡ b
        → cond b (Some (o.Strict, ts)) (cond (is_bare_word word (codes "WITHOUT")) (rowid_option ts) none) ≡ Some r
        → At Opts (word ∷ ts) r
    strict true e h = subst (At Opts (word ∷ ts)) (some_inj _ r h) (Opts.strict e)
    strict false e h = without (is_bare_word word (codes "WITHOUT")) refl h

option_takes_one : TakesOne table_option
option_takes_one ts r h = go (option_sound ts r h)
  where
    go : {x : TableOption} {from mid : Rest} → Opts x from mid → length mid < length from
    go (Opts.strict h) = omega arith
    go (Opts.without_rowid h k) = omega arith

pub option_shortens : Shortens after_comma table_option
option_shortens = shortens_after_comma table_option option_takes_one

-- options that are all of the tokens
pub all_options : (ts : Rest) (os : List TableOption)
    → (let end : Rest = [] in listed table_option ts ≡ Some (os, end)) → table_options ts ≡ Some os
all_options [] os h = absurd cc
all_options (t ∷ ts) os h = ap options_finished h

-- the same of options that were read one after the other
pub options_end : (ts rest : Rest) (items : List TableOption) → after_comma rest ≡ None → rest ≡ []
    → GoesOn (λ (o : TableOption). o) after_comma table_option (listed table_option ts) items rest
    → table_options ts ≡ Some items
options_end ts rest items e empty g =
    all_options ts items
    (goes_end (λ (o : TableOption). o) after_comma table_option option_shortens (listed table_option ts) rest items e g
    ∙ ap (λ os. Some (os, rest)) (map-id items)
    ∙ ap (λ rest. Some (items, rest)) empty)

-- where it was tested that no tokens are left
pub nothing_left : (tokens : List Token) (found : Bool) → found ≡ (length tokens == 0) → found ≡ true
    → lexemes_of tokens ≡ []
nothing_left [] found e f = refl
nothing_left (t ∷ tokens) found e f = absurd (let h = eqb-true (length (t ∷ tokens)) 0 (sym e ∙ f) in omega (arith, h))

pub closes_complete : {os : List TableOption} {ts : Rest} → Closes os ts → table_options ts ≡ Some os
closes_complete Closes.none = refl
closes_complete (Closes.options {options = os} {from = from} l) =
    all_options from os
    (listed_complete Opts (λ ts. Unit {0}) table_option option_shortens (λ ts. tt) option_complete l tt refl)

pub finished_sound : (ts : Rest) (u : Unit {0}) → finished ts ≡ Some u → ts ≡ []
finished_sound [] u h = refl
finished_sound (t ∷ ts) u h = absurd cc

pub closes_sound : (ts : Rest) (os : List TableOption) → table_options ts ≡ Some os → Closes os ts
closes_sound [] os h = subst (λ os. Closes os []) (some_inj [] os h) Closes.none
closes_sound (t ∷ ts) os h = go (listed table_option (t ∷ ts)) refl h
  where
    go : (o : Found TableOption) → listed table_option (t ∷ ts) ≡ o → options_finished o ≡ Some os
        → Closes os (t ∷ ts)
    go None e h = absurd cc
    go (Some r) e h =
        let m = some_mapped (λ (end : Unit {0}). r.0) (finished r.1) os h in
        subst (λ os. Closes os (t ∷ ts)) m.2
        (Closes.options (subst (Listed Opts r.0 (t ∷ ts)) (finished_sound r.1 m.0 m.1)
        (listed_sound Opts table_option option_sound (t ∷ ts) r e)))
