-- The reader of a column's type finds exactly what its grammar says.
use Rattle.std.proofs.Common.{◌≡◌, Bool, true, false, ◌<◌, ◌≤◌, ℤ, List, [], ◌∷◌, ◌++◌, length, map, String, Global, string_bytes, cond, Option, Some, None, option_map, option_and_then, refl, sym, ap, ◌∙◌, subst, arith}
use Rattle.std.proofs.lemmas.Bool.{cond-true, cond-false}
use Rattle.values.specs.declared.fault.Fault.{Fault}
use Rattle.values.specs.declared.fault.Fault.TheVariants as f
use Rattle.sql_reader_tokens.specs.Lexeme.{Lexeme}
use Rattle.sql_reader_tokens.specs.declared.sign.Sign.TheVariants as s
use Rattle.sql_reader_tokens.specs.declared.token.Quoting.TheVariants as q
use Rattle.sql_reader_grammar.proofs.lemmas.phrases.ListLemmas.{GoesOn, Shortens, goes_end, goes_from_nothing, goes_more, goes_wrong, many_next}
use Rattle.sql_reader_grammar.proofs.lemmas.phrases.OutcomeLemmas.{some_inj}
use Rattle.sql_reader_grammar.proofs.lemmas.phrases.PhraseLemmas.{At, IsFound, IsSpelt, first_parts, many_complete, many_length, many_sound}
use Rattle.sql_reader_grammar.proofs.lemmas.phrases.StepLemmas.{at_sign}
use Rattle.sql_reader_grammar.specs.phrases.Lists.{Many}
use Rattle.sql_reader_grammar.specs.phrases.Steps.{Rest, Found, IsMissing, after_close, after_comma, after_open, name}
use Rattle.sql_reader_creates.proofs.lemmas.column_reader.WordLemmas.{IsEnd, no_open, some_mapped, then_parts}
use Rattle.sql_reader_creates.specs.column_reader.ColumnGrammar.{MaybeSized, Types, Word}
use Rattle.sql_reader_creates.specs.column_reader.ColumnReading.{after_number, after_second, at_word, begins_word, column_type, second_from, size, size_closed, size_from, sized, type_by, words}
use Rattle.sql_reader_grammar.specs.create_trees.CreateTrees.{TypeTree}
use Rattle.sql_reader_syntax.specs.Tree.{Name}

-- Words

pub word_here : (ts : Rest) → begins_word ts ≡ true → at_word ts ≡ Some ts
word_here ts h = cond-true _ _ _ h

pub no_word_here : (ts : Rest) → begins_word ts ≡ false → at_word ts ≡ None
no_word_here ts h = cond-false _ _ _ h

word_spelt : IsSpelt Word at_word name
word_spelt (Lexeme.Name q.Bare n ∷ ts) start r e h =
    let same : Lexeme.Name q.Bare n ∷ ts ≡ start = some_inj _ start e in
    let read : (let p : Name × Rest = (n, ts) in p) ≡ r = some_inj _ r (ap name same ∙ h) in
    subst (At Word (Lexeme.Name q.Bare n ∷ ts)) read Word.bare
word_spelt _ start r e h = absurd cc

word_length : (x : Name) (from mid : Rest) → Word x from mid → length mid < length from
word_length x from mid Word.bare = omega arith

pub word_shortens : Shortens at_word name
word_shortens ts start r e h = word_length r.0 ts r.1 (word_spelt ts start r e h)

abbrev Anything : Rest → Type 0
Anything ts = Unit {0}

word_found : IsFound Word Anything at_word name
word_found x _ mid Word.bare a = (_, refl, refl)

words_complete : {xs : List Name} {from mid : Rest} → Many Word xs from mid → at_word mid ≡ None → words from ≡ Some (xs, mid)
words_complete m e =
    many_complete Word Anything at_word name word_shortens (λ x from mid w. tt) word_found m tt e

-- the words of a type: one, and then others
words_sound : (ts : Rest) (r : List Name × Rest) → begins_word ts ≡ true → words ts ≡ Some r
    → (x : Name × Rest) × At Word ts x × (y : List Name × Rest) × At (Many Word) x.1 y
    × ((let p : List Name × Rest = (x.0 ∷ y.0, y.1) in p) ≡ r)
words_sound ts r b h =
    let p = first_parts words (name ts) r (sym (many_next at_word name word_shortens ts ts (word_here ts b)) ∙ h) in
    (p.0, word_spelt ts ts p.0 (word_here ts b) p.1, p.2, many_sound Word at_word name word_spelt p.0.1 p.2 p.3, p.4)

-- What the words of a type are, by their parts

pub words_more : (found : Found Name) (rest after : Rest) (xs ys : List (String Global)) (x : String Global) → ys ≡ xs ++ x ∷ []
    → begins_word rest ≡ true → (let r : Name × Rest = (string_bytes x, after) in name rest ≡ Some r)
    → GoesOn (λ n. string_bytes n) at_word name found xs rest → GoesOn (λ n. string_bytes n) at_word name found ys after
words_more found rest after xs ys x e b h g =
    goes_more (λ n. string_bytes n) at_word name word_shortens found rest rest after xs ys x e (word_here rest b) h g

pub words_first : (ts after : Rest) (xs ys : List (String Global)) (x : String Global) → xs ≡ [] → ys ≡ xs ++ x ∷ [] → begins_word ts ≡ true
    → (let r : Name × Rest = (string_bytes x, after) in name ts ≡ Some r)
    → GoesOn (λ n. string_bytes n) at_word name (words ts) ys after
words_first ts after xs ys x none e b h =
    words_more (words ts) ts after xs ys x e b h (goes_from_nothing (λ n. string_bytes n) at_word name ts xs none)

pub words_found : (found : Found Name) (rest : Rest) (xs : List (String Global)) → begins_word rest ≡ false
    → GoesOn (λ n. string_bytes n) at_word name found xs rest → found ≡ Some (map (λ n. string_bytes n) xs, rest)
words_found found rest xs b g =
    goes_end (λ n. string_bytes n) at_word name word_shortens found rest xs (no_word_here rest b) g

pub words_wrong : (e : Fault) (found : Found Name) (rest : Rest) (xs : List (String Global)) → begins_word rest ≡ true
    → IsMissing e (name rest) → GoesOn (λ n. string_bytes n) at_word name found xs rest → IsMissing e found
words_wrong (f.Syntax place) found rest xs b w g =
    goes_wrong (λ n. string_bytes n) at_word name word_shortens found rest rest xs (word_here rest b) w g
words_wrong f.NoMemory found rest xs b w g = tt
words_wrong _ found rest xs b w g = absurd w

pub word_wrong : (e : Fault) (ts : Rest) → begins_word ts ≡ true → IsMissing e (name ts) → IsMissing e (words ts)
word_wrong e ts b w = words_wrong e (words ts) ts none b w (goes_from_nothing (λ (n : String Global). string_bytes n) at_word name ts none refl)
  where
    none : List (String Global)
    none = []

-- Sizes

size_complete : {x : Bool} {from mid : Rest} → MaybeSized x from mid → IsEnd mid
    → (let r : Bool × Rest = (x, mid) in size from ≡ Some r)
size_complete (MaybeSized.none {after = mid}) e = ap (size_from mid) (no_open mid e)
size_complete MaybeSized.one e = refl
size_complete MaybeSized.two e = refl

no_word_front : (ts : Rest) → IsEnd ts → begins_word ts ≡ false
no_word_front (Lexeme.Reserved _ ∷ ts) e = refl
no_word_front (Lexeme.Punctuation sign ∷ ts) e = refl
no_word_front _ e = absurd cc

-- no word stands where a size may
no_word_at_size : {x : Bool} {from mid : Rest} → MaybeSized x from mid → IsEnd mid → at_word from ≡ None
no_word_at_size (MaybeSized.none {after = mid}) e = no_word_here mid (no_word_front mid e)
no_word_at_size MaybeSized.one e = refl
no_word_at_size MaybeSized.two e = refl

size_length : {x : Bool} {from mid : Rest} → MaybeSized x from mid → length mid ≤ length from
size_length MaybeSized.none = omega arith
size_length MaybeSized.one = omega arith
size_length MaybeSized.two = omega arith

number_sound : (ts rest : Rest) → after_number ts ≡ Some rest → (n : ℤ) × (ts ≡ Lexeme.Number n ∷ rest)
number_sound (Lexeme.Number n ∷ ts) rest h = (n, ap (λ rest. Lexeme.Number n ∷ rest) (some_inj ts rest h))
number_sound _ rest h = absurd cc

-- what stands behind the first number of a size
second_sound : (n : ℤ) (ts rest after : Rest) → after_second ts ≡ Some rest → rest ≡ Lexeme.Punctuation s.Close ∷ after
    → MaybeSized true (Lexeme.Punctuation s.Open ∷ Lexeme.Number n ∷ ts) after
second_sound n ts rest after h c = go (after_comma ts) refl h
  where
    go : (o : Option Rest) → after_comma ts ≡ o → second_from ts o ≡ Some rest
        → MaybeSized true (Lexeme.Punctuation s.Open ∷ Lexeme.Number n ∷ ts) after
    go None e h =
        subst (λ ts. MaybeSized true (Lexeme.Punctuation s.Open ∷ Lexeme.Number n ∷ ts) after) (sym (some_inj ts rest h ∙ c))
        MaybeSized.one
    go (Some more) e h =
        let p = number_sound more rest h in
        subst (λ ts. MaybeSized true (Lexeme.Punctuation s.Open ∷ Lexeme.Number n ∷ ts) after)
        (sym (at_sign s.Comma ts more e
        ∙ ap (λ ts. Lexeme.Punctuation s.Comma ∷ ts) (p.1 ∙ ap (λ ts. Lexeme.Number p.0 ∷ ts) c)))
        MaybeSized.two

size_sound : (ts : Rest) (r : Bool × Rest) → size ts ≡ Some r → At MaybeSized ts r
size_sound ts r h = go (after_open ts) refl h
  where
    go : (o : Option Rest) → after_open ts ≡ o → size_from ts o ≡ Some r → At MaybeSized ts r
    go None e h = subst (At MaybeSized ts) (some_inj _ r h) MaybeSized.none
    go (Some inside) e h =
        let closed = then_parts size_closed (option_and_then after_second (after_number inside)) r h in
        let second = then_parts after_second (after_number inside) closed.0 closed.1 in
        let number = number_sound inside second.0 second.1 in
        let end = some_mapped (λ rest. (let p : Bool × Rest = (true, rest) in p)) (after_close closed.0) r closed.2 in
        subst (λ ts. At MaybeSized ts r)
        (sym (at_sign s.Open ts inside e ∙ ap (λ ts. Lexeme.Punctuation s.Open ∷ ts) number.1))
        (subst (At MaybeSized (Lexeme.Punctuation s.Open ∷ Lexeme.Number number.0 ∷ second.0)) end.2
        (second_sound number.0 second.0 closed.0 end.0 second.2 (at_sign s.Close closed.0 end.0 end.1)))

-- Types

pub type_complete : {x : TypeTree} {from mid : Rest} → Types x from mid → IsEnd mid
    → (let r : TypeTree × Rest = (x, mid) in column_type from ≡ Some r)
type_complete (Types.none {after = mid}) e = cond-false _ _ _ (no_word_front mid e)
type_complete (Types.words {word = word} {words = ws} (Word.bare {after = next}) m sz) e =
    ap sized (words_complete (Many.more Word.bare m) (no_word_at_size sz e))
    ∙ ap (option_map (type_by (word ∷ ws))) (size_complete sz e)

pub type_sound : (ts : Rest) (r : TypeTree × Rest) → column_type ts ≡ Some r → At Types ts r
type_sound ts r h = go (begins_word ts) refl h
  where
    sized_sound : (o : Found Name) → words ts ≡ o → begins_word ts ≡ true → sized o ≡ Some r → At Types ts r
    sized_sound None e b h = absurd cc
    sized_sound (Some p) e b h =
        let w = words_sound ts p b e in
        let z = some_mapped (type_by p.0) (size p.1) r h in
        subst (At Types ts) z.2
        (subst (λ (p : List Name × Rest). Types (record { words = p.0; is_sized = z.0.0 }) ts z.0.1) w.4
        (Types.words w.1 w.3 (subst (λ (p : List Name × Rest). MaybeSized z.0.0 p.1 z.0.1) (sym w.4) (size_sound p.1 z.0 z.1))))

    go : (b : Bool) → begins_word ts ≡ b → cond b (sized (words ts)) (Some (type_by [] (false, ts))) ≡ Some r → At Types ts r
    go true b h = sized_sound (words ts) refl b h
    go false b h = subst (At Types ts) (some_inj _ r h) Types.none

pub type_length : {x : TypeTree} {from mid : Rest} → Types x from mid → length mid ≤ length from
type_length Types.none = omega arith
type_length (Types.words {word = word} {from = from} {next = next} w m sz) =
    let one = word_length word from next w in
    let more = many_length Word (λ x from mid w. let l = word_length x from mid w in omega (arith, l)) m in
    let size = size_length sz in
    omega (arith, one, more, size)
